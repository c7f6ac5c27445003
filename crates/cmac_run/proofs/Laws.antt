-- A run that is fed by parts, the two ways in which it is fed, and ciphers that agree on blocks. Assumes nothing.
use mathlib.Core.Path.{◌≡◌, refl, sym, ap, ap₂, ◌∙◌}
use mathlib.Core.List.{List, [], ◌++◌}
use Prim.Native.Nat.{ℕ, suc, ◌+◌, ◌-◌, ◌*◌, ◌/◌, ◌≤◌, ◌<◌}
use native.Mathlib.Omega.{arith}
use lib.ListN.{length, take, drop, replicate, length-append, length-drop, length-take, take-append-drop}
use lib.Seq.{length-take-le, drop-append-le, take-append_seam, drop-drop, drop-append-add}
use Rattle.octets.specs.Octets.{pad_to, Bytes, Octets}
use Rattle.octets.specs.Blocks.{◌⊕◌, BlockCipher}
use Rattle.octets.proofs.Blocks.{take_bytes, append_bytes}
use Rattle.cmac_spec.specs.Cmac.{key1, key2, last, before_last, chained, ended, ended_by, cmac, cmac_by}
use Rattle.cmac_spec.proofs.Chain.{drop_piece, chained_add, chained_front}
use Rattle.cmac_spec.proofs.Filling.{piece, piece_short, piece_full, held-length}
use Rattle.cmac_spec.proofs.Same.{chained_same, ended_same}
use Rattle.cmac_run.specs.Running.{held_bytes, holding, run_from, begun, fed, closed, closed_by}
use Rattle.cmac_run.specs.declared.Run.{Run}

module _ (c : BlockCipher) where
  pub closed_holding : (st b : List ℕ) → closed c (holding st b) ≡ ended c st b
  unfolding closed pad_to
  closed_holding st b = ap (ended c st) (take-append_seam b (replicate (16 - length b) 0))

  pub closed-by : (r : Run) → closed_by c (key1 c) (key2 c) r ≡ closed c r
  unfolding closed_by closed ended_by ended last
  closed-by r = refl

  -- a first piece that is not the last
  pub taken_step : (st s : List ℕ) → 16 < length s → run_from c st s ≡ run_from c (c.enc (st ⊕ take 16 s)) (drop 16 s)
  unfolding run_from chained
  taken_step st s h =
      let e : before_last s ≡ suc (before_last (drop 16 s)) = omega (arith, length-drop 16 s) in
      ap (λ (n : ℕ). holding (chained c st n s) (drop (n * 16) s)) e
      ∙ ap (holding (chained c (c.enc (st ⊕ take 16 s)) (before_last (drop 16 s)) (drop 16 s))) (sym (drop_piece (before_last (drop 16 s)) s))

  -- fed in two parts, or in one
  pub taken_more : (st s t : List ℕ) → run_from c (chained c st (before_last s) s) (drop (before_last s * 16) s ++ t) ≡ run_from c st (s ++ t)
  unfolding run_from
  taken_more st s t =
      let n = before_last s in
      let h : n * 16 ≤ length s = omega arith in
      let d : drop (n * 16) s ++ t ≡ drop (n * 16) (s ++ t) = sym (drop-append-le (n * 16) s t h) in
      let k = before_last (drop (n * 16) (s ++ t)) in
      let e : n + k ≡ before_last (s ++ t) = omega (arith, length-append s t, length-drop (n * 16) (s ++ t)) in
      let m : n * 16 + k * 16 ≡ (n + k) * 16 = omega arith in
      rw d
      (ap₂ holding
      (ap (λ (x : List ℕ). chained c x k (drop (n * 16) (s ++ t))) (sym (chained_front c n st s t h)) ∙ sym (chained_add c n k st (s ++ t)) ∙ ap (λ (i : ℕ). chained c st i (s ++ t)) e)
      (drop-drop (k * 16) (n * 16) (s ++ t) ∙ ap (λ (i : ℕ). drop i (s ++ t)) (m ∙ ap (λ (i : ℕ). i * 16) e)))

  pub fed_taken : (st s t : List ℕ) → fed c (run_from c st s) t ≡ run_from c st (s ++ t)
  unfolding fed run_from pad_to
  fed_taken st s t =
      ap (λ (x : List ℕ). run_from c (chained c st (before_last s) s) (x ++ t))
      (take-append_seam (drop (before_last s * 16) s) (replicate (16 - length (drop (before_last s * 16) s)) 0))
      ∙ taken_more st s t

  pub begun_taken : begun ≡ run_from c (replicate 16 0) []
  unfolding begun run_from chained
  begun_taken = refl

  -- started, fed and closed: the check of all that was fed
  pub whole : (s : List ℕ) → closed c (run_from c (replicate 16 0) s) ≡ cmac c s
  unfolding run_from cmac
  whole s = closed_holding (chained c (replicate 16 0) (before_last s) s) (drop (before_last s * 16) s)

  pub whole_fed : (s : List ℕ) → closed c (fed c begun s) ≡ cmac c s
  whole_fed s = ap (λ (r : Run). closed c (fed c r s)) begun_taken ∙ ap (closed c) (fed_taken (replicate 16 0) [] s) ∙ whole s

  -- the same with subkeys that were made before
  held_by : (k1 k2 m : List ℕ) → closed_by c k1 k2 (run_from c (replicate 16 0) m) ≡ cmac_by c k1 k2 m
  unfolding run_from closed_by pad_to cmac_by
  held_by k1 k2 m =
      ap (ended_by c k1 k2 (chained c (replicate 16 0) (before_last m) m))
      (take-append_seam (drop (before_last m * 16) m) (replicate (16 - length (drop (before_last m * 16) m)) 0))

  -- and the message in two parts
  pub whole_by : (k1 k2 s t : List ℕ) → closed_by c k1 k2 (fed c (fed c begun s) t) ≡ cmac_by c k1 k2 (s ++ t)
  whole_by k1 k2 s t =
      ap (λ (r : Run). closed_by c k1 k2 (fed c (fed c r s) t)) begun_taken
      ∙ ap (λ (r : Run). closed_by c k1 k2 (fed c r t)) (fed_taken (replicate 16 0) [] s)
      ∙ ap (closed_by c k1 k2) (fed_taken (replicate 16 0) s t)
      ∙ held_by k1 k2 (s ++ t)

-- ---- a run is fed: the part finds room, or the piece is full and more comes

module _ (held : List ℕ) (size : length held ≡ 16) (c : BlockCipher) (st : List ℕ) (count : ℕ) (part : List ℕ) where
  pub fed_room : length part ≤ 16 - count
      → ◌≡◌ {A = Run} (record { chain = st; held = piece (take count held ++ part); count = 16 - (16 - count) + length part })
      (fed c (record { chain = st; held = held; count = count }) part)
  unfolding fed run_from chained
  fed_room h =
      let s = take count held ++ part in
      let l : length s ≡ 16 - (16 - count) + length part = length-append (take count held) part ∙ ap (◌+ length part) (held-length held size count) in
      let z : before_last s ≡ 0 = omega arith in
      rw (z, ← l, piece_short s (omega arith))

  pub fed_over : 16 - count < length part
      → run_from c (c.enc (st ⊕ piece (take count held ++ part))) (drop (16 - count) part)
      ≡ fed c (record { chain = st; held = held; count = count }) part
  unfolding fed
  fed_over h =
      let p = take count held in
      let l = length-append p part in
      let n : length p + (16 - count) ≡ 16 = omega (arith, held-length held size count) in
      let d : drop 16 (p ++ part) ≡ drop (16 - count) part = ap (λ (k : ℕ). drop k (p ++ part)) (sym n) ∙ drop-append-add p part (16 - count) in
      sym (taken_step c st (p ++ part) (omega (arith, held-length held size count))
      ∙ ap₂ (λ (x y : List ℕ). run_from c (c.enc (st ⊕ x)) y) (sym (piece_full (p ++ part) (omega (arith, held-length held size count)))) d)

-- ---- a run that held nothing

-- the chain over n whole pieces, cut off behind them
pub chained_part : (c : BlockCipher) (st part : List ℕ) (n m : ℕ) → n * 16 ≤ length part → m ≡ n * 16 → chained c st (length (take m part) / 16) (take m part) ≡ chained c st n part
chained_part c st part n m h e =
    let t = take m part in
    let l : length t ≡ n * 16 = length-take-le m part (omega arith) ∙ e in
    let k : length t / 16 ≡ n = omega arith in
    ap (λ (i : ℕ). chained c st i t) k ∙ sym (chained_front c n st t (drop m part) (omega arith)) ∙ ap (chained c st n) (take-append-drop m part)

pub taken_holding : (c : BlockCipher) (st part : List ℕ) (n : ℕ) (value rest held : List ℕ) → n ≡ before_last part → value ≡ chained c st n part → rest ≡ drop (n * 16) part
    → held ≡ piece rest → ◌≡◌ {A = Run} (record { chain = value; held = held; count = length rest }) (run_from c st part)
unfolding run_from
taken_holding c st part n value rest held pn pv pr ph =
    let short : length (drop (before_last part * 16) part) ≤ 16 = omega (arith, length-drop (before_last part * 16) part) in
    rw (ph, pv, pr, pn, piece_short (drop (before_last part * 16) part) short)

-- ---- c and d agree on blocks, and blocks go to blocks

module _ (c d : BlockCipher) (same : (x : List ℕ) → Octets 16 x → c.enc x ≡ d.enc x) (enc_block : (x : List ℕ) → Octets 16 x → Octets 16 (d.enc x)) where
  pub fed_same : (r : Run) (part : List ℕ) → Octets 16 r.chain → Bytes r.held → Bytes part → fed c r part ≡ fed d r part
  unfolding fed run_from
  fed_same r part o b p =
      let s = held_bytes r ++ part in
      ap (λ (x : List ℕ). holding x (drop (before_last s * 16) s))
      (chained_same c d same enc_block (before_last s) r.chain s o (append_bytes (held_bytes r) part (take_bytes r.count r.held b) p) (omega arith))

  pub closed_same : (r : Run) → Octets 16 r.chain → Octets 16 r.held → closed c r ≡ closed d r
  unfolding closed
  closed_same r o h = ended_same c d same enc_block r.chain (held_bytes r) o (omega (arith, length-take r.count r.held, h.size)) (take_bytes r.count r.held h.bytes)
