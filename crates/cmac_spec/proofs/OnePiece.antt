-- The subkeys and the chain are blocks, and two messages of one length that differ inside one piece have different checks. Assumes nothing.
use mathlib.Core.Path.{◌≡◌, refl, sym, ap, ap₂, ◌∙◌}
use mathlib.Core.Bool.{Bool, true, false, cond}
use mathlib.Core.List.{List, [], ◌∷◌, ◌++◌}
use Prim.Native.Nat.{ℕ, zero, suc, ◌+◌, ◌-◌, ◌*◌, ◌/◌, ◌%◌, ◌≤◌, ◌<◌}
use native.Mathlib.Omega.{arith}
use lib.Dec.{eqb, ltb}
use borrow.Author.Tests.{eqb-true, eqb-false}
use lib.ListN.{length, get_or, take, drop, replicate, length-append, length-drop, take-append-drop}
use lib.Seq.{length-take-le, take-append_seam, take-append-le, ext_get_or, get_or-take, get_or-drop}
use Rattle.octets.specs.Octets.{pad_to, Bytes, Octets}
use Rattle.octets.specs.Blocks.{◌⊕◌, BlockCipher, Lawful}
use Rattle.octets.proofs.Fill.{length_tabulate, tabulate_lt, length_pad_to}
use Rattle.octets.proofs.Blocks.{⊕-comm, ⊕-injective, ⊕-octets, drop_bytes, append_bytes, zeros_bytes, take_octets}
use Rattle.cmac_spec.specs.Cmac.{shifted, r128, doubled, key1, key2, padded, last, before_last, chained, ended, cmac, SameOutside}
use Rattle.cmac_spec.proofs.Chain.{drop_piece}

-- ---- what is a block

pub zeros_octets : Octets 16 (replicate 16 0)
zeros_octets = record { size = refl; bytes = zeros_bytes 16 }

one_byte : (x : ℕ) → x < 256 → Bytes (x ∷ [])
one_byte x h zero = h
one_byte x h (suc k) = omega arith

pub shifted_octets : (s : List ℕ) → Bytes s → Octets 16 (shifted s)
unfolding shifted
shifted_octets s b = record {
  size = length_tabulate 16 (λ k. get_or s k 0 % 128 * 2 + get_or s (k + 1) 0 / 128);
  bytes = tabulate_lt 16 256 (λ k. get_or s k 0 % 128 * 2 + get_or s (k + 1) 0 / 128) (omega arith) (λ k. omega (arith, b (k + 1)));
}

pub doubled_octets : {s : List ℕ} → Octets 16 s → Octets 16 (doubled s)
unfolding doubled
doubled_octets {s} o = go (ltb (get_or s 0 0) 128)
  where
    go : (t : Bool) → Octets 16 (cond t (shifted s) (shifted s ⊕ r128))
    go true = shifted_octets s o.bytes
    go false = ⊕-octets (shifted_octets s o.bytes) (record { size = refl; bytes = append_bytes (replicate 15 0) (135 ∷ []) (zeros_bytes 15) (one_byte 135 (omega arith)) })

pub padded_octets : (b : List ℕ) → length b < 16 → Bytes b → Octets 16 (padded b)
unfolding padded pad_to
padded_octets b h k = record {
  size = length_pad_to 16 (b ++ (128 ∷ [])) (omega (arith, length-append b (128 ∷ [])));
  bytes = append_bytes (b ++ (128 ∷ [])) (replicate (16 - length (b ++ (128 ∷ []))) 0) (append_bytes b (128 ∷ []) k (one_byte 128 (omega arith))) (zeros_bytes (16 - length (b ++ (128 ∷ []))));
}

-- the bytes that were padded can be told from the block
padded_front : (b : List ℕ) → take (length b) (padded b) ≡ b
unfolding padded pad_to
padded_front b =
    take-append-le (length b) (b ++ (128 ∷ [])) (replicate (16 - length (b ++ (128 ∷ []))) 0) (omega (arith, length-append b (128 ∷ [])))
    ∙ take-append_seam b (128 ∷ [])

-- a list that fits a piece is shorter than one, or is one
module _ (b : List ℕ) (h : length b ≤ 16) where
  short : eqb (length b) 16 ≡ false → length b < 16
  short e = let n = eqb-false (length b) 16 e in omega arith

-- ---- over a cipher whose blocks are blocks

module _ (c : BlockCipher) (enc_block : (x : List ℕ) → Octets 16 x → Octets 16 (c.enc x)) where
  pub key1_octets : Octets 16 (key1 c)
  unfolding key1
  key1_octets = doubled_octets (enc_block (replicate 16 0) zeros_octets)

  pub key2_octets : Octets 16 (key2 c)
  unfolding key2
  key2_octets = doubled_octets key1_octets

  pub last_octets : (b : List ℕ) → length b ≤ 16 → Bytes b → Octets 16 (last c b)
  unfolding last
  last_octets b h k = go (eqb (length b) 16) refl
    where
      go : (t : Bool) → eqb (length b) 16 ≡ t → Octets 16 (cond t (key1 c ⊕ b) (key2 c ⊕ padded b))
      go true e = ⊕-octets key1_octets (record { size = eqb-true (length b) 16 e; bytes = k })
      go false e = ⊕-octets key2_octets (padded_octets b (short b h e) k)

  pub next_octets : {st : List ℕ} → Octets 16 st → (s : List ℕ) → Bytes s → 16 ≤ length s → Octets 16 (c.enc (st ⊕ take 16 s))
  next_octets {st} o s b h = enc_block (st ⊕ take 16 s) (⊕-octets o (take_octets 16 s h b))

  pub chained_octets : (n : ℕ) (st s : List ℕ) → Octets 16 st → Bytes s → n * 16 ≤ length s → Octets 16 (chained c st n s)
  unfolding chained
  chained_octets zero st s o b h = o
  chained_octets (suc n) st s o b h =
      chained_octets n (c.enc (st ⊕ take 16 s)) (drop 16 s) (next_octets o s b (omega arith)) (drop_bytes 16 s b) (omega (arith, length-drop 16 s))

  pub ended_octets : (st b : List ℕ) → Octets 16 st → length b ≤ 16 → Bytes b → Octets 16 (ended c st b)
  unfolding ended
  ended_octets st b o h k = enc_block (st ⊕ last c b) (⊕-octets o (last_octets b h k))

  pub cmac_octets : (m : List ℕ) → Bytes m → Octets 16 (cmac c m)
  unfolding cmac
  cmac_octets m b =
      ended_octets (chained c (replicate 16 0) (before_last m) m) (drop (before_last m * 16) m)
      (chained_octets (before_last m) (replicate 16 0) m zeros_octets b (omega arith)) (omega (arith, length-drop (before_last m * 16) m)) (drop_bytes (before_last m * 16) m b)

-- ---- over a lawful cipher

module _ (c : BlockCipher) (l : Lawful 16 c) where
  enc_injective : {x y : List ℕ} → Octets 16 x → Octets 16 y → c.enc x ≡ c.enc y → x ≡ y
  enc_injective {x} {y} ox oy e = sym (l.dec_enc x ox) ∙ ap c.dec e ∙ l.dec_enc y oy

  ⊕-right : {x y z : List ℕ} → Octets 16 x → Octets 16 y → Octets 16 z → x ⊕ z ≡ y ⊕ z → x ≡ y
  ⊕-right {x} {y} {z} ox oy oz e = ⊕-injective x y z (omega (arith, ox.size, oz.size)) (omega (arith, oy.size, oz.size)) e

  ⊕-left : {x y z : List ℕ} → Octets 16 x → Octets 16 y → Octets 16 z → z ⊕ x ≡ z ⊕ y → x ≡ y
  ⊕-left {x} {y} {z} ox oy oz e = ⊕-right ox oy oz (⊕-comm x z ∙ e ∙ ⊕-comm z y)

  -- a block of the chain tells its piece where the value before is the same, and the value before where the piece is
  piece_told : {st x y : List ℕ} → Octets 16 st → Octets 16 x → Octets 16 y → c.enc (st ⊕ x) ≡ c.enc (st ⊕ y) → x ≡ y
  piece_told o ox oy e = ⊕-left ox oy o (enc_injective (⊕-octets o ox) (⊕-octets o oy) e)

  value_told : {st st' x : List ℕ} → Octets 16 st → Octets 16 st' → Octets 16 x → c.enc (st ⊕ x) ≡ c.enc (st' ⊕ x) → st ≡ st'
  value_told o o' ox e = ⊕-right o o' ox (enc_injective (⊕-octets o ox) (⊕-octets o' ox) e)

  last_told : (b d : List ℕ) → length b ≤ 16 → length b ≡ length d → Bytes b → Bytes d → last c b ≡ last c d → b ≡ d
  unfolding last
  last_told b d h e kb kd q = go (eqb (length b) 16) refl
    where
      go : (t : Bool) → eqb (length b) 16 ≡ t → b ≡ d
      go true f =
          let u : eqb (length d) 16 ≡ true = rw (← e) f in
          ⊕-left (record { size = eqb-true (length b) 16 f; bytes = kb }) (record { size = eqb-true (length d) 16 u; bytes = kd }) (key1_octets c l.enc_block) (rw (f, u) at q)
      go false f =
          let u : eqb (length d) 16 ≡ false = rw (← e) f in
          let p : padded b ≡ padded d = ⊕-left (padded_octets b (short b h f) kb) (padded_octets d (short d (omega arith) u) kd) (key2_octets c l.enc_block) (rw (f, u) at q) in
          sym (padded_front b) ∙ ap₂ (λ (n : ℕ) (x : List ℕ). take n x) e p ∙ padded_front d

  -- n pieces and then the last
  checked : List ℕ → ℕ → List ℕ → List ℕ
  checked st n d = ended c (chained c st n d) (drop (n * 16) d)

  checked_step : (st d : List ℕ) (n : ℕ) → checked st (suc n) d ≡ checked (c.enc (st ⊕ take 16 d)) n (drop 16 d)
  unfolding checked chained
  checked_step st d n = ap (ended c (chained c (c.enc (st ⊕ take 16 d)) n (drop 16 d))) (sym (drop_piece n d))

  -- how long a message is of which n pieces come before the last
  Sized : ℕ → List ℕ → Type 0
  Sized n d = (n * 16 ≤ length d) × (length d ≤ n * 16 + 16)

  sized_drop : (n : ℕ) (d : List ℕ) → Sized (suc n) d → Sized n (drop 16 d)
  unfolding Sized
  sized_drop n d z = (omega (arith, length-drop 16 d), omega (arith, length-drop 16 d))

  -- the value before can be told from the check
  start-told : (n : ℕ) (st st' d : List ℕ) → Octets 16 st → Octets 16 st' → Bytes d → Sized n d → checked st n d ≡ checked st' n d → st ≡ st'
  unfolding Sized checked chained ended
  start-told zero st st' d o o' b z e = value_told o o' (last_octets c l.enc_block d (omega arith) b) e
  start-told (suc n) st st' d o o' b z e =
      let h : 16 ≤ length d = omega arith in
      value_told o o' (take_octets 16 d h b)
      (start-told n (c.enc (st ⊕ take 16 d)) (c.enc (st' ⊕ take 16 d)) (drop 16 d) (next_octets c l.enc_block o d b h) (next_octets c l.enc_block o' d b h) (drop_bytes 16 d b) (sized_drop n d z)
      (sym (checked_step st d n) ∙ e ∙ checked_step st' d n))

  piece_of_one : (n i : ℕ) (st d d' : List ℕ) → Octets 16 st → Bytes d → Bytes d' → length d ≡ length d' → Sized n d → SameOutside i d d'
      → checked st n d ≡ checked st n d' → d ≡ d'
  unfolding Sized checked chained ended
  piece_of_one zero i st d d' o b b' el z same e =
      last_told d d' (omega arith) el b b'
      (piece_told o (last_octets c l.enc_block d (omega arith) b) (last_octets c l.enc_block d' (omega arith) b') e)
  piece_of_one (suc n) zero st d d' o b b' el z same e =
      let h : 16 ≤ length d = omega arith in
      let h' : 16 ≤ length d' = omega arith in
      let rest : drop 16 d ≡ drop 16 d' = ext_get_or 0 (drop 16 d) (drop 16 d') (omega (arith, length-drop 16 d, length-drop 16 d')) (λ k h. get_or-drop 16 d k 0 ∙ same (16 + k) (λ q. omega arith) ∙ sym (get_or-drop 16 d' k 0)) in
      let s = start-told n (c.enc (st ⊕ take 16 d)) (c.enc (st ⊕ take 16 d')) (drop 16 d) (next_octets c l.enc_block o d b h) (next_octets c l.enc_block o d' b' h') (drop_bytes 16 d b) (sized_drop n d z)
      (sym (checked_step st d n) ∙ e ∙ checked_step st d' n ∙ ap (checked (c.enc (st ⊕ take 16 d')) n) (sym rest)) in
      let first : take 16 d ≡ take 16 d' = piece_told o (take_octets 16 d h b) (take_octets 16 d' h' b') s in
      sym (take-append-drop 16 d) ∙ ap₂ ◌++◌ first rest ∙ take-append-drop 16 d'
  piece_of_one (suc n) (suc i) st d d' o b b' el z same e =
      let h : 16 ≤ length d = omega arith in
      let h' : 16 ≤ length d' = omega arith in
      let first : take 16 d ≡ take 16 d' = ext_get_or 0 (take 16 d) (take 16 d') (length-take-le 16 d h ∙ sym (length-take-le 16 d' h'))
      (λ k g. let k16 : k < 16 = rw (length-take-le 16 d h) at g in get_or-take 16 d k 0 k16 ∙ same k (λ q. omega arith) ∙ sym (get_or-take 16 d' k 0 k16)) in
      let rest = piece_of_one n i (c.enc (st ⊕ take 16 d)) (drop 16 d) (drop 16 d') (next_octets c l.enc_block o d b h) (drop_bytes 16 d b) (drop_bytes 16 d' b') (omega (arith, length-drop 16 d, length-drop 16 d')) (sized_drop n d z)
      (λ k q. get_or-drop 16 d k 0 ∙ same (16 + k) (λ p. q (omega arith)) ∙ sym (get_or-drop 16 d' k 0))
      (sym (checked_step st d n) ∙ e ∙ checked_step st d' n ∙ ap (λ (x : List ℕ). checked (c.enc (st ⊕ x)) n (drop 16 d')) (sym first)) in
      sym (take-append-drop 16 d) ∙ ap₂ ◌++◌ first rest ∙ take-append-drop 16 d'

  -- messages of one length that are the same outside one piece and have the same check are the same
  pub one_piece : (i : ℕ) (m m' : List ℕ) → Bytes m → Bytes m' → length m ≡ length m' → SameOutside i m m' → cmac c m ≡ cmac c m' → m ≡ m'
  unfolding cmac checked Sized
  one_piece i m m' b b' el same e =
      let n : before_last m' ≡ before_last m = omega arith in
      piece_of_one (before_last m) i (replicate 16 0) m m' zeros_octets b b' el (omega arith, omega arith) same
      (e ∙ ap (λ (k : ℕ). checked (replicate 16 0) k m') n)
