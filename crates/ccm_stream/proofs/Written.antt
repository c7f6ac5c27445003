-- The stream as it is written piece by piece, and that it is SP 800-38C's. Assumes nothing.
use mathlib.Core.Path.{◌≡◌, sym, ap, ap₂, ◌∙◌}
use mathlib.Core.List.{List, ◌++◌, append_assoc}
use Prim.Native.Nat.{ℕ, zero, suc, ◌+◌, ◌-◌, ◌*◌, ◌/◌, ◌≤◌}
use native.Mathlib.Numerals.{add-one}
use native.Mathlib.Omega.{arith}
use lib.ListN.{length, take, drop, replicate, length-append, length-drop}
use lib.Seq.{length-take-le, take_all, take_at, take-add, drop-append-add, drop-drop, take-append-le, take-append_seam}
use Rattle.octets.specs.Octets.{Octets, pad_to}
use Rattle.octets.specs.Blocks.{◌⊕◌, BlockCipher, Lawful}
use Rattle.octets.proofs.Blocks.{⊕-length}
use Rattle.modes_spec.specs.Pieces.{piece_count}
use Rattle.ccm_spec.specs.Ccm.{counter, whole, stream, streamed}
use Rattle.ccm_spec.proofs.Sums.{⊕-reach, ⊕-append, pad_to_full, pad_to_append}
use Rattle.ccm_spec.proofs.Exactly.{counter_block, stream_length, streamed_length}
use Rattle.ccm_spec.proofs.Pieces.{stream_more}
use Rattle.ccm_stream.specs.Model.{numbered_as, pieces, put_leading, streamed_into}
use Rattle.ccm_stream.proofs.Blocks.{flagged_again}

-- ---- a piece more is written

pieces_step : (c : BlockCipher) (ctr s : List ℕ) (i : ℕ) → pieces c ctr s (i + 1) ≡ pieces c ctr s i ++ pad_to 16 (drop (i * 16) s ⊕ c.enc (numbered_as ctr (i + 1)))
unfolding pieces
pieces_step c ctr s i = rw (add-one i)

module _ (c : BlockCipher) (ctr s out : List ℕ) (room : length out ≡ length s) (i : ℕ) (o b : List ℕ) (lo : length o ≡ length s)
    (lp : length (pieces c ctr s i) ≡ i * 16) (eo : o ≡ take (length s) (pieces c ctr s i ++ drop (i * 16) out)) where
  pub pieces_more : i * 16 ≤ length s → b ≡ pad_to 16 (drop (i * 16) s ⊕ c.enc (numbered_as ctr (i + 1)))
      → put_leading o (i * 16) b ≡ take (length s) (pieces c ctr s (i + 1) ++ drop ((i + 1) * 16) out)
  unfolding put_leading
  pieces_more h eb =
      let at = i * 16 in
      let p = pieces c ctr s i in
      let x = p ++ drop at out in
      let lx : length x ≡ length s = length-append p (drop at out) ∙ omega (arith, length-drop at out) in
      let ox : o ≡ x = eo ∙ take_all (length s) x (omega arith) in
      let front : take at o ≡ p = ap (take at) ox ∙ take_at p (drop at out) at lp in
      let back : drop (at + 16) o ≡ drop ((i + 1) * 16) out =
      ap₂ (λ (k : ℕ) (y : List ℕ). drop (k + 16) y) (sym lp) ox ∙ drop-append-add p (drop at out) 16 ∙ drop-drop 16 at out
      ∙ ap (λ (k : ℕ). drop k out) (let e : at + 16 ≡ (i + 1) * 16 = omega arith in e) in
      let more : p ++ b ≡ pieces c ctr s (i + 1) = ap (p ++◌) eb ∙ sym (pieces_step c ctr s i) in
      rw (lo, front, back) (ap (take (length s)) (sym (append_assoc p b (drop ((i + 1) * 16) out)) ∙ ap (◌++ drop ((i + 1) * 16) out) more))

  pub pieces_written : (n : ℕ) → n ≡ (length s + 15) / 16 → i ≡ n → o ≡ streamed_into c ctr s
  unfolding streamed_into
  pieces_written n en ei =
      eo ∙ take-append-le (length s) (pieces c ctr s i) (drop (i * 16) out) (omega arith)
      ∙ ap (λ (k : ℕ). take (length s) (pieces c ctr s k)) (ei ∙ en)

pub pieces_length : (c : BlockCipher) (ctr s : List ℕ) (i : ℕ) (b : List ℕ) → length (pieces c ctr s i) ≡ i * 16 → length b ≡ 16
    → b ≡ pad_to 16 (drop (i * 16) s ⊕ c.enc (numbered_as ctr (i + 1))) → (pieces c ctr s (i + 1) ≡ pieces c ctr s i ++ b) × (length (pieces c ctr s (i + 1)) ≡ (i + 1) * 16)
pieces_length c ctr s i b lp lb eb =
    let e : pieces c ctr s (i + 1) ≡ pieces c ctr s i ++ b = pieces_step c ctr s i ∙ ap (pieces c ctr s i ++◌) (sym eb) in
    (e, ap length e ∙ length-append (pieces c ctr s i) b ∙ omega arith)

-- ---- over a lawful cipher

module _ (nonce : List ℕ) (on : Octets 13 nonce) (c : BlockCipher) (l : Lawful 16 c) (s : List ℕ) where
  pieces_so_far : (i : ℕ) → i ≤ piece_count 16 s → pieces c (counter nonce 0) s i ≡ pad_to (i * 16) (take (i * 16) s ⊕ stream c nonce 1 i)
  unfolding pieces
  pieces_so_far zero h = sym (pad_to_full 0 (take 0 s ⊕ stream c nonce 1 0) (omega arith))
  pieces_so_far (suc i) h =
      let at = i * 16 in
      let e = c.enc (counter nonce (suc i)) in
      let same : c.enc (numbered_as (counter nonce 0) (suc i)) ≡ e = ap c.enc (flagged_again nonce on.size 1 (suc i) 0) in
      let t = take at s in
      let g = stream c nonce 1 i in
      let lt : length t ≡ at = length-take-le at s (omega arith) in
      let lg : length g ≡ at = stream_length nonce on c l 1 i in
      let k : suc i * 16 ≡ at + 16 = omega arith in
      let la : length (t ⊕ g) ≡ at = ⊕-length t g (omega arith) ∙ lt in
      let le : length e ≡ 16 = (counter_block nonce on c l (suc i)).size in
      let sum : take (at + 16) s ⊕ stream c nonce 1 (suc i) ≡ (t ⊕ g) ++ (drop at s ⊕ e) =
      ap₂ ◌⊕◌ (take-add at 16 s) (stream_more c nonce 1 i ∙ ap (λ (j : ℕ). g ++ c.enc (counter nonce j)) (let z : 1 + i ≡ suc i = omega arith in z))
      ∙ ⊕-append t g (take 16 (drop at s)) e (omega arith) ∙ ap ((t ⊕ g) ++◌) (⊕-reach 16 (drop at s) e (omega arith)) in
      ap (λ (x : List ℕ). pieces c (counter nonce 0) s i ++ pad_to 16 (drop at s ⊕ x)) same
      ∙ ap (◌++ pad_to 16 (drop at s ⊕ e)) (pieces_so_far i (omega arith) ∙ pad_to_full at (t ⊕ g) (omega arith))
      ∙ sym (ap (λ (m : ℕ). pad_to m (take m s ⊕ stream c nonce 1 (suc i))) k ∙ ap (pad_to (at + 16)) sum ∙ pad_to_append at 16 (t ⊕ g) (drop at s ⊕ e) la)

  as_long : length (s ⊕ stream c nonce 1 (piece_count 16 s)) ≡ length s
  unfolding streamed
  as_long = streamed_length nonce on c l s

  -- all pieces are what is streamed, with zeros behind it
  pub pieces_whole : pieces c (counter nonce 0) s (piece_count 16 s) ≡ whole (streamed c nonce s)
  unfolding whole streamed
  pieces_whole =
      let n = piece_count 16 s in
      let g = stream c nonce 1 n in
      let k : piece_count 16 (s ⊕ g) ≡ n = ap (λ (m : ℕ). (m + 15) / 16) as_long in
      pieces_so_far n (omega arith) ∙ ap (λ (x : List ℕ). pad_to (n * 16) (x ⊕ g)) (take_all (n * 16) s (omega arith))
      ∙ ap (λ (m : ℕ). pad_to (m * 16) (s ⊕ g)) (sym k)

  pub into_streamed : streamed_into c (counter nonce 0) s ≡ streamed c nonce s
  unfolding streamed_into whole pad_to
  into_streamed =
      let t = streamed c nonce s in
      let e : length s ≡ length t = sym (streamed_length nonce on c l s) in
      ap₂ (λ (k : ℕ) (x : List ℕ). take k x) e pieces_whole ∙ take-append_seam t (replicate (piece_count 16 t * 16 - length t) 0)
