-- The stream piece by piece. Assumes nothing.
use mathlib.Core.Path.{◌≡◌, sym, ap, ◌∙◌}
use mathlib.Core.List.{List, ◌++◌, append_assoc, append-nil}
use Prim.Native.Nat.{ℕ, zero, suc, ◌+◌, ◌*◌, ◌<◌}
use native.Mathlib.Nat.{zero-lt-suc, add-zero, add-suc, suc-add}
use native.Mathlib.Omega.{arith}
use lib.ListN.{length, take, drop}
use lib.Seq.{take_at, drop_at, drop-drop}
use Rattle.octets.specs.Octets.{Octets}
use Rattle.octets.specs.Blocks.{◌⊕◌, BlockCipher, Lawful}
use Rattle.modes_spec.specs.Pieces.{piece_count, piece}
use Rattle.modes_spec.proofs.Pieces.{below_count}
use Rattle.ccm_spec.specs.Ccm.{counter, stream, streamed}
use Rattle.ccm_spec.proofs.Sums.{take-⊕, drop-⊕}
use Rattle.ccm_spec.proofs.Exactly.{counter_block}

-- one block more, at the end
pub stream_more : (c : BlockCipher) (nonce : List ℕ) (i n : ℕ) → stream c nonce i (suc n) ≡ stream c nonce i n ++ c.enc (counter nonce (i + n))
unfolding stream
stream_more c nonce i zero = append-nil (c.enc (counter nonce i)) ∙ ap (λ (k : ℕ). c.enc (counter nonce k)) (sym (add-zero i))
stream_more c nonce i (suc n) =
    let e : suc i + n ≡ i + suc n = suc-add i n ∙ sym (add-suc i n) in
    ap (c.enc (counter nonce i) ++◌) (stream_more c nonce (suc i) n)
    ∙ sym (append_assoc (c.enc (counter nonce i)) (stream c nonce (suc i) n) (c.enc (counter nonce (suc i + n))))
    ∙ ap (λ (k : ℕ). (c.enc (counter nonce i) ++ stream c nonce (suc i) n) ++ c.enc (counter nonce k)) e

module _ (nonce : List ℕ) (on : Octets 13 nonce) (c : BlockCipher) (l : Lawful 16 c) where
  -- block j of the stream
  stream_block : (j i n : ℕ) → j < n → take 16 (drop (j * 16) (stream c nonce i n)) ≡ c.enc (counter nonce (i + j))
  unfolding stream
  stream_block j i zero h = absurd (omega arith)
  stream_block zero i (suc n) h =
      take_at (c.enc (counter nonce i)) (stream c nonce (suc i) n) 16 (counter_block nonce on c l i).size
      ∙ ap (λ (k : ℕ). c.enc (counter nonce k)) (sym (add-zero i))
  stream_block (suc j) i (suc n) h =
      let s = c.enc (counter nonce i) ++ stream c nonce (suc i) n in
      let d : suc j * 16 ≡ 16 + j * 16 = omega arith in
      let e : suc i + j ≡ i + suc j = suc-add i j ∙ sym (add-suc i j) in
      ap (λ (k : ℕ). take 16 (drop k s)) d
      ∙ ap (take 16) (sym (drop-drop (j * 16) 16 s) ∙ ap (drop (j * 16)) (drop_at (c.enc (counter nonce i)) (stream c nonce (suc i) n) 16 (counter_block nonce on c l i).size))
      ∙ stream_block j (suc i) n (omega arith)
      ∙ ap (λ (k : ℕ). c.enc (counter nonce k)) e

  -- piece i of what is streamed is piece i of the message added to S(i + 1), of which a short last piece takes the leading bytes
  pub streamed_piece : (p : List ℕ) (i : ℕ) → i * 16 < length p → piece 16 (streamed c nonce p) i ≡ piece 16 p i ⊕ c.enc (counter nonce (suc i))
  unfolding streamed
  streamed_piece p i h =
      let n = piece_count 16 p in
      ap (take 16) (drop-⊕ (i * 16) p (stream c nonce 1 n))
      ∙ take-⊕ 16 (drop (i * 16) p) (drop (i * 16) (stream c nonce 1 n))
      ∙ ap (piece 16 p i ⊕◌) (stream_block i 1 n (below_count 16 p (zero-lt-suc 15) i h) ∙ ap (λ (k : ℕ). c.enc (counter nonce k)) (suc-add 0 i ∙ ap suc (let z : 0 + i ≡ i = omega arith in z)))
