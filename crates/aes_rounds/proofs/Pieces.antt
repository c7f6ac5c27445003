-- A block and a piece of a list added up, in words and in bytes. Assumes nothing.
use mathlib.Core.Path.{◌≡◌, refl, sym, ap, ap₂, ◌∙◌}
use mathlib.Core.List.{List}
use Prim.Native.Nat.{ℕ, ◌+◌, ◌≤◌, ◌<◌}
use native.Mathlib.Nat.{add-zero}
use native.Mathlib.Omega.{arith}
use lib.ListN.{length, get_or, take, drop, replicate}
use lib.Seq.{get_or-take, get_or-drop}
use Rattle.octets.specs.Octets.{xor, tabulate, Octets}
use Rattle.octets.specs.Words.{word_at, bytes_of}
use Rattle.octets.specs.Blocks.{◌⊕◌}
use Rattle.octets.proofs.Words.{byte_xor}
use Rattle.octets.proofs.Xor.{zero_xor}
use Rattle.octets.proofs.Fill.{is_tabulate}
use Rattle.aes_words.proofs.Rotate.{same_word}
use Rattle.aes_state.proofs.ByColumns.{four, same_four, load_law}

sum_law : (a b c d a' b' c' d' : ℕ) → four (xor a a') (xor b b') (xor c c') (xor d d') ≡ four a b c d ⊕ four a' b' c' d'
unfolding bytes_of
sum_law a b c d a' b' c' d' = simp (byte_xor 0, byte_xor 1, byte_xor 2, byte_xor 3)

module _ (s : List ℕ) (at : ℕ) (h : at + 16 ≤ length s) where
  abbrev piece : List ℕ
  piece = take 16 (drop at s)

  in_piece : (k i : ℕ) → k < 16 → at + k ≡ i → get_or piece k 0 ≡ get_or s i 0
  in_piece k i l e = rw (get_or-take, get_or-drop) (ap (λ (j : ℕ). get_or s j 0) e)

  pub piece_words : four (word_at piece 0) (word_at piece 4) (word_at piece 8) (word_at piece 12) ≡ four (word_at s at) (word_at s (at + 4)) (word_at s (at + 8)) (word_at s (at + 12))
  piece_words =
      same_four
      (same_word (in_piece 0 at (omega arith) (add-zero at)) (in_piece 1 (at + 1) (omega arith) refl) (in_piece 2 (at + 2) (omega arith) refl) (in_piece 3 (at + 3) (omega arith) refl))
      (one 4 (omega arith)) (one 8 (omega arith)) (one 12 (omega arith))
    where
      one : (j : ℕ) → j + 3 < 16 → word_at piece j ≡ word_at s (at + j)
      one j l =
          same_word (in_piece j (at + j) (omega arith) refl) (in_piece (j + 1) (at + j + 1) (omega arith) (omega arith))
          (in_piece (j + 2) (at + j + 2) (omega arith) (omega arith)) (in_piece (j + 3) (at + j + 3) (omega arith) (omega arith))

  pub added_law : (v : List ℕ) → Octets 16 v → Octets 16 piece
      → four (xor (word_at v 0) (word_at s at)) (xor (word_at v 4) (word_at s (at + 4))) (xor (word_at v 8) (word_at s (at + 8))) (xor (word_at v 12) (word_at s (at + 12)))
      ≡ v ⊕ piece
  added_law v o p =
      sum_law (word_at v 0) (word_at v 4) (word_at v 8) (word_at v 12) _ _ _ _
      ∙ ap₂ (λ (x y : List ℕ). x ⊕ y) (load_law v o.size o.bytes) (sym piece_words ∙ load_law piece p.size p.bytes)

zeros_tab : (g : ℕ → ℕ) → replicate 16 0 ⊕ tabulate 16 g ≡ tabulate 16 g
zeros_tab g = simp zero_xor

-- nothing added
pub zeros_added : (b : List ℕ) → length b ≡ 16 → replicate 16 0 ⊕ take 16 (drop 0 b) ≡ b
zeros_added b e =
    let f : b ≡ tabulate 16 (λ k. get_or b k 0) = is_tabulate 16 (λ k. get_or b k 0) b e (λ k h. refl) in
    ap (λ (x : List ℕ). replicate 16 0 ⊕ take 16 (drop 0 x)) f ∙ zeros_tab (λ k. get_or b k 0) ∙ sym f
