-- Wide blocks as columns: loaded, stored and summed. Assumes nothing.
use mathlib.Core.Path.{◌≡◌, refl, sym, ap, ◌∙◌}
use mathlib.Core.List.{List, [], ◌∷◌}
use Prim.Native.Nat.{ℕ, zero, suc, ◌+◌, ◌*◌, ◌/◌, ◌%◌, ◌≤◌, ◌<◌}
use native.Mathlib.Numerals.{add-one}
use native.Mathlib.Omega.{arith}
use lib.ListN.{length, get_or, set, take, drop, length-drop}
use lib.Seq.{paste, paste-suc, get_or-take, get_or-drop, length-take-le}
use Rattle.octets.specs.Octets.{xor, Bytes}
use Rattle.octets.specs.Words.{byte, word_at, bytes_of}
use Rattle.octets.specs.Blocks.{◌⊕◌}
use Rattle.octets.proofs.Fill.{is_tabulate}
use Rattle.octets.proofs.Words.{byte_xor, byte0_word, byte1_word, byte2_word, byte3_word}
use Rattle.aes_spec.proofs.Undo.{by_row}
use Rattle.rijndael_spec.specs.Rijndael.{shape_of}
use Rattle.rijndael_spec.specs.declared.Width.{Width}
use Rattle.rijndael_spec.specs.declared.Width.TheVariants.{Six, Eight}
use Rattle.rijndael_model.specs.Model.{block_of}
use Rattle.rijndael_model.proofs.Columns.{words_length, at_words}

pub columns_few : (v : Width) → (0 < (shape_of v).columns) × ((shape_of v).columns < 9)
columns_few Six = (omega arith, omega arith)
columns_few Eight = (omega arith, omega arith)

-- ---- the sum of two

bytes_sum : (a b : List ℕ) → bytes_of (a ⊕ b) ≡ bytes_of a ⊕ bytes_of b
unfolding bytes_of
bytes_sum [] b = refl
bytes_sum (x ∷ a) [] = refl
bytes_sum (x ∷ a) (y ∷ b) = rw (byte_xor 0 x y, byte_xor 1 x y, byte_xor 2 x y, byte_xor 3 x y, bytes_sum a b)

take_sum : (n : ℕ) (a b : List ℕ) → take n (a ⊕ b) ≡ take n a ⊕ take n b
take_sum zero a b = refl
take_sum (suc n) [] b = refl
take_sum (suc n) (x ∷ a) [] = refl
take_sum (suc n) (x ∷ a) (y ∷ b) = ap (xor x y ∷◌) (take_sum n a b)

pub block_sum : (v : Width) (a b : List ℕ) → block_of v (a ⊕ b) ≡ block_of v a ⊕ block_of v b
block_sum v a b = ap bytes_of (take_sum (shape_of v).columns a b) ∙ bytes_sum (take (shape_of v).columns a) (take (shape_of v).columns b)

-- ---- the first columns of a list are the first bytes of its bytes

pub front_bytes : (n : ℕ) (t : List ℕ) → take (4 * n) (bytes_of t) ≡ bytes_of (take n t)
unfolding bytes_of
front_bytes zero t = refl
front_bytes (suc n) [] = let e : 4 * suc n ≡ suc (4 * n + 3) = omega arith in rw e
front_bytes (suc n) (x ∷ t) =
    let e : 4 * suc n ≡ suc (suc (suc (suc (4 * n)))) = omega arith in
    rw e (ap (λ (l : List ℕ). byte 0 x ∷ byte 1 x ∷ byte 2 x ∷ byte 3 x ∷ l) (front_bytes n t))

-- ---- loaded

module _ (s : List ℕ) (b : Bytes s) where
  word_byte : (i r : ℕ) → r < 4 → byte r (word_at s i) ≡ get_or s (i + r) 0
  word_byte i =
      let e : i + 0 ≡ i = omega arith in
      by_row (λ r. byte r (word_at s i) ≡ get_or s (i + r) 0)
      (byte0_word _ _ _ _ (b i) (b (i + 1)) (b (i + 2)) (b (i + 3)) ∙ rw e) (byte1_word _ _ _ _ (b i) (b (i + 1)) (b (i + 2)) (b (i + 3)))
      (byte2_word _ _ _ _ (b i) (b (i + 1)) (b (i + 2)) (b (i + 3))) (byte3_word _ _ _ _ (b i) (b (i + 1)) (b (i + 2)) (b (i + 3)))

  pub loaded : (t : List ℕ) (at n : ℕ) → n ≤ length t → at + 4 * n ≤ length s → ((c : ℕ) → c < n → get_or t c 0 ≡ word_at s (at + 4 * c))
      → bytes_of (take n t) ≡ take (4 * n) (drop at s)
  loaded t at n l h e = is_tabulate (4 * n) (λ k. get_or s (at + k) 0) (bytes_of (take n t)) size each ∙ sym (is_tabulate (4 * n) (λ k. get_or s (at + k) 0) (take (4 * n) (drop at s)) (length-take-le (4 * n) (drop at s) (omega (arith, length-drop at s))) part)
    where
      size : length (bytes_of (take n t)) ≡ 4 * n
      size = words_length (take n t) ∙ ap (4 *◌) (length-take-le n t l)

      part : (k : ℕ) → k < 4 * n → get_or (take (4 * n) (drop at s)) k 0 ≡ get_or s (at + k) 0
      part k q = get_or-take (4 * n) (drop at s) k 0 q ∙ get_or-drop at s k 0

      each : (k : ℕ) → k < 4 * n → get_or (bytes_of (take n t)) k 0 ≡ get_or s (at + k) 0
      each k q =
          let r = k % 4 in
          let c = k / 4 in
          let i : k ≡ r + 4 * c = omega arith in
          let j : at + 4 * c + r ≡ at + k = omega arith in
          ap (λ (m : ℕ). get_or (bytes_of (take n t)) m 0) i
          ∙ at_words (take n t) r c (omega arith)
          ∙ ap (byte r) (get_or-take n t c 0 (omega arith) ∙ e c (omega arith))
          ∙ word_byte (at + 4 * c) r (omega arith)
          ∙ ap (λ (m : ℕ). get_or s m 0) j

-- ---- stored, four bytes at a time

module _ (w : List ℕ) (at : ℕ) (t : List ℕ) where
  one : (k i v : ℕ) → k < length (bytes_of t) → at + k < length w → i ≡ at + k → v ≡ get_or (bytes_of t) k 0
      → set (paste w at (bytes_of t) k) i v ≡ paste w at (bytes_of t) (k + 1)
  one k i v h l e f = rw (e, f, add-one k) (paste-suc w at (bytes_of t) k 0 l h)

  pub stored_more : (c x : ℕ) (b : List ℕ) → c < length t → at + 4 * c + 4 ≤ length w → x ≡ get_or t c 0 → b ≡ bytes_of (x ∷ [])
      → (s : List ℕ) → s ≡ paste w at (bytes_of t) (4 * c)
      → set (set (set (set s (at + 4 * c) (get_or b 0 0)) (at + 4 * c + 1) (get_or b 1 0)) (at + 4 * c + 2) (get_or b 2 0)) (at + 4 * c + 3) (get_or b 3 0)
      ≡ paste w at (bytes_of t) (4 * (c + 1))
  unfolding bytes_of
  stored_more c x b h l e f s p =
      let n = words_length t in
      let k = 4 * c in
      let v : (r : ℕ) → r < 4 → byte r x ≡ get_or (bytes_of t) (r + 4 * c) 0 = λ r q. ap (byte r) e ∙ sym (at_words t r c q) in
      let i0 : 0 + 4 * c ≡ k = omega arith in
      let i1 : 1 + 4 * c ≡ k + 1 = omega arith in
      let i2 : 2 + 4 * c ≡ k + 1 + 1 = omega arith in
      let i3 : 3 + 4 * c ≡ k + 1 + 1 + 1 = omega arith in
      let g : (j : ℕ) (m : ℕ) (q : j < 4) → j + 4 * c ≡ m → get_or b j 0 ≡ get_or (bytes_of t) m 0 =
      λ j m q z. ap (λ (y : List ℕ). get_or y j 0) f ∙ by_row (λ r. get_or (bytes_of (x ∷ [])) r 0 ≡ byte r x) refl refl refl refl j q ∙ v j q ∙ ap (λ (y : ℕ). get_or (bytes_of t) y 0) z in
      let a0 : set s (at + k) (get_or b 0 0) ≡ paste w at (bytes_of t) (k + 1) = ap (λ (y : List ℕ). set y (at + k) (get_or b 0 0)) p ∙ one k (at + k) (get_or b 0 0) (omega arith) (omega arith) refl (g 0 k (omega arith) i0) in
      let a1 = ap (λ (y : List ℕ). set y (at + k + 1) (get_or b 1 0)) a0 ∙ one (k + 1) (at + k + 1) (get_or b 1 0) (omega arith) (omega arith) (omega arith) (g 1 (k + 1) (omega arith) i1) in
      let a2 = ap (λ (y : List ℕ). set y (at + k + 2) (get_or b 2 0)) a1 ∙ one (k + 1 + 1) (at + k + 2) (get_or b 2 0) (omega arith) (omega arith) (omega arith) (g 2 (k + 1 + 1) (omega arith) i2) in
      let a3 = ap (λ (y : List ℕ). set y (at + k + 3) (get_or b 3 0)) a2 ∙ one (k + 1 + 1 + 1) (at + k + 3) (get_or b 3 0) (omega arith) (omega arith) (omega arith) (g 3 (k + 1 + 1 + 1) (omega arith) i3) in
      let z : k + 1 + 1 + 1 + 1 ≡ 4 * (c + 1) = omega arith in
      a3 ∙ ap (paste w at (bytes_of t)) z
