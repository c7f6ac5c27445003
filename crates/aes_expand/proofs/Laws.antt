-- The words of an expansion one by one, under two substitutions that agree on bytes, and where they can be had. Assumes nothing.
use mathlib.Core.Path.{◌≡◌, refl, sym, ap, ◌∙◌}
use mathlib.Core.List.{List, [], ◌∷◌, ◌++◌, append_assoc}
use Prim.Native.Nat.{ℕ, zero, suc, ◌+◌, ◌-◌, ◌*◌, ◌/◌, ◌%◌, ◌≤◌, ◌<◌}
use native.Mathlib.Nat.{le-div_iff_mul-le, one-mul}
use native.Mathlib.Numerals.{add-one, unary_clauses}
use native.Mathlib.Omega.{arith}
use borrow.Author.Tests.{lt-ltb, le-ltb, le-leb, eq-eqb, ne_eqb}
use lib.ListN.{length, get_or, set, drop, replicate, length-append, length-drop, get_or-append}
use lib.Seq.{drop-cons, set_at, drop-append-add, drop-drop, drop-nil}
use Rattle.octets.specs.Octets.{xor, pad_to, over}
use Rattle.field.specs.Field.{x_power}
use Rattle.octets.proofs.Words.{byte_lt}
use Rattle.octets.specs.Words.{byte, word_at}
use Rattle.aes_words.specs.Columns.{rot_word, diagonal}
use Rattle.aes_expand.specs.Expansion.{r_con, temp, next_word, key_expansion, expanded_over, first_temp, later_temp}

pub quotient_pos : {i nk : ℕ} → 0 < nk → nk ≤ i → 0 < i / nk
quotient_pos {i} {nk} p h = (le-div_iff_mul-le p).1 (rw (one-mul nk) h)

module _ (sub : ℕ → ℕ) (key : List ℕ) (nk : ℕ) where
  pub length_expansion : (n : ℕ) → length (key_expansion sub key nk n) ≡ n
  unfolding key_expansion
  length_expansion zero = refl
  length_expansion (suc n) =
      length-append (key_expansion sub key nk n) (next_word sub key nk (key_expansion sub key nk n) n ∷ [])
      ∙ ap (◌+ 1) (length_expansion n) ∙ add-one n

  -- the words before place i, read over others
  pub word_before : (w : List ℕ) (i k : ℕ) → k < i → get_or (over (key_expansion sub key nk i) w) k 0 ≡ get_or (key_expansion sub key nk i) k 0
  word_before w i k h = get_or-append (key_expansion sub key nk i) _ 0 k (rw (length_expansion i) h)

  pub length_over : (w : List ℕ) (i : ℕ) → i ≤ length w → length (over (key_expansion sub key nk i) w) ≡ length w
  length_over w i h =
      let x = key_expansion sub key nk i in
      let d : length (drop (length x) w) ≡ length w - length x = length-drop (length x) w in
      length-append x (drop (length x) w) ∙ omega (arith, d, length_expansion i)

  -- one word more, over others
  pub over_more : (w : List ℕ) (i v : ℕ) → i < length w → v ≡ next_word sub key nk (key_expansion sub key nk i) i
      → set (over (key_expansion sub key nk i) w) i v ≡ over (key_expansion sub key nk (i + 1)) w
  unfolding key_expansion
  over_more w i v h e =
      let x = key_expansion sub key nk i in
      let n = next_word sub key nk x i in
      rw (length_expansion i, drop-cons w i 0, add-one i)
      (set_at x (get_or w i 0) (drop (suc i) w) v i (length_expansion i)
      ∙ rw e (sym (append_assoc x (n ∷ []) (drop (suc i) w)) ∙ ap (λ (k : ℕ). (x ++ (n ∷ [])) ++ drop k w) (sym (length_expansion (suc i)))))

  -- more words, over fewer
  pub over_over : (w : List ℕ) (j i : ℕ) → j ≤ i → over (key_expansion sub key nk i) (over (key_expansion sub key nk j) w) ≡ over (key_expansion sub key nk i) w
  over_over w j i h =
      let x = key_expansion sub key nk j in
      let e : i ≡ j + (i - j) = omega arith in
      let f : drop i (x ++ drop j w) ≡ drop i w =
      ap (λ (k : ℕ). drop k (x ++ drop j w)) (e ∙ ap (◌+ (i - j)) (sym (length_expansion j)))
      ∙ drop-append-add x (drop j w) (i - j) ∙ drop-drop (i - j) j w ∙ ap (λ (k : ℕ). drop k w) (sym e) in
      rw (length_expansion i, length_expansion j) (ap (λ (l : List ℕ). key_expansion sub key nk i ++ l) f)

  -- a word of the key, and a word past it
  pub next_key : (w : List ℕ) (i : ℕ) → i < nk → next_word sub key nk w i ≡ word_at key (i * 4)
  unfolding next_word
  next_key w i h = rw (lt-ltb i nk h)

  pub next_first : (w : List ℕ) (i : ℕ) → nk ≤ i → i % nk ≡ 0
      → next_word sub key nk w i ≡ xor (get_or w (i - nk) 0) (first_temp sub (x_power (i / nk - 1)) (get_or w (i - 1) 0))
  unfolding next_word temp first_temp r_con
  next_first w i h e = rw (le-ltb i nk h, eq-eqb (i % nk) 0 e)

  pub next_later : (w : List ℕ) (i m : ℕ) → nk ≤ i → i % nk ≡ m → 0 < m
      → next_word sub key nk w i ≡ xor (get_or w (i - nk) 0) (later_temp sub nk m (get_or w (i - 1) 0))
  unfolding next_word temp later_temp
  next_later w i m h e l = rw (le-ltb i nk h, e, ne_eqb m 0 (λ z. omega arith))

-- ---- two substitutions that agree on bytes give the same words

module _ (f g : ℕ → ℕ) (same : (k : ℕ) → k < 256 → f k ≡ g k) where
  pub diagonal_same : (a b c d : ℕ) → diagonal f a b c d ≡ diagonal g a b c d
  unfolding diagonal
  diagonal_same a b c d = rw (same (byte 0 a) (byte_lt 0 a), same (byte 1 b) (byte_lt 1 b), same (byte 2 c) (byte_lt 2 c), same (byte 3 d) (byte_lt 3 d))

  temp_same : (nk i x : ℕ) → temp f nk i x ≡ temp g nk i x
  unfolding temp
  temp_same nk i x =
      rw (diagonal_same (rot_word x) (rot_word x) (rot_word x) (rot_word x), diagonal_same x x x x)

  pub expansion_same : (key : List ℕ) (nk n : ℕ) → key_expansion f key nk n ≡ key_expansion g key nk n
  unfolding key_expansion next_word
  expansion_same key nk zero = refl
  expansion_same key nk (suc n) = rw (expansion_same key nk n, temp_same nk n (get_or (key_expansion g key nk n) (n - 1) 0))

-- ---- where the key has the words, and they have room

pub expanded-over : (sub : ℕ → ℕ) (key : List ℕ) (nk n : ℕ) (w : List ℕ) → 0 < nk → nk * 4 ≤ length key → n ≤ length w
    → expanded_over sub key nk n w ≡ over (key_expansion sub key nk n) w
unfolding expanded_over
expanded-over sub key nk n w h hk hn =
    let hq : nk ≤ length key / 4 = omega arith in
    rw (lt-ltb 0 nk h, le-leb nk (length key / 4) hq, le-leb n (length w) hn)

-- ---- over zeros

drop_zeros : (n k : ℕ) → drop {A = ℕ} k (replicate n 0) ≡ replicate (n - k) 0
drop_zeros zero k = let z : 0 - k ≡ 0 = omega arith in drop-nil k ∙ rw z
drop_zeros (suc n) zero = simp unary_clauses
drop_zeros (suc n) (suc k) = simp unary_clauses (drop_zeros n k)

pub over_zeros : (n : ℕ) (s : List ℕ) → over s (replicate n 0) ≡ pad_to n s
unfolding pad_to
over_zeros n s = ap (λ (l : List ℕ). s ++ l) (drop_zeros n (length s))
