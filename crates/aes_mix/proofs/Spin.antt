-- A matrix times a column is linear, and over its table a sum of turned entries is a column of a round. Assumes nothing.
use mathlib.Core.Path.{◌≡◌, refl, sym, ap₂, ◌∙◌}
use Prim.Native.Nat.{ℕ, ◌<◌}
use native.Mathlib.Omega.{arith}
use Rattle.octets.specs.Octets.{xor}
use Rattle.octets.specs.Words.{word, byte}
use Rattle.octets.proofs.Xor.{xor_medial, xor_zero, zero_xor}
use Rattle.octets.proofs.Words.{byte_lt, byte_xor, byte0_word, byte1_word, byte2_word, byte3_word, xor_word}
use Rattle.field.specs.Field.{◌•◌}
use Rattle.field.proofs.Laws.{product_xor}
use Rattle.aes_words.specs.Columns.{rot_word, rot_two, rot_three, diagonal, sub_mix_column}
use Rattle.aes_mix.specs.Mixing.{row, mix_row, inv_mix_row, column, mix_column, inv_mix_column, mixed_entry, inv_mixed_entry}
use Rattle.aes_mix.proofs.Mix.{row_lt, column_word}

-- ---- rotation of a word by its bytes

module _ (a b c d : ℕ) (ha : a < 256) (hb : b < 256) (hc : c < 256) (hd : d < 256) where
  turned_one : rot_word (word a b c d) ≡ word b c d a
  unfolding rot_word
  turned_one = rw (byte0_word a b c d, byte1_word a b c d, byte2_word a b c d, byte3_word a b c d)

  turned_two : rot_two (word a b c d) ≡ word c d a b
  unfolding rot_two
  turned_two = rw (byte0_word a b c d, byte1_word a b c d, byte2_word a b c d, byte3_word a b c d)

  turned_three : rot_three (word a b c d) ≡ word d a b c
  unfolding rot_three
  turned_three = rw (byte0_word a b c d, byte1_word a b c d, byte2_word a b c d, byte3_word a b c d)

-- ---- the product with a matrix is linear

module _ (p q u v : ℕ) where
  pub row_xor : {a b c d a' b' c' d' : ℕ} → a < 256 → b < 256 → c < 256 → d < 256 → a' < 256 → b' < 256 → c' < 256 → d' < 256
      → row p q u v (xor a a') (xor b b') (xor c c') (xor d d') ≡ xor (row p q u v a b c d) (row p q u v a' b' c' d')
  unfolding row
  row_xor {a} {b} {c} {d} {a'} {b'} {c'} {d'} ha hb hc hd ha' hb' hc' hd' =
      ap₂ xor
      (ap₂ xor (product_xor a a' p ha ha') (product_xor b b' q hb hb') ∙ xor_medial (a • p) (a' • p) (b • q) (b' • q))
      (ap₂ xor (product_xor c c' u hc hc') (product_xor d d' v hd hd') ∙ xor_medial (c • u) (c' • u) (d • v) (d' • v))
      ∙ xor_medial (xor (a • p) (b • q)) (xor (a' • p) (b' • q)) (xor (c • u) (d • v)) (xor (c' • u) (d' • v))

  pub column_xor : {a b c d a' b' c' d' : ℕ} → a < 256 → b < 256 → c < 256 → d < 256 → a' < 256 → b' < 256 → c' < 256 → d' < 256
      → column (row p q u v) (xor a a') (xor b b') (xor c c') (xor d d') ≡ xor (column (row p q u v) a b c d) (column (row p q u v) a' b' c' d')
  unfolding column
  column_xor {a} {b} {c} {d} {a'} {b'} {c'} {d'} ha hb hc hd ha' hb' hc' hd' =
      rw (row_xor ha hb hc hd ha' hb' hc' hd', row_xor hb hc hd ha hb' hc' hd' ha', row_xor hc hd ha hb hc' hd' ha' hb', row_xor hd ha hb hc hd' ha' hb' hc')
      (sym (xor_word _ _ _ _ _ _ _ _
      (row_lt p q u v hb hc hd ha) (row_lt p q u v hc hd ha hb) (row_lt p q u v hd ha hb hc)
      (row_lt p q u v hb' hc' hd' ha') (row_lt p q u v hc' hd' ha' hb') (row_lt p q u v hd' ha' hb' hc')))

-- the mixing back of a sum
pub inv_mix_xor : (x y : ℕ) → inv_mix_column (xor x y) ≡ xor (inv_mix_column x) (inv_mix_column y)
unfolding inv_mix_column
inv_mix_xor x y =
    rw (byte_xor 0 x y, byte_xor 1 x y, byte_xor 2 x y, byte_xor 3 x y)
    (column_xor 14 11 13 9 (byte_lt 0 x) (byte_lt 1 x) (byte_lt 2 x) (byte_lt 3 x) (byte_lt 0 y) (byte_lt 1 y) (byte_lt 2 y) (byte_lt 3 y))

-- ---- a column by lookups

module _ (p q u v : ℕ) {a b c d : ℕ} (ha : a < 256) (hb : b < 256) (hc : c < 256) (hd : d < 256) where
  abbrev product : ℕ → ℕ → ℕ → ℕ → ℕ
  product = column (row p q u v)

  none : 0 < 256
  none = omega arith

  second : rot_three (product b 0 0 0) ≡ product 0 b 0 0
  unfolding column
  second = turned_three _ _ _ _ (row_lt p q u v hb none none none) (row_lt p q u v none none none hb) (row_lt p q u v none none hb none) (row_lt p q u v none hb none none)

  third : rot_two (product c 0 0 0) ≡ product 0 0 c 0
  unfolding column
  third = turned_two _ _ _ _ (row_lt p q u v hc none none none) (row_lt p q u v none none none hc) (row_lt p q u v none none hc none) (row_lt p q u v none hc none none)

  fourth : rot_word (product d 0 0 0) ≡ product 0 0 0 d
  unfolding column
  fourth = turned_one _ _ _ _ (row_lt p q u v hd none none none) (row_lt p q u v none none none hd) (row_lt p q u v none none hd none) (row_lt p q u v none hd none none)

  front : xor (product a 0 0 0) (product 0 b 0 0) ≡ product a b 0 0
  front = sym (column_xor p q u v ha none none none none hb none none) ∙ rw (xor_zero a, zero_xor b, zero_xor 0)

  back : xor (product 0 0 c 0) (product 0 0 0 d) ≡ product 0 0 c d
  back = sym (column_xor p q u v none none hc none none none none hd) ∙ rw (xor_zero c, zero_xor d, zero_xor 0)

  pub four_turned : xor (xor (product a 0 0 0) (rot_three (product b 0 0 0))) (xor (rot_two (product c 0 0 0)) (rot_word (product d 0 0 0))) ≡ product a b c d
  four_turned =
      rw (second, third, fourth, front, back)
      (sym (column_xor p q u v ha hb none none none none hc hd) ∙ rw (xor_zero a, xor_zero b, zero_xor c, zero_xor d))

module _ (sub : ℕ → ℕ) (lt : (k : ℕ) → k < 256 → sub k < 256) (t : ℕ → ℕ) (a b c d : ℕ) where
  looked : (p q u v : ℕ) → ((k : ℕ) → k < 256 → t k ≡ column (row p q u v) (sub k) 0 0 0)
      → sub_mix_column t a b c d ≡ column (row p q u v) (sub (byte 0 a)) (sub (byte 1 b)) (sub (byte 2 c)) (sub (byte 3 d))
  unfolding sub_mix_column
  looked p q u v e =
      rw (e (byte 0 a) (byte_lt 0 a), e (byte 1 b) (byte_lt 1 b), e (byte 2 c) (byte_lt 2 c), e (byte 3 d) (byte_lt 3 d))
      (four_turned p q u v (lt (byte 0 a) (byte_lt 0 a)) (lt (byte 1 b) (byte_lt 1 b)) (lt (byte 2 c) (byte_lt 2 c)) (lt (byte 3 d) (byte_lt 3 d)))

  whole : (first : ℕ → ℕ → ℕ → ℕ → ℕ)
      → column first (byte 0 (diagonal sub a b c d)) (byte 1 (diagonal sub a b c d)) (byte 2 (diagonal sub a b c d)) (byte 3 (diagonal sub a b c d))
      ≡ column first (sub (byte 0 a)) (sub (byte 1 b)) (sub (byte 2 c)) (sub (byte 3 d))
  unfolding diagonal
  whole first = column_word _ _ _ _ (lt (byte 0 a) (byte_lt 0 a)) (lt (byte 1 b) (byte_lt 1 b)) (lt (byte 2 c) (byte_lt 2 c)) (lt (byte 3 d) (byte_lt 3 d)) first _ refl

  alone : (first : ℕ → ℕ → ℕ → ℕ → ℕ) (k : ℕ) → k < 256
      → column first (byte 0 (word (sub k) 0 0 0)) (byte 1 (word (sub k) 0 0 0)) (byte 2 (word (sub k) 0 0 0)) (byte 3 (word (sub k) 0 0 0)) ≡ column first (sub k) 0 0 0
  alone first k h = column_word (sub k) 0 0 0 (lt k h) (omega arith) (omega arith) (omega arith) first _ refl

  -- over the table of the mixing, and of the mixing back
  pub sub_mix_column_mixes : ((k : ℕ) → k < 256 → t k ≡ mixed_entry sub k) → sub_mix_column t a b c d ≡ mix_column (diagonal sub a b c d)
  unfolding mix_column
  sub_mix_column_mixes e = looked 2 3 1 1 (λ k h. e k h ∙ alone mix_row k h) ∙ sym (whole mix_row)

  pub sub_mix_column_mixes_back : ((k : ℕ) → k < 256 → t k ≡ inv_mixed_entry sub k) → sub_mix_column t a b c d ≡ inv_mix_column (diagonal sub a b c d)
  unfolding inv_mix_column
  sub_mix_column_mixes_back e = looked 14 11 13 9 (λ k h. e k h ∙ alone inv_mix_row k h) ∙ sym (whole inv_mix_row)
