-- The four bytes of a word doubled at once, and a column mixed by doubling and rotation. Assumes nothing.
use mathlib.Core.Path.{◌≡◌, sym, ap, ap₂, ◌∙◌}
use Prim.Native.Nat.{ℕ, ◌-◌, ◌*◌, ◌/◌, ◌%◌, ◌<◌}
use native.Mathlib.Omega.{arith}
use lib.Bits.{bit_and, and_le_r, and_mask, and_high}
use Rattle.octets.specs.Octets.{xor}
use Rattle.octets.specs.Words.{word, byte}
use Rattle.octets.proofs.Xor.{xor_assoc, xor_comm, xor_left_comm, xor_lt}
use Rattle.octets.proofs.Tests.{on_bytes}
use Rattle.octets.proofs.Words.{byte_lt, word_bytes, xor_word, and_word, byte0_word, byte1_word, byte2_word, byte3_word}
use Rattle.field.specs.Field.{x_times, product_within, ◌•◌}
use Rattle.field.proofs.Laws.{double_parts, double_lt, double_xor, product_one, product_two, product_three, product_xor, product_lt}
use Rattle.aes_words.specs.Columns.{rot_word, rot_two, rot_three}
use Rattle.aes_mix.specs.Mixing.{doubled, row, mix_row, inv_mix_row, column, mix_column, inv_mix_column}

pub row_lt : (p q u v : ℕ) {a b c d : ℕ} → a < 256 → b < 256 → c < 256 → d < 256 → row p q u v a b c d < 256
unfolding row
row_lt p q u v ha hb hc hd = xor_lt (xor_lt (product_lt p ha) (product_lt q hb)) (xor_lt (product_lt u hc) (product_lt v hd))

-- ---- doubling

halves : (a : ℕ) → a < 256 → xor (a % 128 * 2) (a / 128 * 27) ≡ x_times a
halves a h = let e : a % 128 * 2 ≡ a * 2 % 256 = omega arith in rw e (sym (double_parts a h))

reduced : (a : ℕ) → a < 256 → bit_and (a / 128 * 127) 27 ≡ a / 128 * 27
reduced = on_bytes (λ a. bit_and (a / 128 * 127) 27) (λ a. a / 128 * 27) tt

module _ (a b c d : ℕ) (ha : a < 256) (hb : b < 256) (hc : c < 256) (hd : d < 256) where
  lows : bit_and (word a b c d) 0x7f7f7f7f ≡ word (a % 128) (b % 128) (c % 128) (d % 128)
  unfolding word
  lows =
      and_word a b c d 127 127 127 127 hb hc hd (omega arith) (omega arith) (omega arith)
      ∙ rw (and_mask a 7, and_mask b 7, and_mask c 7, and_mask d 7)

  lows_twice : bit_and (word a b c d) 0x7f7f7f7f * 2 ≡ word (a % 128 * 2) (b % 128 * 2) (c % 128 * 2) (d % 128 * 2)
  unfolding word
  lows_twice = rw lows (omega arith)

  tops : bit_and (word a b c d) 0x80808080 ≡ word (a / 128 * 128) (b / 128 * 128) (c / 128 * 128) (d / 128 * 128)
  unfolding word
  tops =
      and_word a b c d 128 128 128 128 hb hc hd (omega arith) (omega arith) (omega arith)
      ∙ rw (and_high a 1 7, and_high b 1 7, and_high c 1 7, and_high d 1 7) (omega arith)

  -- a top bit less itself moved to the bottom: seven ones where it is set
  masks : word (a / 128 * 128) (b / 128 * 128) (c / 128 * 128) (d / 128 * 128) - word (a / 128 * 128) (b / 128 * 128) (c / 128 * 128) (d / 128 * 128) / 128
      ≡ word (a / 128 * 127) (b / 128 * 127) (c / 128 * 127) (d / 128 * 127)
  unfolding word
  masks = omega arith

  tops_reduced : bit_and (bit_and (word a b c d) 0x80808080 - bit_and (word a b c d) 0x80808080 / 128) 0x1b1b1b1b
      ≡ word (a / 128 * 27) (b / 128 * 27) (c / 128 * 27) (d / 128 * 27)
  unfolding word
  tops_reduced =
      ap (λ (x : ℕ). bit_and (x - x / 128) 0x1b1b1b1b) tops
      ∙ ap (λ (x : ℕ). bit_and x 0x1b1b1b1b) masks
      ∙ and_word (a / 128 * 127) (b / 128 * 127) (c / 128 * 127) (d / 128 * 127) 27 27 27 27 (omega arith) (omega arith) (omega arith) (omega arith) (omega arith) (omega arith)
      ∙ rw (reduced a ha, reduced b hb, reduced c hc, reduced d hd)

  double_bytes : xor (bit_and (word a b c d) 0x7f7f7f7f * 2) (bit_and (bit_and (word a b c d) 0x80808080 - bit_and (word a b c d) 0x80808080 / 128) 0x1b1b1b1b)
      ≡ word (x_times a) (x_times b) (x_times c) (x_times d)
  double_bytes =
      ap₂ xor lows_twice tops_reduced
      ∙ xor_word _ _ _ _ _ _ _ _ (omega arith) (omega arith) (omega arith) (omega arith) (omega arith) (omega arith)
      ∙ rw (halves a ha, halves b hb, halves c hc, halves d hd)

  doubled_word : doubled (word a b c d) ≡ word (x_times a) (x_times b) (x_times c) (x_times d)
  unfolding doubled
  doubled_word = rw (byte0_word a b c d, byte1_word a b c d, byte2_word a b c d, byte3_word a b c d)

  pub column_word : (first : ℕ → ℕ → ℕ → ℕ → ℕ) (x : ℕ) → x ≡ word a b c d
      → column first (byte 0 x) (byte 1 x) (byte 2 x) (byte 3 x) ≡ column first a b c d
  column_word first x e = rw (e, byte0_word a b c d, byte1_word a b c d, byte2_word a b c d, byte3_word a b c d)

pub double_code : (x : ℕ) → x < 4294967296 → xor (bit_and x 0x7f7f7f7f * 2 % 4294967296) (bit_and (bit_and x 0x80808080 - bit_and x 0x80808080 / 128) 0x1b1b1b1b) ≡ doubled x
unfolding doubled
double_code x h =
    let e : bit_and x 0x7f7f7f7f * 2 % 4294967296 ≡ bit_and x 0x7f7f7f7f * 2 = omega (arith, and_le_r x 0x7f7f7f7f) in
    rw e (ap (λ (y : ℕ). xor (bit_and y 0x7f7f7f7f * 2) (bit_and (bit_and y 0x80808080 - bit_and y 0x80808080 / 128) 0x1b1b1b1b)) (sym (word_bytes x h))
    ∙ double_bytes (byte 0 x) (byte 1 x) (byte 2 x) (byte 3 x) (byte_lt 0 x) (byte_lt 1 x) (byte_lt 2 x) (byte_lt 3 x))

-- ---- the mixing of a column

-- a row of the matrix with one doubling
one_doubling : (a b c d : ℕ) → a < 256 → b < 256 → xor (xor (x_times (xor a b)) b) (xor c d) ≡ mix_row a b c d
unfolding row
one_doubling a b c d ha hb =
    rw (product_two a, product_three b, product_one c, product_one d, double_xor a b ha hb, xor_assoc (x_times a) (x_times b) b)

mix_bytes : (a b c d : ℕ) → a < 256 → b < 256 → c < 256 → d < 256
    → xor (xor (doubled (xor (word a b c d) (word b c d a))) (word b c d a)) (xor (word c d a b) (word d a b c)) ≡ column mix_row a b c d
unfolding column
mix_bytes a b c d ha hb hc hd =
    let ab = xor_lt ha hb in
    let bc = xor_lt hb hc in
    let cd = xor_lt hc hd in
    let da = xor_lt hd ha in
    ap₂ xor
    (ap (λ (x : ℕ). xor x (word b c d a))
    (ap doubled (xor_word a b c d b c d a hb hc hd hc hd ha)
    ∙ doubled_word (xor a b) (xor b c) (xor c d) (xor d a) ab bc cd da)
    ∙ xor_word _ _ _ _ b c d a (double_lt bc) (double_lt cd) (double_lt da) hc hd ha)
    (xor_word c d a b d a b c hd ha hb ha hb hc)
    ∙ xor_word _ _ _ _ _ _ _ _ (xor_lt (double_lt bc) hc) (xor_lt (double_lt cd) hd) (xor_lt (double_lt da) ha) da ab bc
    ∙ rw (one_doubling a b c d ha hb, one_doubling b c d a hb hc, one_doubling c d a b hc hd, one_doubling d a b c hd ha)

pub mix_code : (x : ℕ) → x < 4294967296
    → xor (xor (doubled (xor x (rot_word x))) (rot_word x)) (xor (rot_two x) (rot_three x)) ≡ mix_column x
unfolding rot_word rot_two rot_three mix_column
mix_code x h =
    ap (λ (y : ℕ). xor (xor (doubled (xor y (rot_word x))) (rot_word x)) (xor (rot_two x) (rot_three x))) (sym (word_bytes x h))
    ∙ mix_bytes (byte 0 x) (byte 1 x) (byte 2 x) (byte 3 x) (byte_lt 0 x) (byte_lt 1 x) (byte_lt 2 x) (byte_lt 3 x)

-- ---- the inverse: each byte a with c two below it first becomes a + 4 (a + c)

four : ℕ → ℕ
four x = x_times (x_times x)

pre : ℕ → ℕ → ℕ
pre a c = xor a (four (xor a c))

four_lt : {x : ℕ} → x < 256 → four x < 256
unfolding four
four_lt h = double_lt (double_lt h)

pre_lt : {a c : ℕ} → a < 256 → c < 256 → pre a c < 256
unfolding pre
pre_lt ha hc = xor_lt ha (four_lt (xor_lt ha hc))

spread : (p a c : ℕ) → a < 256 → c < 256 → pre a c • p ≡ xor (a • p) (xor (four a • p) (four c • p))
unfolding pre four
spread p a c ha hc =
    ap (λ (x : ℕ). xor a x • p) (ap x_times (double_xor a c ha hc) ∙ double_xor (x_times a) (x_times c) (double_lt ha) (double_lt hc))
    ∙ product_xor a (xor (four a) (four c)) p ha (xor_lt (four_lt ha) (four_lt hc))
    ∙ ap (xor (a • p)) (product_xor (four a) (four c) p (four_lt ha) (four_lt hc))

gather : (a qa qc b qb qd c qc' qa' d qd' qb' : ℕ)
    → xor (xor (xor a (xor qa qc)) (xor b (xor qb qd))) (xor (xor c (xor qc' qa')) (xor d (xor qd' qb')))
    ≡ xor (xor (xor (xor a qa) qa') (xor (xor b qb) qb')) (xor (xor (xor qc c) qc') (xor (xor qd d) qd'))
gather a qa qc b qb qd c qc' qa' d qd' qb' = simp (xor_assoc, xor_comm, xor_left_comm)

-- 14, 11, 13 and 9 times a byte
by14 : (x : ℕ) → x < 256 → xor (xor (x • 2) (four x • 2)) (four x • 1) ≡ x • 14
unfolding four ◌•◌ product_within x_times xor
by14 = on_bytes (λ x. xor (xor (x • 2) (four x • 2)) (four x • 1)) (λ x. x • 14) tt

by11 : (x : ℕ) → x < 256 → xor (xor (x • 3) (four x • 3)) (four x • 1) ≡ x • 11
unfolding four ◌•◌ product_within x_times xor
by11 = on_bytes (λ x. xor (xor (x • 3) (four x • 3)) (four x • 1)) (λ x. x • 11) tt

by13 : (x : ℕ) → x < 256 → xor (xor (four x • 2) (x • 1)) (four x • 1) ≡ x • 13
unfolding four ◌•◌ product_within x_times xor
by13 = on_bytes (λ x. xor (xor (four x • 2) (x • 1)) (four x • 1)) (λ x. x • 13) tt

by9 : (x : ℕ) → x < 256 → xor (xor (four x • 3) (x • 1)) (four x • 1) ≡ x • 9
unfolding four ◌•◌ product_within x_times xor
by9 = on_bytes (λ x. xor (xor (four x • 3) (x • 1)) (four x • 1)) (λ x. x • 9) tt

inv_row : (a b c d : ℕ) → a < 256 → b < 256 → c < 256 → d < 256 → mix_row (pre a c) (pre b d) (pre c a) (pre d b) ≡ inv_mix_row a b c d
unfolding row
inv_row a b c d ha hb hc hd =
    ap₂ xor (ap₂ xor (spread 2 a c ha hc) (spread 3 b d hb hd)) (ap₂ xor (spread 1 c a hc ha) (spread 1 d b hd hb))
    ∙ gather _ _ _ _ _ _ _ _ _ _ _ _
    ∙ ap₂ xor (ap₂ xor (by14 a ha) (by11 b hb)) (ap₂ xor (by13 c hc) (by9 d hd))

module _ (a b c d : ℕ) (ha : a < 256) (hb : b < 256) (hc : c < 256) (hd : d < 256) where
  pre_bytes : xor (word a b c d) (doubled (doubled (xor (word a b c d) (word c d a b)))) ≡ word (pre a c) (pre b d) (pre c a) (pre d b)
  unfolding pre four
  pre_bytes =
      let ac = xor_lt ha hc in
      let bd = xor_lt hb hd in
      let ca = xor_lt hc ha in
      let db = xor_lt hd hb in
      ap (λ (x : ℕ). xor (word a b c d) (doubled (doubled x))) (xor_word a b c d c d a b hb hc hd hd ha hb)
      ∙ ap (λ (x : ℕ). xor (word a b c d) (doubled x)) (doubled_word _ _ _ _ ac bd ca db)
      ∙ ap (xor (word a b c d)) (doubled_word _ _ _ _ (double_lt ac) (double_lt bd) (double_lt ca) (double_lt db))
      ∙ xor_word a b c d _ _ _ _ hb hc hd (double_lt (double_lt bd)) (double_lt (double_lt ca)) (double_lt (double_lt db))

  inv_column : column mix_row (pre a c) (pre b d) (pre c a) (pre d b) ≡ column inv_mix_row a b c d
  unfolding column
  inv_column = rw (inv_row a b c d ha hb hc hd, inv_row b c d a hb hc hd ha, inv_row c d a b hc hd ha hb, inv_row d a b c hd ha hb hc)

pub inv_mix_code : (x : ℕ) → x < 4294967296 → (z : ℕ) → z ≡ xor x (doubled (doubled (xor x (rot_two x)))) → mix_column z ≡ inv_mix_column x
unfolding rot_two mix_column inv_mix_column
inv_mix_code x h z e =
    let a = byte_lt 0 x in
    let b = byte_lt 1 x in
    let c = byte_lt 2 x in
    let d = byte_lt 3 x in
    column_word (pre (byte 0 x) (byte 2 x)) (pre (byte 1 x) (byte 3 x)) (pre (byte 2 x) (byte 0 x)) (pre (byte 3 x) (byte 1 x))
    (pre_lt a c) (pre_lt b d) (pre_lt c a) (pre_lt d b) mix_row z
    (e ∙ ap (λ (y : ℕ). xor y (doubled (doubled (xor y (rot_two x))))) (sym (word_bytes x h))
    ∙ pre_bytes (byte 0 x) (byte 1 x) (byte 2 x) (byte 3 x) a b c d)
    ∙ inv_column (byte 0 x) (byte 1 x) (byte 2 x) (byte 3 x) a b c d
