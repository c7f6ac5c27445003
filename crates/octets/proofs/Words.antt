-- Words by their bytes. Assumes nothing.
use mathlib.Core.Path.{◌≡◌, ap, ◌∙◌}
use Prim.Native.Nat.{ℕ, zero, suc, ◌+◌, ◌*◌, ◌/◌, ◌%◌, ◌<◌}
use native.Mathlib.Omega.{arith}
use lib.Bits.{bit_xor, bit_and, xor_block, xor_shr, xor_mod, and_block}
use Rattle.octets.specs.Octets.{xor}
use Rattle.octets.specs.Words.{word, byte}

pub byte_lt : (r x : ℕ) → byte r x < 256
byte_lt zero x = omega arith
byte_lt (suc zero) x = omega arith
byte_lt (suc (suc zero)) x = omega arith
byte_lt (suc (suc (suc r))) x = omega arith

module _ (a b c d : ℕ) (ha : a < 256) (hb : b < 256) (hc : c < 256) (hd : d < 256) where
  pub byte0_word : byte 0 (word a b c d) ≡ a
  unfolding word
  byte0_word = omega arith

  pub byte1_word : byte 1 (word a b c d) ≡ b
  unfolding word
  byte1_word = omega arith

  pub byte2_word : byte 2 (word a b c d) ≡ c
  unfolding word
  byte2_word = omega arith

  pub byte3_word : byte 3 (word a b c d) ≡ d
  unfolding word
  byte3_word = omega arith

-- a word is the word of its bytes
pub word_bytes : (x : ℕ) → x < 4294967296 → word (byte 0 x) (byte 1 x) (byte 2 x) (byte 3 x) ≡ x
unfolding word
word_bytes x h =
    let e3 : x / 256 * 256 + x % 256 ≡ x = omega arith in
    let e2 : x / 65536 * 256 + x / 256 % 256 ≡ x / 256 = omega arith in
    let e1 : x / 16777216 * 256 + x / 65536 % 256 ≡ x / 65536 = omega arith in
    let e0 : x / 16777216 % 256 ≡ x / 16777216 = omega arith in
    rw (e0, e1, e2, e3)

-- exclusive or, and the bits in common, byte by byte
pub xor_word : (a b c d a' b' c' d' : ℕ) → b < 256 → c < 256 → d < 256 → b' < 256 → c' < 256 → d' < 256
    → xor (word a b c d) (word a' b' c' d') ≡ word (xor a a') (xor b b') (xor c c') (xor d d')
unfolding xor word
xor_word a b c d a' b' c' d' hb hc hd hb' hc' hd' =
    xor_block 8 ((a * 256 + b) * 256 + c) ((a' * 256 + b') * 256 + c') d d' hd hd'
    ∙ ap (λ (x : ℕ). x * 256 + bit_xor d d')
    (xor_block 8 (a * 256 + b) (a' * 256 + b') c c' hc hc'
    ∙ ap (λ (x : ℕ). x * 256 + bit_xor c c') (xor_block 8 a a' b b' hb hb'))

pub and_word : (a b c d a' b' c' d' : ℕ) → b < 256 → c < 256 → d < 256 → b' < 256 → c' < 256 → d' < 256
    → bit_and (word a b c d) (word a' b' c' d') ≡ word (bit_and a a') (bit_and b b') (bit_and c c') (bit_and d d')
unfolding word
and_word a b c d a' b' c' d' hb hc hd hb' hc' hd' =
    and_block 8 ((a * 256 + b) * 256 + c) ((a' * 256 + b') * 256 + c') d d' hd hd'
    ∙ ap (λ (x : ℕ). x * 256 + bit_and d d')
    (and_block 8 (a * 256 + b) (a' * 256 + b') c c' hc hc'
    ∙ ap (λ (x : ℕ). x * 256 + bit_and c c') (and_block 8 a a' b b' hb hb'))

pub byte_xor : (r x y : ℕ) → byte r (xor x y) ≡ xor (byte r x) (byte r y)
unfolding xor
byte_xor zero x y = ap (λ (z : ℕ). z % 256) (xor_shr x y 24) ∙ xor_mod (x / 16777216) (y / 16777216) 8
byte_xor (suc zero) x y = ap (λ (z : ℕ). z % 256) (xor_shr x y 16) ∙ xor_mod (x / 65536) (y / 65536) 8
byte_xor (suc (suc zero)) x y = ap (λ (z : ℕ). z % 256) (xor_shr x y 8) ∙ xor_mod (x / 256) (y / 256) 8
byte_xor (suc (suc (suc r))) x y = xor_mod x y 8
