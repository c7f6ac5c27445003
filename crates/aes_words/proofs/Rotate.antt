-- Rotation by division, and a word of substituted bytes. Assumes nothing.
use mathlib.Core.Path.{◌≡◌, sym, ap, ◌∙◌}
use lib.Bits.{bit_or, or_shifted}
use native.Mathlib.Nat.{add_comm}
use Rattle.std.specs.Int.{from_be_bytes}
use Rattle.std.proofs.Common.{w32}
use Prim.Native.Nat.{ℕ, ◌+◌, ◌*◌, ◌/◌, ◌%◌, ◌<◌}
use native.Mathlib.Omega.{arith}
use mathlib.Core.List.{[], ◌∷◌}
use Rattle.octets.specs.Words.{word, byte, bytes_of}
use Rattle.octets.proofs.Words.{byte_lt, word_bytes, byte0_word, byte1_word, byte2_word, byte3_word}
use Rattle.aes_words.specs.Columns.{rot_word, rot_two, rot_three, diagonal, IsDiagonal}

module _ (a b c d : ℕ) (ha : a < 256) (hb : b < 256) (hc : c < 256) (hd : d < 256) where
  by_one : word a b c d / 16777216 + word a b c d % 16777216 * 256 ≡ word b c d a
  unfolding word
  by_one =
      let e : (((a * 256 + b) * 256 + c) * 256 + d) / 16777216 ≡ a = omega arith in
      let f : (((a * 256 + b) * 256 + c) * 256 + d) % 16777216 ≡ (b * 256 + c) * 256 + d = omega arith in
      omega arith

  by_two : word a b c d / 65536 + word a b c d % 65536 * 65536 ≡ word c d a b
  unfolding word
  by_two =
      let e : (((a * 256 + b) * 256 + c) * 256 + d) / 65536 ≡ a * 256 + b = omega arith in
      let f : (((a * 256 + b) * 256 + c) * 256 + d) % 65536 ≡ c * 256 + d = omega arith in
      omega arith

  by_three : word a b c d / 256 + word a b c d % 256 * 16777216 ≡ word d a b c
  unfolding word
  by_three =
      let e : (((a * 256 + b) * 256 + c) * 256 + d) / 256 ≡ (a * 256 + b) * 256 + c = omega arith in
      let f : (((a * 256 + b) * 256 + c) * 256 + d) % 256 ≡ d = omega arith in
      omega arith

module _ (x : ℕ) (h : x < 4294967296) where
  pub rot_one_code : x / 16777216 + x % 16777216 * 256 ≡ rot_word x
  unfolding rot_word
  rot_one_code =
      ap (λ (y : ℕ). y / 16777216 + y % 16777216 * 256) (sym (word_bytes x h))
      ∙ by_one (byte 0 x) (byte 1 x) (byte 2 x) (byte 3 x) (byte_lt 0 x) (byte_lt 1 x) (byte_lt 2 x) (byte_lt 3 x)

  pub rot_two_code : x / 65536 + x % 65536 * 65536 ≡ rot_two x
  unfolding rot_two
  rot_two_code =
      ap (λ (y : ℕ). y / 65536 + y % 65536 * 65536) (sym (word_bytes x h))
      ∙ by_two (byte 0 x) (byte 1 x) (byte 2 x) (byte 3 x) (byte_lt 0 x) (byte_lt 1 x) (byte_lt 2 x) (byte_lt 3 x)

  pub rot_three_code : x / 256 + x % 256 * 16777216 ≡ rot_three x
  unfolding rot_three
  rot_three_code =
      ap (λ (y : ℕ). y / 256 + y % 256 * 16777216) (sym (word_bytes x h))
      ∙ by_three (byte 0 x) (byte 1 x) (byte 2 x) (byte 3 x) (byte_lt 0 x) (byte_lt 1 x) (byte_lt 2 x) (byte_lt 3 x)

-- ---- the same as the library rotates

module _ (x : ℕ) (h : x < 4294967296) where
  pub rotated_one : bit_or (x * 256 % 4294967296) (x / 16777216) ≡ rot_word x
  rotated_one =
      let e : x * 256 % 4294967296 ≡ x % 16777216 * 256 = omega arith in
      let f : bit_or (x % 16777216 * 256) (x / 16777216) ≡ x % 16777216 * 256 + x / 16777216 = or_shifted (x % 16777216) 8 (x / 16777216) (omega arith) in
      rw (e, f) (add_comm (x % 16777216 * 256) (x / 16777216) ∙ rot_one_code x h)

  pub rotated_two : bit_or (x * 65536 % 4294967296) (x / 65536) ≡ rot_two x
  rotated_two =
      let e : x * 65536 % 4294967296 ≡ x % 65536 * 65536 = omega arith in
      let f : bit_or (x % 65536 * 65536) (x / 65536) ≡ x % 65536 * 65536 + x / 65536 = or_shifted (x % 65536) 16 (x / 65536) (omega arith) in
      rw (e, f) (add_comm (x % 65536 * 65536) (x / 65536) ∙ rot_two_code x h)

  pub rotated_three : bit_or (x * 16777216 % 4294967296) (x / 256) ≡ rot_three x
  rotated_three =
      let e : x * 16777216 % 4294967296 ≡ x % 256 * 16777216 = omega arith in
      let f : bit_or (x % 256 * 16777216) (x / 256) ≡ x % 256 * 16777216 + x / 256 = or_shifted (x % 256) 24 (x / 256) (omega arith) in
      rw (e, f) (add_comm (x % 256 * 16777216) (x / 256) ∙ rot_three_code x h)

-- ---- words and their bytes, as the library joins and splits them

pub joined : (a b c d : ℕ) → from_be_bytes w32 (a ∷ b ∷ c ∷ d ∷ []) ≡ word a b c d
unfolding word
joined a b c d = omega arith

pub same_word : {a b c d p q u v : ℕ} → a ≡ p → b ≡ q → c ≡ u → d ≡ v → word a b c d ≡ word p q u v
same_word {a} {b} {c} {d} {p} {q} {u} {v} e f g h =
    ap (λ (x : ℕ). word x b c d) e ∙ ap (λ (x : ℕ). word p x c d) f ∙ ap (λ (x : ℕ). word p q x d) g ∙ ap (λ (x : ℕ). word p q u x) h

-- a word made of four substituted bytes
pub is_diagonal : (sub : ℕ → ℕ) (a b c d r : ℕ) → sub (byte 0 a) < 256 → sub (byte 1 b) < 256 → sub (byte 2 c) < 256 → sub (byte 3 d) < 256
    → r ≡ diagonal sub a b c d → IsDiagonal sub a b c d r
unfolding diagonal
is_diagonal sub a b c d r ha hb hc hd e = record {
  whole = e;
  first = ap (byte 0) e ∙ byte0_word _ _ _ _ ha hb hc hd;
  second = ap (byte 1) e ∙ byte1_word _ _ _ _ ha hb hc hd;
  third = ap (byte 2) e ∙ byte2_word _ _ _ _ ha hb hc hd;
  fourth = ap (byte 3) e ∙ byte3_word _ _ _ _ ha hb hc hd;
}

-- the bytes of the word that has them in the other order
pub bytes_reversed : (x y : ℕ) → y ≡ word (byte 3 x) (byte 2 x) (byte 1 x) (byte 0 x)
    → byte 3 y ∷ byte 2 y ∷ byte 1 y ∷ byte 0 y ∷ [] ≡ bytes_of (x ∷ [])
unfolding bytes_of
bytes_reversed x y e =
    let a = byte_lt 0 x in
    let b = byte_lt 1 x in
    let u = byte_lt 2 x in
    let v = byte_lt 3 x in
    cc (ap (byte 0) e, ap (byte 1) e, ap (byte 2) e, ap (byte 3) e, byte0_word _ _ _ _ v u b a, byte1_word _ _ _ _ v u b a, byte2_word _ _ _ _ v u b a, byte3_word _ _ _ _ v u b a)
