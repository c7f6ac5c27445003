-- The S-box of request E5 (docs/REQUIREMENTS.md), and its inverse, as tables and by their rules. Assumes nothing: these are definitions.
use Rattle.std.specs.Prelude.{ℕ, zero, suc, ◌+◌, ◌*◌, ◌/◌, ◌%◌, ◌^◌, List, [], ◌∷◌}
use Rattle.octets.specs.Octets.{entry}
use Rattle.saes_spec.specs.Nibbles.{◌•₄◌}

-- 9 4 a b d 1 8 5 6 2 0 3 c e f 7 for 0 to f
abbrev pub s_table : List ℕ
s_table = 0x9 ∷ 0x4 ∷ 0xa ∷ 0xb ∷ 0xd ∷ 0x1 ∷ 0x8 ∷ 0x5 ∷ 0x6 ∷ 0x2 ∷ 0x0 ∷ 0x3 ∷ 0xc ∷ 0xe ∷ 0xf ∷ 0x7 ∷ []

-- the place of each entry in that table
abbrev pub inv_s_table : List ℕ
inv_s_table = 0xa ∷ 0x5 ∷ 0x9 ∷ 0xb ∷ 0x1 ∷ 0x7 ∷ 0x8 ∷ 0xf ∷ 0x6 ∷ 0x0 ∷ 0x2 ∷ 0x3 ∷ 0xc ∷ 0x4 ∷ 0xd ∷ 0xe ∷ []

abbrev pub s_box : ℕ → ℕ
s_box x = entry s_table x

abbrev pub inv_s_box : ℕ → ℕ
inv_s_box x = entry inv_s_table x

-- ---- the rules that both tables are held to

unfoldable pub power : ℕ → ℕ → ℕ
power zero a = 1
power (suc n) a = power n a •₄ a

-- a^14, since a^15 is 1; of 0 it is 0
unfoldable pub inverse : ℕ → ℕ
inverse a = power 14 a

-- bits are counted modulo 4
unfoldable pub bit : ℕ → ℕ → ℕ
bit x i = x / 2 ^ (i % 4) % 2

unfoldable pub from_bits : (ℕ → ℕ) → ℕ
from_bits f = f 0 + f 1 * 2 + f 2 * 4 + f 3 * 8

-- bit i: bits i, i + 1 and i + 2, and bit i of 9
unfoldable pub affine : ℕ → ℕ
affine x = from_bits (λ i. (bit x i + bit x (i + 1) + bit x (i + 2) + bit 0x9 i) % 2)

-- bit i: bits i, i + 2 and i + 3, and bit i of c
unfoldable pub inv_affine : ℕ → ℕ
inv_affine y = from_bits (λ i. (bit y i + bit y (i + 2) + bit y (i + 3) + bit 0xc i) % 2)

abbrev pub s_rule : ℕ → ℕ
s_rule a = affine (inverse a)

abbrev pub inv_s_rule : ℕ → ℕ
inv_s_rule y = inverse (inv_affine y)
