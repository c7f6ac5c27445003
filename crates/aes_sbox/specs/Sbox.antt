-- The S-box of FIPS 197, 5.1.1: the inverse in the field, then the affine map; and its inverse, 5.3.2.
-- Assumes nothing: these are definitions.
use Rattle.std.specs.Prelude.{cond, ℕ, zero, suc, ◌+◌, ◌*◌, ◌/◌, ◌%◌, ◌^◌, eqb}
use Rattle.field.specs.Field.{◌•◌}

unfoldable pub square : ℕ → ℕ
square a = a • a

-- a to the power e, in at most n halvings of e
unfoldable pub power_within : ℕ → ℕ → ℕ → ℕ
power_within zero a e = 1
power_within (suc n) a zero = 1
power_within (suc n) a (suc e) =
    cond (eqb (suc e % 2) 0)
    (square (power_within n a (suc e / 2)))
    (square (power_within n a (suc e / 2)) • a)

-- the inverse, and 0 for 0: a to the power 254. `inverse-rule` proves that its product with a is 1 for every byte but 0
unfoldable pub inverse : ℕ → ℕ
inverse a = power_within 8 a 254

-- bit i of x, counted round from 8 on
unfoldable pub bit : ℕ → ℕ → ℕ
bit x i = x / 2 ^ (i % 8) % 2

-- the number whose bits are f 0, .. up to f (n - 1)
unfoldable pub from_bits : ℕ → (ℕ → ℕ) → ℕ
from_bits zero f = 0
from_bits (suc n) f = from_bits n f + f n * 2 ^ n

-- the affine map (5.1.1): bit i is bits i, i + 4, i + 5, i + 6, i + 7 of x and bit i of 63, added modulo 2
unfoldable pub affine : ℕ → ℕ
affine x = from_bits 8 (λ i. (bit x i + bit x (i + 4) + bit x (i + 5) + bit x (i + 6) + bit x (i + 7) + bit 0x63 i) % 2)

-- the affine map taken back
unfoldable pub inv_affine : ℕ → ℕ
inv_affine x = from_bits 8 (λ i. (bit x (i + 2) + bit x (i + 5) + bit x (i + 7) + bit 0x05 i) % 2)

-- SBOX
unfoldable pub s_box : ℕ → ℕ
s_box a = affine (inverse a)

-- INVSBOX
unfoldable pub inv_s_box : ℕ → ℕ
inv_s_box b = inverse (inv_affine b)
