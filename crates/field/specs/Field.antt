-- FIPS 197, section 4: bytes as polynomials over GF(2) modulo x^8 + x^4 + x^3 + x + 1. The sum is `xor`.
-- Assumes nothing: these are definitions.
use Rattle.std.specs.Prelude.{cond, ℕ, zero, suc, ◌*◌, ◌/◌, ◌%◌, ltb, eqb}
use Rattle.octets.specs.Octets.{xor}

infixl 70 ◌•◌
-- XTIMES (4.2): shifted left by one; if the top bit was set, 1b is added
unfoldable pub x_times : ℕ → ℕ
x_times a = cond (ltb a 128) (a * 2 % 256) (xor (a * 2 % 256) 0x1b)

-- x^n, that is 1 doubled n times
unfoldable pub x_power : ℕ → ℕ
x_power zero = 1
x_power (suc n) = x_times (x_power n)

-- the product of a and b in at most n halvings of b: 0 if b is 0; else the product with b halved is doubled, and a added if b is odd
unfoldable pub product_within : ℕ → ℕ → ℕ → ℕ
product_within zero a b = 0
product_within (suc n) a zero = 0
product_within (suc n) a (suc b) =
    cond (eqb (suc b % 2) 0)
    (x_times (product_within n a (suc b / 2)))
    (xor (x_times (product_within n a (suc b / 2))) a)

-- the product (4.2): b halvings are enough, as `product-step` shows
unfoldable pub ◌•◌ : ℕ → ℕ → ℕ
a • b = product_within b a b
