-- Nibbles as polynomials over GF(2) modulo x^4 + x + 1 (request E5, docs/REQUIREMENTS.md). The sum is `xor`. Assumes nothing: these are definitions.
use Rattle.std.specs.Prelude.{cond, ℕ, ◌*◌, ◌/◌, ◌%◌, ltb, eqb}
use Rattle.octets.specs.Octets.{xor}

infixl 70 ◌•₄◌
-- x times a: shifted left by one; if x^4 came up, x + 1 replaces it
unfoldable pub x_times : ℕ → ℕ
x_times a = cond (ltb a 8) (a * 2 % 16) (xor (a * 2 % 16) 0x3)

-- one more digit of b, the last one, into a product with a: times x, and a added if b is odd
unfoldable pub with_digit : (p a b : ℕ) → ℕ
with_digit p a b = cond (eqb (b % 2) 0) (x_times p) (xor (x_times p) a)

-- the product, by the four digits of b
unfoldable pub ◌•₄◌ : ℕ → ℕ → ℕ
a •₄ b = with_digit (with_digit (with_digit (with_digit 0 a (b / 8)) a (b / 4)) a (b / 2)) a b
