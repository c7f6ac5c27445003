-- Products by logarithms to the base 03 (request E3): table E, the powers of 03, and table L, its inverse.
-- Assumes nothing: these are definitions.
use Rattle.std.specs.Prelude.{◌||◌, cond, ℕ, zero, suc, ◌+◌, ◌-◌, ltb, eqb}
use Rattle.field.specs.Field.{◌•◌}

-- 03 to the power n
unfoldable pub E : ℕ → ℕ
E zero = 1
E (suc n) = E n • 3

-- the number below n whose power is a, and 0 if there is none
unfoldable pub logarithm_below : ℕ → ℕ → ℕ
logarithm_below zero a = 0
logarithm_below (suc n) a = cond (eqb (E n) a) n (logarithm_below n a)

-- the number below 255 whose power is a. No power is 0, so L 0 is 0; and 1 is the power 0, so L 1 is 0 and not 255
unfoldable pub L : ℕ → ℕ
L a = logarithm_below 255 a

-- two entries of L added: 255 is taken off if the sum exceeds 255
unfoldable pub added : ℕ → ℕ → ℕ
added x y = cond (ltb 255 (x + y)) (x + y - 255) (x + y)

-- the product as the request words it: 0 if either factor is 0, else the two entries of L are added and E is read
unfoldable pub looked_up : ℕ → ℕ → ℕ
looked_up a b = cond (eqb a 0 || eqb b 0) 0 (E (added (L a) (L b)))
