-- Decimal numbers. Assumes nothing: these are definitions.
use Rattle.std.specs.Prelude.{ℕ, ◌+◌, ◌*◌, ◌-◌, Bool, true, cond, ◌&&◌, Option, Some, None, List, [], ◌∷◌, length, ltb, leb}

-- a digit, 0 to 9
unfoldable pub is_decimal : ℕ → Bool
is_decimal d = leb 48 d && leb d 57

-- nothing but digits
unfoldable pub all_decimal : List ℕ → Bool
all_decimal [] = true
all_decimal (d ∷ r) = is_decimal d && all_decimal r

-- the value of digits that follow others of the value n
unfoldable pub value_from : ℕ → List ℕ → ℕ
value_from n [] = n
value_from n (d ∷ r) = value_from (n * 10 + (d - 48)) r

-- n with one more digit, if that is a digit and the value is at most `most`
unfoldable pub more_of : ℕ → ℕ → ℕ → Option ℕ
more_of n d most = cond (is_decimal d && leb (n * 10 + (d - 48)) most) (Some (n * 10 + (d - 48))) None

-- the number of a word of one digit or more, if it is at most `most`
unfoldable pub number_of : List ℕ → ℕ → Option ℕ
number_of w most = cond (ltb 0 (length w) && (all_decimal w && leb (value_from 0 w) most)) (Some (value_from 0 w)) None
