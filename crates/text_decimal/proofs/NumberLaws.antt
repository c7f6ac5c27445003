-- Laws on decimal numbers, one digit at a time. Assumes nothing.
use Rattle.std.proofs.Common.{◌≡◌, ℕ, ◌+◌, ◌*◌, ◌-◌, ◌≤◌, ◌<◌, cond, ◌&&◌, Option, Some, None, List, [], ◌∷◌, length, drop, get_or, leb, arith}
use Rattle.std.proofs.lemmas.Bool.Decides.{nat_tests}
use Rattle.std.proofs.lemmas.List.{drop_all, drop_more}
use Rattle.text_decimal.specs.Numbers.{is_decimal, all_decimal, value_from, more_of}

-- what is left to find from the digits s after others of the value n
abbrev pub rest : ℕ → ℕ → List ℕ → Option ℕ
rest most n s = cond (all_decimal s && leb (value_from n s) most) (Some (value_from n s)) None

-- more digits make no smaller value
value_grows : (s : List ℕ) (n : ℕ) → n ≤ value_from n s
unfolding value_from
value_grows [] n = omega arith
value_grows (d ∷ r) n = omega (arith, value_grows r (n * 10 + (d - 48)))

-- the next digit is taken, or ends the reading
module _ (s : List ℕ) (i : ℕ) (h : i < length s) (most n : ℕ) where
  pub number_more : (a : ℕ) → more_of n (get_or s i 0) most ≡ Some a → rest most a (drop (i + 1) s) ≡ rest most n (drop i s)
  unfolding more_of is_decimal all_decimal value_from
  number_more a p = let e = drop_more s i 0 h in grind (arith, nat_tests)

  pub number_not : more_of n (get_or s i 0) most ≡ None → None ≡ rest most n (drop i s)
  unfolding more_of is_decimal all_decimal value_from
  number_not p = let e = drop_more s i 0 h in let v = value_grows (drop (i + 1) s) (n * 10 + (get_or s i 0 - 48)) in grind (arith, nat_tests)

-- a number that is found is at most the most asked for
pub number_most : (n d most a : ℕ) → more_of n d most ≡ Some a → a ≤ most
unfolding more_of
number_most n d most a p = grind (arith, nat_tests)

-- no digit is left
pub number_end : (s : List ℕ) (i most n : ℕ) → length s ≤ i → n ≤ most → Some n ≡ rest most n (drop i s)
unfolding all_decimal value_from
number_end s i most n h k = let e = drop_all i s h in grind (arith, nat_tests)

pub ruleset numbers = (number_more, number_most, number_not, number_end)
