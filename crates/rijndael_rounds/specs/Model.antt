-- The shifts of rows as the code has them, and a state whose columns stand twice in a row, so that a shift needs no remainder.
-- Assumes nothing: these are definitions.
use Rattle.std.specs.Prelude.{ℕ, zero, suc, ◌+◌, ◌*◌, ◌≤◌, ◌<◌, ◌≡◌, List, get_or}
use Rattle.aes_spec.specs.State.{Shape}
use Rattle.rijndael_spec.specs.declared.Width.{Width}
use Rattle.rijndael_spec.specs.declared.Width.TheVariants.{Six, Eight}
use Rattle.rijndael_model.specs.declared.Way.{Way}
use Rattle.rijndael_model.specs.declared.Way.TheVariants.{Forth, Back}
use Rattle.rijndael_rounds.specs.declared.Turn.{Turn}

abbrev pub turn : ℕ → ℕ → ℕ → ℕ → Turn
turn n b c d = record { columns = n; second = b; third = c; fourth = d }

-- the columns, and how far the second, third and fourth row are shifted: on the way back by what is left to a whole turn
abbrev pub turn_of : Way → Width → Turn
turn_of Forth Six = turn 6 1 2 3
turn_of Back Six = turn 6 5 4 3
turn_of Forth Eight = turn 8 1 3 4
turn_of Back Eight = turn 8 7 5 4

abbrev pub row_of : Turn → ℕ → ℕ
row_of u zero = 0
row_of u (suc zero) = u.second
row_of u (suc (suc zero)) = u.third
row_of u (suc (suc (suc r))) = u.fourth

abbrev pub turn_shape : Turn → Shape
turn_shape u = record { columns = u.columns; shift = row_of u }

-- a turn that stays in a state of sixteen words, and a round key that stays in a schedule of 120
abbrev pub Fine : Turn → Type 0
Fine u = ((0 < u.columns) × (u.columns < 9)) × ((u.second ≤ u.columns) × ((u.third ≤ u.columns) × (u.fourth ≤ u.columns)))

abbrev pub Inside : Turn → ℕ → Type 0
Inside u key = u.columns * key + u.columns ≤ 120

-- the columns of t from n on are its first n again
pub record Doubled (n : ℕ) (t : List ℕ) : Type 0 where
  pub again : (k : ℕ) → k < n → get_or t (k + n) 0 ≡ get_or t k 0

-- t has the columns s, and has them again from n on
pub record Twice (n : ℕ) (s t : List ℕ) : Type 0 where
  pub here : (k : ℕ) → k < n → get_or t k 0 ≡ get_or s k 0
  pub there : (k : ℕ) → k < n → get_or t (k + n) 0 ≡ get_or s k 0
