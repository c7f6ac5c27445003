-- A run through the whole pieces that input and output both have. Assumes nothing: these are definitions.
use Rattle.std.specs.Prelude.{ℕ, ◌/◌, min, List, length}
use Rattle.modes_spec.specs.Pieces.{Machine, ran}

-- what a piece after them is chained to, and the output afterwards
abbrev pub ran_whole : Machine → (iv inp out : List ℕ) → List ℕ × List ℕ
ran_whole m iv inp out = ran 16 m iv (min (length inp) (length out) / 16) inp out
