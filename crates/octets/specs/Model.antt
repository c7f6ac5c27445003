-- What a `match` with an arm for each of 256 numbers looks up. Nobody has to trust these: laws say what they amount to.
-- Assumes nothing: these are definitions.
use Rattle.std.specs.Prelude.{cond, ℕ, ◌+◌, ◌-◌, ◌*◌, min, ltb}

-- the place of a number among the arms from 256 on: what is none of them goes to the last
abbrev pub arm : ℕ → ℕ
arm x = cond (ltb x 256) 255 (min (x - 256) 255)

-- a word of four bytes twice, in one number of eight
abbrev pub twice : ℕ → ℕ
twice x = x * 4294967296 + x
