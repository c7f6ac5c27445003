-- The editions by their numbers, and the value in bytes 14 and 15 that marks each (docs/IMAGE.md). Assumes nothing: these are definitions.
use Rattle.std.specs.Prelude.{ℕ, Bool, ◌||◌, cond, eqb}

-- the editions are 1 and 2
unfoldable pub is_edition : ℕ → Bool
is_edition n = eqb n 1 || eqb n 2

-- the edition that a value in bytes 14 and 15 selects: 2 selects edition 2, every other value edition 1
unfoldable pub selected : ℕ → ℕ
selected v = cond (eqb v 2) 2 1

-- what marks a block of an edition: 0 edition 1, 2 edition 2; for a number that is not an edition, a value that two bytes cannot hold
unfoldable pub mark_of : ℕ → ℕ
mark_of n = cond (eqb n 1) 0 (cond (eqb n 2) 2 65536)

-- how many bytes of the check of the block before are covered by the check of a block
unfoldable pub tail_size : ℕ → ℕ
tail_size n = cond (eqb n 2) 16 0
