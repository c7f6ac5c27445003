-- A payload cut into blocks of 480 bytes. Assumes nothing: these are definitions.
use Rattle.std.specs.Prelude.{cond, ℕ, zero, suc, ◌+◌, ◌/◌, max, List, [], ◌++◌, Option, None, Some, ltb}
use Rattle.modes_spec.specs.Pieces.{piece}

-- the most bytes that an image can hold
abbrev pub most : ℕ
most = 31456800

-- how many blocks that many bytes have: the last one may be short, and there is one at least
unfoldable pub blocks_of : ℕ → ℕ
blocks_of n = max 1 ((n + 479) / 480)

-- none if they are more than an image can hold
unfoldable pub count_of : ℕ → Option ℕ
count_of n = cond (ltb most n) None (Some (blocks_of n))

-- the parts of the first n blocks, joined: the bytes of block i are piece i of 480
unfoldable pub joined : List ℕ → ℕ → List ℕ
joined p zero = []
joined p (suc n) = joined p n ++ piece 480 p n
