-- Sixteen bytes of a list from a place on. Assumes nothing: these are definitions.
use Rattle.std.specs.Prelude.{ℕ, ◌+◌, Bool, cond, List, leb, length, take, drop, replicate}

-- a list of this length has 16 bytes from the place on
abbrev pub fits : ℕ → ℕ → Bool
fits n at = leb (at + 16) n

-- those bytes; zeros if the list ends before
unfoldable pub block_at : List ℕ → ℕ → List ℕ
block_at s at = cond (fits (length s) at) (take 16 (drop at s)) (replicate 16 0)
