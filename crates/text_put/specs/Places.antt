-- The place after a text that is put into lent memory. Assumes nothing: these are definitions.
use Rattle.std.specs.Prelude.{ℕ, ◌+◌, Bool, cond, List, length, leb}

-- whether s fits into out at a place
unfoldable pub fits : List ℕ → List ℕ → ℕ → Bool
fits s out at = leb (at + length s) (length out)

-- the place after s, or the same place if s does not fit
unfoldable pub place_after : List ℕ → List ℕ → ℕ → ℕ
place_after s out at = cond (fits s out at) (at + length s) at
