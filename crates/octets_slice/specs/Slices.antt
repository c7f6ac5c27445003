-- Lists put into lists. Assumes nothing: these are definitions.
use Rattle.std.specs.Prelude.{cond, ℕ, ◌+◌, List, leb, length}
use Rattle.std.proofs.Math.Seq.{paste}

-- the list w with the whole of s in it from a place on; w as it is if s does not fit
unfoldable pub copied : List ℕ → ℕ → List ℕ → List ℕ
copied s at w = cond (leb (at + length s) (length w)) (paste w at s (length s)) w
