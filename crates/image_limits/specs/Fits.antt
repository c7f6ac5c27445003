-- What the count and the length of a header must be (docs/REFUSALS.md). Assumes nothing: these are definitions.
use Rattle.std.specs.Prelude.{ℕ, ◌+◌, Bool, ◌&&◌, ◌||◌, cond, eqb, ltb, leb}
use Rattle.image_layout.specs.Layout.{body_size}

-- a count is 1 to 65,535
unfoldable pub count_fits_of : ℕ → Bool
count_fits_of n = ltb 0 n && leb n 65535

-- the last block holds 1 to 480 bytes, or 0 to 480 when it is the only one; every other block holds 480
unfoldable pub length_fits : (number count len : ℕ) → Bool
length_fits number count len =
    cond (eqb (number + 1) count) (leb len body_size && (ltb 0 len || eqb count 1)) (eqb len body_size)
