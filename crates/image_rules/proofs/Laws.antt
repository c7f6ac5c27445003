-- The number of a block that passes 16, 7, 8 and 9 is below its count. Assumes nothing.
use mathlib.Core.Path.{◌≡◌, refl}
use mathlib.Core.Bool.{Bool, true, false, ◌&&◌, not}
use Prim.Native.Nat.{◌<◌}
use native.Mathlib.Omega.{arith}
use borrow.Author.Tests.{ltb-true, ltb-false, leb-false, eqb-true, not-false}
use lib.Dec.{eqb, ltb, leb}
use Rattle.octets.proofs.Both.{and_true}
use Rattle.image_limits.specs.Fits.{count_fits_of}
use Rattle.image_progress.specs.Progress.{closed}
use Rattle.image_layout.specs.declared.Head.{Head}
use Rattle.image_progress.specs.declared.Progress.{Progress}

-- where neither 16 nor 7, 8 or 9 holds, the number is below the count: it is 0, or the one expected, which is below the reader's count
pub number_below : (s : Progress) (h : Head) → closed s ≡ false → count_fits_of h.count ≡ true → h.number ≡ s.next
    → (ltb 0 s.next && not (eqb h.count s.count)) ≡ false → h.number < h.count
unfolding closed count_fits_of
number_below s h e16 e7 e8 e9 = go (ltb 0 s.next) refl e16 e9
  where
    go : (t : Bool) → ltb 0 s.next ≡ t → (t && leb s.count s.next) ≡ false → (t && not (eqb h.count s.count)) ≡ false → h.number < h.count
    go true e f g = omega (arith, e8, leb-false s.count s.next f, eqb-true h.count s.count (not-false (eqb h.count s.count) g))
    go false e f g = omega (arith, e8, ltb-false 0 s.next e, ltb-true 0 h.count (and_true (ltb 0 h.count) (leb h.count 65535) e7).0)
