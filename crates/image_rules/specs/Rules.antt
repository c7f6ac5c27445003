-- What a header must say, and the order in which it is asked (docs/REFUSALS.md). Assumes nothing: these are definitions.
use Rattle.std.specs.Prelude.{ℕ, Bool, ◌&&◌, not, List, [], ◌∷◌, eqb, ltb}
use Rattle.image_limits.specs.Fits.{count_fits_of, length_fits}
use Rattle.image_layout.specs.declared.Head.{Head}
use Rattle.image_progress.specs.declared.Progress.{Progress}
use Rattle.image_reasons.specs.declared.Reason.{Reason}
use Rattle.image_reasons.specs.declared.Reason.TheVariants.{Count, Number, OtherCount, OtherRelease, Length, Reserved}

-- 7, 8, 9, 10, 12, 13 of a block's own header, in that order; an edition's mark is what its reserved number is to be, and from the first
-- accepted block on, count and release are the reader's
unfoldable pub head_tests : (mark : ℕ) → Progress → Head → List (Bool × Reason)
head_tests mark s h =
    (not (count_fits_of h.count), Count h.count)
    ∷ (not (eqb h.number s.next), Number h.number)
    ∷ (ltb 0 s.next && not (eqb h.count s.count), OtherCount h.count)
    ∷ (ltb 0 s.next && not (eqb h.release s.release), OtherRelease h.release)
    ∷ (not (length_fits h.number h.count h.len), Length h.len)
    ∷ (not (eqb h.reserved mark), Reserved h.reserved)
    ∷ []
