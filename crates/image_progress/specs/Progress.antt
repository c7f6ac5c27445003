-- What follows from how far a reader has come (docs/IMAGE.md). Assumes nothing: these are definitions.
use Rattle.std.specs.Prelude.{ℕ, Bool, ◌&&◌, cond, eqb, ltb, leb, replicate}
use Rattle.image_limits.specs.Marks.{selected, mark_of}
use Rattle.image_progress.specs.declared.Progress.{Progress}
use Rattle.image_progress.specs.declared.Completion.{Completion}
use Rattle.image_progress.specs.declared.Completion.TheVariants.{Complete, NotComplete}

-- before the first block: nothing is fixed, and the check of the block before is zeros
abbrev pub start : Progress
start = record { next = 0; count = 0; release = 0; edition = 0; last = replicate 16 0 }

-- 0 if an image is complete, and 17 if not (docs/REFUSALS.md)
abbrev pub completion_number : Completion → ℕ
completion_number Complete = 0
completion_number NotComplete = 17

-- the last block has been accepted: at least one has, and the number expected is the count
unfoldable pub done : Progress → Bool
done s = ltb 0 s.next && eqb s.next s.count

-- no block may follow: at least one has been accepted, and the number expected is not below the count
unfoldable pub closed : Progress → Bool
closed s = ltb 0 s.next && leb s.count s.next

-- the mark that a reader of both editions asks for: of the edition that it has fixed, and before that of the one selected
unfoldable pub mark_for : Progress → ℕ → ℕ
mark_for s v = mark_of (cond (ltb 0 s.next) s.edition (selected v))
