-- The answers of the writer in their order, and the check that a block is sealed on. Assumes nothing: these are definitions.
use Rattle.std.specs.Prelude.{ℕ, Bool, not, cond, List, eqb, ltb}
use Rattle.image_layout.specs.Layout.{block_size}
use Rattle.image_limits.specs.Marks.{is_edition}
use Rattle.image_limits.specs.Fits.{count_fits_of, length_fits}
use Rattle.image_spec.specs.Edition.{no_check}
use Rattle.image_writer_answer.specs.declared.WriteAnswer.{WriteAnswer}
use Rattle.image_writer_answer.specs.declared.WriteAnswer.TheVariants.{Written, WriteKey, WriteCount, WriteNumber, WriteLength, WriteEdition, WriteRoom}
use Rattle.image_writer_answer.specs.declared.Numbers.{Numbers}

-- the number of each answer (docs/REFUSALS.md)
abbrev pub write_number : WriteAnswer → ℕ
write_number Written = 0
write_number WriteKey = 1
write_number WriteRoom = 4
write_number WriteCount = 7
write_number WriteNumber = 8
write_number WriteLength = 12
write_number WriteEdition = 13

-- 1, 7, 8, 12, 13, 4, in that order
unfoldable pub write_ruled : (keys : Bool) → Numbers → (len room : ℕ) → WriteAnswer
write_ruled keys n len room =
    cond (not keys) WriteKey
    (cond (not (count_fits_of n.count)) WriteCount
    (cond (not (ltb n.number n.count)) WriteNumber
    (cond (not (length_fits n.number n.count len)) WriteLength
    (cond (not (is_edition n.edition)) WriteEdition
    (cond (ltb room block_size) WriteRoom Written)))))

-- the check that a block is sealed on: before number 0 there is none
unfoldable pub last_for : (number : ℕ) (previous : List ℕ) → List ℕ
last_for number previous = cond (eqb number 0) no_check previous
