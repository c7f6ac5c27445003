-- The numbers of the writer's answers, as docs/REFUSALS.md has them. Assumes nothing.
use mathlib.Core.Path.{◌≡◌, refl}
use Rattle.image_writer_answer.specs.Answers.{write_number}
use Rattle.image_writer_answer.specs.declared.WriteAnswer.TheVariants.{Written, WriteKey, WriteCount, WriteNumber, WriteLength, WriteEdition, WriteRoom}

pub write_numbers : (write_number Written ≡ 0) × (write_number WriteKey ≡ 1) × (write_number WriteRoom ≡ 4) × (write_number WriteCount ≡ 7)
    × (write_number WriteNumber ≡ 8) × (write_number WriteLength ≡ 12) × (write_number WriteEdition ≡ 13)
write_numbers = (refl, refl, refl, refl, refl, refl, refl)
