-- The numbers of the modes' answers, as docs/REFUSALS.md has them. Assumes nothing.
use mathlib.Core.Path.{◌≡◌, refl}
use Rattle.modes_answer.specs.Answers.{mode_number}
use Rattle.modes_answer.specs.declared.ModeAnswer.TheVariants.{Done, BadKey, BadIv, NotPieces, OutputShort}

pub mode_numbers : (mode_number Done ≡ 0) × (mode_number BadKey ≡ 1) × (mode_number BadIv ≡ 2) × (mode_number NotPieces ≡ 3) × (mode_number OutputShort ≡ 4)
mode_numbers = (refl, refl, refl, refl, refl)
