-- The numbers of the key wrap's answers, as docs/REFUSALS.md has them. Assumes nothing.
use mathlib.Core.Path.{◌≡◌, refl}
use Rattle.wrap_answer.specs.Answers.{wrap_number}
use Rattle.wrap_answer.specs.declared.WrapAnswer.TheVariants.{WrapDone, WrapKey, WrapSize, WrapRoom, WrongInitial}

pub wrap_numbers : (wrap_number WrapDone ≡ 0) × (wrap_number WrapKey ≡ 1) × (wrap_number WrapRoom ≡ 4) × (wrap_number WrapSize ≡ 18) × (wrap_number WrongInitial ≡ 19)
wrap_numbers = (refl, refl, refl, refl, refl)
