-- The numbers of the answers for a key, as docs/REFUSALS.md has them. Assumes nothing.
use mathlib.Core.Path.{◌≡◌, refl}
use Rattle.aes_schedule.specs.Schedule.{key_number}
use Rattle.aes_schedule.specs.declared.KeyAnswer.TheVariants.{Taken, KeyLength}

pub key_numbers : (key_number Taken ≡ 0) × (key_number KeyLength ≡ 1)
key_numbers = (refl, refl)
