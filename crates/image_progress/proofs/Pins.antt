-- The numbers of the answers about completion, as docs/REFUSALS.md has them. Assumes nothing.
use mathlib.Core.Path.{◌≡◌, refl}
use Rattle.image_progress.specs.Progress.{completion_number}
use Rattle.image_progress.specs.declared.Completion.TheVariants.{Complete, NotComplete}

pub completion_numbers : (completion_number Complete ≡ 0) × (completion_number NotComplete ≡ 17)
completion_numbers = (refl, refl)
