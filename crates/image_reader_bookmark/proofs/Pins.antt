-- The numbers of the answers (docs/REFUSALS.md). Assumes nothing.
use mathlib.Core.Path.{◌≡◌, refl}
use Rattle.image_reader_bookmark.specs.Calls.{resume_number}
use Rattle.image_reader_bookmark.specs.declared.ResumeAnswer.TheVariants.{Resumed, KeyLength, NotABookmark}

pub resume_numbers : (resume_number Resumed ≡ 0) × (resume_number KeyLength ≡ 1) × (resume_number NotABookmark ≡ 25)
resume_numbers = (refl, refl, refl)
