-- The numbers of CCM's answers, as docs/REFUSALS.md has them. Assumes nothing.
use mathlib.Core.Path.{◌≡◌, refl}
use Rattle.ccm_answer.specs.Answers.{ccm_number}
use Rattle.ccm_answer.specs.declared.CcmAnswer.TheVariants.{CcmDone, CcmKey, CcmSize, CcmRoom, WrongTag}

pub ccm_numbers : (ccm_number CcmDone ≡ 0) × (ccm_number CcmKey ≡ 1) × (ccm_number CcmRoom ≡ 4) × (ccm_number CcmSize ≡ 23) × (ccm_number WrongTag ≡ 24)
ccm_numbers = (refl, refl, refl, refl, refl)
