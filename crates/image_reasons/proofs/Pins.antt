-- The numbers of the reasons, and the values that they hold, as docs/REFUSALS.md has them. Assumes nothing.
use mathlib.Core.Path.{◌≡◌, refl}
use mathlib.Core.List.{[], ◌∷◌}
use Prim.Native.Nat.{ℕ}
use Rattle.image_reasons.specs.Reasons.{reason_number, reason_value, verdict_number}
use Rattle.image_reasons.specs.declared.Reason.{Reason}
use Rattle.image_reasons.specs.declared.Reason.TheVariants.{AfterLast, CheckWrong, Count, Number, OtherCount, OtherRelease, Length, Reserved, FillNotZero}
use Rattle.image_reasons.specs.declared.Verdict.TheVariants.{Accepted, Refused}

pub reason_numbers : (v : ℕ)
    → (reason_number (Count v) ≡ 7) × (reason_number (Number v) ≡ 8) × (reason_number (OtherCount v) ≡ 9) × (reason_number (OtherRelease v) ≡ 10)
    × (reason_number (Length v) ≡ 12) × (reason_number (Reserved v) ≡ 13) × (reason_number CheckWrong ≡ 14) × (reason_number FillNotZero ≡ 15)
    × (reason_number AfterLast ≡ 16)
reason_numbers v = (refl, refl, refl, refl, refl, refl, refl, refl, refl)

-- 7, 8, 9, 10, 12 and 13 hold the value found, 14, 15 and 16 none
pub reason_values : (v : ℕ)
    → (reason_value (Count v) ≡ v ∷ []) × (reason_value (Number v) ≡ v ∷ []) × (reason_value (OtherCount v) ≡ v ∷ []) × (reason_value (OtherRelease v) ≡ v ∷ [])
    × (reason_value (Length v) ≡ v ∷ []) × (reason_value (Reserved v) ≡ v ∷ []) × (reason_value CheckWrong ≡ []) × (reason_value FillNotZero ≡ [])
    × (reason_value AfterLast ≡ [])
reason_values v = (refl, refl, refl, refl, refl, refl, refl, refl, refl)

pub verdict_numbers : (verdict_number Accepted ≡ 0) × ((r : Reason) → verdict_number (Refused r) ≡ reason_number r)
verdict_numbers = (refl, λ r. refl)
