-- The reasons, and tests asked in order (docs/REFUSALS.md). Assumes nothing: these are definitions.
use Rattle.std.specs.Prelude.{ℕ, Bool, cond, List, [], ◌∷◌, Option, None, Some}
use Rattle.image_reasons.specs.declared.Reason.{Reason}
use Rattle.image_reasons.specs.declared.Reason.TheVariants.{AfterLast, CheckWrong, Count, Number, OtherCount, OtherRelease, Length, Reserved, FillNotZero}
use Rattle.image_reasons.specs.declared.Verdict.{Verdict}
use Rattle.image_reasons.specs.declared.Verdict.TheVariants.{Accepted, Refused}

-- the number of each reason (docs/REFUSALS.md)
abbrev pub reason_number : Reason → ℕ
reason_number (Count v) = 7
reason_number (Number v) = 8
reason_number (OtherCount v) = 9
reason_number (OtherRelease v) = 10
reason_number (Length v) = 12
reason_number (Reserved v) = 13
reason_number CheckWrong = 14
reason_number FillNotZero = 15
reason_number AfterLast = 16

-- and the value that it holds
abbrev pub reason_value : Reason → List ℕ
reason_value (Count v) = v ∷ []
reason_value (Number v) = v ∷ []
reason_value (OtherCount v) = v ∷ []
reason_value (OtherRelease v) = v ∷ []
reason_value (Length v) = v ∷ []
reason_value (Reserved v) = v ∷ []
reason_value CheckWrong = []
reason_value FillNotZero = []
reason_value AfterLast = []

-- 0 if a block is accepted
abbrev pub verdict_number : Verdict → ℕ
verdict_number Accepted = 0
verdict_number (Refused r) = reason_number r

-- a value as the code has it
abbrev pub value_of : List ℕ → Option ℕ
value_of [] = None
value_of (v ∷ vs) = Some v

-- tests, each with the reason that it gives if it holds: the first that holds refuses
unfoldable pub first_of : List (Bool × Reason) → Verdict
first_of [] = Accepted
first_of (t ∷ ts) = cond t.0 (Refused t.1) (first_of ts)
