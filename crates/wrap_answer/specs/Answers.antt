-- The lengths that request E2 (docs/REQUIREMENTS.md) allows, and the answers in their order (docs/REFUSALS.md). Assumes nothing: these are definitions.
use Rattle.std.specs.Prelude.{ℕ, ◌%◌, Bool, ◌&&◌, cond, eqb, ltb, leb}
use Rattle.wrap_answer.specs.declared.WrapAnswer.{WrapAnswer}
use Rattle.wrap_answer.specs.declared.WrapAnswer.TheVariants.{WrapDone, WrapKey, WrapSize, WrapRoom, WrongInitial}

-- the number of each answer
abbrev pub wrap_number : WrapAnswer → ℕ
wrap_number WrapDone = 0
wrap_number WrapKey = 1
wrap_number WrapRoom = 4
wrap_number WrapSize = 18
wrap_number WrongInitial = 19

-- wrapped data is 24 to 72 bytes and a multiple of 8: that is A and two to eight registers
abbrev pub wrapped_size_fits : ℕ → Bool
wrapped_size_fits n = leb 24 n && (leb n 72 && eqb (n % 8) 0)

-- key data is 16 to 64 bytes and a multiple of 8: as long as wrapped data without 8 bytes
abbrev pub size_fits_of : ℕ → Bool
size_fits_of n = leb 16 n && (leb n 64 && eqb (n % 8) 0)

-- 1, 18, 4, in that order, of the key's number, whether the length is in the rule, the length of the result and that of the output
unfoldable pub wrap_ruled : (key : ℕ) (size : Bool) (result out : ℕ) → WrapAnswer → WrapAnswer
wrap_ruled key size result out answer =
    cond (eqb key 0) (cond size (cond (ltb out result) WrapRoom answer) WrapSize) WrapKey
