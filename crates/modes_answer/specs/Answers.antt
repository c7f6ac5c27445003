-- What a call of a mode is answered with. Assumes nothing: these are definitions.
use Rattle.std.specs.Prelude.{cond, ℕ, ◌%◌, eqb, ltb}
use Rattle.modes_spec.specs.Modes.{any_length}
use Rattle.modes_spec.specs.declared.Operation.{Operation}
use Rattle.modes_answer.specs.declared.ModeAnswer.{ModeAnswer}
use Rattle.modes_answer.specs.declared.ModeAnswer.TheVariants.{Done, BadKey, BadIv, NotPieces, OutputShort}

-- the number of each answer (docs/REFUSALS.md)
abbrev pub mode_number : ModeAnswer → ℕ
mode_number Done = 0
mode_number BadKey = 1
mode_number BadIv = 2
mode_number NotPieces = 3
mode_number OutputShort = 4

-- the bytes past whole pieces that an operation does not take: none where any length goes
unfoldable pub left_over : Operation → ℕ → ℕ
left_over o n = cond (any_length o) 0 (n % 16)

-- 1, 2, 3, 4, in that order, of the key's number, the IV's length and the one wanted, the bytes left over, and the lengths of input and output
unfoldable pub judged : (key wanted iv left inp out : ℕ) → ModeAnswer
judged key wanted iv left inp out =
    cond (eqb key 0)
    (cond (eqb iv wanted)
    (cond (eqb left 0)
    (cond (ltb out inp) OutputShort Done) NotPieces) BadIv) BadKey
