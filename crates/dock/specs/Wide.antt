-- The answers of the modes over wide blocks as C has them: numbers in place of enums. Assumes nothing: these are definitions.
use Rattle.std.specs.Prelude.{ℕ, List}
use Rattle.modes_answer.specs.Answers.{mode_number}
use Rattle.rijndael_spec.specs.declared.Width.{Width}
use Rattle.rijndael_spec.specs.declared.Width.TheVariants.{Six, Eight}
use Rattle.rijndael_spec.specs.declared.WideOperation.{WideOperation}
use Rattle.rijndael.specs.Calls.{wide_answer, wide_output, answer24, answer32}
use Rattle.rijndael.specs.declared.Applied24.{Applied24}
use Rattle.rijndael.specs.declared.Applied32.{Applied32}
use Rattle.dock.specs.declared.Chain24Answer.{Chain24Answer}
use Rattle.dock.specs.declared.Chain32Answer.{Chain32Answer}

unfoldable pub wide24_applied : WideOperation → (key iv inp out : List ℕ) → Applied24
wide24_applied o key iv inp out = answer24 (wide_answer Six o key iv inp out) o key iv inp

abbrev pub chain24_answer : Applied24 → Chain24Answer
chain24_answer a = record { number = mode_number a.answer; next = a.next }

unfoldable pub wide32_applied : WideOperation → (key iv inp out : List ℕ) → Applied32
wide32_applied o key iv inp out = answer32 (wide_answer Eight o key iv inp out) o key iv inp

abbrev pub chain32_answer : Applied32 → Chain32Answer
chain32_answer a = record { number = mode_number a.answer; next = a.next }

-- the output after a call
unfoldable pub after_wide : Width → WideOperation → (key iv inp out : List ℕ) → List ℕ
after_wide v o key iv inp out = wide_output (wide_answer v o key iv inp out) v o key iv inp out
