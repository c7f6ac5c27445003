-- What a call of a mode answers, writes and hands on. Assumes nothing: these are definitions.
use Rattle.std.specs.Prelude.{cond, ℕ, List, length, replicate}
use Rattle.octets.specs.Octets.{over}
use Rattle.aes_sbox.specs.Sbox.{s_box}
use Rattle.aes_schedule.specs.Schedule.{schedule_of, key_number}
use Rattle.aes_spec.specs.Cipher.{aes_of}
use Rattle.modes_spec.specs.Modes.{iv_length, chains, moded, handed_on}
use Rattle.modes_spec.specs.declared.Operation.{Operation}
use Rattle.modes_answer.specs.Answers.{left_over, judged}
use Rattle.modes_answer.specs.declared.ModeAnswer.{ModeAnswer}
use Rattle.modes_answer.specs.declared.ModeAnswer.TheVariants.{Done, BadKey, BadIv, NotPieces, OutputShort}
use Rattle.modes.specs.declared.Applied.{Applied}

-- the answer of a call, from its key and the lengths of the rest
unfoldable pub mode_answer : Operation → (key iv inp out : List ℕ) → ModeAnswer
mode_answer o key iv inp out =
    judged (key_number (schedule_of s_box key).answer) (iv_length 16 o) (length iv) (left_over o (length inp)) (length inp) (length out)

-- the output afterwards: what the operation makes of the input, and the rest as it was; after a refusal, as it was
abbrev pub mode_output : ModeAnswer → Operation → (key iv inp out : List ℕ) → List ℕ
mode_output Done o key iv inp out = over (moded 16 (aes_of key) o iv inp) out
mode_output BadKey o key iv inp out = out
mode_output BadIv o key iv inp out = out
mode_output NotPieces o key iv inp out = out
mode_output OutputShort o key iv inp out = out

-- the chaining value beside an answer: what the operation hands on; zeros in ECB, which has none, and after a refusal
abbrev pub mode_next : ModeAnswer → Operation → (key iv inp : List ℕ) → List ℕ
mode_next Done o key iv inp = cond (chains o) (handed_on 16 (aes_of key) o iv inp) (replicate 16 0)
mode_next BadKey o key iv inp = replicate 16 0
mode_next BadIv o key iv inp = replicate 16 0
mode_next NotPieces o key iv inp = replicate 16 0
mode_next OutputShort o key iv inp = replicate 16 0

abbrev pub answer_with : ModeAnswer → Operation → (key iv inp : List ℕ) → Applied
answer_with r o key iv inp = record { answer = r; next = mode_next r o key iv inp }
