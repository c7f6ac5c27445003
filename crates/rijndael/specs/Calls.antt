-- What a call over wide blocks answers, writes and hands on. Assumes nothing: these are definitions.
use Rattle.std.specs.Prelude.{cond, ℕ, ◌%◌, List, length, replicate}
use Rattle.octets.specs.Octets.{over}
use Rattle.modes_spec.specs.Modes.{iv_length, chains, moded, handed_on}
use Rattle.modes_answer.specs.Answers.{judged}
use Rattle.modes_answer.specs.declared.ModeAnswer.{ModeAnswer}
use Rattle.modes_answer.specs.declared.ModeAnswer.TheVariants.{Done, BadKey, BadIv, NotPieces, OutputShort}
use Rattle.rijndael_spec.specs.Rijndael.{shape_of, block_size, rijndael, takes_key}
use Rattle.rijndael_spec.specs.Operations.{mode_of}
use Rattle.rijndael_spec.specs.declared.Width.{Width}
use Rattle.rijndael_spec.specs.declared.Width.TheVariants.{Six, Eight}
use Rattle.rijndael_spec.specs.declared.WideOperation.{WideOperation}
use Rattle.rijndael.specs.declared.Applied24.{Applied24}
use Rattle.rijndael.specs.declared.Applied32.{Applied32}

-- the answer of a call, 1, 2, 3, 4 in that order, where 2 and 3 go by the block's own size (document 02, E6)
unfoldable pub wide_answer : Width → WideOperation → (key iv inp out : List ℕ) → ModeAnswer
wide_answer v o key iv inp out =
    judged (cond (takes_key (length key)) 0 1) (iv_length (block_size v) (mode_of o)) (length iv) (length inp % block_size v) (length inp) (length out)

-- the output afterwards: what the operation makes of the input, and the rest as it was; after a refusal, as it was
abbrev pub wide_output : ModeAnswer → Width → WideOperation → (key iv inp out : List ℕ) → List ℕ
wide_output Done v o key iv inp out = over (moded (block_size v) (rijndael (shape_of v) key) (mode_of o) iv inp) out
wide_output BadKey v o key iv inp out = out
wide_output BadIv v o key iv inp out = out
wide_output NotPieces v o key iv inp out = out
wide_output OutputShort v o key iv inp out = out

-- the chaining value beside an answer: what CBC hands on; zeros in ECB, which has none, and after a refusal
abbrev pub wide_next : ModeAnswer → Width → WideOperation → (key iv inp : List ℕ) → List ℕ
wide_next Done v o key iv inp = cond (chains (mode_of o)) (handed_on (block_size v) (rijndael (shape_of v) key) (mode_of o) iv inp) (replicate (block_size v) 0)
wide_next BadKey v o key iv inp = replicate (block_size v) 0
wide_next BadIv v o key iv inp = replicate (block_size v) 0
wide_next NotPieces v o key iv inp = replicate (block_size v) 0
wide_next OutputShort v o key iv inp = replicate (block_size v) 0

-- an answer with its chaining value, by the width
abbrev pub answer24 : ModeAnswer → WideOperation → (key iv inp : List ℕ) → Applied24
answer24 r o key iv inp = record { answer = r; next = wide_next r Six o key iv inp }

abbrev pub answer32 : ModeAnswer → WideOperation → (key iv inp : List ℕ) → Applied32
answer32 r o key iv inp = record { answer = r; next = wide_next r Eight o key iv inp }
