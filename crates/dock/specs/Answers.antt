-- The answers as C has them: numbers in place of enums. Assumes nothing: these are definitions.
use Rattle.std.specs.Prelude.{ℕ, List}
use Rattle.aes_schedule.specs.Schedule.{key_number}
use Rattle.aes_schedule.specs.declared.Expanded.{Expanded}
use Rattle.aes.specs.declared.Ciphered.{Ciphered}
use Rattle.modes_answer.specs.Answers.{mode_number}
use Rattle.modes.specs.Calls.{mode_answer, mode_output, answer_with}
use Rattle.modes.specs.declared.Applied.{Applied}
use Rattle.modes_spec.specs.declared.Operation.{Operation}
use Rattle.cmac.specs.declared.Checked.{Checked}
use Rattle.cmac.specs.declared.Started.{Started}
use Rattle.image_writer_answer.specs.declared.Numbers.{Numbers}
use Rattle.image_reader.specs.declared.ReadStarted.{ReadStarted}
use Rattle.image_reader_bookmark.specs.Calls.{resume_number}
use Rattle.image_reader_bookmark.specs.declared.ReadResumed.{ReadResumed}
use Rattle.dock.specs.declared.ScheduleAnswer.{ScheduleAnswer}
use Rattle.dock.specs.declared.BlockAnswer.{BlockAnswer}
use Rattle.dock.specs.declared.ChainAnswer.{ChainAnswer}
use Rattle.dock.specs.declared.CheckAnswer.{CheckAnswer}
use Rattle.dock.specs.declared.StartAnswer.{StartAnswer}
use Rattle.dock.specs.declared.ReadStartAnswer.{ReadStartAnswer}
use Rattle.dock.specs.declared.ResumeAnswer.{ResumeAnswer}

-- ---- key schedule, block, modes, check

abbrev pub schedule_answer : Expanded → ScheduleAnswer
schedule_answer e = record { number = key_number e.answer; words = e.schedule.words; rounds = e.schedule.rounds }

abbrev pub block_answer : Ciphered → BlockAnswer
block_answer c = record { number = key_number c.answer; block = c.block }

-- the answer of a call of a mode, and the output after it
unfoldable pub mode_applied : Operation → (key iv inp out : List ℕ) → Applied
mode_applied o key iv inp out = answer_with (mode_answer o key iv inp out) o key iv inp

abbrev pub chain_answer : Applied → ChainAnswer
chain_answer a = record { number = mode_number a.answer; next = a.next }

unfoldable pub after_mode : Operation → (key iv inp out : List ℕ) → List ℕ
after_mode o key iv inp out = mode_output (mode_answer o key iv inp out) o key iv inp out

abbrev pub check_answer : Checked → CheckAnswer
check_answer c = record { number = key_number c.answer; check = c.check }

abbrev pub start_answer : Started → StartAnswer
start_answer s = record { number = key_number s.answer; «record» = s.«record» }

-- closing refuses nothing
abbrev pub close_answer : List ℕ → CheckAnswer
close_answer c = record { number = 0; check = c }

-- ---- a block to be written

abbrev pub numbers : (number count release edition : ℕ) → Numbers
numbers number count release edition = record { number = number; count = count; release = release; edition = edition }

-- ---- a reader

abbrev pub read_start_answer : ReadStarted → ReadStartAnswer
read_start_answer s = record { number = key_number s.answer; reader = s.reader }

abbrev pub resume_answer : ReadResumed → ResumeAnswer
resume_answer s = record { number = resume_number s.answer; bytes = s.bytes; reader = s.reader }
