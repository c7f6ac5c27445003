-- The definitions of the calls: the check under a key, whole and running. Assumes nothing: these are definitions.
use Rattle.std.specs.Prelude.{ℕ, List, [], ◌∷◌}
use Rattle.aes_sbox.specs.Sbox.{s_box}
use Rattle.aes_schedule.specs.Schedule.{schedule_of}
use Rattle.aes_schedule.specs.declared.Expanded.{Expanded}
use Rattle.aes_schedule.specs.declared.KeySchedule.{KeySchedule}
use Rattle.aes_spec.specs.Cipher.{standard}
use Rattle.cmac_spec.specs.Cmac.{cmac}
use Rattle.cmac_run.specs.Running.{begun, fed, closed}
use Rattle.cmac_run.specs.declared.Run.{Run}
use Rattle.cmac.specs.declared.Record.{Record}
use Rattle.cmac.specs.declared.Checked.{Checked}
use Rattle.cmac.specs.declared.Started.{Started}

-- under the schedule of a key: a refused key has 0 rounds, hence sixteen zeros
abbrev pub checked_by : Expanded → List ℕ → Checked
checked_by e message = record { answer = e.answer; check = cmac (standard e.schedule.words e.schedule.rounds) message }

unfoldable pub check_of : List ℕ → List ℕ → Checked
check_of key message = checked_by (schedule_of s_box key) message

-- the record of a schedule and of what was fed under it
abbrev pub record_of : KeySchedule → Run → Record
record_of s x = record { schedule = s; run = x }

-- a refused key has a schedule of zeros, hence the zero record
abbrev pub started_by : Expanded → Started
started_by e = record { answer = e.answer; «record» = record_of e.schedule begun }

unfoldable pub start_of : List ℕ → Started
start_of key = started_by (schedule_of s_box key)

unfoldable pub fed_with : Record → List ℕ → Record
fed_with r part = record_of r.schedule (fed (standard r.schedule.words r.schedule.rounds) r.run part)

unfoldable pub close_of : Record → List ℕ
close_of r = closed (standard r.schedule.words r.schedule.rounds) r.run

-- fed part after part
abbrev pub fed_parts : Record → List (List ℕ) → Record
fed_parts r [] = r
fed_parts r (part ∷ parts) = fed_parts (fed_with r part) parts
