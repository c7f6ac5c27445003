-- The calls: starting a reader, a turn, and completion. Assumes nothing: these are definitions.
use Rattle.std.specs.Prelude.{cond, ℕ, List}
use Rattle.aes_sbox.specs.Sbox.{s_box}
use Rattle.aes_schedule.specs.Schedule.{schedule_of}
use Rattle.aes_schedule.specs.declared.Expanded.{Expanded}
use Rattle.aes_schedule.specs.declared.KeyAnswer.{KeyAnswer}
use Rattle.aes_schedule.specs.declared.KeyAnswer.TheVariants.{Taken, KeyLength}
use Rattle.image_progress.specs.Progress.{done}
use Rattle.image_spec.specs.Judge.{Keys, BlockReader, of_both, fresh}
use Rattle.image_spec.specs.KeyPair.{both_taken, pair_keys, pair_of, no_keys}
use Rattle.image_spec.specs.declared.KeyPair.{KeyPair}
use Rattle.image_reader_tally.specs.declared.BlocksRead.{BlocksRead}
use Rattle.image_reader_turn.specs.Turn.{turn_under}
use Rattle.image_reader.specs.declared.Reader.{Reader}
use Rattle.image_reader.specs.declared.Turn.{Turn}
use Rattle.image_reader.specs.declared.ReadStarted.{ReadStarted}
use Rattle.image_progress.specs.declared.Completion.{Completion}
use Rattle.image_progress.specs.declared.Completion.TheVariants.{Complete, NotComplete}

-- ---- the start

abbrev pub start_with : KeyAnswer → KeyPair → ReadStarted
start_with answer keys = record { answer = answer; reader = record { keys = keys; progress = fresh } }

-- zeros where a key was refused
abbrev pub started_by : (ekey ckey : Expanded) → ReadStarted
started_by ekey ckey =
    cond (both_taken ekey ckey) (start_with Taken (pair_of ekey ckey)) (start_with KeyLength no_keys)

unfoldable pub start_of : (ekey ckey : List ℕ) → ReadStarted
start_of ekey ckey = started_by (schedule_of s_box ekey) (schedule_of s_box ckey)

-- ---- a turn

abbrev pub keys_of : Reader → Keys
keys_of r = pair_keys r.keys

-- it reads both editions
abbrev pub blocks_by : Reader → BlockReader
blocks_by r = of_both (keys_of r)

-- the turn over the reader's schedules (crates/image_reader_turn); the reader keeps them
abbrev pub turn_after : Reader → BlocksRead → Turn
turn_after r t = record {
  reader = record { keys = r.keys; progress = t.progress };
  accepted = t.accepted;
  bytes = t.bytes;
  stop = t.stop;
}

unfoldable pub turn_of : Reader → (lent : List ℕ) (asked : ℕ) (out : List ℕ) → Turn × List ℕ
turn_of r lent asked out = (turn_after r (turn_under (keys_of r) r.progress lent asked out).0, (turn_under (keys_of r) r.progress lent asked out).1)

-- ---- completion

unfoldable pub completion_of : Reader → Completion
completion_of r = cond (done r.progress) Complete NotComplete
