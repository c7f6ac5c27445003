-- The calls: starting a receiver, receiving a block, and asking whether all are held. Assumes nothing: these are definitions.
use Rattle.std.specs.Prelude.{ℕ, Bool, ◌&&◌, not, cond, List, eqb, ltb, length}
use Rattle.aes_sbox.specs.Sbox.{s_box}
use Rattle.aes_schedule.specs.Schedule.{schedule_of}
use Rattle.aes_schedule.specs.declared.Expanded.{Expanded}
use Rattle.image_limits.specs.Fits.{count_fits_of}
use Rattle.image_spec.specs.Judge.{Keys}
use Rattle.image_spec.specs.KeyPair.{both_taken, pair_keys, pair_of, no_keys}
use Rattle.image_spec.specs.declared.KeyPair.{KeyPair}
use Rattle.image_progress.specs.declared.Completion.{Completion}
use Rattle.image_progress.specs.declared.Completion.TheVariants.{Complete, NotComplete}
use Rattle.image_receiver_map.specs.Map.{map_size, cleared}
use Rattle.image_receiver_answer.specs.Answers.{room_for}
use Rattle.image_receiver_answer.specs.declared.Receipt.{Receipt}
use Rattle.image_receiver_answer.specs.declared.BeginAnswer.{BeginAnswer}
use Rattle.image_receiver_answer.specs.declared.BeginAnswer.TheVariants.{Begun, BeginKey, BeginCount, BeginRoom}
use Rattle.image_receiver_block.specs.Receive.{received_under}
use Rattle.image_receiver_block.specs.declared.BlockReceived.{BlockReceived}
use Rattle.image_receiver.specs.declared.Receiver.{Receiver}
use Rattle.image_receiver.specs.declared.ReceiveStarted.{ReceiveStarted}
use Rattle.image_receiver.specs.declared.ReceiveDone.{ReceiveDone}

-- ---- the start

-- nothing is held yet
abbrev pub begun_with : BeginAnswer → KeyPair → (count release : ℕ) → ReceiveStarted
begun_with answer keys count release = record { answer = answer; receiver = record { keys = keys; receipt = record { count = count; release = release; held = 0; bytes = 0 } } }

-- zeros if it was refused
abbrev pub begun_not : BeginAnswer → ReceiveStarted
begun_not answer = begun_with answer no_keys 0 0

-- 1, 7, 4, in that order; then the bytes of the map that hold the count's bits are cleared, and nothing else
abbrev pub begin_by : (ekey ckey : Expanded) (count release : ℕ) (store map : List ℕ) → ReceiveStarted × List ℕ
begin_by ekey ckey count release store map =
    cond (not (both_taken ekey ckey)) (begun_not BeginKey, map)
    (cond (not (count_fits_of count)) (begun_not (BeginCount count), map)
    (cond (not (room_for count (length store) (length map))) (begun_not BeginRoom, map)
    (begun_with Begun (pair_of ekey ckey) count release, cleared (map_size count) map)))

unfoldable pub begin_of : (ekey ckey : List ℕ) (count release : ℕ) (store map : List ℕ) → ReceiveStarted × List ℕ
begin_of ekey ckey count release store map = begin_by (schedule_of s_box ekey) (schedule_of s_box ckey) count release store map

-- ---- one block

abbrev pub receiver_keys : Receiver → Keys
receiver_keys r = pair_keys r.keys

-- the receiver keeps its schedules
abbrev pub done_after : Receiver → BlockReceived → ReceiveDone
done_after r d = record { answer = d.answer; receiver = record { keys = r.keys; receipt = d.receipt } }

abbrev pub handed : Receiver → BlockReceived × List ℕ × List ℕ → ReceiveDone × List ℕ × List ℕ
handed r d = (done_after r d.0, d.1, d.2)

unfoldable pub receive_of : Receiver → (b store map : List ℕ) → ReceiveDone × List ℕ × List ℕ
receive_of r b store map = handed r (received_under (receiver_keys r) r.receipt b store map)

-- ---- completion

-- as many blocks are held as the image has, and that is at least one
unfoldable pub full : Receipt → Bool
full r = ltb 0 r.count && eqb r.held r.count

unfoldable pub all_held : Receiver → Completion
all_held r = cond (full r.receipt) Complete NotComplete
