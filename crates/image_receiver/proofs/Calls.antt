-- From what the code finds to what the calls are to give. Assumes nothing.
use mathlib.Core.Path.{◌≡◌, ap}
use mathlib.Core.Bool.{true, false}
use mathlib.Core.List.{List}
use Prim.Native.Nat.{ℕ}
use lib.ListN.{length}
use Rattle.aes_sbox.specs.Sbox.{s_box}
use Rattle.aes_schedule.specs.Schedule.{schedule_of}
use Rattle.aes_schedule.specs.declared.KeyAnswer.{KeyAnswer}
use Rattle.aes_schedule.specs.declared.KeyAnswer.TheVariants.{Taken}
use Rattle.image_limits.specs.Fits.{count_fits_of}
use Rattle.image_spec.specs.KeyPair.{both_taken, pair_of, pair_answer}
use Rattle.image_spec.specs.declared.KeyPair.{KeyPair}
use Rattle.image_spec.proofs.Pair.{pair_taken, pair_refused}
use Rattle.image_receiver_map.specs.Map.{map_size, cleared}
use Rattle.image_receiver_answer.specs.Answers.{room_for}
use Rattle.image_receiver_answer.specs.declared.BeginAnswer.TheVariants.{Begun, BeginKey, BeginCount, BeginRoom}
use Rattle.image_receiver_block.specs.Receive.{received_under}
use Rattle.image_receiver_block.specs.declared.BlockReceived.{BlockReceived}
use Rattle.image_receiver.specs.Calls.{begun_with, begun_not, begin_of, receiver_keys, done_after, handed, receive_of}
use Rattle.image_receiver.specs.declared.Receiver.{Receiver}
use Rattle.image_receiver.specs.declared.ReceiveStarted.{ReceiveStarted}

-- ---- the start

module _ (ekey ckey : List ℕ) (count release : ℕ) (store map : List ℕ) (a : KeyAnswer) (ea : a ≡ pair_answer (schedule_of s_box ekey) (schedule_of s_box ckey)) (x : ReceiveStarted) where
  pub begin_key : (a ≡ Taken → ⊥) → x ≡ begun_not BeginKey → (x, map) ≡ begin_of ekey ckey count release store map
  unfolding begin_of
  begin_key h ex = rw (pair_refused (schedule_of s_box ekey) (schedule_of s_box ckey) a ea h, ex)

  module _ (h : a ≡ Taken) where
    taken : both_taken (schedule_of s_box ekey) (schedule_of s_box ckey) ≡ true
    taken = pair_taken (schedule_of s_box ekey) (schedule_of s_box ckey) a ea h

    pub begin_count : count_fits_of count ≡ false → x ≡ begun_not (BeginCount count) → (x, map) ≡ begin_of ekey ckey count release store map
    unfolding begin_of
    begin_count f ex = rw (taken, f, ex)

    module _ (f : count_fits_of count ≡ true) where
      pub begin_room : room_for count (length store) (length map) ≡ false → x ≡ begun_not BeginRoom → (x, map) ≡ begin_of ekey ckey count release store map
      unfolding begin_of
      begin_room g ex = rw (taken, f, g, ex)

      pub begin_done : room_for count (length store) (length map) ≡ true → (keys : KeyPair) → keys ≡ pair_of (schedule_of s_box ekey) (schedule_of s_box ckey) → x ≡ begun_with Begun keys count release
          → (m : List ℕ) (n : ℕ) → m ≡ cleared n map → n ≡ map_size count → (x, m) ≡ begin_of ekey ckey count release store map
      unfolding begin_of
      begin_done g keys ek ex m n em en = rw (taken, f, g, ex, ek, em, en)

-- ---- one block

-- what the schedules of a receiver give is the receiver's
pub received : (r : Receiver) (b store map : List ℕ) (x : BlockReceived) (s m : List ℕ) → (x, s, m) ≡ received_under (receiver_keys r) r.receipt b store map → (done_after r x, s, m) ≡ receive_of r b store map
unfolding receive_of
received r b store map x s m e = ap (handed r) e
