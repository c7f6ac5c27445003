-- A record that is started, fed part after part and closed gives the check of all parts joined. Assumes nothing.
use mathlib.Core.Path.{◌≡◌, ap, ◌∙◌}
use mathlib.Core.Bool.{false}
use mathlib.Core.List.{List, [], ◌∷◌, ◌++◌, append-nil, append_assoc}
use Prim.Native.Nat.{ℕ}
use lib.ListN.{replicate}
use Rattle.octets.specs.Octets.{joined}
use Rattle.aes_sbox.specs.Sbox.{s_box}
use Rattle.aes_schedule.specs.Schedule.{schedule_of, round_count}
use Rattle.aes_schedule.specs.declared.KeySchedule.{KeySchedule}
use Rattle.aes_spec.specs.Cipher.{encrypt_block, standard}
use Rattle.cmac_spec.specs.Cmac.{ended, cmac}
use Rattle.cmac_run.specs.Running.{run_from, closed}
use Rattle.cmac.specs.Calls.{check_of, record_of, start_of, fed_with, close_of, fed_parts}
use Rattle.cmac_run.specs.declared.Run.{Run}
use Rattle.cmac.specs.declared.Record.{Record}
use Rattle.cmac_run.proofs.Laws.{fed_taken, begun_taken, whole}

module _ (k : KeySchedule) where
  -- a record under a schedule, by the bytes that it was fed
  after : List ℕ → Record
  after s = record_of k (run_from (standard k.words k.rounds) (replicate 16 0) s)

  after_part : (s part : List ℕ) → fed_with (after s) part ≡ after (s ++ part)
  unfolding after fed_with
  after_part s part = ap (record_of k) (fed_taken (standard k.words k.rounds) (replicate 16 0) s part)

  after_parts : (s : List ℕ) (parts : List (List ℕ)) → fed_parts (after s) parts ≡ after (s ++ joined parts)
  after_parts s [] = rw append-nil
  after_parts s (part ∷ parts) =
      ap (λ (r : Record). fed_parts r parts) (after_part s part) ∙ after_parts (s ++ part) parts ∙ ap after (append_assoc s part (joined parts))

  close_after : (s : List ℕ) → close_of (after s) ≡ cmac (standard k.words k.rounds) s
  unfolding after close_of
  close_after s = whole (standard k.words k.rounds) s

-- under a number of rounds that no key gives
pub cmac_zeros : (w : List ℕ) (nr : ℕ) (m : List ℕ) → round_count nr ≡ false → cmac (standard w nr) m ≡ replicate 16 0
unfolding cmac ended encrypt_block
cmac_zeros w nr m e = rw e

pub close_zeros : (r : Record) → round_count r.schedule.rounds ≡ false → close_of r ≡ replicate 16 0
unfolding close_of closed ended encrypt_block
close_zeros r e = rw e

pub running_whole : (key : List ℕ) (parts : List (List ℕ)) → close_of (fed_parts (start_of key).«record» parts) ≡ (check_of key (joined parts)).check
unfolding start_of check_of after
running_whole key parts =
    let k = (schedule_of s_box key).schedule in
    ap (λ (x : Run). close_of (fed_parts (record_of k x) parts)) (begun_taken (standard k.words k.rounds))
    ∙ ap close_of (after_parts k [] parts) ∙ close_after k (joined parts)
