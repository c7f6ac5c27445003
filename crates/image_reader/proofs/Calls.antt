-- From the two schedules to what a start is to give, and from the turn under them to a reader's. Assumes nothing.
use mathlib.Core.Path.{◌≡◌, ap, sym, ◌∙◌}
use mathlib.Core.List.{List}
use Prim.Native.Nat.{ℕ}
use Rattle.aes_sbox.specs.Sbox.{s_box}
use Rattle.aes_schedule.specs.Schedule.{schedule_of}
use Rattle.aes_schedule.specs.declared.KeyAnswer.{KeyAnswer}
use Rattle.aes_schedule.specs.declared.KeyAnswer.TheVariants.{Taken, KeyLength}
use Rattle.image_spec.specs.KeyPair.{pair_of, pair_answer, no_keys}
use Rattle.image_spec.specs.declared.KeyPair.{KeyPair}
use Rattle.image_spec.proofs.Pair.{pair_taken, pair_refused}
use Rattle.image_reader_tally.specs.declared.BlocksRead.{BlocksRead}
use Rattle.image_reader_turn.specs.Turn.{turn_under}
use Rattle.image_reader.specs.Calls.{start_with, start_of, keys_of, turn_after, turn_of}
use Rattle.image_reader.specs.declared.Reader.{Reader}
use Rattle.image_reader.specs.declared.ReadStarted.{ReadStarted}

module _ (ekey ckey : List ℕ) (a : KeyAnswer) (ea : a ≡ pair_answer (schedule_of s_box ekey) (schedule_of s_box ckey)) where
  pub start_taken : a ≡ Taken → (keys : KeyPair) → keys ≡ pair_of (schedule_of s_box ekey) (schedule_of s_box ckey) → (x : ReadStarted) → x ≡ start_with Taken keys → x ≡ start_of ekey ckey
  unfolding start_of
  start_taken h keys ek x ex = ex ∙ ap (start_with Taken) ek ∙ sym (rw (pair_taken (schedule_of s_box ekey) (schedule_of s_box ckey) a ea h))

  pub start_refused : (a ≡ Taken → ⊥) → (x : ReadStarted) → x ≡ start_with KeyLength no_keys → x ≡ start_of ekey ckey
  unfolding start_of
  start_refused h x ex = ex ∙ sym (rw (pair_refused (schedule_of s_box ekey) (schedule_of s_box ckey) a ea h))

-- the turn under a reader's schedules is the reader's
pub turned : (r : Reader) (lent : List ℕ) (asked : ℕ) (out : List ℕ) (x : BlocksRead × List ℕ) → x ≡ turn_under (keys_of r) r.progress lent asked out → (turn_after r x.0, x.1) ≡ turn_of r lent asked out
unfolding turn_of
turned r lent asked out x e = ap (λ (y : BlocksRead × List ℕ). (turn_after r y.0, y.1)) e
