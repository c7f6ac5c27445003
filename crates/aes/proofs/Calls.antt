-- A block under the schedule of a key is the standard's. Assumes nothing.
use mathlib.Core.Path.{◌≡◌, ap, ◌∙◌}
use mathlib.Core.List.{List}
use Prim.Native.Nat.{ℕ}
use lib.ListN.{length}
use Rattle.octets.specs.Octets.{Octets}
use Rattle.aes_sbox.specs.Sbox.{s_box, inv_s_box}
use Rattle.aes_sbox.proofs.Laws.{inv_s_box_lt}
use Rattle.aes_schedule.specs.Schedule.{schedule_of}
use Rattle.aes_schedule.specs.declared.KeyAnswer.{KeyAnswer}
use Rattle.aes_schedule.specs.declared.KeySchedule.{KeySchedule}
use Rattle.aes_schedule.proofs.Laws.{schedule_length}
use Rattle.aes_spec.specs.Cipher.{encrypt_block}
use Rattle.aes_spec.specs.Model.{inverse_words, eq_decrypt_block}
use Rattle.aes_spec.proofs.Equivalent.{eq_decrypt}
use Rattle.aes.specs.declared.Ciphered.{Ciphered}
use Rattle.aes.specs.Calls.{encrypt_under, decrypt_under}

module _ (key b : List ℕ) (a : KeyAnswer) (s : KeySchedule) (r : List ℕ) (pa : a ≡ (schedule_of s_box key).answer) (ps : s ≡ (schedule_of s_box key).schedule) where
  pub encrypt-under : r ≡ encrypt_block s_box s.words s.rounds b → ◌≡◌ {A = Ciphered} (record { answer = a; block = r }) (encrypt_under key b)
  unfolding encrypt_under
  encrypt-under pr = rw (pr, pa, ps)

  pub decrypt-under : Octets 16 b → r ≡ eq_decrypt_block inv_s_box (inverse_words s.words s.rounds) s.rounds b
      → ◌≡◌ {A = Ciphered} (record { answer = a; block = r }) (decrypt_under key b)
  unfolding decrypt_under
  decrypt-under o pr =
      rw (pr ∙ eq_decrypt inv_s_box inv_s_box_lt s.words (ap (λ (t : KeySchedule). length t.words) ps ∙ schedule_length s_box key) s.rounds o, pa, ps)
