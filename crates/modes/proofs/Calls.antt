-- From what the parts of a call give to what the call is to give. Assumes nothing.
use mathlib.Core.Path.{◌≡◌, refl, sym, ap, ◌∙◌}
use mathlib.Core.List.{List}
use Prim.Native.Nat.{ℕ}
use lib.ListN.{length, replicate}
use Rattle.octets.specs.Octets.{Bytes}
use Rattle.aes_sbox.specs.Sbox.{s_box}
use Rattle.aes_schedule.specs.Schedule.{schedule_of, key_number}
use Rattle.aes_schedule.specs.declared.Expanded.{Expanded}
use Rattle.aes_schedule.proofs.Laws.{schedule_length}
use Rattle.octets_block.specs.Blocks.{block_at}
use Rattle.aes_spec.specs.Cipher.{aes_of}
use Rattle.aes_spec.specs.Model.{equivalent_cipher, inverse_words}
use Rattle.aes_spec.proofs.Equivalent.{equivalent_agrees}
use Rattle.aes_spec.proofs.Aes.{key_lawful}
use Rattle.modes_spec.specs.Pieces.{piece_count}
use Rattle.modes_spec.specs.Modes.{iv_length}
use Rattle.modes_run.specs.Model.{run_over}
use Rattle.modes_run.proofs.Agree.{through_mode, iv_chain, iv_same, handed_iv}
use Rattle.modes_spec.specs.declared.Operation.{Operation}
use Rattle.modes_answer.specs.Answers.{mode_number, left_over, judged}
use Rattle.modes_answer.specs.declared.ModeAnswer.{ModeAnswer}
use Rattle.modes_answer.specs.declared.ModeAnswer.TheVariants.{Done, BadKey, BadIv, NotPieces, OutputShort}
use Rattle.modes_answer.proofs.Answers.{met, left_none}
use Rattle.modes.specs.Calls.{mode_answer, mode_output, mode_next, answer_with}
use Rattle.modes.specs.declared.Applied.{Applied}

-- an answer that is not the first case leaves the output as it was
pub refused_keeps : (a : ModeAnswer) (o : Operation) (key iv inp out : List ℕ)
    → (a ≡ Done → ⊥) → mode_output a o key iv inp out ≡ out
refused_keeps Done o key iv inp out h = absurd (h refl)
refused_keeps BadKey o key iv inp out h = refl
refused_keeps BadIv o key iv inp out h = refl
refused_keeps NotPieces o key iv inp out h = refl
refused_keeps OutputShort o key iv inp out h = refl

-- and hands on zeros
pub refused_zeros : (a : ModeAnswer) (o : Operation) (key iv inp : List ℕ) → (a ≡ Done → ⊥) → mode_next a o key iv inp ≡ replicate 16 0
refused_zeros Done o key iv inp h = absurd (h refl)
refused_zeros BadKey o key iv inp h = refl
refused_zeros BadIv o key iv inp h = refl
refused_zeros NotPieces o key iv inp h = refl
refused_zeros OutputShort o key iv inp h = refl

-- the same of an answer by its number
pub kept : (a : ModeAnswer) (o : Operation) (key iv inp out : List ℕ) → (mode_number a ≡ 0 → ⊥) → mode_output a o key iv inp out ≡ out
kept Done o key iv inp out h = absurd (h refl)
kept BadKey o key iv inp out h = refl
kept BadIv o key iv inp out h = refl
kept NotPieces o key iv inp out h = refl
kept OutputShort o key iv inp out h = refl

pub zeros : (a : ModeAnswer) (o : Operation) (key iv inp : List ℕ) → (mode_number a ≡ 0 → ⊥) → mode_next a o key iv inp ≡ replicate 16 0
zeros Done o key iv inp h = absurd (h refl)
zeros BadKey o key iv inp h = refl
zeros BadIv o key iv inp h = refl
zeros NotPieces o key iv inp h = refl
zeros OutputShort o key iv inp h = refl

-- an answer and a chaining value, each as told
pub same_applied : (a b : ModeAnswer) (x : List ℕ) (o : Operation) (key iv inp : List ℕ) → a ≡ b → x ≡ mode_next a o key iv inp
    → ◌≡◌ {A = Applied} (record { answer = a; next = x }) (answer_with b o key iv inp)
same_applied a b x o key iv inp e q = rw (q, e)

-- e is the schedule that the call makes, r the answer
module _ (o : Operation) (key iv inp out : List ℕ) (e : Expanded) (r : ModeAnswer) (pe : e ≡ schedule_of s_box key)
    (pr : r ≡ judged (key_number e.answer) (iv_length 16 o) (length iv) (left_over o (length inp)) (length inp) (length out)) where
  pub answered : r ≡ mode_answer o key iv inp out
  unfolding mode_answer
  answered = pr ∙ rw pe

  pub written : (b st x : List ℕ) → b ≡ block_at iv 0 → Bytes iv → Bytes inp → r ≡ Done
      → (st, x) ≡ run_over (equivalent_cipher e.schedule.words (inverse_words e.schedule.words e.schedule.rounds) e.schedule.rounds) o b inp out
      → (st ≡ mode_next r o key iv inp) × (x ≡ mode_output r o key iv inp out)
  unfolding mode_answer
  written b st x pb bi bs d po =
      let f = met (key_number (schedule_of s_box key).answer) (iv_length 16 o) (length iv) (left_over o (length inp)) (length inp) (length out) (sym answered ∙ d) in
      let k = (schedule_of s_box key).schedule in
      let c = equivalent_cipher k.words (inverse_words k.words k.rounds) k.rounds in
      let p : (st, x) ≡ run_over c o (block_at iv 0) inp out = po ∙ rw (pb, pe) in
      let q = through_mode c (aes_of key) (equivalent_agrees k.words (schedule_length s_box key) k.rounds) (key_lawful key f.key_taken) o (block_at iv 0) inp (iv_chain o iv f.iv_right bi) bs (left_none o (length inp) f.taken) out f.room in
      let n = piece_count 16 inp in (
        ap (λ (t : List ℕ × List ℕ). t.0) (p ∙ q) ∙ rw d (handed_iv (aes_of key) iv n inp o f.iv_right),
        ap (λ (t : List ℕ × List ℕ). t.1) (p ∙ q) ∙ rw (d, iv_same (aes_of key) iv n inp o f.iv_right),
      )
