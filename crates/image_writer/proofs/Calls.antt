-- From what the parts of a call give to what the call is to give. Assumes nothing.
use mathlib.Core.Path.{◌≡◌, refl, sym, ap, ap₂, ◌∙◌}
use mathlib.Core.Bool.{Bool, true, false, ◌&&◌, ◌||◌, not, cond}
use mathlib.Core.List.{List}
use Prim.Native.Nat.{ℕ, ◌+◌, ◌≤◌, ◌<◌}
use native.Mathlib.Omega.{arith}
use borrow.Author.Tests.{eqb-true, ltb-false, leb-true, le-leb}
use lib.Dec.{eqb, ltb, leb}
use lib.ListN.{length}
use Rattle.octets.proofs.Both.{and_true}
use Rattle.octets.specs.Octets.{Bytes, over}
use Rattle.octets.proofs.Blocks.{zeros_bytes}
use Rattle.aes_sbox.specs.Sbox.{s_box}
use Rattle.aes_schedule.specs.Schedule.{schedule_of}
use Rattle.aes_schedule.specs.declared.KeyAnswer.{KeyAnswer}
use Rattle.aes_schedule.specs.declared.KeyAnswer.TheVariants.{Taken}
use Rattle.aes_spec.specs.Cipher.{standard}
use Rattle.image_limits.specs.Marks.{is_edition, mark_of}
use Rattle.image_limits.specs.Fits.{count_fits_of, length_fits}
use Rattle.image_spec.specs.Edition.{no_check, tail_of, edition}
use Rattle.image_spec.specs.Sealed.{head_for}
use Rattle.image_spec.specs.KeyPair.{both_taken, pair_of, pair_answer}
use Rattle.image_spec.specs.declared.KeyPair.{KeyPair}
use Rattle.image_spec.proofs.Pair.{pair_taken, pair_refused}
use Rattle.image_spec.specs.Model.{sealed_over}
use Rattle.image_spec.proofs.Agree.{sealed_same}
use Rattle.image_writer_answer.specs.Answers.{write_ruled, last_for}
use Rattle.image_writer.specs.Calls.{write_answer, write_output}
use Rattle.image_writer.specs.Model.{sealed_under}
use Rattle.image_writer_answer.specs.declared.WriteAnswer.{WriteAnswer}
use Rattle.image_writer_answer.specs.declared.WriteAnswer.TheVariants.{Written, WriteKey, WriteCount, WriteNumber, WriteLength, WriteEdition, WriteRoom}
use Rattle.image_writer_answer.specs.declared.Numbers.{Numbers}

-- ---- the check before

pub last_bytes : (number : ℕ) (previous : List ℕ) → Bytes previous → Bytes (last_for number previous)
unfolding last_for
last_bytes number previous b = go (eqb number 0)
  where
    go : (t : Bool) → Bytes (cond t no_check previous)
    go true = zeros_bytes 16
    go false = b

pub last_size : (number : ℕ) (previous : List ℕ) → length previous ≡ 16 → length (last_for number previous) ≡ 16
unfolding last_for
last_size number previous l = go (eqb number 0)
  where
    go : (t : Bool) → length (cond t no_check previous) ≡ 16
    go true = refl
    go false = l

-- the mark of an edition fits its place
pub mark_small : (n : ℕ) → is_edition n ≡ true → mark_of n < 65536
unfolding is_edition mark_of
mark_small n e = go (eqb n 1) (eqb n 2) e
  where
    go : (t u : Bool) → (t || u) ≡ true → cond t 0 (cond u 2 65536) < 65536
    go true u q = omega arith
    go false true q = omega arith
    go false false q = let y : ◌≡◌ {A = ℕ} 0 1 = cc in absurd (omega arith)

-- ---- both keys

-- whether both were taken, by the answer for the pair
module _ (ekey ckey : List ℕ) (r : KeyAnswer) (er : r ≡ pair_answer (schedule_of s_box ekey) (schedule_of s_box ckey)) (t : Bool) where
  pub flag_taken : r ≡ Taken → t ≡ true → t ≡ both_taken (schedule_of s_box ekey) (schedule_of s_box ckey)
  flag_taken h e = e ∙ sym (pair_taken (schedule_of s_box ekey) (schedule_of s_box ckey) r er h)

  pub flag_refused : (r ≡ Taken → ⊥) → t ≡ false → t ≡ both_taken (schedule_of s_box ekey) (schedule_of s_box ckey)
  flag_refused h e = e ∙ sym (pair_refused (schedule_of s_box ekey) (schedule_of s_box ckey) r er h)

module _ (ekey ckey : List ℕ) (t : Bool) (et : t ≡ both_taken (schedule_of s_box ekey) (schedule_of s_box ckey))
    (n : Numbers) (payload out : List ℕ) (a : WriteAnswer) (pa : a ≡ write_ruled t n (length payload) (length out)) where
  pub write_answered : a ≡ write_answer ekey ckey n payload out
  unfolding write_answer
  write_answered = pa ∙ ap (λ (x : Bool). write_ruled x n (length payload) (length out)) et

  -- what the tests of a block that is written have shown
  record Passed : Type 0 where
    keys : t ≡ true
    len : length payload ≤ 480
    known : is_edition n.edition ≡ true
    room : 512 ≤ length out

  passed : a ≡ Written → Passed
  unfolding write_ruled length_fits
  passed q =
      go t refl (count_fits_of n.count) (ltb n.number n.count) (length_fits n.number n.count (length payload)) refl (is_edition n.edition) refl (ltb (length out) 512) refl (sym pa ∙ q)
    where
      least : (t u v : Bool) → cond t (leb (length payload) 480 && u) v ≡ true → (v ≡ true → length payload ≤ 480) → length payload ≤ 480
      least true u v f g = leb-true (length payload) 480 (and_true (leb (length payload) 480) u f).0
      least false u v f g = g f

      go : (k : Bool) → t ≡ k → (m b l : Bool) → length_fits n.number n.count (length payload) ≡ l → (i : Bool) → is_edition n.edition ≡ i → (o : Bool) → ltb (length out) 512 ≡ o
          → cond (not k) WriteKey (cond (not m) WriteCount (cond (not b) WriteNumber (cond (not l) WriteLength (cond (not i) WriteEdition (cond o WriteRoom Written))))) ≡ Written → Passed
      go true ek true true true el true ei false eo f = record {
        keys = ek;
        len = least (eqb (n.number + 1) n.count) (ltb 0 (length payload) || eqb n.count 1) (eqb (length payload) 480) el (λ v. let y = eqb-true (length payload) 480 v in omega arith);
        known = ei;
        room = ltb-false (length out) 512 eo;
      }
      go true ek true true true el true ei true eo f = let y : ◌≡◌ {A = ℕ} 0 1 = cc in absurd (omega arith)
      go true ek true true true el false ei o eo f = let y : ◌≡◌ {A = ℕ} 0 1 = cc in absurd (omega arith)
      go true ek true true false el i ei o eo f = let y : ◌≡◌ {A = ℕ} 0 1 = cc in absurd (omega arith)
      go true ek true false l el i ei o eo f = let y : ◌≡◌ {A = ℕ} 0 1 = cc in absurd (omega arith)
      go true ek false b l el i ei o eo f = let y : ◌≡◌ {A = ℕ} 0 1 = cc in absurd (omega arith)
      go false ek m b l el i ei o eo f = let y : ◌≡◌ {A = ℕ} 0 1 = cc in absurd (omega arith)

  pub write_fits : a ≡ Written → (length payload ≤ 480) × (is_edition n.edition ≡ true)
  write_fits q = ((passed q).len, (passed q).known)

  pub written_by : (keys : KeyPair) → keys ≡ pair_of (schedule_of s_box ekey) (schedule_of s_box ckey) → (previous o : List ℕ) → a ≡ Written
      → o ≡ sealed_under keys (tail_of n.edition (last_for n.number previous)) (head_for (edition n.edition) n.number n.count n.release (length payload)) payload out
      → o ≡ write_output a ekey ckey n previous payload out
  unfolding sealed_over
  written_by keys ek previous o q po =
      let f = passed q in
      let x = (schedule_of s_box ekey).schedule in
      let y = (schedule_of s_box ckey).schedule in
      po ∙ rw (le-leb (length payload) 480 f.len, le-leb 512 (length out) f.room, q, ek)
      (ap (λ (b : List ℕ). over b out)
      (sealed_same y.words y.rounds _ _ refl refl (standard x.words x.rounds) (tail_of n.edition (last_for n.number previous))
      (head_for (edition n.edition) n.number n.count n.release (length payload)) payload))

-- an answer that is not the first case leaves the output as it was
pub write_kept : (a : WriteAnswer) (ekey ckey : List ℕ) (n : Numbers) (previous payload out : List ℕ) → (a ≡ Written → ⊥)
    → out ≡ write_output a ekey ckey n previous payload out
write_kept Written ekey ckey n previous payload out h = absurd (h refl)
write_kept WriteKey ekey ckey n previous payload out h = refl
write_kept WriteCount ekey ckey n previous payload out h = refl
write_kept WriteNumber ekey ckey n previous payload out h = refl
write_kept WriteLength ekey ckey n previous payload out h = refl
write_kept WriteEdition ekey ckey n previous payload out h = refl
write_kept WriteRoom ekey ckey n previous payload out h = refl
