-- From what the parts of a call give to what the call is to give. Assumes nothing.
use mathlib.Core.Path.{◌≡◌, refl, sym, ap, ◌∙◌}
use mathlib.Core.Bool.{Bool, true, false, cond}
use mathlib.Core.List.{List}
use Prim.Native.Nat.{ℕ, ◌+◌, ◌-◌, ◌≤◌}
use native.Mathlib.Omega.{arith}
use borrow.Author.Tests.{eqb-true, ltb-false}
use lib.Dec.{eqb, ltb}
use lib.ListN.{length}
use lib.Seq.{length-take-le}
use Rattle.octets.specs.Octets.{Bytes, Octets, over}
use Rattle.octets.specs.Blocks.{BlockCipher, Lawful}
use Rattle.aes_sbox.specs.Sbox.{s_box}
use Rattle.aes_schedule.specs.Schedule.{schedule_of, key_number}
use Rattle.aes_schedule.specs.declared.Expanded.{Expanded}
use Rattle.aes_spec.specs.Cipher.{aes_of, standard}
use Rattle.aes_spec.proofs.Aes.{key_lawful}
use Rattle.ccm_spec.specs.Ccm.{counter, opened, genuine}
use Rattle.ccm_stream.specs.Model.{streamed_into}
use Rattle.ccm_answer.specs.Answers.{in_profile, sealed_in_profile, ccm_ruled}
use Rattle.ccm_answer.proofs.Sizes.{profile_parts, sealed_parts}
use Rattle.ccm_answer.specs.declared.CcmAnswer.{CcmAnswer}
use Rattle.ccm_answer.specs.declared.CcmAnswer.TheVariants.{CcmDone, CcmKey, CcmSize, CcmRoom, WrongTag}
use Rattle.ccm_spec.proofs.Exactly.{streamed_length}
use Rattle.ccm.specs.Calls.{seal_answer, seal_output, verdict, open_answer, open_output}
use Rattle.ccm.specs.Model.{sealed_over, body, right, opened_over}
use Rattle.ccm.specs.Model as model
use Rattle.ccm.proofs.Agree.{sealed-over, opened_is, right_genuine}

-- an answer that is not the first case
abbrev pub Refused : CcmAnswer → Type 0
Refused a = a ≡ CcmDone → ⊥

-- an answer that is not the first case leaves the output as it was
pub seal_kept : (a : CcmAnswer) (key nonce x p out : List ℕ) → Refused a → out ≡ seal_output a key nonce x p out
seal_kept CcmDone key nonce x p out h = absurd (h refl)
seal_kept CcmKey key nonce x p out h = refl
seal_kept CcmSize key nonce x p out h = refl
seal_kept CcmRoom key nonce x p out h = refl
seal_kept WrongTag key nonce x p out h = refl

pub open_kept : (a : CcmAnswer) (key nonce x p out : List ℕ) → Refused a → out ≡ open_output a key nonce x p out
open_kept CcmDone key nonce x p out h = absurd (h refl)
open_kept CcmKey key nonce x p out h = refl
open_kept CcmSize key nonce x p out h = refl
open_kept CcmRoom key nonce x p out h = refl
open_kept WrongTag key nonce x p out h = refl

-- ---- the tests, in their order

-- what they have shown of a call that is not refused
record Passed (key : ℕ) (size : Bool) (result out : ℕ) : Type 0 where
  key_taken : key ≡ 0
  size_right : size ≡ true
  room : result ≤ out

module _ (key : ℕ) (size : Bool) (result out : ℕ) where
  chosen : (k s r : Bool) → cond k (cond s (cond r CcmRoom CcmDone) CcmSize) CcmKey ≡ CcmDone → (k ≡ true) × (s ≡ true) × (r ≡ false)
  chosen true true false e = (refl, refl, refl)
  chosen true true true e = let y : ◌≡◌ {A = ℕ} 0 1 = cc in absurd (omega arith)
  chosen true false r e = let y : ◌≡◌ {A = ℕ} 0 1 = cc in absurd (omega arith)
  chosen false s r e = let y : ◌≡◌ {A = ℕ} 0 1 = cc in absurd (omega arith)

  passed : ccm_ruled key size result out CcmDone ≡ CcmDone → Passed key size result out
  unfolding ccm_ruled
  passed e =
      let t = chosen (eqb key 0) size (ltb out result) e in
      record { key_taken = eqb-true key 0 t.0; size_right = t.1; room = ltb-false out result t.2 }

  -- what comes after them counts where they pass, and only there
  ruled_through : (z : CcmAnswer) → ccm_ruled key size result out CcmDone ≡ CcmDone → ccm_ruled key size result out z ≡ z
  unfolding ccm_ruled
  ruled_through z e = let t = chosen (eqb key 0) size (ltb out result) e in rw (t.0, t.1, t.2)

  ruled_refused : (z a : CcmAnswer) → a ≡ ccm_ruled key size result out CcmDone → Refused a → a ≡ ccm_ruled key size result out z
  unfolding ccm_ruled
  ruled_refused z a e h = go (eqb key 0) size (ltb out result) e
    where
      go : (k s r : Bool) → a ≡ cond k (cond s (cond r CcmRoom CcmDone) CcmSize) CcmKey → a ≡ cond k (cond s (cond r CcmRoom z) CcmSize) CcmKey
      go true true false f = absurd (h f)
      go true true true f = f
      go true false r f = f
      go false s r f = f

-- ---- the calls

opened_length : (c : BlockCipher) → Lawful 16 c → (nonce : List ℕ) → Octets 13 nonce → (s : List ℕ) → 8 ≤ length s → length (opened c nonce s) ≡ length s - 8
unfolding opened
opened_length c l nonce on s h = streamed_length nonce on c l (body s) ∙ length-take-le (length s - 8) s (omega arith)

module _ (key : List ℕ) (x : Expanded) (px : x ≡ schedule_of s_box key) (nonce a : List ℕ) (bn : Bytes nonce) (p out : List ℕ) (r : CcmAnswer) where
  lawful : key_number x.answer ≡ 0 → Lawful 16 (aes_of key)
  lawful e = key_lawful key (ap (λ (y : Expanded). key_number y.answer) (sym px) ∙ e)

  module _ (pr : r ≡ ccm_ruled (key_number x.answer) (in_profile (length nonce) (length a) (length p)) (length p + 8) (length out) CcmDone) where
    pub seal_answered : r ≡ seal_answer key nonce a p out
    unfolding seal_answer
    seal_answered = pr ∙ ap (λ (y : Expanded). ccm_ruled (key_number y.answer) (in_profile (length nonce) (length a) (length p)) (length p + 8) (length out) CcmDone) px

    module _ (q : r ≡ CcmDone) where
      seal_passed : Passed (key_number x.answer) (in_profile (length nonce) (length a) (length p)) (length p + 8) (length out)
      seal_passed = passed (key_number x.answer) (in_profile (length nonce) (length a) (length p)) (length p + 8) (length out) (sym pr ∙ q)

      pub seal_fits : (length nonce ≡ 13) × (length a ≤ 64) × (length p + 8 ≤ length out)
      seal_fits = let s = profile_parts (length nonce) (length a) (length p) seal_passed.size_right in (s.0, s.1, seal_passed.room)

      pub sealed_by : (o : List ℕ) → o ≡ sealed_over (standard x.schedule.words x.schedule.rounds) nonce a p out → o ≡ seal_output r key nonce a p out
      sealed_by o po =
          let f = seal_fits in
          let w = sealed-over (aes_of key) (lawful seal_passed.key_taken) nonce (record { size = f.0; bytes = bn }) a f.1 p out in
          po ∙ rw (q, px) w

  module _ (pr : r ≡ ccm_ruled (key_number x.answer) (sealed_in_profile (length nonce) (length a) (length p)) (length p - 8) (length out) CcmDone) where
    pub open_refused : Refused r → r ≡ open_answer key nonce a p out
    unfolding open_answer
    open_refused h =
        ruled_refused (key_number x.answer) (sealed_in_profile (length nonce) (length a) (length p)) (length p - 8) (length out) (verdict (aes_of key) nonce a p) r pr h
        ∙ ap (λ (y : Expanded). ccm_ruled (key_number y.answer) (sealed_in_profile (length nonce) (length a) (length p)) (length p - 8) (length out) (verdict (aes_of key) nonce a p)) px

    module _ (q : r ≡ CcmDone) where
      open_passed : Passed (key_number x.answer) (sealed_in_profile (length nonce) (length a) (length p)) (length p - 8) (length out)
      open_passed = passed (key_number x.answer) (sealed_in_profile (length nonce) (length a) (length p)) (length p - 8) (length out) (sym pr ∙ q)

      pub open_fits : (length nonce ≡ 13) × (length a ≤ 64) × (8 ≤ length p) × (length p ≤ length out + 8)
      open_fits =
          let s = sealed_parts (length nonce) (length a) (length p) open_passed.size_right in
          let t = profile_parts (length nonce) (length a) (length p - 8) s.1 in
          (t.0, t.1, s.0, omega (arith, open_passed.room))

      on : Octets 13 nonce
      on = record { size = open_fits.0; bytes = bn }

      right_is : right (standard x.schedule.words x.schedule.rounds) nonce a p ≡ genuine (aes_of key) nonce a p
      right_is = rw px (right_genuine (aes_of key) (lawful open_passed.key_taken) nonce on a open_fits.1 p open_fits.2)

      module _ (v : CcmAnswer) (pv : v ≡ model.verdict (standard x.schedule.words x.schedule.rounds) nonce a p) where
        verdict_is : v ≡ verdict (aes_of key) nonce a p
        verdict_is = pv ∙ ap (λ (t : Bool). cond t CcmDone WrongTag) right_is

        pub open_answered : v ≡ open_answer key nonce a p out
        unfolding open_answer
        open_answered =
            verdict_is
            ∙ sym (ruled_through (key_number x.answer) (sealed_in_profile (length nonce) (length a) (length p)) (length p - 8) (length out) (verdict (aes_of key) nonce a p) (sym pr ∙ q))
            ∙ ap (λ (y : Expanded). ccm_ruled (key_number y.answer) (sealed_in_profile (length nonce) (length a) (length p)) (length p - 8) (length out) (verdict (aes_of key) nonce a p)) px

        -- the message, and what the output has behind it
        message_over : opened_over (standard x.schedule.words x.schedule.rounds) nonce a p out ≡ cond (genuine (aes_of key) nonce a p) (over (opened (aes_of key) nonce p) out) out
        message_over =
            let l = lawful open_passed.key_taken in
            let m : streamed_into (standard x.schedule.words x.schedule.rounds) (counter nonce 0) (body p) ≡ opened (aes_of key) nonce p = rw px (opened_is (aes_of key) l nonce on a open_fits.1 p) in
            let n : length p - 8 ≡ length (opened (aes_of key) nonce p) = sym (opened_length (aes_of key) l nonce on p open_fits.2) in
            rw (right_is, m, n)

        pub opened_by : (o : List ℕ) → o ≡ opened_over (standard x.schedule.words x.schedule.rounds) nonce a p out → o ≡ open_output v key nonce a p out
        opened_by o po =
            po ∙ message_over
            ∙ each (genuine (aes_of key) nonce a p)
            ∙ ap (λ (z : CcmAnswer). open_output z key nonce a p out) (sym verdict_is)
          where
            each : (s : Bool) → cond s (over (opened (aes_of key) nonce p) out) out ≡ open_output (cond s CcmDone WrongTag) key nonce a p out
            each true = refl
            each false = refl
