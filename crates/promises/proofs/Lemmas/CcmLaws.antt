-- The tests of CCM's calls in their order, and what they say of sealed messages. Assumes nothing.
use mathlib.Core.Path.{◌≡◌, refl, sym, ap, subst, ◌∙◌}
use mathlib.Core.Bool.{Bool, true, false, cond}
use mathlib.Core.List.{List}
use Prim.Native.Nat.{ℕ, ◌+◌, ◌-◌, ◌≤◌, ◌<◌}
use native.Mathlib.Omega.{arith}
use borrow.Author.Tests.{eqb-true, eqb-false, eq-eqb, ltb-true, ltb-false, le-ltb}
use lib.Dec.{eqb, ltb}
use lib.ListN.{length, take}
use Rattle.octets.specs.Octets.{Bytes, Octets}
use Rattle.octets.specs.Blocks.{BlockCipher, Lawful}
use Rattle.octets.proofs.Blocks.{take_bytes}
use Rattle.aes_sbox.specs.Sbox.{s_box}
use Rattle.aes_schedule.specs.Schedule.{schedule_of, key_number}
use Rattle.aes_spec.specs.Cipher.{aes_of}
use Rattle.ccm_spec.specs.Ccm.{streamed, sealed, opened, genuine}
use Rattle.ccm_spec.proofs.Exactly.{streamed_length, streamed_bytes, genuine_sealed}
use Rattle.ccm_answer.specs.Answers.{ccm_number, in_profile, sealed_in_profile, ccm_ruled}
use Rattle.ccm_answer.proofs.Sizes.{profile_parts, sealed_parts, sealed_right}
use Rattle.ccm.specs.Calls.{seal_answer, seal_output, verdict, open_answer, open_output}
use Rattle.ccm_answer.specs.declared.CcmAnswer.{CcmAnswer}
use Rattle.ccm_answer.specs.declared.CcmAnswer.TheVariants.{CcmDone, CcmKey, CcmSize, CcmRoom, WrongTag}
use Rattle.promises.proofs.Ccm.Words.{SealFit, SealSays, OpenFit, OpenSays}
use lib.Seq.{length-take-le}

-- ---- the tests in their order

module _ (key : ℕ) (size : Bool) (result out : ℕ) (x : CcmAnswer) where
  -- the first test that fails, or what comes after them
  pub ruled_says : (P : CcmAnswer → Type 0) → ((key ≡ 0 → ⊥) → P CcmKey) → (key ≡ 0 → size ≡ false → P CcmSize) → (key ≡ 0 → size ≡ true → out < result → P CcmRoom)
      → (key ≡ 0 → size ≡ true → result ≤ out → P x) → P (ccm_ruled key size result out x)
  unfolding ccm_ruled
  ruled_says P k s r d = go (eqb key 0) size (ltb out result) refl refl refl
    where
      go : (a b c : Bool) → eqb key 0 ≡ a → size ≡ b → ltb out result ≡ c → P (cond a (cond b (cond c CcmRoom x) CcmSize) CcmKey)
      go false b c ea eb ec = k (eqb-false key 0 ea)
      go true false c ea eb ec = s (eqb-true key 0 ea) eb
      go true true true ea eb ec = r (eqb-true key 0 ea) eb (ltb-true out result ec)
      go true true false ea eb ec = d (eqb-true key 0 ea) eb (ltb-false out result ec)

  pub ruled_through : key ≡ 0 → size ≡ true → result ≤ out → ccm_ruled key size result out x ≡ x
  unfolding ccm_ruled
  ruled_through k s r = rw (eq-eqb key 0 k, s, le-ltb out result r)

module _ (key nonce a p out : List ℕ) where
  pub seal_says : SealSays key nonce a p (length out) (seal_answer key nonce a p out)
  unfolding seal_answer
  seal_says =
      ruled_says (key_number (schedule_of s_box key).answer) (in_profile (length nonce) (length a) (length p)) (length p + 8) (length out) CcmDone (SealSays key nonce a p (length out))
      (λ k. k) (λ k s. (k, s)) (λ k s r. (k, s, r)) (λ k s r. record { key_taken = k; fits = s; roomy = r })

  pub seal_fits : SealFit key nonce a p (length out) → seal_answer key nonce a p out ≡ CcmDone
  unfolding seal_answer
  seal_fits f =
      ruled_through (key_number (schedule_of s_box key).answer) (in_profile (length nonce) (length a) (length p)) (length p + 8) (length out) CcmDone
      f.key_taken f.fits f.roomy

  verdict_says : (P : CcmAnswer → Type 0) → (genuine (aes_of key) nonce a p ≡ true → P CcmDone) → ((genuine (aes_of key) nonce a p ≡ true → ⊥) → P WrongTag) → P (verdict (aes_of key) nonce a p)
  verdict_says P right wrong = go (genuine (aes_of key) nonce a p) refl
    where
      go : (t : Bool) → genuine (aes_of key) nonce a p ≡ t → P (cond t CcmDone WrongTag)
      go true e = right e
      go false e = wrong (λ q. (let z : true ≡ false = sym q ∙ e in let y : ◌≡◌ {A = ℕ} 0 1 = cc in omega arith))

  pub open_says : OpenSays key nonce a p (length out) (open_answer key nonce a p out)
  unfolding open_answer
  open_says =
      ruled_says (key_number (schedule_of s_box key).answer) (sealed_in_profile (length nonce) (length a) (length p)) (length p - 8) (length out) (verdict (aes_of key) nonce a p) (OpenSays key nonce a p (length out))
      (λ k. k) (λ k s. (k, s)) (λ k s r. (k, s, omega (arith, (sealed_parts (length nonce) (length a) (length p) s).0)))
      (λ k s r.
      let h : length p ≤ length out + 8 = omega arith in
      verdict_says (OpenSays key nonce a p (length out)) (λ g. record { key_taken = k; fits = s; roomy = h; tag_right = g }) (λ g. (k, s, h, g)))

  pub open_fits : OpenFit key nonce a p (length out) → open_answer key nonce a p out ≡ CcmDone
  unfolding open_answer
  open_fits f =
      ruled_through (key_number (schedule_of s_box key).answer) (sealed_in_profile (length nonce) (length a) (length p)) (length p - 8) (length out) (verdict (aes_of key) nonce a p)
      f.key_taken f.fits (omega (arith, f.roomy))
      ∙ ap (λ (t : Bool). cond t CcmDone WrongTag) f.tag_right

  pub open_done_fits : open_answer key nonce a p out ≡ CcmDone → OpenFit key nonce a p (length out)
  open_done_fits e = subst (OpenSays key nonce a p (length out)) e open_says

-- a refusal keeps the output
pub seal_keeps : (r : CcmAnswer) (key nonce a p out : List ℕ) → (ccm_number r ≡ 0 → ⊥) → seal_output r key nonce a p out ≡ out
seal_keeps CcmDone key nonce a p out h = absurd (h refl)
seal_keeps CcmKey key nonce a p out h = refl
seal_keeps CcmSize key nonce a p out h = refl
seal_keeps CcmRoom key nonce a p out h = refl
seal_keeps WrongTag key nonce a p out h = refl

pub open_keeps : (r : CcmAnswer) (key nonce a p out : List ℕ) → (ccm_number r ≡ 0 → ⊥) → open_output r key nonce a p out ≡ out
open_keeps CcmDone key nonce a p out h = absurd (h refl)
open_keeps CcmKey key nonce a p out h = refl
open_keeps CcmSize key nonce a p out h = refl
open_keeps CcmRoom key nonce a p out h = refl
open_keeps WrongTag key nonce a p out h = refl

-- ---- lengths of sealed messages

pub sealed_of_fits : (nonce a p s : List ℕ) → in_profile (length nonce) (length a) (length p) ≡ true → length s ≡ length p + 8 → sealed_in_profile (length nonce) (length a) (length s) ≡ true
sealed_of_fits nonce a p s e l =
    let n : length s - 8 ≡ length p = omega arith in
    sealed_right (length nonce) (length a) (length s) (omega arith) (ap (in_profile (length nonce) (length a)) n ∙ e)

pub octets_of : (nonce a p : List ℕ) → in_profile (length nonce) (length a) (length p) ≡ true → Bytes nonce → Octets 13 nonce
octets_of nonce a p e b = record { size = (profile_parts (length nonce) (length a) (length p) e).0; bytes = b }

-- ---- what is opened

module _ (c : BlockCipher) (l : Lawful 16 c) (nonce : List ℕ) (on : Octets 13 nonce) where
  pub opened_length : (s : List ℕ) → 8 ≤ length s → length (opened c nonce s) ≡ length s - 8
  unfolding opened
  opened_length s h = streamed_length nonce on c l (take (length s - 8) s) ∙ length-take-le (length s - 8) s (omega arith)

  pub opened_bytes : (s : List ℕ) → Bytes s → Bytes (opened c nonce s)
  unfolding opened
  opened_bytes s b = streamed_bytes nonce on c l (take (length s - 8) s) (take_bytes (length s - 8) s b)

  -- of two lists of one length and one ciphertext, one tag alone is right
  module _ (a : List ℕ) (ba : Bytes a) (s t : List ℕ) (bs : Bytes s) (bt : Bytes t) (h : 8 ≤ length s) (e : length t ≡ length s) (q : take (length s - 8) t ≡ take (length s - 8) s) where
    same_opened : opened c nonce t ≡ opened c nonce s
    unfolding opened
    same_opened = ap (streamed c nonce) (ap (λ (n : ℕ). take (n - 8) t) e ∙ q)

    pub one_tag : genuine c nonce a s ≡ true → genuine c nonce a t ≡ true → t ≡ s
    one_tag gs gt =
        genuine_sealed nonce on c l a ba t bt (omega arith) gt ∙ ap (sealed c nonce a) same_opened ∙ sym (genuine_sealed nonce on c l a ba s bs h gs)
