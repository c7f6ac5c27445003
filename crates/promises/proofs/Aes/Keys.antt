-- Which keys are taken, and that the calls which can refuse a key alone do so exactly then. Assumes nothing.
use mathlib.Core.Path.{◌≡◌, refl, sym, ap, subst, ◌∙◌}
use mathlib.Core.Bool.{Bool, true, false, cond}
use mathlib.Core.List.{List}
use mathlib.Core.Logic.{◌⊎◌, inl, inr, ⊎_elim}
use Prim.Native.Nat.{ℕ}
use native.Mathlib.Omega.{arith}
use borrow.Author.Tests.{eqb-true}
use lib.Dec.{eqb}
use lib.ListN.{length}
use Rattle.aes_sbox.specs.Sbox.{s_box}
use Rattle.aes_schedule.specs.Schedule.{taken, refused, schedule_of, key_number}
use Rattle.aes_schedule.specs.declared.Expanded.{Expanded}
use Rattle.aes_schedule.specs.declared.KeyAnswer.{KeyAnswer}
use Rattle.aes_schedule.specs.declared.KeyAnswer.TheVariants.{Taken, KeyLength}
use Rattle.aes.specs.Calls.{encrypt_under, decrypt_under}
use Rattle.aes.specs.declared.Ciphered.{Ciphered}
use Rattle.aes_schedule.proofs.KeySchedule.new.Reads as new
use Rattle.aes.proofs.encrypt.Reads as encrypt
use Rattle.aes.proofs.decrypt.Reads as decrypt

-- the key schedule takes the key
abbrev pub KeyTaken : List ℕ → Type 0
KeyTaken key = key_number (schedule_of s_box key).answer ≡ 0

made : List ℕ → Bool → Bool → Bool → Expanded
made key a b c = cond a (taken s_box key 4 10) (cond b (taken s_box key 6 12) (cond c (taken s_box key 8 14) refused))

-- 16, 24 or 32
abbrev pub IsKeySize : ℕ → Type 0
IsKeySize n = (n ≡ 16) ⊎ ((n ≡ 24) ⊎ (n ≡ 32))

-- a key is taken exactly if it has so many bytes
pub a_taken_key_has_a_size : (key : List ℕ) → KeyTaken key → IsKeySize (length key)
unfolding schedule_of taken refused made
a_taken_key_has_a_size key = each (eqb (length key) 16) (eqb (length key) 24) (eqb (length key) 32) refl refl refl
  where
    each : (a b c : Bool) → eqb (length key) 16 ≡ a → eqb (length key) 24 ≡ b → eqb (length key) 32 ≡ c
        → key_number (made key a b c).answer ≡ 0 → IsKeySize (length key)
    each true b c e f g h = inl (eqb-true _ _ e)
    each false true c e f g h = inr (inl (eqb-true _ _ f))
    each false false true e f g h = inr (inr (eqb-true _ _ g))
    each false false false e f g h = absurd (omega arith)

pub a_key_of_a_size_is_taken : (key : List ℕ) → IsKeySize (length key) → KeyTaken key
unfolding schedule_of taken refused
a_key_of_a_size_is_taken key = ⊎_elim (λ e. rw e) (⊎_elim (λ e. rw e) (λ e. rw e))

-- ---- the calls that refuse a key, and nothing else

-- what each answer says
abbrev pub KeySays : ℕ → KeyAnswer → Type 0
KeySays n Taken = IsKeySize n
KeySays n KeyLength = IsKeySize n → ⊥

key_says : (key : List ℕ) → KeySays (length key) (schedule_of s_box key).answer
key_says key = each (schedule_of s_box key).answer refl
  where
    each : (r : KeyAnswer) → (schedule_of s_box key).answer ≡ r → KeySays (length key) r
    each Taken e = a_taken_key_has_a_size key (ap key_number e)
    each KeyLength e = λ h. let z = a_key_of_a_size_is_taken key h in let y : key_number (schedule_of s_box key).answer ≡ 1 = ap key_number e in omega arith

pub taken_key : (key : KeyAnswer) → key_number key ≡ 0 → key ≡ Taken
taken_key Taken e = refl
taken_key KeyLength e = absurd (omega arith)

module _ (key : List ℕ) (r : KeyAnswer) (p : r ≡ (schedule_of s_box key).answer) where
  pub told : KeySays (length key) r
  told = subst (KeySays (length key)) (sym p) (key_says key)

  pub taken_then : IsKeySize (length key) → key_number r ≡ 0
  taken_then h = ap key_number p ∙ a_key_of_a_size_is_taken key h

pub schedule_as_told : (κs : _) (a : _) (r : _) (s : _) → new.Post κs a r s → KeySays (length a.0.now) r.answer
schedule_as_told κs a r s p = told a.0.now r.answer (ap (λ (x : Expanded). x.answer) p)

pub schedule_done : (κs : _) (a : _) (r : _) (s : _) → new.Post κs a r s → IsKeySize (length a.0.now) → key_number r.answer ≡ 0
schedule_done κs a r s p = taken_then a.0.now r.answer (ap (λ (x : Expanded). x.answer) p)

encrypt_answer : (key b : List ℕ) → (encrypt_under key b).answer ≡ (schedule_of s_box key).answer
unfolding encrypt_under
encrypt_answer key b = refl

pub encrypt_as_told : (κs : _) (a : _) (r : _) (s : _) → encrypt.Post κs a r s → KeySays (length a.0.now) r.answer
encrypt_as_told κs a r s p = told a.0.now r.answer (ap (λ (x : Ciphered). x.answer) p ∙ encrypt_answer a.0.now a.1.0)

pub encrypt_done : (κs : _) (a : _) (r : _) (s : _) → encrypt.Post κs a r s → IsKeySize (length a.0.now) → key_number r.answer ≡ 0
encrypt_done κs a r s p = taken_then a.0.now r.answer (ap (λ (x : Ciphered). x.answer) p ∙ encrypt_answer a.0.now a.1.0)

decrypt_answer : (key b : List ℕ) → (decrypt_under key b).answer ≡ (schedule_of s_box key).answer
unfolding decrypt_under
decrypt_answer key b = refl

pub decrypt_as_told : (κs : _) (a : _) (r : _) (s : _) → decrypt.Post κs a r s → KeySays (length a.0.now) r.answer
decrypt_as_told κs a r s p = told a.0.now r.answer (ap (λ (x : Ciphered). x.answer) p ∙ decrypt_answer a.0.now a.1.0)

pub decrypt_done : (κs : _) (a : _) (r : _) (s : _) → decrypt.Post κs a r s → IsKeySize (length a.0.now) → key_number r.answer ≡ 0
decrypt_done κs a r s p = taken_then a.0.now r.answer (ap (λ (x : Ciphered). x.answer) p ∙ decrypt_answer a.0.now a.1.0)
