-- What the answer for a pair of keys says of the two. Assumes nothing.
use mathlib.Core.Path.{◌≡◌, refl, sym, ◌∙◌}
use mathlib.Core.Bool.{Bool, true, false, cond}
use Prim.Native.Nat.{ℕ}
use native.Mathlib.Omega.{arith}
use Rattle.aes_schedule.specs.declared.Expanded.{Expanded}
use Rattle.aes_schedule.specs.declared.KeyAnswer.{KeyAnswer}
use Rattle.aes_schedule.specs.declared.KeyAnswer.TheVariants.{Taken, KeyLength}
use Rattle.image_spec.specs.KeyPair.{both_taken, pair_answer}

module _ (e c : Expanded) (a : KeyAnswer) (ea : a ≡ pair_answer e c) where
  pub pair_taken : a ≡ Taken → both_taken e c ≡ true
  pair_taken h = go (both_taken e c) (sym ea ∙ h)
    where
      go : (t : Bool) → cond {A = KeyAnswer} t Taken KeyLength ≡ Taken → t ≡ true
      go true q = refl
      go false q = let y : ◌≡◌ {A = ℕ} 0 1 = cc in absurd (omega arith)

  pub pair_refused : (a ≡ Taken → ⊥) → both_taken e c ≡ false
  pair_refused h = go (both_taken e c) (λ q. h (ea ∙ q))
    where
      go : (t : Bool) → (cond {A = KeyAnswer} t Taken KeyLength ≡ Taken → ⊥) → t ≡ false
      go true q = absurd (q refl)
      go false q = refl
