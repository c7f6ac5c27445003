-- What an answer says: that every test before it passed. Assumes nothing.
use mathlib.Core.Path.{◌≡◌, refl}
use mathlib.Core.Bool.{Bool, true, false, cond}
use Prim.Native.Nat.{ℕ, ◌%◌, ◌≤◌}
use native.Mathlib.Omega.{arith}
use borrow.Author.Tests.{eqb-true, ltb-false}
use lib.Dec.{eqb, ltb}
use Rattle.modes_spec.specs.Modes.{any_length, Unless}
use Rattle.modes_answer.specs.Answers.{left_over, judged}
use Rattle.modes_spec.specs.declared.Operation.{Operation}
use Rattle.modes_answer.specs.declared.ModeAnswer.TheVariants.{Done, BadKey, BadIv, NotPieces, OutputShort}

pub record Met (key wanted iv left inp out : ℕ) : Type 0 where
  pub key_taken : key ≡ 0
  pub iv_right : iv ≡ wanted
  pub taken : left ≡ 0
  pub room : inp ≤ out

chosen : (a b c d : Bool) → cond a (cond b (cond c (cond d OutputShort Done) NotPieces) BadIv) BadKey ≡ Done → (a ≡ true) × (b ≡ true) × (c ≡ true) × (d ≡ false)
chosen true true true false h = (refl, refl, refl, refl)
chosen true true true true h = absurd (let z : ◌≡◌ {A = ℕ} 0 1 = cc in omega arith)
chosen true true false d h = absurd (let z : ◌≡◌ {A = ℕ} 0 1 = cc in omega arith)
chosen true false c d h = absurd (let z : ◌≡◌ {A = ℕ} 0 1 = cc in omega arith)
chosen false b c d h = absurd (let z : ◌≡◌ {A = ℕ} 0 1 = cc in omega arith)

pub met : (key wanted iv left inp out : ℕ) → judged key wanted iv left inp out ≡ Done → Met key wanted iv left inp out
unfolding judged
met key wanted iv left inp out h =
    let t = chosen (eqb key 0) (eqb iv wanted) (eqb left 0) (ltb out inp) h in
    record { key_taken = eqb-true _ _ t.0; iv_right = eqb-true _ _ t.1; taken = eqb-true _ _ t.2; room = ltb-false _ _ t.3 }

-- nothing is left over where whole pieces come, or where any length goes, and nowhere else
pub left_none : (o : Operation) (n : ℕ) → left_over o n ≡ 0 → Unless (any_length o) (n % 16 ≡ 0)
unfolding left_over
left_none o n = by (any_length o)
  where
    by : (k : Bool) → cond k 0 (n % 16) ≡ 0 → Unless k (n % 16 ≡ 0)
    by true e = tt
    by false e = e

pub none_left : (o : Operation) (n : ℕ) → Unless (any_length o) (n % 16 ≡ 0) → left_over o n ≡ 0
unfolding left_over
none_left o n = by (any_length o)
  where
    by : (k : Bool) → Unless k (n % 16 ≡ 0) → cond k 0 (n % 16) ≡ 0
    by true e = refl
    by false e = e
