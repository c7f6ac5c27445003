-- Tests asked in order. Assumes nothing.
use mathlib.Core.Path.{◌≡◌, refl}
use mathlib.Core.Bool.{Bool, true, false, cond}
use Prim.Native.Nat.{ℕ}
use native.Mathlib.Omega.{arith}
use mathlib.Core.List.{List, [], ◌∷◌, ◌++◌}
use Rattle.image_reasons.specs.Reasons.{first_of}
use Rattle.image_reasons.specs.declared.Reason.{Reason}
use Rattle.image_reasons.specs.declared.Verdict.{Verdict}
use Rattle.image_reasons.specs.declared.Verdict.TheVariants.{Accepted, Refused}

-- a test that holds refuses
pub hit : (t : Bool) (r : Reason) (ts : List (Bool × Reason)) → t ≡ true → Refused r ≡ first_of ((t, r) ∷ ts)
unfolding first_of
hit t r ts e = rw e

-- one that does not leaves it to the rest
pub miss : (t : Bool) (r : Reason) (ts : List (Bool × Reason)) (v : Verdict) → t ≡ false → v ≡ first_of ts → v ≡ first_of ((t, r) ∷ ts)
unfolding first_of
miss t r ts v e f = rw e f

-- where none is left, the block is accepted
pub through : Accepted ≡ first_of []
unfolding first_of
through = refl

-- tests after tests: the first list's refusal, else what the second says
abbrev pub unless : Verdict → Verdict → Verdict
unless Accepted w = w
unless (Refused r) w = Refused r

pub after_tests : (ts us : List (Bool × Reason)) → first_of (ts ++ us) ≡ unless (first_of ts) (first_of us)
unfolding first_of
after_tests [] us = refl
after_tests (t ∷ ts) us = go t.0 (after_tests ts us)
  where
    go : (b : Bool) → first_of (ts ++ us) ≡ unless (first_of ts) (first_of us)
        → cond b (Refused t.1) (first_of (ts ++ us)) ≡ unless (cond b (Refused t.1) (first_of ts)) (first_of us)
    go true e = refl
    go false e = e

-- a block that is accepted met every test
abbrev pub AllFalse : List (Bool × Reason) → Type 0
AllFalse [] = Unit {0}
AllFalse (t ∷ ts) = (t.0 ≡ false) × AllFalse ts

pub all_false : (ts : List (Bool × Reason)) → first_of ts ≡ Accepted → AllFalse ts
unfolding first_of
all_false [] e = tt
all_false (t ∷ ts) e = go t.0 refl e (all_false ts)
  where
    go : (b : Bool) → t.0 ≡ b → cond b (Refused t.1) (first_of ts) ≡ Accepted → (first_of ts ≡ Accepted → AllFalse ts) → (t.0 ≡ false) × AllFalse ts
    go true f q r = let z : ◌≡◌ {A = ℕ} 0 1 = cc in absurd (omega arith)
    go false f q r = (f, r q)

pub all_accepted : (ts : List (Bool × Reason)) → AllFalse ts → first_of ts ≡ Accepted
unfolding first_of
all_accepted [] e = refl
all_accepted (t ∷ ts) e = rw e.0 (all_accepted ts e.1)
