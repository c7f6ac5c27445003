-- The rounds of the inverse cipher one more and one less, and the bounds of a number of rounds. Assumes nothing.
use mathlib.Core.Path.{◌≡◌, refl}
use mathlib.Core.Bool.{Bool, true, false, ◌||◌}
use mathlib.Core.List.{List}
use Prim.Native.Nat.{ℕ, zero, suc, ◌-◌, ◌<◌}
use native.Mathlib.Nat.{not-suc-le-zero}
use native.Mathlib.Numerals.{sub-one}
use native.Mathlib.Omega.{arith}
use borrow.Author.Tests.{eqb-true}
use lib.Dec.{eqb}
use Rattle.aes_spec.specs.State.{Shape}
use Rattle.aes_spec.specs.Cipher.{inv_round, inv_rounds}
use Rattle.aes_schedule.specs.Schedule.{round_count}

module _ (z : Shape) (sub : ℕ → ℕ) (w s : List ℕ) where
  pub inv_rounds_none : inv_rounds z sub w 0 s ≡ s
  unfolding inv_rounds
  inv_rounds_none = refl

  pub inv_rounds_next : (n : ℕ) → 0 < n → inv_rounds z sub w n s ≡ inv_rounds z sub w (n - 1) (inv_round z sub w n s)
  unfolding inv_rounds
  inv_rounds_next zero h = absurd (not-suc-le-zero h)
  inv_rounds_next (suc n) h = rw (sub-one (suc n))

pub round-count : (n : ℕ) → round_count n ≡ true → (0 < n) × (n < 15)
round-count n = ten (eqb n 10) (eqb n 12) (eqb n 14) refl refl refl
  where
    ten : (a b c : Bool) → eqb n 10 ≡ a → eqb n 12 ≡ b → eqb n 14 ≡ c → a || (b || c) ≡ true → (0 < n) × (n < 15)
    ten true b c e f g h = let k = eqb-true n 10 e in (omega arith, omega arith)
    ten false true c e f g h = let k = eqb-true n 12 f in (omega arith, omega arith)
    ten false false true e f g h = let k = eqb-true n 14 g in (omega arith, omega arith)
    ten false false false e f g h = let x : ◌≡◌ {A = ℕ} 0 1 = cc in absurd (omega arith)
