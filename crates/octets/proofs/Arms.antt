-- What is left for `_` by a `match` with an arm for each of 256 numbers but the last. Assumes nothing.
use mathlib.Core.Path.{◌≡◌}
use mathlib.Core.Logic.{⊎_elim}
use Prim.Native.Nat.{ℕ, zero, suc, ◌+◌, ◌-◌, ◌≤◌, ◌<◌}
use native.Mathlib.Omega.{arith}
use borrow.Author.Tests.{lt-ltb, le-ltb}
use Rattle.octets.specs.Model.{arm}
use Rattle.octets.proofs.Xor.{lt_or_le}

-- x is none of the k numbers from b on, as `_` has it after k arms
abbrev pub NoneFrom : ℕ → ℕ → ℕ → Type 0
NoneFrom b zero x = Unit
NoneFrom b (suc k) x = NoneFrom b k x × (x ≡ b + k → ⊥)

past : (b k x : ℕ) → b ≤ x → NoneFrom b k x → b + k ≤ x
past b zero x l h = omega arith
past b (suc k) x l h = omega (arith, past b k x l h.0, h.1)

pub last_byte : (x : ℕ) → x < 256 → NoneFrom 0 255 x → x ≡ 255
last_byte x l h = omega (arith, past 0 255 x (omega arith) h)

-- the arms from 256 on: the place of one of them, and of what is left
pub arm_within : (x : ℕ) → 256 ≤ x → x < 512 → arm x ≡ x - 256
arm_within x l h = rw (le-ltb x 256 l) (omega arith)

pub last_arm : (x : ℕ) → NoneFrom 256 255 x → arm x ≡ 255
last_arm x h = ⊎_elim (λ l. rw (lt-ltb x 256 l)) (λ l. (let p = past 256 255 x l h in rw (le-ltb x 256 l) (omega arith))) (lt_or_le x 256)
