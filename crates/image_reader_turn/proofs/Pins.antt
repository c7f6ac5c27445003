-- What R30 of docs/REQUIREMENTS.md says about how many blocks a turn handles, stated of the definition. Assumes nothing.
use mathlib.Core.Path.{◌≡◌, refl}
use mathlib.Core.List.{List}
use Prim.Native.Nat.{ℕ, ◌/◌, ◌≤◌, min}
use native.Mathlib.Omega.{arith}
use lib.ListN.{length}
use Rattle.image_reader_turn.specs.Turn.{handled}

-- with m blocks lent it handles at most k, the smaller of m and the asked number
pub handles_the_smaller : (lent : List ℕ) (asked : ℕ) → handled lent asked ≡ min asked (length lent / 512)
handles_the_smaller lent asked = refl

pub handles_at_most : (lent : List ℕ) (asked : ℕ) → (handled lent asked ≤ asked) × (handled lent asked ≤ length lent / 512)
handles_at_most lent asked = (omega arith, omega arith)
