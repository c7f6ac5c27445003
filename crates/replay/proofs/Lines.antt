-- Where a line ends, the next one begins behind where this one was taken up. Assumes nothing.
use mathlib.Core.Path.{◌≡◌, sym}
use mathlib.Core.List.{List}
use Prim.Native.Nat.{ℕ, ◌≤◌, ◌<◌}
use lib.ListN.{length}
use Rattle.std.specs.Prelude.{IfSome, Option, Some, None, Result}
use Rattle.text_lines.specs.declared.TooLong.{TooLong}
use Rattle.text_lines.specs.Gathering.{gathered}
use Rattle.text_lines.proofs.Laws.{goes_on}

pub next_goes_on : (o : Option ℕ) (line : Result ℕ TooLong) (inp : List ℕ) (at : ℕ) (memory : List ℕ) → o ≡ (gathered line inp at memory).next
    → IfSome o (λ next. (at < next) × (next ≤ length inp))
next_goes_on None line inp at memory e = tt
next_goes_on (Some n) line inp at memory e = goes_on line inp at memory n (sym e)
