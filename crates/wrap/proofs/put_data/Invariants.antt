use mathlib.Core.Path.{◌≡◌}
use Prim.Native.Nat.{◌≤◌}
use lib.ListN.{length}
use lib.Seq.{paste}
use Rattle.wrap.proofs.put_data.Given as goal

abbrev pub invariant-loop-k : goal.invariant-loop-k
invariant-loop-k l = (l.k ≤ length l.given) × (l.k-end ≡ length l.given) × (length l.output ≡ length l.initial.output) × (l.output ≡ paste l.initial.output 8 l.given l.k)
