use mathlib.Core.Path.{◌≡◌}
use Prim.Native.Nat.{◌≤◌}
use lib.ListN.{length, get_or}
use Rattle.octets.specs.Octets as octets
use Rattle.octets.proofs.Fill.{Filled}
use Rattle.modes_run.proofs.last.add.Given as goal

abbrev pub invariant-loop-i : goal.invariant-loop-i
invariant-loop-i l =
    (l.i ≤ length l.input) × (l.i-end ≡ length l.input) × (length l.input ≤ 16) × Filled (length l.input) (λ k. octets.xor (get_or l.input k 0) (get_or l.block k 0)) l.output l.i
