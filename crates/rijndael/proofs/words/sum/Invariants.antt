use Prim.Native.Nat.{◌≤◌}
use lib.ListN.{get_or}
use Rattle.octets.specs.Octets.{xor}
use Rattle.octets.proofs.Fill.{Filled}
use Rattle.rijndael.proofs.words.sum.Given as goal

abbrev pub invariant-loop-i : goal.invariant-loop-i
invariant-loop-i l = (l.i ≤ 8) × Filled 8 (λ k. xor (get_or l.a k 0) (get_or l.b k 0)) l.r l.i
