use Rattle.aesavs_monte.specs.Model.{key_byte}
use Rattle.octets.proofs.Fill.{Filled}
use Prim.Native.Nat.{◌≤◌}
use mathlib.Core.List.{◌++◌}
use Rattle.aesavs_monte.proofs.keys.next_key.Given as goal

abbrev pub invariant-loop-i : goal.invariant-loop-i
invariant-loop-i l = (l.i ≤ 32) × Filled 32 (key_byte l.key l.n (l.before ++ l.last)) l.next l.i
