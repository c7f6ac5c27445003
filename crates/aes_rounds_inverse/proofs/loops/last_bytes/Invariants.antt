use Prim.Native.Nat.{◌≤◌}
use Rattle.octets.proofs.Fill.{Filled}
use Rattle.aes_rounds_inverse.proofs.Rounds.{last_byte}
use Rattle.aes_rounds_inverse.proofs.loops.last_bytes.Given as goal

abbrev pub invariant-loop-m : goal.invariant-loop-m
invariant-loop-m l = (l.m ≤ 16) × Filled 16 (last_byte l.t) l.b l.m
