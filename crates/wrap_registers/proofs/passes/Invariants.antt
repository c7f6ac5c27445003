use mathlib.Core.Path.{◌≡◌}
use Prim.Native.Nat.{◌≤◌}
use lib.ListN.{length}
use Rattle.aes_spec.specs.Cipher.{standard}
use Rattle.wrap_spec.specs.Wrap.{passes}
use Rattle.wrap_registers.proofs.passes.Given as goal

abbrev pub invariant-loop-j : goal.invariant-loop-j
invariant-loop-j l = (l.j ≤ 6) × (length l.w ≡ length l.initial.w) × (l.w ≡ passes (standard l.schedule.words l.schedule.rounds) l.n l.j l.initial.w)
