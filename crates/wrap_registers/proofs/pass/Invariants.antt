use mathlib.Core.Path.{◌≡◌}
use Prim.Native.Nat.{◌≤◌, ◌+◌, ◌-◌}
use lib.ListN.{length}
use Rattle.aes_spec.specs.Cipher.{standard}
use Rattle.wrap_spec.specs.Wrap.{pass}
use Rattle.wrap_registers.proofs.pass.Given as goal

abbrev pub invariant-loop-i : goal.invariant-loop-i
invariant-loop-i l = (1 ≤ l.i) × (l.i ≤ l.n + 1) × (length l.w ≡ length l.initial.w) × (l.w ≡ pass (standard l.schedule.words l.schedule.rounds) l.n l.j (l.i - 1) l.initial.w)
