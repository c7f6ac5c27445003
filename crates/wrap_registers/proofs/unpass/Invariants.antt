use mathlib.Core.Path.{◌≡◌}
use Prim.Native.Nat.{◌≤◌}
use lib.ListN.{length}
use Rattle.aes_spec.specs.Model.{one_way}
use Rattle.wrap_spec.specs.Wrap.{unpass}
use Rattle.wrap_registers.proofs.unpass.Given as goal

abbrev pub invariant-loop-i : goal.invariant-loop-i
invariant-loop-i l = (l.i ≤ l.n) × (length l.w ≡ length l.initial.w) × (unpass (one_way l.schedule.words l.schedule.rounds) l.n l.j l.i l.w ≡ unpass (one_way l.schedule.words l.schedule.rounds) l.n l.j l.n l.initial.w)
