use mathlib.Core.Path.{◌≡◌}
use Prim.Native.Nat.{◌≤◌}
use lib.ListN.{length}
use Rattle.aes_spec.specs.Model.{one_way}
use Rattle.wrap_spec.specs.Wrap.{unpasses}
use Rattle.wrap_registers.proofs.unpasses.Given as goal

abbrev pub invariant-loop-j : goal.invariant-loop-j
invariant-loop-j l = (l.j ≤ 6) × (length l.w ≡ length l.initial.w) × (unpasses (one_way l.schedule.words l.schedule.rounds) l.n l.j l.w ≡ unpasses (one_way l.schedule.words l.schedule.rounds) l.n 6 l.initial.w)
