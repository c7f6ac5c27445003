use Rattle.aesavs_monte.specs.Chain.{turn_of, iterate}
use Rattle.modes_spec.specs.Modes.{machine}
use Rattle.aes_spec.specs.Model.{one_way}
use Prim.Native.Nat.{◌≤◌}
use mathlib.Core.Path.{◌≡◌}
use Rattle.aesavs_monte.proofs.steps.thousand.Given as goal

abbrev pub invariant-loop-j : goal.invariant-loop-j
invariant-loop-j l = (l.j ≤ 1000) × (l.t ≡ iterate l.j (turn_of (machine (one_way l.schedule.words l.schedule.rounds) l.operation) l.chained) l.initial.t)
