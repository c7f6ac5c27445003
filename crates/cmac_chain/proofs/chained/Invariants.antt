use mathlib.Core.Path.{◌≡◌}
use Prim.Native.Nat.{◌≤◌, ◌*◌, ◌/◌, ◌-◌}
use lib.ListN.{length, drop}
use Rattle.cmac_spec.specs.Cmac as spec
use Rattle.aes_spec.specs.Cipher.{standard}
use Rattle.cmac_chain.proofs.chained.Given as goal

abbrev pub invariant-loop-i : goal.invariant-loop-i
invariant-loop-i l =
    (l.i ≤ l.i-end) × (l.i-end ≡ length l.part / 16) × (spec.chained (standard l.schedule.words l.schedule.rounds) l.value (l.i-end - l.i) (drop (l.i * 16) l.part) ≡ spec.chained (standard l.schedule.words l.schedule.rounds) l.initial.value l.i-end l.part)
