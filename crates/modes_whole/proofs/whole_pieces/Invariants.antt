use Prim.Native.Nat.{◌*◌, ◌≤◌}
use mathlib.Core.List.{◌++◌}
use mathlib.Core.Path.{◌≡◌}
use lib.ListN.{length, drop}
use Rattle.aes_spec.specs.Model.{one_way}
use Rattle.modes_spec.specs.Modes.{machine}
use Rattle.modes_spec.specs.Pieces.{output_of, after}
use Rattle.modes_whole.proofs.whole_pieces.Given as goal

abbrev pub invariant-loop-i : goal.invariant-loop-i
invariant-loop-i l =
    let m = machine (one_way l.schedule.words l.schedule.rounds) l.operation in
    (l.i ≤ l.n) × (length l.output ≡ length l.initial.output) × (length (output_of 16 m l.initial.chain l.i l.input) ≡ l.i * 16)
    × (l.chain ≡ after 16 m l.initial.chain l.i l.input) × (l.output ≡ output_of 16 m l.initial.chain l.i l.input ++ drop (l.i * 16) l.initial.output)
