use mathlib.Core.Path.{◌≡◌}
use mathlib.Core.List.{◌++◌}
use Prim.Native.Nat.{◌*◌, ◌≤◌}
use lib.ListN.{length, drop}
use Rattle.modes_spec.specs.Modes.{machine}
use Rattle.modes_spec.specs.Pieces.{output_of, after}
use Rattle.rijndael_spec.specs.Rijndael.{block_size}
use Rattle.rijndael_spec.specs.Operations.{mode_of}
use Rattle.rijndael_model.specs.Model.{block_of}
use Rattle.rijndael.specs.Model.{wide_one_way}
use Rattle.rijndael.proofs.pieces.pieces.Given as goal

abbrev pub invariant-loop-i : goal.invariant-loop-i
invariant-loop-i l = let m = machine (wide_one_way l.width l.words l.rounds) (mode_of l.operation) in
    let z = block_size l.width in
    (l.i ≤ l.count) × (length l.output ≡ length l.initial.output) × (length (output_of z m (block_of l.width l.initial.chain) l.i l.input) ≡ l.i * z)
    × (block_of l.width l.chain ≡ after z m (block_of l.width l.initial.chain) l.i l.input) × (l.output ≡ output_of z m (block_of l.width l.initial.chain) l.i l.input ++ drop (l.i * z) l.initial.output)
