use mathlib.Core.Path.{◌≡◌}
use Prim.Native.Nat.{◌≤◌, ◌*◌}
use lib.ListN.{length}
use Rattle.image_spec.specs.Judge.{of_both}
use Rattle.image_spec.specs.Model.{lent_of}
use Rattle.image_reader_tally.specs.declared.Stop.TheVariants.{End}
use Rattle.image_reader_turn.specs.Turn.{read_blocks, cut}
use Rattle.image_reader_turn.proofs.Blockwise.{finish, ahead}
use Rattle.image_reader_turn.proofs.read_blocks.Given as goal

abbrev pub invariant-loop-j : goal.invariant-loop-j
invariant-loop-j l =
    (l.done.stop ≡ End) × (l.done.accepted ≡ l.j) × (length l.output ≡ length l.initial.output) × (l.done.bytes ≤ l.done.accepted * 65535)
    × (ahead (of_both (lent_of l.keys l.dec l.subkeys)) l.blocks l.k l.done l.output
    ≡ finish 0 0 l.initial.output (read_blocks (of_both (lent_of l.keys l.dec l.subkeys)) l.initial.done.progress (cut l.k l.blocks)))
