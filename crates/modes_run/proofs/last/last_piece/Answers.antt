use Prim.Native.Nat.{◌≤◌, ◌<◌}
use lib.ListN.{length}
use Rattle.aes_spec.specs.Model.{one_way}
use Rattle.modes_spec.specs.Modes.{machine}
use Rattle.modes_spec.specs.declared.Operation.TheVariants.{Ofb}
use Rattle.modes_run.proofs.Runs.{rest_none, rest_one}
use borrow.Author.Rules.{rules}
use Rattle.modes_run.proofs.last.last_piece.Goals as goal

pub returns-then-is_empty : goal.returns-then-is_empty
returns-then-is_empty c =
    let a = c.args in
    rest_none (machine (one_way a.schedule.now.words a.schedule.now.rounds) Ofb) a.chain a.input.now a.output.now (search rules)

pub returns : goal.returns
returns c =
    let a = c.args in
    let s = a.input.now in
    let some : 0 < length s = search rules in
    let h : length s ≤ 16 = search rules in
    rw (c.add.ensures, c.encrypt_block-output_block.ensures)
    (rest_one (machine (one_way a.schedule.now.words a.schedule.now.rounds) Ofb) a.chain s a.output.now some h (search rules))
