use mathlib.Core.Path.{sym, ◌∙◌}
use Rattle.aes_spec.specs.Model.{one_way}
use Rattle.modes_run.proofs.Runs.{run_whole, run_all}
use borrow.Author.Rules.{rules}
use Rattle.modes_run.proofs.run.Goals as goal

pub returns-then-any_length : goal.returns-then-any_length
returns-then-any_length c =
    let a = c.args in
    run_all (one_way a.schedule.now.words a.schedule.now.rounds) a.operation a.iv a.input.now a.output.now _ _ c.whole_pieces-chain.ensures
    (sym c.any_length.ensures ∙ c.if-any_length.true) _ c.min-end.ensures (search rules) _ _ c.last_piece.ensures

pub returns : goal.returns
returns c =
    let a = c.args in
    run_whole (one_way a.schedule.now.words a.schedule.now.rounds) a.operation a.iv a.input.now a.output.now _ _ c.whole_pieces-chain.ensures
    (sym c.any_length.ensures ∙ c.if-any_length.false)
