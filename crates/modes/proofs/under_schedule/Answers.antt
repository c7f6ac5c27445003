use Prim.Native.Nat.{ℕ}
use Rattle.modes_run.proofs.Agree.{through_forward, through_backward}
use Rattle.modes_run.specs.Model.{run_over}
use Rattle.aes_schedule.specs.declared.KeySchedule.{KeySchedule}
use Rattle.aes_spec.specs.Model.{one_way, inverse_words}
use mathlib.Core.List.{List}
use mathlib.Core.Path.{sym, ap, ◌∙◌}
use Rattle.modes.proofs.under_schedule.Goals as goal

pub returns-then-inverts : goal.returns-then-inverts
returns-then-inverts c =
    let a = c.args in
    let w = a.schedule.now.words in
    c.run.ensures
    ∙ ap (λ (s : KeySchedule). run_over (one_way s.words s.rounds) a.operation a.iv a.input.now a.output.now) c.inverse_into.ensures
    ∙ through_backward w (inverse_words w a.schedule.now.rounds) a.schedule.now.rounds a.operation a.iv a.input.now a.output.now
    (sym c.inverts.ensures ∙ c.if-inverts.true)

pub returns : goal.returns
returns c =
    let a = c.args in
    let w = a.schedule.now.words in
    c.run-2.ensures
    ∙ through_forward w (inverse_words w a.schedule.now.rounds) a.schedule.now.rounds a.operation a.iv a.input.now a.output.now
    (sym c.inverts.ensures ∙ c.if-inverts.false)
