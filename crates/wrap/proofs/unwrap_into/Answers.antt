use Rattle.octets_slice.proofs.Laws.{copied_fits}
use native.Mathlib.Omega.{arith}
use mathlib.Core.Path.{◌∙◌}
use Rattle.aes_spec.specs.Model.{one_way}
use Rattle.wrap.proofs.Building.{opened_wrong, opened_right}
use Rattle.wrap.proofs.unwrap_into.Goals as goal

pub returns-else-is_initial : goal.returns-else-is_initial
returns-else-is_initial c =
    let o = c.opened-w in
    let a = c.args in
    let t = opened_wrong (one_way a.schedule.now.words a.schedule.now.rounds) a.given.now a.output.now o.result (omega (arith, c.requires.0)) o.ensures.registers o.ensures.size _ c.is_initial.ensures c.if-is_initial.false in
    record { answer = t.0; written = t.1 }

pub returns-then-is_initial : goal.returns-then-is_initial
returns-then-is_initial c =
    let o = c.opened-w in
    let a = c.args in
    let t = opened_right (one_way a.schedule.now.words a.schedule.now.rounds) a.given.now a.output.now o.result (omega (arith, c.requires.0)) o.ensures.registers o.ensures.size _ c.is_initial.ensures c.if-is_initial.true _ (c.copy.ensures ∙ copied_fits _ 0 a.output.now (omega (arith, c.requires))) in
    record { answer = t.0; written = t.1 }
