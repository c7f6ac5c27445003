use Rattle.aes_schedule.proofs.Laws.{expanded}
use Rattle.modes.proofs.Calls.{refused_keeps, refused_zeros, same_applied, answered, written}
use Rattle.octets.specs.Octets.{Bytes}
use mathlib.Core.Path.{sym}
use native.Mathlib.Omega.{arith}
use Rattle.modes.proofs.apply.Goals as goal

pub returns-in_default : goal.returns-in_default
returns-in_default c =
    let a = c.args in
    let e = answered a.operation a.key.now a.iv.now a.input.now a.output.now _ _ (expanded c.expand-taken.ensures) c.judge-answer.ensures in record {
      answer = same_applied _ _ _ a.operation a.key.now a.iv.now a.input.now e
          (sym (refused_zeros c.judge-answer.result a.operation a.key.now a.iv.now a.input.now c.in_default.not-Done));
      written = sym (refused_keeps c.judge-answer.result a.operation a.key.now a.iv.now a.input.now a.output.now c.in_default.not-Done);
    }

pub returns : goal.returns
returns c =
    let a = c.args in
    let bi : Bytes a.iv.now = λ i. omega (arith, c.type_inv.iv i) in
    let bs : Bytes a.input.now = λ i. omega (arith, c.type_inv.input i) in
    let pe = expanded c.expand-taken.ensures in
    let pr = c.judge-answer.ensures in
    let e = answered a.operation a.key.now a.iv.now a.input.now a.output.now _ _ pe pr in
    let w =
    written a.operation a.key.now a.iv.now a.input.now a.output.now _ _ pe pr _ _ _
    c.load-start.ensures bi bs c.in-Done.is c.under_schedule-next.ensures in
    record { answer = same_applied _ _ _ a.operation a.key.now a.iv.now a.input.now e w.0; written = w.1 }
