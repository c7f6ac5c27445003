use mathlib.Core.Path.{◌∙◌}
use Rattle.aes_spec.specs.Model.{one_way}
use Rattle.wrap_spec.proofs.Passing.{unstep_by}
use native.Mathlib.Omega.{arith}
use Rattle.wrap_registers.proofs.unstep.Goals as goal

pub returns : goal.returns
returns c =
    let b = c.put_back in
    let d = c.decrypt_block-made in
    let x = c.counter_added-given in
    let p = c.pair in
    let a = c.args in
    b.ensures
    ∙ unstep_by (one_way a.schedule.now.words a.schedule.now.rounds) a.t a.i a.w.now p.result x.result d.result (omega (arith, c.requires.1)) p.ensures x.ensures d.ensures
