use Rattle.aesavs_monte.proofs.Agree.{steps_agree}
use Rattle.octets.specs.Octets.{Octets}
use mir.Val.{Fits}
use mir.Syntax.{w8}
use lib.ListN.{get_or}
use borrow.Author.Rules.{rules}
use Rattle.aesavs_monte.proofs.record_steps.Goals as goal

pub returns : goal.returns
returns c = let k = c in
    let a = k.args in
    let i : Octets 16 a.iv = record { size = search rules; bytes = λ j. (let h : Fits w8 (get_or a.iv j 0) = search rules in h.fits) } in
    let o : Octets 16 a.text = record { size = search rules; bytes = λ j. (let h : Fits w8 (get_or a.text j 0) = search rules in h.fits) } in
    steps_agree a.way a.chained a.key.now a.iv a.text _ _ _ i o k.schedule_for.ensures k.operation_of-operation.ensures c.thousand.ensures
