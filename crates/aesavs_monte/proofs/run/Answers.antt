use Rattle.aesavs_monte.proofs.Agree.{ran_agrees}
use Rattle.aesavs_monte.proofs.run.Goals as goal

pub returns : goal.returns
returns c = let k = c in
    let a = k.args in
    ran_agrees a.way a.chained a.link _ _ _ k.part.ensures k.record_steps-t.ensures c.next_link.ensures
