use Rattle.std.proofs.Common.{rules}
use Rattle.octets_slice.proofs.Laws.{gathered_more}
use Rattle.octets_slice.proofs.differences.Goals as goal

pub loop-x-preserved : goal.loop-x-preserved
loop-x-preserved c = let l = c.loop-x in
    let steps = c.in-Some.ensures.steps in
    (search rules, cc (gathered_more _ _ l.gathered _ _ _ _ steps.0 steps.1, l.invariant.1))
