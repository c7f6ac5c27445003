use mathlib.Core.Path.{refl}
use Rattle.octets.specs.Octets.{xor}
use Rattle.rijndael_model.specs.Model.{key_added}
use Rattle.rijndael_rounds.proofs.States.{filling_none, filling_more, filling_all}
use borrow.Author.Rules.{rules}
use native.Mathlib.Omega.{arith}
use Rattle.rijndael_rounds.proofs.rounds.begin.Goals as goal

pub loop-c-init : goal.loop-c-init
loop-c-init c = (search rules, filling_none _ _ _ refl)

pub loop-c-preserved : goal.loop-c-preserved
unfolding xor
loop-c-preserved c = let l = c.loop-c in
    (omega arith, filling_more l.invariant.1 (omega arith) (omega arith) _ refl)

pub returns : goal.returns
unfolding key_added
returns c = filling_all c.loop-c.invariant.1 (omega arith)
