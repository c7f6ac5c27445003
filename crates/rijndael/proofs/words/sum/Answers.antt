use mathlib.Core.Path.{refl, sym, ◌∙◌}
use Rattle.octets.specs.Octets.{xor}
use Rattle.octets.proofs.Fill.{filled_none, filled_more, filled_all}
use Rattle.octets_block.proofs.Laws.{sum_tabulate}
use borrow.Author.Rules.{rules}
use native.Mathlib.Omega.{arith}
use Rattle.rijndael.proofs.words.sum.Goals as goal

pub loop-i-init : goal.loop-i-init
loop-i-init c = (search rules, filled_none 8 _ _ refl)

pub loop-i-preserved : goal.loop-i-preserved
unfolding xor
loop-i-preserved c = (search rules, filled_more c.loop-i.invariant.1 c.loop-i-test.true _ refl)

pub returns : goal.returns
returns c = let a = c.args in
    filled_all c.loop-i.invariant.1 c.loop-i-test.false
    ∙ sym (sum_tabulate 8 a.a a.b c.well_formed.0.1.0.1 (omega (arith, c.well_formed.1.0.1.0.1)))
