use mathlib.Core.Path.{◌≡◌, refl, sym, ◌∙◌}
use lib.ListN.{length}
use Rattle.octets.specs.Octets as octets
use Rattle.octets.proofs.Fill.{filled_none, filled_more, filled_all}
use Rattle.octets_block.proofs.Laws.{sum_tabulate}
use borrow.Author.Rules.{rules}
use native.Mathlib.Omega.{arith}
use Rattle.modes_run.proofs.last.add.Goals as goal

pub loop-i-init : goal.loop-i-init
loop-i-init c = (omega arith, refl, search rules, filled_none _ _ _ (search rules))

pub loop-i-preserved : goal.loop-i-preserved
unfolding octets.xor
loop-i-preserved c = (search rules, search rules, search rules, filled_more c.loop-i.invariant.3 (omega arith) _ refl)

pub returns : goal.returns
returns c =
    let l = c.loop-i in
    let a = c.args in
    let room : length a.block ≡ 16 = search rules in
    filled_all l.invariant.3 (omega arith) ∙ sym (sum_tabulate (length a.input.now) a.input.now a.block refl (omega arith))
