use mathlib.Core.Path.{refl, ◌∙◌}
use borrow.Author.Rules.{rules}
use Rattle.octets.proofs.Fill.{filled_none, filled_more, filled_all}
use Rattle.aes_rounds.proofs.Rounds.{last_byte_is, last_law}
use Rattle.aes_rounds.proofs.loops.last_bytes.Goals as goal

pub loop-m-init : goal.loop-m-init
loop-m-init c = (search rules, filled_none 16 _ _ refl)

pub loop-m-preserved : goal.loop-m-preserved
loop-m-preserved c = let a = c.args in
    let l = c.loop-m in
    (search rules, filled_more l.invariant.1 (search rules) _ (last_byte_is a.t l.m c.last_row.result c.last_row.ensures))

pub returns : goal.returns
returns c = let l = c.loop-m in
    filled_all l.invariant.1 (search rules) ∙ last_law c.args.t (search rules)
