use Rattle.std.proofs.Common.{◌∙◌, sym, rules, get_or}
use Rattle.octets.specs.Octets.{xor}
use Rattle.octets_block.proofs.Laws.{made_tabulate, sum_tabulate}
use Rattle.octets_block.proofs.xor.Goals as goal

pub returns : goal.returns
unfolding xor
returns c = let a = c.args in
    made_tabulate _ _ (λ k. xor (get_or a.a k 0) (get_or a.b k 0)) (λ i y q k. search rules) c.from_fn.result 16 c.from_fn.ensures.items
    ∙ sym (sum_tabulate 16 a.a a.b (search rules) (search rules))
