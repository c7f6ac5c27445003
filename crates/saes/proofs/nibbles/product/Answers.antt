use borrow.Author.Rules.{rules}
use Rattle.saes_spec.specs.Nibbles.{◌•₄◌}
use Rattle.saes.proofs.nibbles.product.Goals as goal

pub returns : goal.returns
unfolding ◌•₄◌
returns c = search rules
