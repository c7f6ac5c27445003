use mathlib.Core.Path.{◌≡◌, ◌∙◌}
use lib.ListN.{length}
use Rattle.cmac_spec.proofs.Filling.{last_short, last_full}
use borrow.Author.Rules.{rules}
use Rattle.cmac_subkeys.proofs.Subkeys.last.Goals as goal

pub returns-then-count-lt16 : goal.returns-then-count-lt16
returns-then-count-lt16 c =
    let size : length c.args.held ≡ 16 = search rules in
    c.xor.ensures ∙ rw c.piece_filled.ensures (last_short c.args.held size c.args.self.now.key1 c.args.self.now.key2 c.args.count (search rules))

pub returns-else-count-lt16 : goal.returns-else-count-lt16
returns-else-count-lt16 c =
    let size : length c.args.held ≡ 16 = search rules in
    c.xor-else-count-lt16.ensures ∙ last_full c.args.held size c.args.self.now.key1 c.args.self.now.key2 c.args.count (search rules)
