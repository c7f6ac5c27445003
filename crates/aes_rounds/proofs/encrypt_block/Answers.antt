use mathlib.Core.Path.{ap, ◌∙◌}
use Rattle.aes_sbox.specs.Sbox.{s_box}
use Rattle.aes_spec.specs.Cipher.{encrypt_block}
use Rattle.aes_rounds.proofs.Pieces.{zeros_added}
use borrow.Author.Rules.{rules}
use Rattle.aes_rounds.proofs.encrypt_block.Goals as goal

pub returns : goal.returns
returns c = let a = c.args in
    c.take_in.ensures ∙ ap (encrypt_block s_box a.schedule.now.words a.schedule.now.rounds) (zeros_added a.block (search rules))
