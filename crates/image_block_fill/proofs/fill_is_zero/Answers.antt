use mathlib.Core.Path.{◌∙◌}
use borrow.Author.Tests.{ne_eqb, le-leb}
use Rattle.aes_sbox.specs.Sbox.{s_box, inv_s_box}
use Rattle.image_spec.specs.Model.{lent_cipher}
use Rattle.image_spec.proofs.Sizes.{encrypt_sized, decrypt_sized}
use Rattle.image_spec.proofs.Opening.{fill_of_none, fill_of_block, fill_past}
use Rattle.image_block_fill.proofs.fill_is_zero.Goals as goal

pub returns-else-block-eq512 : goal.returns-else-block-eq512
returns-else-block-eq512 c = let a = c.args in
    ne_eqb _ _ c.if-block-eq512.false ∙ fill_of_none (lent_cipher a.enc.now a.dec.now) a.len a.block.now c.if-block-eq512.false

pub returns-then-len-ge480 : goal.returns-then-len-ge480
returns-then-len-ge480 c = let a = c.args in
    le-leb _ _ c.if-len-ge480.true ∙ fill_past (lent_cipher a.enc.now a.dec.now) a.len a.block.now c.if-block-eq512.true
    (encrypt_sized s_box a.enc.now.words a.enc.now.rounds) (decrypt_sized inv_s_box a.dec.now.words a.dec.now.rounds) c.if-len-ge480.true

pub zero_after-requires : goal.zero_after-requires
zero_after-requires c = (c.if-block-eq512.true, c.if-len-ge480.false)

pub returns-else-len-ge480 : goal.returns-else-len-ge480
returns-else-len-ge480 c = let a = c.args in
    fill_of_block (lent_cipher a.enc.now a.dec.now) a.len a.block.now c.if-block-eq512.true _ c.zero_after.ensures
