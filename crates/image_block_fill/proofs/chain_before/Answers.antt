use Rattle.octets_block.specs.Blocks.{block_at}
use mathlib.Core.Path.{◌≡◌, ap, ◌∙◌}
use Prim.Native.Nat.{◌*◌}
use Rattle.aes_spec.specs.Cipher.{encrypt_block}
use Rattle.aes_sbox.specs.Sbox.{s_box}
use Rattle.octets_block.proofs.Laws.{block-at}
use Rattle.image_spec.proofs.Opening.{first_chain, later_chain}
use native.Mathlib.Omega.{arith}
use Rattle.image_block_fill.proofs.chain_before.Goals as goal

pub returns-then-i-eq0 : goal.returns-then-i-eq0
returns-then-i-eq0 c = let a = c.args in
    let b = a.block.now in
    let z : a.i ≡ 0 = c.if-i-eq0.true in
    let f : 16 * a.i ≡ 0 = omega arith in
    c.encrypt_block.ensures
    ∙ ap (encrypt_block s_box a.enc.now.words a.enc.now.rounds) (c.load-ciphertext.ensures ∙ ap (block_at b) f ∙ block-at b 0 (omega arith))
    ∙ first_chain b c.requires.0 _ a.i z

pub returns-else-i-eq0 : goal.returns-else-i-eq0
returns-else-i-eq0 c = let a = c.args in
    c.load-ciphertext.ensures ∙ later_chain a.block.now c.requires.0 _ a.i c.if-i-eq0.false c.requires.1
