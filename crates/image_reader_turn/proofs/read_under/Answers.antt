use mathlib.Core.Path.{ap, ◌∙◌}
use Rattle.octets.specs.Octets.{Bytes, over}
use Rattle.cmac_subkeys.specs.declared.Subkeys.{Subkeys}
use Rattle.image_reader_turn.specs.Turn.{Reading, blocks_read}
use Rattle.image_reader_turn.proofs.Agree.{reading_is}
use native.Mathlib.Omega.{arith}
use Rattle.image_reader_turn.proofs.read_under.Goals as goal

pub returns : goal.returns
returns c =
    let a = c.args in
    let b : Bytes a.blocks.now = λ i. omega (arith, c.type_inv.blocks i) in
    let e =
    reading_is a.keys.now _ _ c.inverse_into.ensures (ap (λ (x : Subkeys). x.key1) c.new-subkeys.ensures) (ap (λ (x : Subkeys). x.key2) c.new-subkeys.ensures) a.k a.progress a.blocks.now c.requires.0 b in
    c.read_blocks.ensures ∙ ap (λ (x : Reading). (blocks_read x, over x.out a.output.now)) e
