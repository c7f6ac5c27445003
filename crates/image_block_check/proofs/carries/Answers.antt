use mathlib.Core.Path.{sym, ◌∙◌}
use mathlib.Core.Bool.{true}
use lib.Seq.{length-take-le}
use native.Mathlib.Omega.{arith}
use Rattle.image_spec.specs.Model.{lent_mac_of}
use Rattle.image_spec.proofs.Sizes.{mac_sized}
use Rattle.image_spec.proofs.Judging.{checks_by, checks_none}
use Rattle.image_block_check.proofs.carries.Goals as goal

pub slice_bounds-check_of-end : goal.slice_bounds-check_of-end
slice_bounds-check_of-end c = sym (length-take-le 496 c.args.block.now (omega (arith, c.if-block-ne512.false)))

pub returns-then-block-ne512 : goal.returns-then-block-ne512
returns-then-block-ne512 c =
    let a = c.args in
    let k = a.chk.now in
    checks_none (lent_mac_of k a.subkeys.now) a.tail.now a.block.now (mac_sized k.words k.rounds a.subkeys.now.key1 a.subkeys.now.key2) c.if-block-ne512.true true

pub returns : goal.returns
returns c =
    let a = c.args in
    c.equal.ensures ∙ checks_by (lent_mac_of a.chk.now a.subkeys.now) a.tail.now a.block.now _ _ c.check_of-made.ensures (omega arith)
