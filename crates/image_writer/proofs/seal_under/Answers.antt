use mathlib.Core.Path.{◌≡◌, sym, ap, ◌∙◌}
use lib.ListN.{length}
use lib.Seq.{length-take-le}
use Rattle.cmac_subkeys.specs.declared.Subkeys.{Subkeys}
use Rattle.image_spec.specs.Edition.{tail_of}
use Rattle.image_spec.proofs.Editions.{tail_part, tail_size_most}
use native.Mathlib.Omega.{arith}
use Rattle.image_writer.proofs.seal_under.Goals as goal

pub head_for-head-requires : goal.head_for-head-requires
head_for-head-requires c = c.requires

pub slice_bounds-seal-end : goal.slice_bounds-seal-end
slice_bounds-seal-end c =
    let l : length c.last_for-last.result ≡ 16 = c.last_for-last.type_inv.1.0.1 in
    sym (length-take-le c.tail_size-covered.result c.last_for-last.result (omega (arith, c.tail_size-covered.ensures, tail_size_most c.args.numbers.edition, l)))

pub slice_bounds-last-end : goal.slice_bounds-last-end
slice_bounds-last-end c = omega (arith, c.tail_size-covered.ensures, tail_size_most c.args.numbers.edition)

pub returns : goal.returns
returns c =
    let n = c.args.numbers in
    let l : length c.last_for-last.result ≡ 16 = c.last_for-last.type_inv.1.0.1 in
    let tail = tail_part n.edition c.tail_size-covered.result c.last_for-last.result l c.tail_size-covered.ensures ∙ ap (tail_of n.edition) c.last_for-last.ensures in
    c.seal.ensures ∙ rw (tail, c.head_for-head.ensures, c.new-subkeys.ensures)
