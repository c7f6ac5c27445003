use mathlib.Core.Path.{sym, ap, ◌∙◌}
use lib.Seq.{length-take-le}
use Rattle.image_limits.specs.Marks.{selected, tail_size}
use Rattle.image_spec.specs.Model.{lent_of}
use Rattle.image_spec.proofs.Sizes.{mac_sized}
use Rattle.image_spec.proofs.Editions.{tail_part, tail_size_most}
use Rattle.image_spec.proofs.Judging.{both_last, both_check, both_head, both_fill, both_passed}
use native.Mathlib.Omega.{arith}
use Rattle.image_block_judge.proofs.verdict_on.Goals as goal

pub returns-then-may_not_follow : goal.returns-then-may_not_follow
returns-then-may_not_follow c =
    let a = c.args in
    both_last (lent_of a.keys.now a.dec.now a.subkeys.now) (mac_sized a.keys.now.chk.words a.keys.now.chk.rounds a.subkeys.now.key1 a.subkeys.now.key2)
    a.progress a.block.now a.head c.requires (sym c.may_not_follow.ensures ∙ c.if-may_not_follow.true)

pub slice_bounds-check_holds-end : goal.slice_bounds-check_holds-end
slice_bounds-check_holds-end c =
    sym (length-take-le c.tail_size-covered.result c.args.progress.last (omega (arith, c.tail_size-covered.ensures, tail_size_most c.edition_selected.result, c.well_formed.1.1.1.0.1.1.1.1.1.1.0.1.0.1)))

pub shared_ref_as_front-check_holds : goal.shared_ref_as_front-check_holds
shared_ref_as_front-check_holds c = omega (arith, c.tail_size-covered.ensures, tail_size_most c.edition_selected.result)

pub returns-then-not-check_holds : goal.returns-then-not-check_holds
returns-then-not-check_holds c =
    let a = c.args in
    both_check (lent_of a.keys.now a.dec.now a.subkeys.now) (mac_sized a.keys.now.chk.words a.keys.now.chk.rounds a.subkeys.now.key1 a.subkeys.now.key2)
    a.progress a.block.now a.head c.requires (sym c.may_not_follow.ensures ∙ c.if-may_not_follow.false)
    _ (tail_part (selected a.head.reserved) c.tail_size-covered.result a.progress.last c.well_formed.1.1.1.0.1.1.1.1.1.1.0.1.0.1 (c.tail_size-covered.ensures ∙ ap tail_size c.edition_selected.ensures))
    (sym c.check_holds.ensures ∙ c.if-not-check_holds.true)

pub returns-in_default : goal.returns-in_default
returns-in_default c =
    let a = c.args in
    both_head (lent_of a.keys.now a.dec.now a.subkeys.now) (mac_sized a.keys.now.chk.words a.keys.now.chk.rounds a.subkeys.now.key1 a.subkeys.now.key2)
    a.progress a.block.now a.head c.requires (sym c.may_not_follow.ensures ∙ c.if-may_not_follow.false)
    _ (tail_part (selected a.head.reserved) c.tail_size-covered.result a.progress.last c.well_formed.1.1.1.0.1.1.1.1.1.1.0.1.0.1 (c.tail_size-covered.ensures ∙ ap tail_size c.edition_selected.ensures))
    (sym c.check_holds.ensures ∙ c.if-not-check_holds.false)
    _ c.mark_asked_for.ensures _ _ c.judge_head-verdict.ensures c.in_default.is

pub returns-then-not-fill_is_zero : goal.returns-then-not-fill_is_zero
returns-then-not-fill_is_zero c =
    let a = c.args in
    both_fill (lent_of a.keys.now a.dec.now a.subkeys.now) (mac_sized a.keys.now.chk.words a.keys.now.chk.rounds a.subkeys.now.key1 a.subkeys.now.key2)
    a.progress a.block.now a.head c.requires (sym c.may_not_follow.ensures ∙ c.if-may_not_follow.false)
    _ (tail_part (selected a.head.reserved) c.tail_size-covered.result a.progress.last c.well_formed.1.1.1.0.1.1.1.1.1.1.0.1.0.1 (c.tail_size-covered.ensures ∙ ap tail_size c.edition_selected.ensures))
    (sym c.check_holds.ensures ∙ c.if-not-check_holds.false)
    _ c.mark_asked_for.ensures (sym c.in-Accepted.is ∙ c.judge_head-verdict.ensures) (sym c.fill_is_zero.ensures ∙ c.if-not-fill_is_zero.true)

pub returns : goal.returns
returns c =
    let a = c.args in
    both_passed (lent_of a.keys.now a.dec.now a.subkeys.now) (mac_sized a.keys.now.chk.words a.keys.now.chk.rounds a.subkeys.now.key1 a.subkeys.now.key2)
    a.progress a.block.now a.head c.requires (sym c.may_not_follow.ensures ∙ c.if-may_not_follow.false)
    _ (tail_part (selected a.head.reserved) c.tail_size-covered.result a.progress.last c.well_formed.1.1.1.0.1.1.1.1.1.1.0.1.0.1 (c.tail_size-covered.ensures ∙ ap tail_size c.edition_selected.ensures))
    (sym c.check_holds.ensures ∙ c.if-not-check_holds.false)
    _ c.mark_asked_for.ensures (sym c.in-Accepted.is ∙ c.judge_head-verdict.ensures) (sym c.fill_is_zero.ensures ∙ c.if-not-fill_is_zero.false)
