use mathlib.Core.Path.{◌≡◌, refl, sym, ap, ◌∙◌}
use mathlib.Core.Bool.{true, ◌&&◌}
use mathlib.Core.List.{[]}
use lib.ListN.{length}
use Rattle.octets.proofs.Both.{and_true}
use Rattle.aes_schedule.specs.Schedule.{round_count}
use Rattle.image_layout.specs.Layout.{head_of_lem}
use Rattle.image_reasons.specs.declared.Reason.TheVariants.{CheckWrong}
use Rattle.image_spec.specs.Sealed.{checks}
use Rattle.image_spec.proofs.Judging.{head_of_block}
use Rattle.image_spec.specs.KeyPair.{pair_keys}
use Rattle.image_receiver_answer.specs.Answers.{room_for}
use Rattle.image_receiver_answer.specs.declared.ReceiveAnswer.TheVariants.{NotABlock, NoRoom, Because}
use Rattle.image_receiver_answer.proofs.Order.{refuses_else, header_below}
use Rattle.image_receiver_block.proofs.Order.{refused_by, answer_6, answer_4, answer_14, answer_head, kept_by}
use Rattle.image_receiver_block.proofs.receive_block.Goals as goal

pub returns-then-block-ne512 : goal.returns-then-block-ne512
returns-then-block-ne512 c =
    let a = c.args in
    let k = pair_keys a.keys.now in
    refused_by k a.receipt a.block.now a.store.now a.map.now NotABlock (answer_6 k a.receipt a.block.now a.store.now a.map.now c.if-block-ne512.true) refl _ c.answered.ensures

pub returns-then-not-has_room : goal.returns-then-not-has_room
returns-then-not-has_room c =
    let a = c.args in
    let k = pair_keys a.keys.now in
    refused_by k a.receipt a.block.now a.store.now a.map.now NoRoom
    (answer_4 k a.receipt a.block.now a.store.now a.map.now c.if-block-ne512.false (sym c.has_room.ensures ∙ c.if-not-has_room.true)) refl _ c.answered-then-not-has_room.ensures

pub returns-then-not-checked : goal.returns-then-not-checked
returns-then-not-checked c =
    let a = c.args in
    let k = pair_keys a.keys.now in
    let room : room_for a.receipt.count (length a.store.now) (length a.map.now) ≡ true = sym c.has_room.ensures ∙ c.if-not-has_room.false in
    refused_by k a.receipt a.block.now a.store.now a.map.now (Because CheckWrong)
    (answer_14 k a.receipt a.block.now a.store.now a.map.now c.if-block-ne512.false room (sym c.checked.ensures ∙ c.if-not-checked.true)) refl _ c.answered-then-not-checked.ensures

pub returns-in_default : goal.returns-in_default
returns-in_default c =
    let a = c.args in
    let k = pair_keys a.keys.now in
    let size = c.if-block-ne512.false in
    let room : room_for a.receipt.count (length a.store.now) (length a.map.now) ≡ true = sym c.has_room.ensures ∙ c.if-not-has_room.false in
    let right : (k.usable && checks k.mac [] a.block.now) ≡ true = sym c.checked.ensures ∙ c.if-not-checked.false in
    let head : c.head_of-head.result ≡ head_of_lem a.block.now = c.head_of-head.ensures ∙ ap head_of_lem c.load.ensures ∙ head_of_block a.block.now size in
    let r = refuses_else c.judge_header-told.result c.in_default.not-Received in
    refused_by k a.receipt a.block.now a.store.now a.map.now c.judge_header-told.result
    (answer_head k a.receipt a.block.now a.store.now a.map.now size room right _ head _ c.judge_header-told.ensures r) r _ c.answered-in_default.ensures

pub keep-requires : goal.keep-requires
keep-requires c =
    let a = c.args in
    let k = pair_keys a.keys.now in
    let size = c.if-block-ne512.false in
    let room : room_for a.receipt.count (length a.store.now) (length a.map.now) ≡ true = sym c.has_room.ensures ∙ c.if-not-has_room.false in
    let right : (k.usable && checks k.mac [] a.block.now) ≡ true = sym c.checked.ensures ∙ c.if-not-checked.false in
    let head : c.head_of-head.result ≡ head_of_lem a.block.now = c.head_of-head.ensures ∙ ap head_of_lem c.load.ensures ∙ head_of_block a.block.now size in (
      size,
      head,
      header_below a.receipt c.head_of-head.result (sym c.judge_header-told.ensures ∙ c.in-Received.is),
      room,
      (and_true (round_count a.keys.now.enc.rounds) (round_count a.keys.now.chk.rounds) (and_true k.usable (checks k.mac [] a.block.now) right).0).0,
    )

pub returns : goal.returns
returns c =
    let a = c.args in
    let k = pair_keys a.keys.now in
    let size = c.if-block-ne512.false in
    let room : room_for a.receipt.count (length a.store.now) (length a.map.now) ≡ true = sym c.has_room.ensures ∙ c.if-not-has_room.false in
    let right : (k.usable && checks k.mac [] a.block.now) ≡ true = sym c.checked.ensures ∙ c.if-not-checked.false in
    let head : c.head_of-head.result ≡ head_of_lem a.block.now = c.head_of-head.ensures ∙ ap head_of_lem c.load.ensures ∙ head_of_block a.block.now size in
    kept_by k a.receipt a.block.now a.store.now a.map.now size room right _ head _ c.judge_header-told.ensures c.in-Received.is _ c.keep.ensures
