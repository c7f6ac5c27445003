use mathlib.Core.Path.{◌≡◌, refl, ap, ◌∙◌}
use Prim.Native.Nat.{◌+◌, ◌*◌, ◌≤◌}
use lib.ListN.{length}
use Rattle.octets.specs.Octets.{Octets}
use Rattle.aes_spec.specs.Cipher.{standard}
use Rattle.image_layout.specs.Layout.{head_of_lem}
use Rattle.image_layout.specs.declared.Head.{Head}
use Rattle.image_receiver_map.specs.Map.{bit_at, bit_put}
use Rattle.image_receiver_answer.proofs.Order.{refuses_else}
use Rattle.image_receiver_block.specs.Receive.{last_answer, counted_with}
use Rattle.image_receiver_block.proofs.Order.{last_by, leaves_refused, leaves_kept}
use Rattle.image_receiver_block.proofs.Kept.{room_parts, fills_alike, stored_by}
use native.Mathlib.Omega.{arith}
use borrow.Author.Rules.{rules}
use Rattle.image_receiver_block.proofs.keep.Goals as goal

pub returns-in_default : goal.returns-in_default
returns-in_default c =
    let a = c.args in
    let p = c.requires in
    let o : Octets 512 a.block.now = record { size = p.0; bytes = λ i. omega (arith, c.type_inv.block i) } in
    let k = standard a.enc.now.words a.enc.now.rounds in
    let e : c.unwrap_or-answer.result ≡ last_answer k a.block.now a.map.now =
    last_by k a.block.now a.map.now _ _
    (fills_alike a.enc.now _ c.inverse_into.ensures p.4 a.block.now o _ (ap (λ (h : Head). h.len) p.1) _ c.fill_is_zero-filled.ensures)
    (c.has_bit-held.ensures ∙ ap (λ (h : Head). bit_at a.map.now h.number) p.1)
    _ _ _ _ c.then_some-fifteen.ensures c.then_some-twenty_one.ensures c.or.ensures c.unwrap_or-answer.ensures in
    leaves_refused k a.receipt a.block.now a.store.now a.map.now _ _ e (refuses_else c.unwrap_or-answer.result c.in_default.not-Received) _ c.answered.ensures

pub slice_bounds-open_block-end : goal.slice_bounds-open_block-end
slice_bounds-open_block-end c =
    let a = c.args in
    let p = c.requires in
    omega (arith, p.2, (room_parts a.receipt.count (length a.store.now) (length a.map.now) p.3).0)

pub returns : goal.returns
returns c =
    let a = c.args in
    let p = c.requires in
    let o : Octets 512 a.block.now = record { size = p.0; bytes = λ i. omega (arith, c.type_inv.block i) } in
    let k = standard a.enc.now.words a.enc.now.rounds in
    let e : c.unwrap_or-answer.result ≡ last_answer k a.block.now a.map.now =
    last_by k a.block.now a.map.now _ _
    (fills_alike a.enc.now _ c.inverse_into.ensures p.4 a.block.now o _ (ap (λ (h : Head). h.len) p.1) _ c.fill_is_zero-filled.ensures)
    (c.has_bit-held.ensures ∙ ap (λ (h : Head). bit_at a.map.now h.number) p.1)
    _ _ _ _ c.then_some-fifteen.ensures c.then_some-twenty_one.ensures c.or.ensures c.unwrap_or-answer.ensures in
    let len : a.head.len ≡ (head_of_lem a.block.now).len = ap (λ (x : Head). x.len) p.1 in
    let at : a.head.number * 480 ≡ 480 * (head_of_lem a.block.now).number = omega (arith, ap (λ (x : Head). x.number) p.1) in
    let room : a.head.number * 480 + 480 ≤ length a.store.now = omega (arith, p.2, (room_parts a.receipt.count (length a.store.now) (length a.map.now) p.3).0) in
    leaves_kept k a.receipt a.block.now a.store.now a.map.now _ _ e c.in-Received.is _ _ _ _
    c.answered-2.ensures
    (c.counted.ensures ∙ ap (counted_with a.receipt) len)
    (stored_by a.enc.now _ c.inverse_into.ensures p.4 a.block.now o a.store.now _ at room _ _ _ (search rules) c.open_block.ensures refl)
    (c.set_bit.ensures ∙ ap (λ (x : Head). bit_put a.map.now x.number) p.1)
