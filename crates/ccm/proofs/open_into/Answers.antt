use mathlib.Core.Path.{◌≡◌, refl, ap, ◌∙◌}
use mathlib.Core.List.{List}
use Prim.Native.Nat.{ℕ, ◌-◌}
use lib.ListN.{length, take, drop}
use Rattle.octets.specs.Octets.{pad_to}
use Rattle.octets.specs.Blocks.{◌⊕◌}
use Rattle.aes_spec.specs.Cipher.{standard}
use Rattle.ccm_spec.specs.Ccm.{flagged, counter}
use Rattle.ccm_stream.specs.Model.{streamed_over}
use Rattle.ccm_chain.specs.Model.{opened_mac_over}
use Rattle.ccm.proofs.Building.{open_wrong, open_right}
use Rattle.ccm.proofs.open_into.Goals as goal

pub returns-else-same_tag : goal.returns-else-same_tag
returns-else-same_tag c = let m = c.opened_mac-made in
    let a = c.args in
    let e = standard a.schedule.now.words a.schedule.now.rounds in
    let z = a.sealed.now in
    let ctr : c.flagged-ctr.result ≡ counter a.nonce.now 0 = c.flagged-ctr.ensures ∙ ap (λ (y : List ℕ). flagged 1 y 0) c.thirteen-n.ensures in
    let t = open_wrong e a.nonce.now a.ad.now z a.output.now m.result c.leading_sum-found.result (length z - 8) refl
    (m.ensures ∙ ap (λ (y : List ℕ). opened_mac_over e y a.ad.now (take (length z - 8) z)) c.thirteen-n.ensures)
    (c.leading_sum-found.ensures ∙ ap (λ (y : List ℕ). pad_to 16 (drop (length z - 8) z ⊕ y)) (c.encrypt_block.ensures ∙ ap e.enc ctr))
    _ c.same_tag.ensures c.if-same_tag.false in
    record { answer = t.0; written = t.1 }

pub returns-then-same_tag : goal.returns-then-same_tag
returns-then-same_tag c = let m = c.opened_mac-made in
    let a = c.args in
    let e = standard a.schedule.now.words a.schedule.now.rounds in
    let z = a.sealed.now in
    let ctr : c.flagged-ctr.result ≡ counter a.nonce.now 0 = c.flagged-ctr.ensures ∙ ap (λ (y : List ℕ). flagged 1 y 0) c.thirteen-n.ensures in
    let t = open_right e a.nonce.now a.ad.now z a.output.now m.result c.leading_sum-found.result (length z - 8) refl
    (m.ensures ∙ ap (λ (y : List ℕ). opened_mac_over e y a.ad.now (take (length z - 8) z)) c.thirteen-n.ensures)
    (c.leading_sum-found.ensures ∙ ap (λ (y : List ℕ). pad_to 16 (drop (length z - 8) z ⊕ y)) (c.encrypt_block.ensures ∙ ap e.enc ctr))
    _ c.same_tag.ensures c.if-same_tag.true _ c.requires.2 c.requires.3
    (c.stream.ensures ∙ ap (λ (y : List ℕ). streamed_over e y (take (length z - 8) z) a.output.now) ctr) in
    record { answer = t.0; written = t.1 }
