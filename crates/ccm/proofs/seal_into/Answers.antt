use mathlib.Core.Path.{◌≡◌, refl, ap, ap₂, ◌∙◌}
use mathlib.Core.List.{List}
use Prim.Native.Nat.{ℕ}
use lib.ListN.{length}
use Rattle.octets.specs.Blocks.{◌⊕◌}
use Rattle.aes_spec.specs.Cipher.{standard}
use Rattle.ccm_spec.specs.Ccm.{flagged, counter}
use Rattle.ccm_stream.specs.Model.{streamed_over}
use Rattle.ccm_chain.specs.Model.{mac_over}
use Rattle.ccm.proofs.Building.{sealed_built}
use borrow.Author.Rules.{rules}
use Rattle.ccm.proofs.seal_into.Goals as goal

pub returns : goal.returns
returns c = let w = c.copy in
    let a = c.args in
    let e = standard a.schedule.now.words a.schedule.now.rounds in
    let ctr : c.flagged-ctr.result ≡ counter a.nonce.now 0 = c.flagged-ctr.ensures ∙ ap (λ (y : List ℕ). flagged 1 y 0) c.thirteen-n.ensures in
    let lt : length c.xor-tag.result ≡ 16 = search rules in
    let et : c.xor-tag.result ≡ mac_over e a.nonce.now a.ad.now a.message.now ⊕ e.enc (counter a.nonce.now 0) =
    c.xor-tag.ensures
    ∙ ap₂ ◌⊕◌ (c.mac.ensures ∙ ap (λ (y : List ℕ). mac_over e y a.ad.now a.message.now) c.thirteen-n.ensures) (c.encrypt_block.ensures ∙ ap e.enc ctr) in
    sealed_built e a.nonce.now a.ad.now a.message.now a.output.now c.requires.2 c.xor-tag.result _ _ 8 lt et
    (c.stream.ensures ∙ ap (λ (y : List ℕ). streamed_over e y a.message.now a.output.now) ctr) c.stream.auto.output refl w.ensures
