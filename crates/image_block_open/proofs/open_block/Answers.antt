use mathlib.Core.Path.{◌≡◌, refl, sym, ap, ◌∙◌}
use mathlib.Core.List.{List}
use Prim.Native.Nat.{ℕ}
use lib.ListN.{length, take, drop}
use lib.Seq.{length-take-le}
use Rattle.aes_sbox.specs.Sbox.{s_box, inv_s_box}
use Rattle.aes_spec.specs.Model.{one_way}
use Rattle.image_spec.specs.Model.{lent_cipher}
use Rattle.modes_spec.specs.declared.Operation.TheVariants.{CbcDecrypt}
use Rattle.modes_run.proofs.Agree.{through_whole}
use Rattle.image_spec.proofs.Sizes.{encrypt_sized, decrypt_sized, body_length}
use Rattle.image_spec.proofs.Opening.{open_none, open_short, open_by}
use native.Mathlib.Omega.{arith}
use Rattle.image_block_open.proofs.open_block.Goals as goal
use Rattle.image_block_open.proofs.open_block.Goals.{then-block-ne512-via-then-block-ne512, then-block-ne512-via-else-block-ne512+then-output-lt480}

pub returns-then-block-ne512 : goal.returns-then-block-ne512
returns-then-block-ne512 c =
    let a = c.args in
    let k = lent_cipher a.enc.now a.dec.now in
    elim c.then-block-ne512.branch [
      | then-block-ne512-via-then-block-ne512 w ↦ open_none k a.block.now a.output.now w.if-block-ne512.true
      | then-block-ne512-via-else-block-ne512+then-output-lt480 w ↦ open_short k a.block.now a.output.now w.if-block-ne512.false w.if-output-lt480.true
    ]

pub returns : goal.returns
returns c =
    let a = c.args in
    let b = a.block.now in
    let room = c.if-output-lt480.false in
    let size : length (take 480 (drop 16 b)) ≡ 480 = body_length b c.if-block-ne512.false in
    let w = through_whole (one_way a.dec.now.words a.dec.now.rounds) CbcDecrypt _ (take 480 (drop 16 b)) (take 480 a.output.now) (omega arith) (size ∙ sym (length-take-le 480 a.output.now room)) in
    open_by (lent_cipher a.enc.now a.dec.now) b a.output.now c.if-block-ne512.false room
    (encrypt_sized s_box a.enc.now.words a.enc.now.rounds) (decrypt_sized inv_s_box a.dec.now.words a.dec.now.rounds)
    _ _ _ _ c.load-header.ensures c.encrypt_block-iv.ensures (ap (λ (t : List ℕ × List ℕ). t.1) (c.run.ensures ∙ w)) refl
