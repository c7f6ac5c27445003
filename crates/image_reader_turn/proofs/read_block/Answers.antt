use mathlib.Core.Path.{sym, ap, ap₂, ◌∙◌}
use mathlib.Core.List.{List}
use Prim.Native.Nat.{ℕ}
use Rattle.image_reader_tally.specs.declared.BlocksRead.{BlocksRead}
use Rattle.aes_sbox.specs.Sbox.{s_box, inv_s_box}
use Rattle.image_reasons.specs.declared.Verdict.{Verdict}
use Rattle.image_spec.specs.Model.{lent_of}
use Rattle.image_spec.specs.Sealed.{opened}
use Rattle.image_spec.proofs.Sizes.{encrypt_sized, decrypt_sized}
use Rattle.image_spec.proofs.Opening.{open_part}
use Rattle.image_spec.proofs.Judging.{verdict_read, head_read}
use Rattle.image_reader_turn.specs.Model.{part_after}
use Rattle.image_reader_turn.proofs.Blockwise.{check_is, stepped_by}
use Rattle.image_reader_turn.proofs.read_block.Goals as goal

pub returns-in-Accepted : goal.returns-in-Accepted
returns-in-Accepted c =
    let a = c.args in
    let k = lent_of a.keys.now a.dec.now a.subkeys.now in
    let b = a.block.now in
    let v = verdict_read k a.done.progress b _ c.judge-judged.ensures in
    let es = encrypt_sized s_box a.keys.now.enc.words a.keys.now.enc.rounds in
    let ds = decrypt_sized inv_s_box a.dec.now.words a.dec.now.rounds in
    ap₂ (λ (x : BlocksRead) (y : List ℕ). (x, y))
    (c.after_block-next.ensures ∙ stepped_by a.done _ _ _ _ _ _ v (head_read k a.done.progress b _ c.judge-judged.ensures c.requires.0) (check_is b _ c.requires.0 c.load.ensures))
    (open_part k.enc b a.part.now c.requires.0 c.requires.1 es ds _ c.open_block.ensures ∙ sym (ap (λ (x : Verdict). part_after x (opened k.enc b) a.part.now) (sym v ∙ c.in-Accepted.is)))

pub returns-in_default : goal.returns-in_default
returns-in_default c =
    let a = c.args in
    let k = lent_of a.keys.now a.dec.now a.subkeys.now in
    let b = a.block.now in
    let v = verdict_read k a.done.progress b _ c.judge-judged.ensures in
    ap₂ (λ (x : BlocksRead) (y : List ℕ). (x, y))
    (c.after_block-next.ensures ∙ stepped_by a.done _ _ _ _ _ _ v (head_read k a.done.progress b _ c.judge-judged.ensures c.requires.0) (check_is b _ c.requires.0 c.load.ensures))
    (sym (ap (λ (x : Verdict). part_after x (opened k.enc b) a.part.now) (sym v ∙ c.in_default.is)))
