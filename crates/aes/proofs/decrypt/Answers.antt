use mathlib.Core.Path.{ap, ◌∙◌}
use lib.ListN.{get_or}
use mir.Syntax.{w8}
use mir.Val.{Fits}
use Rattle.octets.specs.Octets.{Octets}
use Rattle.aes_sbox.specs.Sbox.{inv_s_box}
use Rattle.aes_schedule.specs.declared.KeySchedule.{KeySchedule}
use Rattle.aes_spec.specs.Model.{eq_decrypt_block}
use Rattle.aes.proofs.Calls.{decrypt-under}
use borrow.Author.Rules.{rules}
use Rattle.aes.proofs.decrypt.Goals as goal

pub returns : goal.returns
returns c =
    let a = c.args in
    let e = c.expand-answer in
    let o : Octets 16 a.block = record { size = search rules; bytes = λ k. (let h : Fits w8 (get_or a.block k 0) = search rules in h.fits) } in
    decrypt-under a.key.now a.block e.result _ _ e.ensures.0 e.ensures.1 o
    (c.decrypt_block-plaintext.ensures ∙ ap (λ (s : KeySchedule). eq_decrypt_block inv_s_box s.words s.rounds a.block) c.invert.ensures)
