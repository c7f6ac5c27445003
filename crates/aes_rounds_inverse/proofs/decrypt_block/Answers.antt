use lib.ListN.{get_or}
use mir.Syntax.{w8}
use mir.Val.{Fits}
use mathlib.Core.Path.{sym, ap, ◌∙◌}
use Rattle.octets.specs.Octets.{Octets}
use Rattle.aes_spec.specs.State.{aes}
use Rattle.aes_spec.proofs.Rounds.{round-count}
use Rattle.aes_state.specs.Model.{block_of}
use Rattle.aes_state.proofs.Loaded.{loaded}
use Rattle.aes_sbox.specs.Sbox.{inv_s_box}
use Rattle.aes_spec.specs.Model.{eq_inv_cipher}
use Rattle.aes_spec.specs.Model.{eq_decrypt_block}
use borrow.Author.Rules.{rules}
use Rattle.aes_rounds_inverse.proofs.decrypt_block.Goals as goal

pub eq_inv_cipher-requires : goal.eq_inv_cipher-requires
eq_inv_cipher-requires c = round-count c.args.schedule.now.rounds (sym c.is_usable.ensures ∙ c.if-is_usable.true)

pub returns-then-is_usable : goal.returns-then-is_usable
unfolding eq_decrypt_block
returns-then-is_usable c = let a = c.args in
    let o : Octets 16 a.block = record { size = search rules; bytes = λ k. (let h : Fits w8 (get_or a.block k 0) = search rules in h.fits) } in
    simp (sym c.is_usable.ensures ∙ c.if-is_usable.true)
    (c.block_of.ensures ∙ c.eq_inv_cipher.ensures
    ∙ ap (eq_inv_cipher aes inv_s_box a.schedule.now.words a.schedule.now.rounds) (ap block_of c.columns_of.ensures ∙ loaded a.block o))

pub returns-else-is_usable : goal.returns-else-is_usable
unfolding eq_decrypt_block
returns-else-is_usable c = simp (sym c.is_usable.ensures ∙ c.if-is_usable.false)
