use mathlib.Core.Path.{sym, ap, ◌∙◌}
use Rattle.aes_sbox.specs.Sbox.{s_box}
use Rattle.aes_spec.specs.State.{aes}
use Rattle.aes_spec.specs.Cipher.{cipher, encrypt_block}
use Rattle.aes_spec.proofs.Rounds.{round-count}
use Rattle.aes_rounds.proofs.take_in.Goals as goal

pub cipher-requires : goal.cipher-requires
cipher-requires c = round-count c.args.schedule.now.rounds (sym c.is_usable.ensures ∙ c.if-is_usable.true)

pub returns-then-is_usable : goal.returns-then-is_usable
unfolding encrypt_block
returns-then-is_usable c = let a = c.args in
    simp (sym c.is_usable.ensures ∙ c.if-is_usable.true)
    (c.block_of-taken.ensures ∙ c.cipher.ensures ∙ ap (cipher aes s_box a.schedule.now.words a.schedule.now.rounds) c.added.ensures)

pub returns-else-is_usable : goal.returns-else-is_usable
unfolding encrypt_block
returns-else-is_usable c = simp (sym c.is_usable.ensures ∙ c.if-is_usable.false)
