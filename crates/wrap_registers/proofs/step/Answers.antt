use mathlib.Core.Path.{◌≡◌, ap, ◌∙◌}
use lib.ListN.{length}
use Rattle.aes_spec.specs.Cipher.{encrypt_block, standard}
use Rattle.aes_sbox.specs.Sbox.{s_box}
use Rattle.wrap_spec.proofs.Passing.{step_by}
use borrow.Author.Rules.{rules}
use Rattle.wrap_registers.proofs.step.Goals as goal

pub returns : goal.returns
returns c =
    let b = c.put_back in
    let e = c.encrypt_block-made in
    let a = c.args in
    let n : length e.result ≡ 16 = search rules in
    b.ensures
    ∙ step_by (standard a.schedule.now.words a.schedule.now.rounds) a.t a.i a.w.now e.result c.counter_added.result
    (e.ensures ∙ ap (encrypt_block s_box a.schedule.now.words a.schedule.now.rounds) c.pair.ensures) n c.counter_added.ensures
