use mathlib.Core.Path.{◌∙◌}
use Rattle.aes_spec.specs.Cipher.{standard}
use Rattle.cmac_run.proofs.Laws.{whole_by}
use Rattle.image_block_check.proofs.check_of.Goals as goal

pub returns : goal.returns
returns c = let a = c.args in
    c.closed.ensures ∙ rw (c.fed-2.ensures, c.fed.ensures, c.new.ensures)
    (whole_by (standard a.chk.now.words a.chk.now.rounds) a.subkeys.now.key1 a.subkeys.now.key2 a.front.now a.tail.now)
