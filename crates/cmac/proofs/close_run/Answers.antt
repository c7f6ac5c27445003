use mathlib.Core.Path.{◌∙◌}
use Rattle.aes_spec.specs.Cipher.{standard}
use Rattle.cmac_run.proofs.Laws.{closed-by}
use Rattle.cmac.proofs.close_run.Goals as goal

pub returns : goal.returns
returns c =
    let a = c.args in
    c.closed.ensures ∙ rw c.new.ensures (closed-by (standard a.schedule.now.words a.schedule.now.rounds) a.run)
