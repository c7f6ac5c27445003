use mathlib.Core.Path.{◌∙◌}
use Rattle.aes_spec.specs.Cipher.{standard}
use Rattle.cmac_run.proofs.Laws.{whole_fed}
use Rattle.cmac.proofs.check_with.Goals as goal

pub returns : goal.returns
returns c =
    let a = c.args in
    c.close_run.ensures ∙ rw (c.fed-run.ensures, c.new.ensures) (whole_fed (standard a.schedule.now.words a.schedule.now.rounds) a.message.now)
