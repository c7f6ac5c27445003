use mathlib.Core.Path.{◌∙◌}
use Rattle.cmac_spec.specs.Cmac.{ended_by}
use Rattle.cmac_run.specs.Running as running
use Rattle.cmac_run.proofs.Run.closed.Goals as goal

pub returns : goal.returns
unfolding running.closed_by ended_by
returns c = c.encrypt_block.ensures ∙ rw (c.xor.ensures, c.last-end.ensures)
