use mathlib.Core.Path.{refl}
use Rattle.octets.specs.Octets.{pad_to}
use Rattle.cmac_run.specs.Running.{begun}
use Rattle.cmac_run.proofs.Run.new.Goals as goal

pub returns : goal.returns
unfolding begun pad_to
returns c = refl
