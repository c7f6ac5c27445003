use Rattle.cmac.proofs.Under.{close_under}
use Rattle.cmac.proofs.close.Goals as goal

pub returns : goal.returns
returns c = close_under c.args.record _ c.close_run.ensures
