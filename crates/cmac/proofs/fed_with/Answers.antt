use Rattle.cmac.proofs.Under.{fed_under}
use Rattle.cmac.proofs.fed_with.Goals as goal

pub returns : goal.returns
returns c = fed_under c.args.«record» c.args.part.now _ c.fed-run.ensures
