use Rattle.aesavs_monte.specs.Chain.{link_of}
use Rattle.aesavs_monte.proofs.link_of.Goals as goal

pub returns : goal.returns
unfolding link_of
returns c = rw (c.copy.ensures, c.load-start.ensures, c.load-first.ensures)
