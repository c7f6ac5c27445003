use Rattle.cmac.specs.Calls.{start_of}
use Rattle.cmac.proofs.start.Goals as goal

pub returns : goal.returns
unfolding start_of
returns c = rw (c.new.ensures, c.expand-answer.ensures.0, c.expand-answer.ensures.1)
