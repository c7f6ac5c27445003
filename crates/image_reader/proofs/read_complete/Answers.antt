use mathlib.Core.Path.{sym, ◌∙◌}
use Rattle.image_reader.specs.Calls.{completion_of}
use Rattle.image_reader.proofs.read_complete.Goals as goal

pub returns-then-complete : goal.returns-then-complete
unfolding completion_of
returns-then-complete c = rw (sym c.complete.ensures ∙ c.if-complete.true)

pub returns-else-complete : goal.returns-else-complete
unfolding completion_of
returns-else-complete c = rw (sym c.complete.ensures ∙ c.if-complete.false)
