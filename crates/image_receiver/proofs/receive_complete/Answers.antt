use mathlib.Core.Path.{sym, ◌∙◌}
use Rattle.image_receiver.specs.Calls.{all_held}
use Rattle.image_receiver.proofs.receive_complete.Goals as goal

pub returns-then-holds_all : goal.returns-then-holds_all
unfolding all_held
returns-then-holds_all c = rw (sym c.holds_all.ensures ∙ c.if-holds_all.true)

pub returns-else-holds_all : goal.returns-else-holds_all
unfolding all_held
returns-else-holds_all c = rw (sym c.holds_all.ensures ∙ c.if-holds_all.false)
