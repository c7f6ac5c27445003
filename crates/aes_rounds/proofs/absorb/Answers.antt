use mathlib.Core.Path.{sym, ◌∙◌}
use borrow.Author.Tests.{leb-true}
use Rattle.aes_rounds.proofs.absorb.Goals as goal

pub take_in-requires : goal.take_in-requires
take_in-requires c = leb-true _ _ (sym c.has_room.ensures ∙ c.if-has_room.true)

pub returns-then-has_room : goal.returns-then-has_room
returns-then-has_room c = simp (sym c.has_room.ensures ∙ c.if-has_room.true) c.take_in.ensures

pub returns-else-has_room : goal.returns-else-has_room
returns-else-has_room c = simp (sym c.has_room.ensures ∙ c.if-has_room.false)
