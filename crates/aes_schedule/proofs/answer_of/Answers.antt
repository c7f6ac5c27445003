use borrow.Author.Tests.{eq-eqb, ne_eqb}
use Rattle.aes_schedule.proofs.answer_of.Goals as goal

pub returns-then-rounds-eq0 : goal.returns-then-rounds-eq0
returns-then-rounds-eq0 c = simp (eq-eqb _ _ c.if-rounds-eq0.true)

pub returns : goal.returns
returns c = simp (ne_eqb _ _ c.if-rounds-eq0.false)
