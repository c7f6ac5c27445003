use borrow.Author.Tests.{eq-eqb, ne_eqb}
use Rattle.rijndael_schedule.proofs.takes_key.Goals as goal

pub returns-then-length-eq16 : goal.returns-then-length-eq16
returns-then-length-eq16 c = simp (eq-eqb _ _ c.if-length-eq16.true)

pub returns-then-length-eq24 : goal.returns-then-length-eq24
returns-then-length-eq24 c = simp (ne_eqb _ _ c.if-length-eq16.false, eq-eqb _ _ c.if-length-eq24.true)

pub returns : goal.returns
returns c = simp (ne_eqb _ _ c.if-length-eq16.false, ne_eqb _ _ c.if-length-eq24.false)
