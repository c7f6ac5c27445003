use Rattle.aesavs_monte.specs.Chain.{next_link}
use Rattle.aesavs_monte.proofs.next_link.Goals as goal

pub returns-then-chained : goal.returns-then-chained
unfolding next_link
returns-then-chained c = rw (c.next_key-key.ensures, c.if-chained.true)

pub returns-else-chained : goal.returns-else-chained
unfolding next_link
returns-else-chained c = rw (c.next_key-key.ensures, c.if-chained.false)
