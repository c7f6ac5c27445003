use Rattle.octets.specs.Octets.{xor}
use borrow.Author.Tests.{le-leb, lt-leb}
use Rattle.aesavs_monte.proofs.keys.key_byte.Goals as goal

pub returns-then-n-i : goal.returns-then-n-i
returns-then-n-i c = rw (le-leb _ _ c.if-n-i.true)

pub returns : goal.returns
unfolding xor
returns c = rw (lt-leb _ _ c.if-n-i.false, c.joined_at.ensures)
