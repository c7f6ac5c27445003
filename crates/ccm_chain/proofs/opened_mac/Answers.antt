use mathlib.Core.Path.{◌∙◌}
use borrow.Author.Tests.{le-leb, lt-leb}
use Rattle.ccm_chain.specs.Model.{opened_mac_over}
use Rattle.ccm_chain.proofs.opened_mac.Goals as goal

pub returns-else-ad-le64 : goal.returns-else-ad-le64
unfolding opened_mac_over
returns-else-ad-le64 c = rw (lt-leb _ 64 c.if-ad-le64.false)

pub returns-then-ad-le64 : goal.returns-then-ad-le64
unfolding opened_mac_over
returns-then-ad-le64 c = rw (le-leb _ 64 c.if-ad-le64.true) (c.through_opened.ensures ∙ rw (c.begun-start.ensures, c.flagged.ensures))
