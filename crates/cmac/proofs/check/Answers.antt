use Rattle.cmac.proofs.Under.{check_under}
use Rattle.cmac.proofs.check.Goals as goal

pub returns : goal.returns
returns c =
    let a = c.args in
    check_under a.key.now a.message.now _ _ c.new-made.ensures c.check_with-check.ensures
