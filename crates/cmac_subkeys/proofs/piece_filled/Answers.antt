use borrow.Author.Rules.{rules}
use Rattle.cmac_subkeys.proofs.Pieces.{filled}
use Rattle.cmac_subkeys.proofs.piece_filled.Goals as goal

pub returns : goal.returns
returns c =
    let a = c.args in
    filled a.held a.part.now _ _ a.count _ _ (search rules) c.min-from_held.ensures c.min-from_part.ensures c.copy_from_slice.ensures.after c.copy_from_slice-2.ensures.after
