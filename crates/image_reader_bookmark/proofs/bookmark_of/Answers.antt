use Rattle.image_reader_bookmark.proofs.Laws.{joined_by}
use Rattle.image_reader_bookmark.proofs.bookmark_of.Goals as goal

pub returns : goal.returns
returns c =
    joined_by c.args.front c.args.check _ _ c.well_formed.0.1.0.1 c.well_formed.1.0.1.0.1 c.copy.ensures c.store.ensures
