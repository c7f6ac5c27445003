use mathlib.Core.Path.{sym, ◌∙◌}
use Rattle.image_reader_bookmark.proofs.Laws.{save_none, save_by}
use Rattle.image_reader_bookmark.proofs.read_save.Goals as goal

pub returns-then-not-is_usable : goal.returns-then-not-is_usable
returns-then-not-is_usable c = save_none c.args.reader c.args.bytes (sym c.is_usable.ensures ∙ c.if-not-is_usable.true)

pub returns : goal.returns
returns c =
    save_by c.args.reader c.args.bytes (sym c.is_usable.ensures ∙ c.if-not-is_usable.false) _ _ _ c.front_of-front.ensures c.check_with-check.ensures c.bookmark_of.ensures
