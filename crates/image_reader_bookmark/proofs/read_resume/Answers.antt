use mathlib.Core.Path.{sym, ◌∙◌}
use Rattle.image_reader_bookmark.proofs.Laws.{resume_no_key, resume_no_bookmark, resume_by}
use Rattle.image_reader_bookmark.proofs.read_resume.Goals as goal

pub returns-in_default : goal.returns-in_default
returns-in_default c =
    let a = c.args in
    resume_no_key a.ekey.now a.ckey.now a.bookmark _ c.expand.ensures.answer c.in_default.not-Taken _ c.refused.ensures

pub returns-then-not-is_bookmark : goal.returns-then-not-is_bookmark
returns-then-not-is_bookmark c =
    let a = c.args in
    resume_no_bookmark a.ekey.now a.ckey.now a.bookmark _ c.expand.ensures.answer c.in-Taken.is _ c.expand.ensures.keys (sym c.is_bookmark.ensures ∙ c.if-not-is_bookmark.true) _ c.refused-then-not-is_bookmark.ensures

pub returns : goal.returns
returns c =
    let a = c.args in
    resume_by a.ekey.now a.ckey.now a.bookmark _ c.expand.ensures.answer c.in-Taken.is _ c.expand.ensures.keys (sym c.is_bookmark.ensures ∙ c.if-not-is_bookmark.false) _
    (rw (c.progress_in.ensures, c.bytes_in.ensures))
