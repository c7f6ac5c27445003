use Rattle.std.proofs.Common.{rules, arith, ◌≡◌, length, ◌∙◌}
use Rattle.std.proofs.lemmas.List.{take_at, drop_at}
use Rattle.octets.specs.Words.{bytes_of}
use Rattle.image_bookmark.specs.Bookmark.{front_of_lem}
use Rattle.image_bookmark.proofs.Laws.{long_be}
use Rattle.image_bookmark.proofs.front_of.Goals as goal

pub returns : goal.returns
unfolding front_of_lem bytes_of
returns c =
    let size : length c.args.progress.last ≡ 16 = search rules in
    rw (
      c.copy_from_slice.ensures.after ∙ c.to_be_bytes.ensures,
      c.copy_from_slice-2.ensures.after ∙ c.to_be_bytes-2.ensures,
      c.copy_from_slice-3.ensures.after ∙ c.to_be_bytes-3.ensures,
      c.copy_from_slice-4.ensures.after ∙ c.to_be_bytes-4.ensures,
      c.copy_from_slice-5.ensures.after,
      c.copy_from_slice-6.ensures.after ∙ c.to_be_bytes-5.ensures ∙ long_be c.args.bytes (omega arith),
      take_at c.args.progress.last _ 16 size,
      drop_at c.args.progress.last _ 16 size,
    )
