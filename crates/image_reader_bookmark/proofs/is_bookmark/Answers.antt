use mathlib.Core.Path.{◌≡◌, ◌∙◌}
use lib.ListN.{length}
use native.Mathlib.Omega.{arith}
use borrow.Author.Rules.{rules}
use Rattle.aes_spec.specs.Cipher.{standard}
use Rattle.cmac_spec.specs.Cmac.{cmac}
use Rattle.image_reader_bookmark.proofs.Laws.{bookmark_by}
use Rattle.image_reader_bookmark.proofs.is_bookmark.Goals as goal

pub returns : goal.returns
returns c =
    let a = c.args in
    let size : length a.bookmark.now ≡ 56 = search rules in
    c.equal.ensures ∙ bookmark_by (cmac (standard a.chk.now.words a.chk.now.rounds)) a.bookmark.now _ 16 c.check_with-made.ensures (omega (arith, size))
