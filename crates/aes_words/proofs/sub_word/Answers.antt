use Rattle.std.proofs.Common.{rules}
use Rattle.octets.specs.Octets.{entry}
use Rattle.octets.specs.Words.{word}
use Rattle.aes_words.proofs.Rotate.{is_diagonal}
use Rattle.aes_words.specs.Columns.{diagonal}
use Rattle.aes_words.proofs.sub_word.Goals as goal

pub returns : goal.returns
unfolding diagonal word
returns c = let a = c.args in
    let bytes = c.fits-table in
    is_diagonal (entry a.table.now) a.x a.x a.x a.x _ (bytes _) (bytes _) (bytes _) (bytes _) (search rules)
