use Rattle.aes_sbox.specs.Sbox.{s_box}
use Rattle.aes_lookup_sbox.specs.Model.{s_box_bytes}
use Rattle.aes_model.proofs.Forward.{sub_rule}
use Rattle.aes_model.proofs.Row.{last_row_law}
use borrow.Author.Rules.{rules}
use Rattle.aes_rounds.proofs.loops.last_row.Goals as goal

pub returns : goal.returns
returns c = last_row_law s_box_bytes s_box sub_rule c.args.k c.args.c c.sub_at.result (search rules) c.sub_at.ensures
