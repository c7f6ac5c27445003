use Rattle.aes_sbox.specs.Sbox.{inv_s_box}
use Rattle.aes_lookup_inv_sbox.specs.Model.{inv_s_box_bytes}
use Rattle.aes_model.proofs.Back.{inv_sub_rule}
use Rattle.aes_model.proofs.Row.{last_row_law}
use borrow.Author.Rules.{rules}
use Rattle.aes_rounds_inverse.proofs.loops.last_row.Goals as goal

pub returns : goal.returns
returns c = last_row_law inv_s_box_bytes inv_s_box inv_sub_rule c.args.k c.args.c c.inv_sub_at.result (search rules) c.inv_sub_at.ensures
