use Rattle.aes_sbox.specs.Sbox.{inv_s_box}
use Rattle.aes_mix.specs.Mixing.{inv_mixed_entry}
use Rattle.aes_lookup_inverse.specs.Model.{inverse_entries}
use Rattle.aes_model.proofs.Back.{inverse_rule, inverse_lt}
use Rattle.aes_model.proofs.Row.{row_law}
use borrow.Author.Rules.{rules}
use Rattle.aes_rounds_inverse.proofs.loops.back_row.Goals as goal

pub returns : goal.returns
returns c = row_law inverse_entries (inv_mixed_entry inv_s_box) inverse_rule inverse_lt c.args.k c.args.c c.inverse_at-wide.result (search rules) c.inverse_at-wide.ensures
