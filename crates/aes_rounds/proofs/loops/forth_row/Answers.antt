use Rattle.aes_sbox.specs.Sbox.{s_box}
use Rattle.aes_mix.specs.Mixing.{mixed_entry}
use Rattle.aes_lookup_forward.specs.Model.{forward_entries}
use Rattle.aes_model.proofs.Forward.{forward_rule, forward_lt}
use Rattle.aes_model.proofs.Row.{row_law}
use borrow.Author.Rules.{rules}
use Rattle.aes_rounds.proofs.loops.forth_row.Goals as goal

pub returns : goal.returns
returns c = row_law forward_entries (mixed_entry s_box) forward_rule forward_lt c.args.k c.args.c c.forward_at-wide.result (search rules) c.forward_at-wide.ensures
