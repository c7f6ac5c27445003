use Rattle.aes_sbox.proofs.Lists.{inv_s_box_table}
use Rattle.aes_sbox.proofs.Laws.{inv_s_box-table}
use Rattle.aes_sbox.proofs.inv_table.Goals as goal

pub returns : goal.returns
unfolding inv_s_box_table
returns c = cc inv_s_box-table
