use Rattle.aes_sbox.proofs.Lists.{s_box_table}
use Rattle.aes_sbox.proofs.Laws.{s_box-table}
use Rattle.aes_sbox.proofs.table.Goals as goal

pub returns : goal.returns
unfolding s_box_table
returns c = cc s_box-table
