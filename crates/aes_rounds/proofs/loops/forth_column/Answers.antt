use mathlib.Core.Path.{◌≡◌, ap, ◌∙◌}
use native.Mathlib.Omega.{arith}
use borrow.Author.Rules.{rules}
use Rattle.octets.specs.Octets.{xor}
use Rattle.aes_sbox.specs.Sbox.{s_box}
use Rattle.aes_mix.specs.Mixing.{mixed_entry}
use Rattle.aes_model.proofs.Rows.{rows_of, rows_none, rows_more}
use Rattle.aes_rounds.specs.Model.{from}
use Rattle.aes_rounds.proofs.Columns.{column_law}
use Rattle.aes_rounds.proofs.loops.forth_column.Goals as goal

pub loop-k-init : goal.loop-k-init
loop-k-init c = (search rules, rows_none _ _)

pub loop-k-preserved : goal.loop-k-preserved
unfolding xor
loop-k-preserved c = let a = c.args in
    let l = c.loop-k in
    (search rules, rows_more (mixed_entry s_box) (from a.t a.j) l.k c.forth_row-acc.result l.acc c.forth_row-acc.ensures l.invariant.1)

pub returns : goal.returns
returns c = let a = c.args in
    let l = c.loop-k in
    let e : l.k ≡ 4 = omega arith in
    l.invariant.1 ∙ ap (rows_of (mixed_entry s_box) (from a.t a.j)) e ∙ column_law a.t a.j
