use Prim.Native.Nat.{ℕ}
use mathlib.Core.Path.{◌≡◌, refl, ap, ◌∙◌}
use mathlib.Core.List.{List}
use lib.ListN.{get_or}
use Rattle.octets.specs.Words.{word}
use Rattle.octets.proofs.Fill.{filled_none, filled_more, filled_all, get_d_tabulate}
use Rattle.aes_sbox.specs.Sbox.{inv_s_box}
use Rattle.aes_mix.specs.Mixing.{inv_mix_column, inv_mixed_entry}
use borrow.Author.Rules.{rules}
use native.Mathlib.Omega.{arith}
use Rattle.rijndael_rounds.proofs.lookups.fill_back.Goals as goal

pub loop-k-init : goal.loop-k-init
loop-k-init c = (search rules, filled_none 256 (inv_mixed_entry inv_s_box) _ refl)

pub loop-k-preserved : goal.loop-k-preserved
loop-k-preserved c = let l = c.loop-k in
    let t = c.inv_table-sbox in
    let h : get_or t.result l.k 0 ≡ inv_s_box l.k = ap (λ (x : List ℕ). get_or x l.k 0) t.ensures ∙ get_d_tabulate 256 inv_s_box l.k (omega arith) in
    (omega arith, filled_more l.invariant.1 (omega arith) _ (c.inv_mix_column.ensures ∙ ap inv_mix_column (c.join.ensures ∙ ap (λ (x : ℕ). word x 0 0 0) h)))

pub returns : goal.returns
returns c = filled_all c.loop-k.invariant.1 (omega arith)
