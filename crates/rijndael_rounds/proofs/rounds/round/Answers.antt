use Prim.Native.Nat.{ℕ, ◌+◌, ◌*◌}
use mathlib.Core.Path.{refl, ap, subst, ◌∙◌}
use mathlib.Core.List.{List}
use lib.ListN.{get_or}
use Rattle.octets.specs.Octets.{xor, entry}
use Rattle.rijndael_rounds.specs.Model.{Twice}
use Rattle.rijndael_rounds.proofs.States.{filling_none, filling_more, filling_all, column_from, round_keyed}
use borrow.Author.Rules.{rules}
use native.Mathlib.Omega.{arith}
use Rattle.rijndael_rounds.proofs.rounds.round.Goals as goal

pub loop-c-init : goal.loop-c-init
loop-c-init c = (search rules, filling_none _ _ _ refl)

pub loop-c-preserved : goal.loop-c-preserved
unfolding xor
loop-c-preserved c = let l = c.loop-c in
    let b = c in
    let a = b.args in
    let e = c.column.ensures ∙ column_from a.turn a.t (entry a.table.now) l.c b.requires.0 b.requires.1.1 (omega arith) in
    (omega arith, filling_more l.invariant.1 (omega arith) (omega arith) _ (ap (λ (x : ℕ). xor x (get_or a.words.now (a.turn.columns * a.key + l.c) 0)) e))

pub returns : goal.returns
returns c = let a = c.args in
    subst (λ (x : List ℕ). Twice a.turn.columns x c.loop-c.u) (round_keyed a.turn (entry a.table.now) a.t a.words.now a.key)
    (filling_all c.loop-c.invariant.1 (omega arith))
