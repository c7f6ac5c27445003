use Prim.Native.Nat.{ℕ, ◌+◌, ◌*◌}
use mathlib.Core.Path.{◌≡◌, refl, ap, ◌∙◌}
use lib.ListN.{get_or}
use Rattle.octets.specs.Octets.{xor, entry, pad_to}
use Rattle.rijndael_model.specs.Model as model
use Rattle.rijndael_rounds.proofs.States.{spread_more, column_from, last_keyed}
use borrow.Author.Rules.{rules}
use native.Mathlib.Omega.{arith}
use Rattle.rijndael_rounds.proofs.rounds.last.Goals as goal

pub loop-c-init : goal.loop-c-init
unfolding pad_to
loop-c-init c = (search rules, refl)

pub loop-c-preserved : goal.loop-c-preserved
unfolding xor
loop-c-preserved c = let l = c.loop-c in
    let b = c in
    let a = b.args in
    let e = c.column-x.ensures ∙ column_from a.turn a.t (entry a.table.now) l.c b.requires.0 b.requires.1.1 (omega arith) in
    let g = c.unmixed.ensures ∙ ap (model.unmixed a.way) e in
    (omega arith, spread_more l.c _ l.u _ l.invariant.1 (omega arith) (ap (λ (x : ℕ). xor x (get_or a.words.now (a.turn.columns * a.key + l.c) 0)) g))

pub returns : goal.returns
returns c = let l = c.loop-c in
    let a = c.args in
    let e : l.c ≡ a.turn.columns = omega arith in
    (rw e at l.invariant.1) ∙ ap (pad_to 8) (last_keyed a.turn (entry a.table.now) a.t (model.unmixed a.way) a.words.now a.key)
