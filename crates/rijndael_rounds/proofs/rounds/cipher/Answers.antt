use Prim.Native.Nat.{ℕ, ◌+◌, ◌-◌}
use mathlib.Core.Path.{◌≡◌, sym, ap, ap₂, subst, ◌∙◌}
use mathlib.Core.List.{List, map}
use native.Mathlib.Omega.{arith}
use Rattle.octets.specs.Octets.{entry, pad_to}
use Rattle.rijndael_model.specs.Model as model
use Rattle.rijndael_model.specs.Model.{key_for, key_added, gathered, looked_rounds, looked}
use Rattle.rijndael_rounds.specs.Model.{turn_shape, Twice}
use Rattle.rijndael_rounds.proofs.States.{twice_doubled, gathered_same}
use Rattle.rijndael_rounds.proofs.Turns.{inside_less, doubled_twice, rounds_none, rounds_next, gathered_rounds}
use borrow.Author.Rules.{rules}
use Rattle.rijndael_rounds.proofs.rounds.cipher.Goals as goal

pub begin-t-requires : goal.begin-t-requires
begin-t-requires c = let b = c in
    (b.requires.0, inside_less b.args.turn c.key_number.result b.args.rounds c.key_number.ensures.1 b.requires.1.1)

pub loop-n-init : goal.loop-n-init
loop-n-init c = let a = c.args in
    let d = doubled_twice (twice_doubled c.begin-t.ensures) in
    (search rules, subst (λ (x : List ℕ). Twice a.turn.columns x c.begin-t.result) (sym (rounds_none (turn_shape a.turn) c.requires.0.0.0 (entry a.table.now) a.words.now (key_for a.way a.rounds) c.begin-t.result)) d)

pub round-u-requires : goal.round-u-requires
round-u-requires c = let b = c in
    (b.requires.0, (inside_less b.args.turn c.key_number-in-loop-n.result b.args.rounds c.key_number-in-loop-n.ensures.1 b.requires.1.1, twice_doubled c.loop-n.invariant.1))

pub loop-n-preserved : goal.loop-n-preserved
loop-n-preserved c = let l = c.loop-n in
    let b = c in
    let a = b.args in
    let z = turn_shape a.turn in
    let f = entry a.table.now in
    let w = a.words.now in
    let k = key_for a.way a.rounds in
    let t = c.begin-t.result in
    let some = b.requires.0.0.0 in
    let e =
    ap₂ (λ (i : ℕ) (x : List ℕ). key_added z w i x) c.key_number-in-loop-n.ensures.0 (gathered_same z some f (looked_rounds z f w k (l.n - 1) t) l.t l.invariant.1)
    ∙ rounds_next z some f w k t l.n l.invariant.0.0 in
    let i : l.n ≡ l.n + 1 - 1 = omega arith in
    (search rules, subst (λ (j : ℕ). Twice a.turn.columns (looked_rounds z f w k j t) c.round-u.result) i (subst (λ (x : List ℕ). Twice a.turn.columns x c.round-u.result) e c.round-u.ensures))

pub last-requires : goal.last-requires
last-requires c = let b = c in
    (b.requires.0, (inside_less b.args.turn c.key_number-2.result b.args.rounds c.key_number-2.ensures.1 b.requires.1.1, twice_doubled c.loop-n.invariant.1))

pub returns : goal.returns
unfolding looked
returns c = let l = c.loop-n in
    let b = c in
    let a = b.args in
    let z = turn_shape a.turn in
    let f = entry a.table.now in
    let w = a.words.now in
    let k = key_for a.way a.rounds in
    let t = c.begin-t in
    let some = b.requires.0.0.0 in
    let i : l.n ≡ a.rounds = omega arith in
    let s = key_added z w c.key_number.result a.s in
    let j : s ≡ key_added z w (k 0) a.s = ap (λ (m : ℕ). key_added z w m a.s) c.key_number.ensures.0 in
    let g : gathered z f l.t ≡ gathered z f (looked_rounds z f w k (a.rounds - 1) (key_added z w (k 0) a.s)) =
    gathered_same z some f (looked_rounds z f w k (l.n - 1) t.result) l.t l.invariant.1
    ∙ gathered_rounds z some f w k s t.result t.ensures (l.n - 1)
    ∙ ap₂ (λ (n : ℕ) (x : List ℕ). gathered z f (looked_rounds z f w k (n - 1) x)) i j in
    c.last.ensures ∙ ap₂ (λ (n : ℕ) (x : List ℕ). pad_to 8 (key_added z w n (map (model.unmixed a.way) x))) c.key_number-2.ensures.0 g
