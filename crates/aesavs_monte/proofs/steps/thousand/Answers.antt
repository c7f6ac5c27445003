use Rattle.aesavs_monte.specs.declared.Turn.{Turn}
use Rattle.aesavs_monte.specs.Chain.{turn_of, begun, iterate}
use Rattle.modes_spec.specs.Modes.{machine}
use Rattle.aes_spec.specs.Model.{one_way}
use native.Mathlib.Numerals.{add-one}
use Prim.Native.Nat.{ℕ, ◌+◌}
use mathlib.Core.Path.{◌≡◌, refl, ap, ◌∙◌}
use borrow.Author.Rules.{rules}
use native.Mathlib.Omega.{arith}
use Rattle.aesavs_monte.proofs.steps.thousand.Goals as goal

step_more : (n : ℕ) (f : Turn → Turn) (t : Turn) → f (iterate n f t) ≡ iterate (n + 1) f t
unfolding iterate
step_more n f t = rw (add-one n)

pub loop-j-init : goal.loop-j-init
unfolding iterate
loop-j-init c = (search rules, refl)

pub loop-j-preserved : goal.loop-j-preserved
loop-j-preserved c = let l = c.loop-j in
    let a = c.args in
    let f = turn_of (machine (one_way a.schedule.now.words a.schedule.now.rounds) a.operation) a.chained in
    (search rules, c.one-u.ensures ∙ ap f l.invariant.1 ∙ step_more l.j f _)

pub returns : goal.returns
returns c = let l = c.loop-j in
    let a = c.args in
    let f = turn_of (machine (one_way a.schedule.now.words a.schedule.now.rounds) a.operation) a.chained in
    let e : l.j ≡ 1000 = omega arith in
    l.invariant.1 ∙ ap (λ (i : ℕ). iterate i f (begun a.iv a.text)) e
