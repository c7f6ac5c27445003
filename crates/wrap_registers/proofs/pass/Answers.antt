use mathlib.Core.Path.{◌≡◌, refl, ap, ◌∙◌}
use Prim.Native.Nat.{ℕ, ◌+◌, ◌-◌, ◌*◌}
use Rattle.aes_spec.specs.Cipher.{standard}
use Rattle.wrap_spec.specs.Wrap.{step, pass}
use Rattle.wrap_spec.proofs.Passing.{pass_none, pass_more}
use borrow.Author.Rules.{rules}
use native.Mathlib.Omega.{arith}
use Rattle.wrap_registers.proofs.pass.Goals as goal

pub loop-i-init : goal.loop-i-init
loop-i-init c =
    let a = c.args in
    (omega arith, omega arith, refl, pass_none (standard a.schedule.now.words a.schedule.now.rounds) a.n a.j a.w.now)

pub loop-i-preserved : goal.loop-i-preserved
loop-i-preserved c =
    let l = c.loop-i in
    let a = c.args in
    let k = standard a.schedule.now.words a.schedule.now.rounds in
    let e : l.i ≡ l.i + 1 - 1 = omega arith in (
      omega arith,
      omega arith,
      search rules,
      c.step.ensures ∙ ap (step k (a.n * a.j + l.i) l.i) l.invariant.3 ∙ pass_more k a.n a.j a.w.now l.i l.invariant.0 ∙ ap (λ (x : ℕ). pass k a.n a.j x a.w.now) e,
    )

-- no step is left
pub returns : goal.returns
returns c =
    let l = c.loop-i in
    let a = c.args in
    let e : l.i - 1 ≡ a.n = omega arith in
    l.invariant.3 ∙ ap (λ (x : ℕ). pass (standard a.schedule.now.words a.schedule.now.rounds) a.n a.j x a.w.now) e

-- the last step was made
pub returns-2 : goal.returns-2
returns-2 c =
    let l = c.loop-i in
    let a = c.args in
    let k = standard a.schedule.now.words a.schedule.now.rounds in
    let e : l.i ≡ a.n = omega arith in
    c.step.ensures ∙ ap (step k (a.n * a.j + l.i) l.i) l.invariant.3 ∙ pass_more k a.n a.j a.w.now l.i l.invariant.0 ∙ ap (λ (x : ℕ). pass k a.n a.j x a.w.now) e
