use mathlib.Core.Path.{◌≡◌, refl, sym, ap, ◌∙◌}
use Prim.Native.Nat.{ℕ, ◌-◌}
use Rattle.aes_spec.specs.Model.{one_way}
use Rattle.wrap_spec.specs.Wrap.{unpass}
use Rattle.wrap_spec.proofs.Passing.{unpass_none, unpass_more}
use borrow.Author.Rules.{rules}
use native.Mathlib.Omega.{arith}
use Rattle.wrap_registers.proofs.unpass.Goals as goal

pub loop-i-init : goal.loop-i-init
loop-i-init c = (omega arith, refl, refl)

pub loop-i-preserved : goal.loop-i-preserved
loop-i-preserved c =
    let l = c.loop-i in
    let a = c.args in
    let k = one_way a.schedule.now.words a.schedule.now.rounds in (
      omega arith,
      search rules,
      ap (unpass k a.n a.j (l.i - 1)) c.unstep.ensures ∙ unpass_more k a.n a.j l.w l.i (omega arith) ∙ l.invariant.2,
    )

pub returns : goal.returns
returns c =
    let l = c.loop-i in
    let a = c.args in
    let k = one_way a.schedule.now.words a.schedule.now.rounds in
    let e : l.i ≡ 0 = omega arith in
    sym (unpass_none k a.n a.j l.w) ∙ ap (λ (x : ℕ). unpass k a.n a.j x l.w) (sym e) ∙ l.invariant.2
