use mathlib.Core.Path.{◌≡◌, refl, sym, ap, ◌∙◌}
use Prim.Native.Nat.{ℕ, ◌-◌, ◌/◌}
use lib.ListN.{length}
use Rattle.aes_spec.specs.Model.{one_way}
use Rattle.wrap_spec.specs.Wrap.{unpasses}
use Rattle.wrap_registers.proofs.Sizes.{unpassed_right, unpassed_wrong}
use Rattle.wrap_spec.proofs.Passing.{unpasses_none, unpasses_more, unpasses_whole}
use borrow.Author.Rules.{rules}
use native.Mathlib.Omega.{arith}
use Rattle.wrap_registers.proofs.unpasses.Goals as goal

pub returns-else-wrapped_size_fits : goal.returns-else-wrapped_size_fits
returns-else-wrapped_size_fits c =
    let a = c.args in
    unpassed_wrong (one_way a.schedule.now.words a.schedule.now.rounds) a.w.now (sym c.wrapped_size_fits.ensures ∙ c.if-wrapped_size_fits.false)

pub loop-j-init : goal.loop-j-init
loop-j-init c = (omega arith, refl, refl)

pub loop-j-preserved : goal.loop-j-preserved
loop-j-preserved c =
    let l = c.loop-j in
    let a = c.args in
    let k = one_way a.schedule.now.words a.schedule.now.rounds in
    let n = length a.w.now / 8 - 1 in (
      omega arith,
      search rules,
      ap (unpasses k n (l.j - 1)) c.unpass.ensures ∙ unpasses_more k n l.w l.j (omega arith) ∙ l.invariant.2,
    )

pub returns-after-loop-j : goal.returns-after-loop-j
returns-after-loop-j c =
    let l = c.loop-j in
    let a = c.args in
    let k = one_way a.schedule.now.words a.schedule.now.rounds in
    let n = length a.w.now / 8 - 1 in
    let e : l.j ≡ 0 = omega arith in
    sym (unpasses_none k n l.w) ∙ ap (λ (x : ℕ). unpasses k n x l.w) (sym e) ∙ l.invariant.2
    ∙ unpasses_whole k a.w.now ∙ unpassed_right k a.w.now (sym c.wrapped_size_fits.ensures ∙ c.if-wrapped_size_fits.true)
