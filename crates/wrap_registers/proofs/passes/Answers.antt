use mathlib.Core.Path.{◌≡◌, refl, sym, ap, ◌∙◌}
use Prim.Native.Nat.{ℕ, ◌-◌, ◌/◌}
use lib.ListN.{length}
use Rattle.aes_spec.specs.Cipher.{standard}
use Rattle.wrap_spec.specs.Wrap.{pass, passes}
use Rattle.wrap_registers.proofs.Sizes.{passed_right, passed_wrong}
use Rattle.wrap_spec.proofs.Passing.{passes_none, passes_more}
use borrow.Author.Rules.{rules}
use native.Mathlib.Omega.{arith}
use Rattle.wrap_registers.proofs.passes.Goals as goal

pub returns-else-wrapped_size_fits : goal.returns-else-wrapped_size_fits
returns-else-wrapped_size_fits c =
    let a = c.args in
    passed_wrong (standard a.schedule.now.words a.schedule.now.rounds) a.w.now (sym c.wrapped_size_fits.ensures ∙ c.if-wrapped_size_fits.false)

pub loop-j-init : goal.loop-j-init
loop-j-init c =
    let a = c.args in
    (omega arith, refl, passes_none (standard a.schedule.now.words a.schedule.now.rounds) (length a.w.now / 8 - 1) a.w.now)

pub loop-j-preserved : goal.loop-j-preserved
loop-j-preserved c =
    let l = c.loop-j in
    let a = c.args in
    let k = standard a.schedule.now.words a.schedule.now.rounds in
    let n = length a.w.now / 8 - 1 in (
      omega arith,
      search rules,
      c.pass.ensures ∙ ap (pass k n l.j n) l.invariant.2 ∙ sym (passes_more k n a.w.now l.j),
    )

pub returns-after-loop-j : goal.returns-after-loop-j
returns-after-loop-j c =
    let l = c.loop-j in
    let a = c.args in
    let k = standard a.schedule.now.words a.schedule.now.rounds in
    let n = length a.w.now / 8 - 1 in
    let e : l.j ≡ 6 = omega arith in
    l.invariant.2 ∙ ap (λ (x : ℕ). passes k n x a.w.now) e ∙ passed_right k a.w.now (sym c.wrapped_size_fits.ensures ∙ c.if-wrapped_size_fits.true)
