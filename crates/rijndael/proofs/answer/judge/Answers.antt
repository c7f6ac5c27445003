use mathlib.Core.Path.{ap, ◌∙◌}
use Prim.Native.Nat.{ℕ, ◌*◌}
use borrow.Author.Tests.{eq-eqb, ne_eqb, lt-ltb, le-ltb}
use Rattle.modes_spec.specs.Modes.{iv_length}
use Rattle.modes_answer.specs.Answers.{judged}
use Rattle.rijndael_spec.specs.Operations.{mode_of}
use Rattle.rijndael.proofs.Blocks.{columns_few}
use native.Mathlib.Omega.{arith}
use Rattle.rijndael.proofs.answer.judge.Goals as goal

pub overflow_mul-size : goal.overflow_mul-size
overflow_mul-size c = omega (arith, (columns_few c.args.width).1, c.columns-size.ensures)

pub returns-then-rounds-eq0 : goal.returns-then-rounds-eq0
unfolding judged
returns-then-rounds-eq0 c = rw (eq-eqb _ _ c.if-rounds-eq0.true)

pub returns-then-iv-wanted : goal.returns-then-iv-wanted
unfolding judged
returns-then-iv-wanted c = let w = c.wanted_iv-wanted.ensures ∙ ap (λ (k : ℕ). iv_length (4 * k) (mode_of c.args.operation)) c.columns-size.ensures in
    rw (ne_eqb _ _ c.if-rounds-eq0.false, ← w, ne_eqb _ _ c.if-iv-wanted.true)

pub nonzero_rem-input : goal.nonzero_rem-input
nonzero_rem-input c = omega (arith, (columns_few c.args.width).0, c.columns-size.ensures)

pub returns-then-input-size-ne0 : goal.returns-then-input-size-ne0
unfolding judged
returns-then-input-size-ne0 c = let n = c.columns-size.ensures in
    let w = c.wanted_iv-wanted.ensures ∙ ap (λ (k : ℕ). iv_length (4 * k) (mode_of c.args.operation)) n in
    rw (ne_eqb _ _ c.if-rounds-eq0.false, ← w, eq-eqb _ _ c.if-iv-wanted.false, ← n, ne_eqb _ _ c.if-input-size-ne0.true)

pub returns-then-output-input : goal.returns-then-output-input
unfolding judged
returns-then-output-input c = let n = c.columns-size.ensures in
    let w = c.wanted_iv-wanted.ensures ∙ ap (λ (k : ℕ). iv_length (4 * k) (mode_of c.args.operation)) n in
    rw (ne_eqb _ _ c.if-rounds-eq0.false, ← w, eq-eqb _ _ c.if-iv-wanted.false, ← n, eq-eqb _ _ c.if-input-size-ne0.false, lt-ltb _ _ c.if-output-input.true)

pub returns : goal.returns
unfolding judged
returns c = let n = c.columns-size.ensures in
    let w = c.wanted_iv-wanted.ensures ∙ ap (λ (k : ℕ). iv_length (4 * k) (mode_of c.args.operation)) n in
    rw (ne_eqb _ _ c.if-rounds-eq0.false, ← w, eq-eqb _ _ c.if-iv-wanted.false, ← n, eq-eqb _ _ c.if-input-size-ne0.false, le-ltb _ _ c.if-output-input.false)
