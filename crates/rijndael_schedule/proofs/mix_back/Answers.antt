use mathlib.Core.Path.{◌≡◌, refl, ap, ◌∙◌}
use mathlib.Core.List.{List}
use Prim.Native.Nat.{ℕ, ◌+◌, min}
use native.Mathlib.Omega.{arith}
use borrow.Author.Rules.{rules}
use lib.ListN.{get_or, set, length-set}
use Rattle.aes_mix.specs.Mixing.{inv_mix_column}
use Rattle.aes_spec.specs.Model.{mixed_back}
use Rattle.aes_spec.proofs.Equivalent.{mixed_none, mixed_more}
use Rattle.rijndael_schedule.proofs.mix_back.Goals as goal

pub loop-i-init : goal.loop-i-init
loop-i-init c = (refl, (search rules, mixed_none _ _ _ (omega arith)))

pub loop-i-preserved : goal.loop-i-preserved
loop-i-preserved c = let l = c.loop-i in
    let a = c.args in
    let e : min l.i a.end ≡ l.i = omega arith in
    let f : min (l.i + 1) a.end ≡ l.i + 1 = omega arith in
    let q : l.words ≡ mixed_back a.from l.i a.words.now = rw e at l.invariant.1.1 in (
      length-set l.words _ _ ∙ l.invariant.0,
      (
        omega arith,
        rw f (ap (λ (x : List ℕ). set x l.i c.inv_mix_column.result) q
            ∙ mixed_more a.from a.words.now l.i c.inv_mix_column.result (omega arith) (omega arith)
            (c.inv_mix_column.ensures ∙ ap (λ (x : List ℕ). inv_mix_column (get_or x l.i 0)) q)),
      ),
    )

pub returns : goal.returns
returns c = let l = c.loop-i in
    let e : min l.i c.args.end ≡ c.args.end = omega arith in
    rw e at l.invariant.1.1
