use mathlib.Core.Path.{◌≡◌, refl, ap, ◌∙◌}
use mathlib.Core.List.{List}
use mathlib.Core.Logic.{◌⊎◌, ⊎_elim}
use Prim.Native.Nat.{ℕ, ◌+◌, ◌≤◌, ◌<◌, min}
use native.Mathlib.Omega.{arith}
use borrow.Author.Rules.{rules}
use lib.ListN.{length, get_or, set, length-set}
use Rattle.octets.proofs.Xor.{lt_or_le}
use Rattle.aes_mix.specs.Mixing.{inv_mix_column}
use Rattle.aes_spec.specs.Model.{mixed_back}
use Rattle.aes_spec.proofs.Equivalent.{mixed_none, mixed_more, mixed_past}
use Rattle.aes_schedule_inverse.proofs.mix_back.Goals as goal

pub loop-i-init : goal.loop-i-init
loop-i-init c = (refl, (search rules, mixed_none _ _ _ (omega arith)))

pub loop-i-preserved : goal.loop-i-preserved
loop-i-preserved c = let l = c.loop-i in
    let a = c.args in
    let e : min l.i a.end ≡ l.i = omega arith in
    let f : min (l.i + 1) a.end ≡ l.i + 1 = omega arith in
    let q : l.words ≡ mixed_back a.from l.i a.words.now = rw e at l.invariant.1.1 in (
      length-set l.words _ _ ∙ l.invariant.0,
      (
        omega arith,
        rw f (ap (λ (x : List ℕ). set x l.i c.inv_mix_column.result) q
            ∙ mixed_more a.from a.words.now l.i c.inv_mix_column.result (omega arith) (omega arith)
            (c.inv_mix_column.ensures ∙ ap (λ (x : List ℕ). inv_mix_column (get_or x l.i 0)) q)),
      ),
    )

pub returns : goal.returns
returns c =
    let l = c.loop-i in
    let a = c.args in
    let w = a.words.now in
    ⊎_elim
    (λ (h : a.end < length w). (let e : min l.i a.end ≡ a.end = omega (arith, h) in rw e at l.invariant.1.1))
    (λ (h : length w ≤ a.end). l.invariant.1.1 ∙ mixed_past a.from w (min l.i a.end) a.end (omega (arith, h)) h)
    (lt_or_le a.end (length w))
