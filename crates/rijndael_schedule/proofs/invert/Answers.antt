use mathlib.Core.Path.{◌≡◌, sym, ap, ◌∙◌}
use Prim.Native.Nat.{ℕ, ◌*◌, ◌≤◌}
use native.Mathlib.Omega.{arith}
use lib.ListN.{length}
use Rattle.aes_spec.specs.Model.{mixed_back}
use Rattle.rijndael_spec.specs.Model.{wide_inverse}
use Rattle.rijndael_spec.proofs.Laws.{wide-round-count}
use borrow.Author.Rules.{rules}
use Rattle.rijndael_schedule.proofs.invert.Goals as goal

pub mix_back-requires : goal.mix_back-requires
mix_back-requires c = let b = c in
    let a = b.args in
    let r = wide-round-count a.width a.rounds (sym b.is_round_count.ensures ∙ b.if-is_round_count.true) in
    let e : c.columns-nb.result * a.rounds ≤ 120 = rw c.columns-nb.ensures (omega (arith, r.2)) in
    let z : length a.words.now ≡ 120 = search rules in
    rw z e

pub returns-then-is_round_count : goal.returns-then-is_round_count
unfolding wide_inverse
returns-then-is_round_count c = let b = c in
    let a = b.args in
    rw (sym b.is_round_count.ensures ∙ b.if-is_round_count.true)
    (c.mix_back.ensures ∙ ap (λ (n : ℕ). mixed_back n (n * a.rounds) a.words.now) c.columns-nb.ensures)

pub returns-else-is_round_count : goal.returns-else-is_round_count
unfolding wide_inverse
returns-else-is_round_count c = rw (sym c.is_round_count.ensures ∙ c.if-is_round_count.false)
