use mathlib.Core.Path.{◌≡◌, sym, ap, ap₂, ◌∙◌}
use mathlib.Core.List.{List}
use Prim.Native.Nat.{ℕ, ◌*◌}
use native.Mathlib.Omega.{arith}
use lib.ListN.{length}
use Rattle.aes_spec.specs.Model.{mixed_back, inverse_words}
use Rattle.aes_spec.proofs.Rounds.{round-count}
use borrow.Author.Rules.{rules}
use Rattle.aes_schedule_inverse.proofs.invert.Goals as goal

pub mix_back-requires : goal.mix_back-requires
mix_back-requires c = let s = c.args.schedule.now in
    let r = round-count s.rounds (sym c.is_usable.ensures ∙ c.if-is_usable.true) in
    let z : length s.words ≡ 60 = search rules in
    omega (arith, z, r.1, c.first_word-end.ensures)

pub returns-then-is_usable : goal.returns-then-is_usable
unfolding inverse_words
returns-then-is_usable c = let s = c.args.schedule.now in
    let k = sym c.is_usable.ensures ∙ c.if-is_usable.true in
    let r = round-count s.rounds k in
    let e : c.first_word-end.result.0 ≡ 4 * s.rounds = omega (arith, r.1, c.first_word-end.ensures) in
    let w : c.mix_back.new.words ≡ inverse_words s.words s.rounds =
    simp k (c.mix_back.ensures ∙ ap₂ (λ (from end : ℕ). mixed_back from end s.words) c.first_word-first.ensures e) in
    ap (λ (x : List ℕ). record { words = x; rounds = s.rounds }) w

pub returns-else-is_usable : goal.returns-else-is_usable
unfolding inverse_words
returns-else-is_usable c = simp (sym c.is_usable.ensures ∙ c.if-is_usable.false)
