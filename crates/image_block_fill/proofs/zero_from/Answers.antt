use Rattle.std.proofs.Common.{◌≡◌, refl, ◌∙◌, drop, rules, tests, ℕ, ◌&&◌, List, eqb}
use Rattle.std.specs.List.{list_all}
use Rattle.std.proofs.lemmas.Iterator.{YieldsList-from_slice}
use Rattle.std.proofs.lemmas.Iterator.Adapters.{YieldsList-from_skip}
use Rattle.std.proofs.lemmas.Iterator.Search.{all_from_yields_List}
use Rattle.std.proofs.lemmas.List.Recursion.{same_from_clauses}
use Rattle.image_spec.specs.Sealed.{all_zero}
use Rattle.image_block_fill.proofs.zero_from.Goals as goal

-- the test of one byte after another is the definition's
same : (s : List ℕ) → list_all (λ x. eqb x 0) s ≡ all_zero s
same = same_from_clauses (list_all (λ x. eqb x 0)) all_zero (λ x r. eqb x 0 && r) refl (λ _ _. refl) (λ _ _. refl)

pub returns : goal.returns
returns c =
    let from = YieldsList-from_skip {s = c.skip.result} c.args.from (YieldsList-from_slice c.args.plain (rw c.skip.ensures.source c.iter.ensures.rest)) c.skip.ensures.count in
    all_from_yields_List (λ x. eqb x 0) _ _ _ c.all.ensures.ran from (λ x b q k. search (rules, tests)) ∙ same (drop c.args.from c.args.plain)
