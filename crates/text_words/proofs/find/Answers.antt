use Rattle.std.proofs.Common.{◌≡◌, ℕ, List, length, eqb, drop, ap, ◌∙◌, rules, tests, arith}
use Rattle.std.proofs.lemmas.Iterator.{YieldsList-from_slice}
use Rattle.std.proofs.lemmas.Iterator.Search.{position_from_yields_List}
use Rattle.std.proofs.lemmas.List.{take_rest}
use Rattle.text_words.specs.Words.{before}
use Rattle.text_words.proofs.WordLaws.{place_or_end}
use Rattle.text_words.proofs.find.Goals as goal

pub returns : goal.returns
returns c =
    let a = c.args in
    let t = c.part-rest.result.now in
    let p = position_from_yields_List (λ b. eqb b a.stop) _ _ c.position.result c.position.ensures.ran (YieldsList-from_slice t cc) (λ x b q k. search (rules, tests)) in
    let e = place_or_end a.stop t c.position.result p in
    let d : t ≡ drop a.at a.s.now = c.part-rest.ensures ∙ take_rest a.s.now a.at in
    omega (arith, c.unwrap_or.ensures, e, ap (λ (l : List ℕ). length (before a.stop l)) d)
