use Rattle.std.proofs.Common.{eqb, sym, ap, ◌∙◌, Bor, List, ℕ, refl, rules, tests}
use Rattle.std.proofs.lemmas.Iterator.Consumers.{nth_from_yields_List}
use Rattle.std.proofs.lemmas.Iterator.Splits.{YieldsList-from_slice_split}
use Rattle.text_words.proofs.WordLaws.{parts, part_or_nothing, word_is_part}
use Rattle.text_words.proofs.word.Goals as goal

pub returns : goal.returns
returns c =
    let s = c.args.line.now in
    let e = c.split.ensures in
    let n = nth_from_yields_List c.nth.result _ c.args.k c.nth.ensures.ran (YieldsList-from_slice_split _ (λ b. eqb b 32) s e.rest e.done e.closure (λ x b q k. search (rules, tests))) in
    ap (λ (x : Bor (List ℕ)). x.now) c.unwrap_or.ensures ∙ part_or_nothing _ _ (parts s) c.args.k n refl ∙ sym (word_is_part c.args.k s)
