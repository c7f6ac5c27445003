use Rattle.std.proofs.Common.{eqb, arith, rules, tests}
use Rattle.std.proofs.lemmas.Iterator.Consumers.{count_from_yields_List}
use Rattle.std.proofs.lemmas.Iterator.Splits.{YieldsList-from_slice_split}
use Rattle.text_words.proofs.WordLaws.{words_are_parts}
use Rattle.text_words.proofs.count.Goals as goal

pub returns : goal.returns
returns c =
    let s = c.args.line.now in
    let e = c.split.ensures in
    let n = count_from_yields_List _ _ c.count.ensures.ran (YieldsList-from_slice_split _ (λ b. eqb b 32) s e.rest e.done e.closure (λ x b q k. search (rules, tests))) in
    omega (arith, n, words_are_parts s)
