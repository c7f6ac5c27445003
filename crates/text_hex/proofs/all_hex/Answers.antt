use Rattle.std.proofs.Common.{rules, sym, ◌∙◌, ltb, tests}
use Rattle.std.proofs.lemmas.Iterator.{YieldsList-from_slice}
use Rattle.std.proofs.lemmas.Iterator.Search.{all_from_yields_List}
use Rattle.text_hex.specs.Hex.{digit_of}
use Rattle.text_hex.proofs.HexLaws.{all_hex_is}
use Rattle.text_hex.proofs.all_hex.Goals as goal

pub returns : goal.returns
returns c =
    let xs = c.args.s.now in
    all_from_yields_List (λ d. ltb (digit_of d) 16) _ _ _ c.all.ensures.ran (YieldsList-from_slice xs cc) (λ x b q k. search (rules, tests)) ∙ sym (all_hex_is xs)
