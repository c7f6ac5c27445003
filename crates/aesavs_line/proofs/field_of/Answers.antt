use Rattle.std.proofs.Common.{◌∷◌, [], arith, rules, tests}
use Rattle.std.proofs.lemmas.Iterator.{YieldsList-from_slice}
use Rattle.std.proofs.lemmas.Iterator.Consumers.{YieldsList-from_copied}
use Rattle.std.proofs.lemmas.Iterator.Search.{find_from_yields_List}
use Rattle.aesavs_line.specs.Lines.{starts, name_of}
use Rattle.aesavs_line.specs.declared.Field.{Field}
use Rattle.aesavs_line.specs.declared.Field.TheVariants.{Key, Iv, Plaintext, Ciphertext}
use Rattle.aesavs_line.proofs.field_of.Goals as goal

pub returns : goal.returns
returns c =
    let s = c.args.line.now in
    let y = YieldsList-from_copied (YieldsList-from_slice (Key ∷ Iv ∷ Plaintext ∷ Ciphertext ∷ []) cc) in
    let f = find_from_yields_List (λ (x : Field). starts (name_of x) s) _ _ c.find.result c.find.ensures.ran y (λ x b q k. search (rules, tests)) in
    grind arith
