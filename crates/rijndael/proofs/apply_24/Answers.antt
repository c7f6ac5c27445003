use mathlib.Core.Path.{◌∙◌}
use mathlib.Core.List.{append-nil}
use Rattle.rijndael.proofs.Blocks.{front_bytes}
use Rattle.rijndael.proofs.Done.{same_24}
use Rattle.rijndael.proofs.apply_24.Goals as goal

pub returns : goal.returns
returns c = let r = c.apply-e in
    let a = c.args in
    let e = c.store.ensures ∙ append-nil _ ∙ front_bytes 6 r.result.chain in
    record { answer = same_24 _ _ _ a.operation a.key.now a.iv.now a.input.now r.ensures.answer.0 (e ∙ r.ensures.answer.1); written = r.ensures.written }
