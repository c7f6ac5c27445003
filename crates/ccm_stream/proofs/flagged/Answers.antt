use mathlib.Core.Path.{◌≡◌, ap, ◌∙◌}
use mathlib.Core.List.{List, [], ◌∷◌, ◌++◌}
use Prim.Native.Nat.{ℕ}
use lib.ListN.{length}
use borrow.Author.Rules.{rules}
use Rattle.ccm_stream.specs.Model.{numbered_as}
use Rattle.ccm_stream.proofs.Blocks.{flagged_made}
use Rattle.ccm_stream.proofs.flagged.Goals as goal

pub returns : goal.returns
returns c =
    let a = c.args in
    let n : length a.nonce ≡ 13 = search rules in
    c.numbered.ensures ∙ ap (λ (s : List ℕ). numbered_as (a.flags ∷ (s ++ (0 ∷ 0 ∷ []))) a.n) c.copy_from_slice.ensures.after ∙ flagged_made a.nonce n a.flags a.n
