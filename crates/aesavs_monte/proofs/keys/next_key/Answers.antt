use Rattle.aesavs_monte.proofs.KeyBytes.{next_key_bytes}
use Rattle.aesavs_monte.specs.Model.{key_byte}
use Rattle.octets.proofs.Fill.{filled_none, filled_more, filled_all}
use Rattle.octets.specs.Octets.{tabulate}
use Prim.Native.Nat.{ℕ}
use mathlib.Core.List.{◌++◌}
use mathlib.Core.Path.{refl, ap, ◌∙◌}
use borrow.Author.Rules.{rules}
use Rattle.aesavs_monte.proofs.keys.next_key.Goals as goal

pub loop-i-init : goal.loop-i-init
loop-i-init c = (search rules, filled_none 32 _ _ refl)

pub loop-i-preserved : goal.loop-i-preserved
loop-i-preserved c = (search rules, filled_more c.loop-i.invariant.1 c.loop-i-test.true _ c.key_byte.ensures)

pub returns : goal.returns
returns c = let k = c in
    let a = k.args in
    filled_all c.loop-i.invariant.1 c.loop-i-test.false
    ∙ ap (λ (m : ℕ). tabulate 32 (key_byte a.key m (a.before ++ a.last))) k.min-n.ensures
    ∙ next_key_bytes a.key a.size a.before a.last (search rules) (search rules) (search rules)
