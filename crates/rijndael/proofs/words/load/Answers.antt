use mathlib.Core.Path.{refl}
use Rattle.octets.specs.Octets.{Bytes}
use Rattle.octets.proofs.Fill.{filled_none, filled_more}
use Rattle.rijndael.proofs.Blocks.{loaded}
use borrow.Author.Rules.{rules}
use native.Mathlib.Omega.{arith}
use Rattle.rijndael.proofs.words.load.Goals as goal

pub loop-c-init : goal.loop-c-init
loop-c-init c = (search rules, filled_none 8 _ _ refl)

pub loop-c-preserved : goal.loop-c-preserved
loop-c-preserved c = let l = c.loop-c in
    (omega arith, filled_more l.invariant.1 (omega arith) _ c.join.ensures)

pub returns : goal.returns
returns c = let l = c.loop-c in
    let a = c.args in
    let b : Bytes a.s.now = λ i. omega (arith, c.type_inv.s i) in
    loaded a.s.now b l.t a.at a.n (omega (arith, l.invariant.1.size)) (omega arith) (λ k h. l.invariant.1.got k (omega arith))
