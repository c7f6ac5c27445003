use mathlib.Core.Path.{◌≡◌, refl, ap, ◌∙◌}
use Prim.Native.Nat.{◌+◌, suc}
use lib.ListN.{length, length-set}
use lib.Seq.{paste, paste-zero, paste-suc}
use native.Mathlib.Omega.{arith}
use Rattle.wrap.proofs.put_data.Goals as goal

pub loop-k-init : goal.loop-k-init
loop-k-init c = (omega arith, refl, refl, paste-zero c.args.output.now 8 c.args.given.now)

pub loop-k-preserved : goal.loop-k-preserved
loop-k-preserved c = let l = c.loop-k in
    let a = c.args in
    let k = l.k in
    let s : k + 1 ≡ suc k = omega arith in
    (omega arith, refl, simp length-set (omega arith), rw (l.invariant.3, s) (paste-suc a.output.now 8 a.given.now k 0 (omega arith) (omega arith)))

pub returns : goal.returns
returns c = let l = c.loop-k in
    let a = c.args in
    let e : l.k ≡ length a.given.now = omega arith in
    l.invariant.3 ∙ ap (paste a.output.now 8 a.given.now) e
