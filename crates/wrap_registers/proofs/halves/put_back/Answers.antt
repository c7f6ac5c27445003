use mathlib.Core.Path.{◌≡◌, ap₂, ◌∙◌}
use mathlib.Core.List.{List, ◌++◌}
use Prim.Native.Nat.{ℕ, ◌+◌, ◌-◌, ◌*◌}
use native.Mathlib.Omega.{arith}
use borrow.Author.Rules.{rules}
use borrow.Rule.Slice.PartMut.{put_mid}
use lib.ListN.{length, take, drop, length-drop}
use lib.Seq.{take_all}
use Rattle.wrap_registers.proofs.Places.{put_by}
use Rattle.wrap_registers.proofs.halves.put_back.Goals as goal

pub returns : goal.returns
returns c =
    let a = c.args in
    let b : length a.block ≡ 16 = search rules in
    let n : length (take 8 a.block) ≡ 8 = search rules in
    let k = 8 * a.i + 8 - 8 * a.i in
    let second = c.copy_from_slice-2.ensures.after ∙ take_all 8 (drop 8 a.block) (omega (arith, b, length-drop 8 a.block)) in
    ap₂ (λ (x y : List ℕ). put_mid (8 * a.i) k (x ++ drop 8 a.w.now) y) c.copy_from_slice.ensures.after second
    ∙ put_by a.w.now a.i k (take 8 a.block) (drop 8 a.block) c.requires.0 c.requires.1 (omega arith) n
