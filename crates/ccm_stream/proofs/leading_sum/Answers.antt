use mathlib.Core.Path.{◌≡◌, ap, ◌∙◌}
use mathlib.Core.List.{List, ◌++◌}
use Prim.Native.Nat.{ℕ, ◌-◌}
use lib.ListN.{length, take, drop, replicate, length-take, length-drop}
use native.Mathlib.Omega.{arith}
use borrow.Author.Rules.{rules}
use Rattle.octets.specs.Octets.{pad_to}
use Rattle.octets.specs.Blocks.{◌⊕◌}
use Rattle.ccm_stream.proofs.Blocks.{sum_led, rest_from}
use Rattle.ccm_stream.proofs.leading_sum.Goals as goal

pub returns : goal.returns
returns c =
    let a = c.args in
    let s = a.s.now in
    let m = c.min.result in
    let n = c.min-n.result in
    let x = c.xor-sum.result in
    let rest = take (length s - m) (drop m s) in
    let lb : length a.block ≡ 16 = search rules in
    let lx : length x ≡ 16 = search rules in
    let z : length (take (16 - n) (drop n x)) ≡ 16 - n = omega (arith, lx, length-take (16 - n) (drop n x), length-drop n x) in
    sum_led rest a.block x _ n lb c.min-n.ensures
    (c.xor-sum.ensures ∙ ap (λ (u : List ℕ). (u ++ drop n (replicate 16 0)) ⊕ a.block) c.copy_from_slice.ensures.after)
    (c.fill.ensures.after (λ y h. h) ∙ ap (λ (k : ℕ). replicate k 0) z)
    ∙ ap (λ (u : List ℕ). pad_to 16 (u ⊕ a.block)) (rest_from s a.at m c.min.ensures)
