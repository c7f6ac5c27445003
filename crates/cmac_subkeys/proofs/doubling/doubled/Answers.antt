use mathlib.Core.Path.{ap₂, ◌∙◌}
use mathlib.Core.List.{List}
use Prim.Native.Nat.{ℕ}
use lib.ListN.{get_or}
use mir.Syntax.{w8}
use mir.Val.{Fits}
use borrow.Author.Tests.{lt-ltb, le-ltb}
use borrow.Author.Rules.{rules}
use Rattle.octets.specs.Octets.{Bytes}
use Rattle.octets.specs.Blocks.{◌⊕◌}
use Rattle.cmac_spec.specs.Cmac as spec
use Rattle.cmac_subkeys.proofs.Numbers.{shifted_number}
use Rattle.cmac_subkeys.proofs.doubling.doubled.Goals as goal

pub returns-then-block-lt128 : goal.returns-then-block-lt128
unfolding spec.doubled
returns-then-block-lt128 c =
    let block = c.args.block in
    let bytes : Bytes block = λ k. (let h : Fits w8 (get_or block k 0) = search rules in h.fits) in
    simp (lt-ltb (get_or block 0 0) 128 (search rules)) (c.to_be_bytes-left.ensures ∙ shifted_number block _ (search rules) bytes c.from_be_bytes.ensures)

pub returns-else-block-lt128 : goal.returns-else-block-lt128
unfolding spec.doubled
returns-else-block-lt128 c =
    let block = c.args.block in
    let bytes : Bytes block = λ k. (let h : Fits w8 (get_or block k 0) = search rules in h.fits) in
    simp (le-ltb (get_or block 0 0) 128 (search rules))
    (c.xor.ensures ∙ ap₂ (λ (x y : List ℕ). x ⊕ y) (c.to_be_bytes-left.ensures ∙ shifted_number block _ (search rules) bytes c.from_be_bytes.ensures) c.to_be_bytes.ensures)
