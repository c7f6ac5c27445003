use lib.ListN.{get_or, drop, length, length-drop}
use mir.Syntax.{w8}
use mir.Val.{Fits}
use mathlib.Core.Path.{ap, ap₂, ◌∙◌}
use Rattle.octets.specs.Octets.{xor, Octets, Bytes}
use Prim.Native.Nat.{◌≤◌}
use native.Mathlib.Omega.{arith}
use Rattle.octets.proofs.Blocks.{take_octets, drop_bytes}
use Rattle.aes_state.specs.declared.Columns.{Columns}
use Rattle.aes_state.specs.Model.{columns_of}
use Rattle.aes_state.proofs.ByColumns.{same_four}
use Rattle.aes_rounds.proofs.Pieces.{added_law}
use borrow.Author.Rules.{rules}
use Rattle.aes_rounds.proofs.added.Goals as goal

pub returns : goal.returns
unfolding xor columns_of
returns c = let f = c.columns_of-s in
    let a = c.args in
    let o : Octets 16 a.v = record { size = search rules; bytes = λ k. (let h : Fits w8 (get_or a.v k 0) = search rules in h.fits) } in
    let b : Bytes a.part.now = λ k. omega (arith, c.shared_slice_known-1.given k) in
    let l : 16 ≤ length (drop a.at a.part.now) = omega (arith, length-drop a.at a.part.now) in
    same_four
    (ap₂ xor (ap (λ (x : Columns). x.0) f.ensures) c.word_in.ensures)
    (ap₂ xor (ap (λ (x : Columns). x.1) f.ensures) c.word_in-2.ensures)
    (ap₂ xor (ap (λ (x : Columns). x.2) f.ensures) c.word_in-3.ensures)
    (ap₂ xor (ap (λ (x : Columns). x.3) f.ensures) c.word_in-4.ensures)
    ∙ added_law a.part.now a.at (search rules) a.v o (take_octets 16 (drop a.at a.part.now) l (drop_bytes a.at a.part.now b))
