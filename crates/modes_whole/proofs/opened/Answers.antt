use Prim.Native.Nat.{ℕ, ◌*◌}
use mathlib.Core.List.{List}
use mathlib.Core.Path.{◌≡◌, refl, sym, ap, ap₂, ◌∙◌}
use lib.ListN.{length}
use lib.Seq.{paste}
use Rattle.octets.specs.Blocks.{◌⊕◌}
use Rattle.aes_spec.specs.Model.{one_way}
use Rattle.modes_spec.specs.Modes.{machine}
use Rattle.modes_spec.specs.Pieces.{piece, output_of, after}
use Rattle.modes_spec.specs.declared.Operation.TheVariants.{CbcDecrypt}
use Rattle.octets_block.proofs.Laws.{block-at, block_put}
use Rattle.modes_whole.proofs.Runs.{write_more, more_length, more_after}
use borrow.Author.Rules.{rules}
use native.Mathlib.Omega.{arith}
use Rattle.modes_whole.proofs.opened.Goals as goal

pub loop-i-init : goal.loop-i-init
unfolding output_of after
loop-i-init c = (search rules, refl, refl, refl, refl)

pub loop-i-preserved : goal.loop-i-preserved
loop-i-preserved c =
    let w = c.store in
    let l = c.loop-i in
    let a = c.args in
    let inp = a.input.now in
    let e = one_way a.schedule.now.words a.schedule.now.rounds in
    let m = machine e CbcDecrypt in
    let st = after 16 m a.iv l.i inp in
    let f = c.xor.result in
    let lf : length f ≡ 16 = search rules in
    let p : c.load-piece.result ≡ piece 16 inp l.i = c.load-piece.ensures ∙ block-at inp (l.i * 16) (omega arith) in
    let ef : f ≡ m.out st (piece 16 inp l.i) = c.xor.ensures ∙ ap₂ ◌⊕◌ (c.decrypt_block.ensures ∙ ap e.dec p) l.invariant.3 in
    let lo : length (m.out st (piece 16 inp l.i)) ≡ 16 = ap length (sym ef) ∙ lf in
    let put : w.new.s ≡ paste l.output (l.i * 16) (m.out st (piece 16 inp l.i)) 16 =
    w.ensures ∙ block_put l.output (l.i * 16) (omega arith) f lf ∙ ap (λ (y : List ℕ). paste l.output (l.i * 16) y 16) ef in (
      search rules,
      search rules,
      more_length m a.iv inp a.output.now l.i l.invariant.2 lo,
      p ∙ sym (more_after m a.iv inp a.output.now l.i),
      put ∙ write_more m a.iv inp a.output.now l.i l.output l.invariant.2 lo (omega arith) l.invariant.4,
    )

pub returns : goal.returns
returns c =
    let l = c.loop-i in
    let a = c.args in
    let e : l.i ≡ a.n = omega arith in
    rw (← e, l.invariant.3, l.invariant.4)
