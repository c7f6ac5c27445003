use Prim.Native.Nat.{ℕ, ◌*◌, ◌/◌, min}
use mathlib.Core.List.{List}
use mathlib.Core.Path.{◌≡◌, refl, sym, ap, ap₂, ◌∙◌}
use lib.ListN.{length}
use lib.Seq.{paste}
use Rattle.aes_spec.specs.Model.{one_way}
use Rattle.modes_spec.specs.Modes.{machine}
use Rattle.modes_spec.specs.Pieces.{piece, output_of, after, ran}
use Rattle.modes_spec.specs.declared.Operation.{Operation}
use Rattle.modes_spec.specs.declared.Operation.TheVariants.{CbcDecrypt}
use Rattle.modes_whole.specs.Model.{ran_whole}
use Rattle.octets_block.proofs.Laws.{block-at, block_put}
use Rattle.modes_step.specs.declared.Stepped.{Stepped}
use Rattle.modes_step.specs.Model.{step_of}
use Rattle.modes_whole.proofs.Runs.{write_more, more_length, more_after}
use borrow.Author.Rules.{rules}
use native.Mathlib.Omega.{arith}
use Rattle.modes_whole.proofs.whole_pieces.Goals as goal

pub opened-requires : goal.opened-requires
opened-requires c = (omega (arith, c.min-n.ensures), omega (arith, c.min-n.ensures))

pub returns-in-CbcDecrypt : goal.returns-in-CbcDecrypt
returns-in-CbcDecrypt c =
    let a = c.args in
    let e = one_way a.schedule.now.words a.schedule.now.rounds in
    c.opened.ensures
    ∙ ap (λ (k : ℕ). ran 16 (machine e CbcDecrypt) a.iv (k / 16) a.input.now a.output.now) c.min-n.ensures
    ∙ ap (λ (v : Operation). ran_whole (machine e v) a.iv a.input.now a.output.now) (sym c.in-CbcDecrypt.is)

pub loop-i-init : goal.loop-i-init
unfolding output_of after
loop-i-init c = (search rules, refl, refl, refl, refl)

pub loop-i-preserved : goal.loop-i-preserved
loop-i-preserved c =
    let w = c.store in
    let l = c.loop-i in
    let a = c.args in
    let inp = a.input.now in
    let m = machine (one_way a.schedule.now.words a.schedule.now.rounds) a.operation in
    let st = after 16 m a.iv l.i inp in
    let f = c.step-s.result.out in
    let lf : length f ≡ 16 = search rules in
    let p : c.load.result ≡ piece 16 inp l.i = c.load.ensures ∙ block-at inp (l.i * 16) (omega arith) in
    let e : c.step-s.result ≡ step_of m st (piece 16 inp l.i) = c.step-s.ensures ∙ ap₂ (step_of m) l.invariant.3 p in
    let ef : f ≡ m.out st (piece 16 inp l.i) = ap (λ (x : Stepped). x.out) e in
    let lo : length (m.out st (piece 16 inp l.i)) ≡ 16 = ap length (sym ef) ∙ lf in
    let put : w.new.s ≡ paste l.output (l.i * 16) (m.out st (piece 16 inp l.i)) 16 =
    w.ensures ∙ block_put l.output (l.i * 16) (omega arith) f lf ∙ ap (λ (x : List ℕ). paste l.output (l.i * 16) x 16) ef in (
      search rules,
      search rules,
      more_length m a.iv inp a.output.now l.i l.invariant.2 lo,
      ap (λ (x : Stepped). x.next) e ∙ sym (more_after m a.iv inp a.output.now l.i),
      put ∙ write_more m a.iv inp a.output.now l.i l.output l.invariant.2 lo (omega arith) l.invariant.4,
    )

pub returns : goal.returns
returns c =
    let l = c.loop-i in
    let a = c.args in
    let e : l.i ≡ min (length a.input.now) (length a.output.now) / 16 = omega (arith, c.min-n.ensures) in
    rw (← e, l.invariant.3, l.invariant.4)
