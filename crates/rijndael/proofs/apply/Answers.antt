use mathlib.Core.Path.{◌≡◌, sym, ap, ap₂, ◌∙◌}
use mathlib.Core.List.{List}
use Prim.Native.Nat.{ℕ, ◌/◌}
use lib.ListN.{length}
use Rattle.octets.specs.Octets.{Bytes, tabulate}
use Rattle.modes_spec.specs.Modes.{machine}
use Rattle.modes_spec.specs.Pieces.{ran}
use Rattle.rijndael_spec.specs.Rijndael.{block_size, wide_words, wide_rounds}
use Rattle.rijndael_spec.specs.Operations.{mode_of}
use Rattle.rijndael_model.specs.Model.{entry_of, block_of}
use Rattle.rijndael_model.specs.declared.Way.{Way}
use Rattle.rijndael.specs.Model.{way_of, words_for, wide_one_way}
use Rattle.rijndael.proofs.Steps.{none_block}
use Rattle.rijndael.proofs.Done.{refused_keeps, refused_zeros, answered, right, started, finished}
use native.Mathlib.Omega.{arith}
use Rattle.rijndael.proofs.apply.Goals as goal

pub returns-in_default : goal.returns-in_default
returns-in_default c = let j = c.judge-answer in
    let a = c.args in
    let v = a.width in
    let e = answered v a.operation a.key.now a.iv.now a.input.now a.output.now _ _ c.schedule_into-rounds.ensures.0 j.ensures in record {
      answer = (e, none_block v ∙ sym (refused_zeros j.result v a.operation a.key.now a.iv.now a.input.now c.in_default.not-Done));
      written = sym (refused_keeps j.result v a.operation a.key.now a.iv.now a.input.now a.output.now c.in_default.not-Done);
    }

pub pieces-chain-requires : goal.pieces-chain-requires
pieces-chain-requires c = let a = c.args in
    let f = right a.width a.operation a.key.now a.iv.now a.input.now a.output.now _ _ c.schedule_into-rounds.ensures.0 c.judge-answer.ensures c.in-Done.is in
    (c.table_into.ensures ∙ ap (λ (y : Way). tabulate 256 (entry_of y)) c.way_of-way.ensures, f.room)

pub returns : goal.returns
returns c = let sc = c.schedule_into-rounds in
    let a = c.args in
    let v = a.width in
    let o = a.operation in
    let key = a.key.now in
    let iv = a.iv.now in
    let inp = a.input.now in
    let out = a.output.now in
    let bi : Bytes iv = λ i. omega (arith, c.type_inv.iv i) in
    let bs : Bytes inp = λ i. omega (arith, c.type_inv.input i) in
    let told = c.in-Done.is in
    let e = answered v o key iv inp out _ _ sc.ensures.0 c.judge-answer.ensures in
    let f = right v o key iv inp out _ _ sc.ensures.0 c.judge-answer.ensures told in
    let so = c.start_of-start in
    let st = block_of v so.result in
    let wf = c.words_for in
    let ew : wf.new.words ≡ words_for (way_of o) v (wide_words v key) (wide_rounds v key) = wf.ensures ∙ rw (c.way_of-way.ensures, sc.ensures.0, sc.ensures.1) in
    let p = c.pieces-chain.ensures
    ∙ ap₂ (λ (w : List ℕ) (n : ℕ). ran (block_size v) (machine (wide_one_way v w n) (mode_of o)) st (length inp / block_size v) inp out) ew sc.ensures.0 in
    let q = finished v o key iv inp out st f.known (started v iv st so.ensures o f.iv_right) bi bs f.iv_right f.whole _ _ p in
    record { answer = (e, rw told q.0); written = rw told q.1 }
