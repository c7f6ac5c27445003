use mathlib.Core.Path.{◌≡◌, refl, sym, ap, ◌∙◌}
use mathlib.Core.List.{List, []}
use Prim.Native.Nat.{ℕ, ◌+◌, ◌*◌}
use lib.ListN.{length, drop}
use lib.Seq.{take_all}
use Rattle.octets.specs.Octets.{pad_to}
use Rattle.octets.specs.Blocks.{◌⊕◌}
use Rattle.aes_spec.specs.Cipher.{standard}
use Rattle.ccm_stream.specs.Model.{numbered_as, pieces}
use Rattle.ccm_stream.proofs.Written.{pieces_more, pieces_length, pieces_written}
use borrow.Author.Rules.{rules}
use native.Mathlib.Omega.{arith}
use Rattle.ccm_stream.proofs.stream_into.Goals as goal

pub loop-i-init : goal.loop-i-init
unfolding pieces
loop-i-init c = let e : length c.args.output.now ≡ length c.args.input.now = c.requires in
    (search rules, e, refl, sym (take_all (length c.args.input.now) c.args.output.now (omega arith)))

pub put_leading-requires : goal.put_leading-requires
put_leading-requires c = let n = c.piece_count-i-end.ensures in
    omega arith

pub loop-i-preserved : goal.loop-i-preserved
loop-i-preserved c = let w = c.put_leading in
    let m = c.leading_sum in
    let l = c.loop-i in
    let n = c.piece_count-i-end.ensures in
    let a = c.args in
    let e = standard a.schedule.now.words a.schedule.now.rounds in
    let inp = a.input.now in
    let b : m.result ≡ pad_to 16 (drop (l.i * 16) inp ⊕ e.enc (numbered_as a.ctr (l.i + 1))) =
    m.ensures ∙ ap (λ (x : List ℕ). pad_to 16 (drop (l.i * 16) inp ⊕ x)) (c.encrypt_block-made.ensures ∙ ap e.enc c.numbered.ensures) in
    let lb : length m.result ≡ 16 = search rules in (
      search rules,
      search rules,
      (pieces_length e a.ctr inp l.i m.result l.invariant.2 lb b).1,
      w.ensures ∙ pieces_more e a.ctr inp a.output.now c.requires l.i l.output m.result l.invariant.1 l.invariant.2 l.invariant.3 (omega arith) b,
    )

pub returns : goal.returns
returns c = let l = c.loop-i in
    let n = c.piece_count-i-end in
    let a = c.args in
    pieces_written (standard a.schedule.now.words a.schedule.now.rounds) a.ctr a.input.now a.output.now c.requires l.i l.output [] l.invariant.1 l.invariant.2 l.invariant.3
    n.result n.ensures (omega arith)
