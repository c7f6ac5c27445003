use mathlib.Core.Path.{◌≡◌, refl, sym, ap, ◌∙◌}
use mathlib.Core.List.{List}
use Prim.Native.Nat.{ℕ, ◌+◌, ◌*◌}
use lib.ListN.{length, drop}
use borrow.Author.Tests.{le-leb}
use Rattle.octets.specs.Octets.{pad_to}
use Rattle.octets.specs.Blocks.{◌⊕◌}
use Rattle.aes_spec.specs.Cipher.{standard}
use Rattle.cmac_spec.specs.Cmac as cmac
use Rattle.ccm_stream.specs.Model.{numbered_as, pieces}
use Rattle.ccm_stream.proofs.Written.{pieces_length}
use Rattle.ccm_chain.proofs.Chains.{chained_one}
use borrow.Author.Rules.{rules}
use native.Mathlib.Omega.{arith}
use Rattle.ccm_chain.proofs.through_opened.Goals as goal

pub loop-i-init : goal.loop-i-init
unfolding pieces cmac.chained
loop-i-init c = (search rules, refl, refl)

pub loop-i-preserved : goal.loop-i-preserved
loop-i-preserved c = let m = c.leading_sum-plain in
    let l = c.loop-i in
    let a = c.args in
    let e = standard a.schedule.now.words a.schedule.now.rounds in
    let inp = a.input.now in
    let b : m.result ≡ pad_to 16 (drop (l.i * 16) inp ⊕ e.enc (numbered_as a.ctr (l.i + 1))) =
    m.ensures ∙ ap (λ (x : List ℕ). pad_to 16 (drop (l.i * 16) inp ⊕ x)) (c.encrypt_block-made.ensures ∙ ap e.enc c.numbered.ensures) in
    let lb : length m.result ≡ 16 = search rules in
    let p = pieces_length e a.ctr inp l.i m.result l.invariant.1 lb b in (
      search rules,
      p.1,
      rw (c.absorb.ensures, le-leb (0 + 16) (length m.result) (omega arith), l.invariant.2, p.0)
          (sym (chained_one e a.chain l.i (pieces e a.ctr inp l.i) m.result l.invariant.1)),
    )

pub returns : goal.returns
returns c = let l = c.loop-i in
    let n = c.piece_count-i-end in
    let a = c.args in
    let e = standard a.schedule.now.words a.schedule.now.rounds in
    let i : l.i ≡ n.result = omega arith in
    l.invariant.2 ∙ ap (λ (k : ℕ). cmac.chained e a.chain k (pieces e a.ctr a.input.now k)) (i ∙ n.ensures)
