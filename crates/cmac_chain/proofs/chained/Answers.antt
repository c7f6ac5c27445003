use mathlib.Core.Path.{refl, sym, ◌∙◌}
use Prim.Native.Nat.{◌+◌, ◌*◌, ◌/◌}
use native.Mathlib.Nat.{sub-zero}
use native.Mathlib.Omega.{arith}
use borrow.Author.Tests.{le-leb}
use lib.ListN.{length, drop}
use Rattle.aes_spec.specs.Cipher.{standard}
use Rattle.cmac_spec.proofs.Chain.{chained_turn, chained_end}
use borrow.Author.Rules.{rules}
use Rattle.cmac_chain.proofs.chained.Goals as goal

pub loop-i-init : goal.loop-i-init
loop-i-init c = (search rules, refl, rw sub-zero)

pub loop-i-preserved : goal.loop-i-preserved
loop-i-preserved c =
    let a = c.args in
    let l = c.loop-i in
    let turn = chained_turn (standard a.schedule.now.words a.schedule.now.rounds) l.value a.part.now l.i (length a.part.now / 16) c.loop-i-test.true in (
      search rules,
      refl,
      rw (c.absorb.ensures, le-leb (l.i * 16 + 16) (length a.part.now) (omega arith)) (sym turn ∙ l.invariant.2),
    )

pub returns : goal.returns
returns c =
    let a = c.args in
    let l = c.loop-i in
    sym (chained_end (standard a.schedule.now.words a.schedule.now.rounds) l.value (drop (l.i * 16) a.part.now) l.i (length a.part.now / 16) c.loop-i-test.false) ∙ l.invariant.2
