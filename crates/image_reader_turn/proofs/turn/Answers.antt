use Rattle.image_reader_turn.proofs.Calls.{turn_asked, turn_lent, turn_room, turn_read, asked_most}
use Rattle.image_spec.specs.KeyPair.{pair_keys}
use Rattle.image_reader_tally.specs.declared.BlocksRead.{BlocksRead}
use borrow.Author.Tests.{eq-eqb, ne_eqb, lt-ltb, le-ltb}
use lib.ListN.{length}
use native.Mathlib.Nat.{min-le_left, min-le_right}
use Prim.Native.Nat.{◌/◌}
use mathlib.Core.Path.{sym, ap, ◌∙◌}
use native.Mathlib.Omega.{arith}
use Rattle.image_reader_turn.proofs.turn.Goals as goal

pub returns-then-not-may_ask : goal.returns-then-not-may_ask
returns-then-not-may_ask c =
    let a = c.args in
    ap (λ (x : BlocksRead). (x, a.output.now)) c.none.ensures ∙ turn_asked (pair_keys a.keys.now) a.progress a.blocks.now a.asked a.output.now (sym c.may_ask.ensures ∙ c.if-not-may_ask.true)

pub returns-then-blocks-ne0 : goal.returns-then-blocks-ne0
returns-then-blocks-ne0 c =
    let a = c.args in
    ap (λ (x : BlocksRead). (x, a.output.now)) c.none-then-blocks-ne0.ensures ∙ turn_lent (pair_keys a.keys.now) a.progress a.blocks.now a.asked a.output.now (sym c.may_ask.ensures ∙ c.if-not-may_ask.false) (ne_eqb _ _ c.if-blocks-ne0.true)

pub overflow_mul-k : goal.overflow_mul-k
overflow_mul-k c =
    let a = c.args in
    let x = a.asked in
    let h = asked_most (pair_keys a.keys.now) a.progress a.blocks.now x a.output.now (sym c.may_ask.ensures ∙ c.if-not-may_ask.false) in
    omega (arith, c.min-k.ensures, min-le_left x (length a.blocks.now / 512), h)

pub returns-then-output-k : goal.returns-then-output-k
returns-then-output-k c =
    let a = c.args in
    ap (λ (x : BlocksRead). (x, a.output.now)) c.none-then-output-k.ensures
    ∙ turn_room (pair_keys a.keys.now) a.progress a.blocks.now a.asked a.output.now (sym c.may_ask.ensures ∙ c.if-not-may_ask.false) (eq-eqb _ _ c.if-blocks-ne0.false) _ c.min-k.ensures (lt-ltb _ _ c.if-output-k.true)

pub read_under-requires : goal.read_under-requires
read_under-requires c =
    let a = c.args in
    let x = a.asked in
    let y = length a.blocks.now / 512 in
    let h = asked_most (pair_keys a.keys.now) a.progress a.blocks.now x a.output.now (sym c.may_ask.ensures ∙ c.if-not-may_ask.false) in
    omega (arith, c.if-output-k.false, c.min-k.ensures, min-le_left x y, min-le_right x y, h)

pub returns : goal.returns
returns c =
    let a = c.args in
    turn_read (pair_keys a.keys.now) a.progress a.blocks.now a.asked a.output.now (sym c.may_ask.ensures ∙ c.if-not-may_ask.false) (eq-eqb _ _ c.if-blocks-ne0.false)
    _ c.min-k.ensures (le-ltb _ _ c.if-output-k.false) _ c.read_under.ensures
