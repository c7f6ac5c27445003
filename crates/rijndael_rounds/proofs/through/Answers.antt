use mathlib.Core.Path.{◌≡◌, refl, sym, ap, subst, ◌∙◌}
use Prim.Native.Nat.{◌<◌}
use lib.ListN.{replicate}
use Rattle.octets.specs.Octets.{entry, pad_to}
use Rattle.rijndael_spec.specs.Rijndael.{shape_of}
use Rattle.rijndael_spec.specs.declared.Width.{Width}
use Rattle.rijndael_spec.specs.declared.Width.TheVariants.{Six, Eight}
use Rattle.rijndael_spec.proofs.Laws.{wide-round-count}
use Rattle.rijndael_model.specs.Model.{looked, passed}
use Rattle.rijndael_rounds.specs.declared.Turn.{Turn}
use Rattle.rijndael_rounds.specs.Model.{turn_shape, Fine, Inside}
use Rattle.rijndael_rounds.proofs.Turns.{turned, turn_fine, turn_inside}
use Rattle.rijndael_rounds.proofs.through.Goals as goal

zeros : (v : Width) → replicate 8 0 ≡ pad_to 8 (replicate (shape_of v).columns 0)
unfolding pad_to
zeros Six = refl
zeros Eight = refl

pub cipher-requires : goal.cipher-requires
cipher-requires c = let b = c in
    let a = b.args in
    let r = wide-round-count a.width a.rounds (sym b.is_round_count.ensures ∙ c.if-is_round_count.true) in
    subst (λ (u : Turn). Fine u × ((0 < a.rounds) × Inside u a.rounds)) (sym c.turn_of.ensures)
    (turn_fine a.way a.width, (r.0, turn_inside a.way a.width a.rounds r))

pub returns-then-is_round_count : goal.returns-then-is_round_count
unfolding passed
returns-then-is_round_count c = let b = c in
    let a = b.args in
    rw (sym b.is_round_count.ensures ∙ c.if-is_round_count.true)
    (c.cipher.ensures
    ∙ ap (λ (u : Turn). pad_to 8 (looked a.way (turn_shape u) (entry a.table.now) a.words.now a.rounds a.s)) c.turn_of.ensures
    ∙ ap (pad_to 8) (turned a.way a.width (entry a.table.now) a.words.now a.rounds a.s))

pub returns : goal.returns
unfolding passed
returns c = rw (sym c.is_round_count.ensures ∙ c.if-is_round_count.false) (zeros c.args.width)
