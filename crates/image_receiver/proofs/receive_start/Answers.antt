use mathlib.Core.Path.{sym, ◌∙◌}
use Rattle.image_receiver.proofs.Calls.{begin_key, begin_count, begin_room, begin_done}
use Rattle.image_receiver.proofs.receive_start.Goals as goal

pub returns-in_default : goal.returns-in_default
returns-in_default c =
    let a = c.args in
    begin_key a.ekey.now a.ckey.now a.count a.release a.store.now a.map.now _ c.expand.ensures.answer _ c.in_default.not-Taken c.refused.ensures

pub returns-then-not-count_fits : goal.returns-then-not-count_fits
returns-then-not-count_fits c =
    let a = c.args in
    begin_count a.ekey.now a.ckey.now a.count a.release a.store.now a.map.now _ c.expand.ensures.answer _ c.in-Taken.is
    (sym c.count_fits.ensures ∙ c.if-not-count_fits.true) c.refused-then-not-count_fits.ensures

pub returns-then-not-has_room : goal.returns-then-not-has_room
returns-then-not-has_room c =
    let a = c.args in
    begin_room a.ekey.now a.ckey.now a.count a.release a.store.now a.map.now _ c.expand.ensures.answer _ c.in-Taken.is
    (sym c.count_fits.ensures ∙ c.if-not-count_fits.false) (sym c.has_room.ensures ∙ c.if-not-has_room.true) c.refused-then-not-has_room.ensures

pub returns : goal.returns
returns c =
    let a = c.args in
    begin_done a.ekey.now a.ckey.now a.count a.release a.store.now a.map.now _ c.expand.ensures.answer _ c.in-Taken.is
    (sym c.count_fits.ensures ∙ c.if-not-count_fits.false) (sym c.has_room.ensures ∙ c.if-not-has_room.false) _ c.expand.ensures.keys c.begun.ensures _ _ c.clear.ensures c.map_size.ensures
