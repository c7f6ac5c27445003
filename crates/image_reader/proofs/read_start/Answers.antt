use mathlib.Core.Path.{ap, ◌∙◌}
use Rattle.aes_schedule.specs.declared.KeyAnswer.TheVariants.{KeyLength}
use Rattle.image_reader.specs.Calls.{start_with}
use Rattle.image_reader.proofs.Calls.{start_taken, start_refused}
use Rattle.image_reader.proofs.read_start.Goals as goal

pub returns-in_default : goal.returns-in_default
returns-in_default c =
    start_refused c.args.ekey.now c.args.ckey.now _ c.expand.ensures.answer c.in_default.not-Taken _ (c.started.ensures ∙ ap (start_with KeyLength) c.none.ensures)

pub returns : goal.returns
returns c = start_taken c.args.ekey.now c.args.ckey.now _ c.expand.ensures.answer c.in-Taken.is _ c.expand.ensures.keys _ c.started-2.ensures
