use mathlib.Core.Path.{ap, ◌∙◌}
use Rattle.image_layout.specs.Layout.{head_of_lem}
use Rattle.image_spec.specs.Model.{judged}
use Rattle.image_block_judge.proofs.judge.Goals as goal

pub verdict_on-requires : goal.verdict_on-requires
verdict_on-requires c = c.head_of-head.ensures ∙ ap head_of_lem c.load.ensures

pub returns : goal.returns
unfolding judged
returns c = rw (c.verdict_on.ensures, c.head_of-head.ensures ∙ ap head_of_lem c.load.ensures)
