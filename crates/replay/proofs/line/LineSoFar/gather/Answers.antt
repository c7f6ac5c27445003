use mathlib.Core.Path.{ap}
use Rattle.text_lines.specs.declared.Gathered.{Gathered}
use Rattle.replay.proofs.Lines.{next_goes_on}
use Rattle.replay.proofs.line.LineSoFar.gather.Goals as goal

pub returns : goal.returns
returns c =
    let g = c.gather-gathered in
    next_goes_on g.result.next c.args.self.now.len c.args.part.now c.args.at _ (ap (λ (x : Gathered). x.next) g.ensures.answer)
