use Rattle.image_reader.proofs.Calls.{turned}
use Rattle.image_reader.proofs.read_turn.Goals as goal

pub returns : goal.returns
returns c = turned c.args.reader c.args.blocks.now c.args.asked c.args.output.now _ c.turn-done.ensures
