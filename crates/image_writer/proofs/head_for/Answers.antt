use mathlib.Core.Path.{refl}
use Rattle.image_writer.proofs.Calls.{mark_small}
use native.Mathlib.Omega.{arith}
use Rattle.image_writer.proofs.head_for.Goals as goal

pub overflow_cast-result-2 : goal.overflow_cast-result-2
overflow_cast-result-2 c = omega (arith, c.mark_of.ensures, mark_small c.args.numbers.edition c.requires.1)

pub returns : goal.returns
returns c = rw c.mark_of.ensures refl
