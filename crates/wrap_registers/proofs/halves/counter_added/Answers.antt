use lib.ListN.{length}
use mathlib.Core.Path.{◌≡◌}
use Rattle.octets.specs.Octets.{xor}
use Rattle.wrap_registers.proofs.Places.{counted_by}
use borrow.Author.Rules.{rules}
use Rattle.wrap_registers.proofs.halves.counter_added.Goals as goal

pub returns : goal.returns
unfolding xor
returns c =
    let n : length c.args.block ≡ 16 = search rules in
    counted_by c.args.block c.args.t n c.requires
