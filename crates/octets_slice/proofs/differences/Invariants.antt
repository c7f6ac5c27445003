-- What is gathered so far is 0, and the rest is the same: exactly where all is. Assumes nothing.
use Rattle.std.proofs.Common.{◌≡◌, ◌&&◌, eqb, length}
use Rattle.octets.specs.Octets.{same}
use Rattle.octets_slice.proofs.differences.Given as goal

abbrev pub invariant-loop-x : goal.invariant-loop-x
invariant-loop-x l = (length l.x-iterator.a.rest.now ≡ length l.x-iterator.b.rest.now) × ((eqb l.gathered 0 && same l.x-iterator.a.rest.now l.x-iterator.b.rest.now) ≡ same l.a l.b)
