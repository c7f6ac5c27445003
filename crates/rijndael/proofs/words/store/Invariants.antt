use mathlib.Core.Path.{◌≡◌}
use Prim.Native.Nat.{◌*◌, ◌≤◌}
use lib.ListN.{length}
use lib.Seq.{paste}
use Rattle.octets.specs.Words.{bytes_of}
use Rattle.rijndael.proofs.words.store.Given as goal

abbrev pub invariant-loop-c : goal.invariant-loop-c
invariant-loop-c l = (l.c ≤ l.n) × (length l.s ≡ length l.initial.s) × (l.s ≡ paste l.initial.s l.at (bytes_of l.t) (4 * l.c))
