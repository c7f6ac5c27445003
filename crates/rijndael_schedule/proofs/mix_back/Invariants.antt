use mathlib.Core.Path.{◌≡◌}
use Prim.Native.Nat.{◌≤◌, min}
use lib.ListN.{length}
use Rattle.aes_spec.specs.Model.{mixed_back}
use Rattle.rijndael_schedule.proofs.mix_back.Given as goal

abbrev pub invariant-loop-i : goal.invariant-loop-i
invariant-loop-i l = (length l.words ≡ length l.initial.words) × ((l.from ≤ l.i) × (l.words ≡ mixed_back l.from (min l.i l.end) l.initial.words))
