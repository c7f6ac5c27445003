use Prim.Native.Nat.{◌-◌, ◌≤◌, ◌<◌}
use Rattle.octets.specs.Octets.{entry}
use Rattle.rijndael_model.specs.Model.{key_for, looked_rounds}
use Rattle.rijndael_rounds.specs.Model.{turn_shape, Twice}
use Rattle.rijndael_rounds.proofs.rounds.cipher.Given as goal

abbrev pub invariant-loop-n : goal.invariant-loop-n
invariant-loop-n l = ((0 < l.n) × (l.n ≤ l.rounds)) × Twice l.turn.columns (looked_rounds (turn_shape l.turn) (entry l.table) l.words (key_for l.way l.rounds) (l.n - 1) l.initial.t) l.t
