use Prim.Native.Nat.{◌+◌, ◌≤◌}
use mathlib.Core.Path.{◌≡◌}
use lib.ListN.{get_or}
use Rattle.octets.specs.Octets.{xor, entry, tabulate, pad_to}
use Rattle.rijndael_model.specs.Model as model
use Rattle.rijndael_rounds.proofs.States.{looked_at}
use Rattle.rijndael_rounds.proofs.rounds.last.Given as goal

abbrev pub invariant-loop-c : goal.invariant-loop-c
invariant-loop-c l = (l.c ≤ l.turn.columns) × (l.u ≡ pad_to 8 (tabulate l.c (λ k. xor (model.unmixed l.way (looked_at l.turn (entry l.table) l.t k)) (get_or l.words (l.at + k) 0))))
