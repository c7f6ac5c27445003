use Prim.Native.Nat.{◌+◌, ◌≤◌}
use lib.ListN.{get_or}
use Rattle.octets.specs.Octets.{xor, entry}
use Rattle.rijndael_rounds.proofs.States.{Filling, looked_at}
use Rattle.rijndael_rounds.proofs.rounds.round.Given as goal

abbrev pub invariant-loop-c : goal.invariant-loop-c
invariant-loop-c l = (l.c ≤ l.turn.columns) × Filling l.turn.columns (λ k. xor (looked_at l.turn (entry l.table) l.t k) (get_or l.words (l.at + k) 0)) l.u l.c
