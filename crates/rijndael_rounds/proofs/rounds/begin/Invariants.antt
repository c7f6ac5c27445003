use Prim.Native.Nat.{◌+◌, ◌≤◌}
use lib.ListN.{get_or}
use Rattle.octets.specs.Octets.{xor}
use Rattle.rijndael_rounds.proofs.States.{Filling}
use Rattle.rijndael_rounds.proofs.rounds.begin.Given as goal

abbrev pub invariant-loop-c : goal.invariant-loop-c
invariant-loop-c l = (l.c ≤ l.turn.columns) × Filling l.turn.columns (λ k. xor (get_or l.s k 0) (get_or l.words (l.from + k) 0)) l.u l.c
