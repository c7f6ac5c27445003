use Prim.Native.Nat.{◌+◌, ◌*◌, ◌≤◌}
use Rattle.octets.specs.Words.{word_at}
use Rattle.octets.proofs.Fill.{Filled}
use Rattle.rijndael.proofs.words.load.Given as goal

abbrev pub invariant-loop-c : goal.invariant-loop-c
invariant-loop-c l = (l.c ≤ l.n) × Filled 8 (λ k. word_at l.s (l.at + 4 * k)) l.t l.c
