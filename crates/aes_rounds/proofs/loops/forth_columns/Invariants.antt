use Prim.Native.Nat.{◌≤◌}
use Rattle.aes_rounds.proofs.Filled.{FilledRound}
use Rattle.aes_mix.specs.Mixing.{mix_column}
use Rattle.aes_state.proofs.Keyed.{keyed}
use Rattle.aes_rounds.specs.Model.{sub_shifted}
use Rattle.aes_rounds.proofs.loops.forth_columns.Given as goal

abbrev pub invariant-loop-m : goal.invariant-loop-m
invariant-loop-m l = (l.m ≤ 4) × FilledRound (keyed l.schedule.words l.n (λ k. mix_column (sub_shifted l.t k))) l.u l.m
