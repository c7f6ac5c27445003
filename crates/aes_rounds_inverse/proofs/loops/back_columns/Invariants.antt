use Prim.Native.Nat.{◌≤◌}
use Rattle.octets.proofs.Fill.{Filled}
use Rattle.aes_mix.specs.Mixing.{inv_mix_column}
use Rattle.aes_state.proofs.Keyed.{keyed}
use Rattle.aes_rounds_inverse.specs.Model.{inv_sub_shifted}
use Rattle.aes_rounds_inverse.proofs.loops.back_columns.Given as goal

abbrev pub invariant-loop-j : goal.invariant-loop-j
invariant-loop-j l = (l.j ≤ 4) × Filled 4 (keyed l.schedule.words l.n (λ k. inv_mix_column (inv_sub_shifted l.t k))) l.u l.j
