use Prim.Native.Nat.{◌≤◌}
use Rattle.octets.proofs.Fill.{Filled}
use Rattle.aes_sbox.specs.Sbox.{s_box}
use Rattle.aes_mix.specs.Mixing.{mixed_entry}
use Rattle.rijndael_rounds.proofs.lookups.fill_forth.Given as goal

abbrev pub invariant-loop-k : goal.invariant-loop-k
invariant-loop-k l = (l.k ≤ 256) × Filled 256 (mixed_entry s_box) l.out l.k
