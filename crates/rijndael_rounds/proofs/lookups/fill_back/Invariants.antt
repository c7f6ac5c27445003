use Prim.Native.Nat.{◌≤◌}
use Rattle.octets.proofs.Fill.{Filled}
use Rattle.aes_sbox.specs.Sbox.{inv_s_box}
use Rattle.aes_mix.specs.Mixing.{inv_mixed_entry}
use Rattle.rijndael_rounds.proofs.lookups.fill_back.Given as goal

abbrev pub invariant-loop-k : goal.invariant-loop-k
invariant-loop-k l = (l.k ≤ 256) × Filled 256 (inv_mixed_entry inv_s_box) l.out l.k
