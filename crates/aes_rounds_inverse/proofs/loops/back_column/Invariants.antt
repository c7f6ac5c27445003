use Prim.Native.Nat.{◌≤◌}
use mathlib.Core.Path.{◌≡◌}
use Rattle.aes_sbox.specs.Sbox.{inv_s_box}
use Rattle.aes_mix.specs.Mixing.{inv_mixed_entry}
use Rattle.aes_model.proofs.Rows.{rows_of}
use Rattle.aes_rounds_inverse.specs.Model.{back_from}
use Rattle.aes_rounds_inverse.proofs.loops.back_column.Given as goal

abbrev pub invariant-loop-k : goal.invariant-loop-k
invariant-loop-k l = (l.k ≤ 4) × (l.acc ≡ rows_of (inv_mixed_entry inv_s_box) (back_from l.t l.j) l.k)
