use Prim.Native.Nat.{◌≤◌}
use mathlib.Core.Path.{◌≡◌}
use Rattle.aes_sbox.specs.Sbox.{s_box}
use Rattle.aes_mix.specs.Mixing.{mixed_entry}
use Rattle.aes_model.proofs.Rows.{rows_of}
use Rattle.aes_rounds.specs.Model.{from}
use Rattle.aes_rounds.proofs.loops.forth_column.Given as goal

abbrev pub invariant-loop-k : goal.invariant-loop-k
invariant-loop-k l = (l.k ≤ 4) × (l.acc ≡ rows_of (mixed_entry s_box) (from l.t l.j) l.k)
