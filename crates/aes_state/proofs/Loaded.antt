-- The columns of a block have its bytes. Assumes nothing.
use mathlib.Core.Path.{◌≡◌}
use mathlib.Core.List.{List}
use Prim.Native.Nat.{ℕ}
use Rattle.octets.specs.Octets.{Octets}
use Rattle.aes_state.specs.Model.{block_of, columns_of}
use Rattle.aes_state.proofs.ByColumns.{load_law}

pub loaded : (b : List ℕ) → Octets 16 b → block_of (columns_of b) ≡ b
unfolding columns_of
loaded b o = load_law b o.size o.bytes
