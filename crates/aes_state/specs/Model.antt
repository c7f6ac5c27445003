-- The block that four columns are, and the columns of a block. Assumes nothing: these are definitions.
use Rattle.std.specs.Prelude.{ℕ, List, [], ◌∷◌}
use Rattle.octets.specs.Words.{word_at, bytes_of}
use Rattle.aes_state.specs.declared.Columns.{Columns}

abbrev pub block_of : Columns → List ℕ
block_of s = bytes_of (s.0 ∷ s.1 ∷ s.2 ∷ s.3 ∷ [])

-- the columns with these words
abbrev pub columns : ℕ → ℕ → ℕ → ℕ → Columns
columns a b c d = record { 0 = a; 1 = b; 2 = c; 3 = d }

unfoldable pub columns_of : List ℕ → Columns
columns_of s = columns (word_at s 0) (word_at s 4) (word_at s 8) (word_at s 12)
