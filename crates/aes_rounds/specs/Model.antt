-- The columns that the shift of rows makes of four words. Assumes nothing: these are definitions.
use Rattle.std.specs.Prelude.{ℕ, ◌+◌, ◌%◌, List, get_or}
use Rattle.aes_words.specs.Columns.{diagonal}
use Rattle.aes_sbox.specs.Sbox.{s_box}

-- the word that row k of column j is taken from (FIPS 197, 5.1.2)
abbrev pub from : List ℕ → ℕ → ℕ → ℕ
from t j k = get_or t ((j + k) % 4) 0

-- column j of four words, substituted and shifted
abbrev pub sub_shifted : List ℕ → ℕ → ℕ
sub_shifted t j = diagonal s_box (from t j 0) (from t j 1) (from t j 2) (from t j 3)
