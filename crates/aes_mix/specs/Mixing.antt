-- The mixing of one column of FIPS 197, 5.1.3, and back, 5.3.3. Assumes nothing: these are definitions.
use Rattle.std.specs.Prelude.{ℕ}
use Rattle.octets.specs.Octets.{xor}
use Rattle.octets.specs.Words.{word, byte}
use Rattle.field.specs.Field.{x_times, ◌•◌}

-- the four bytes doubled
unfoldable pub doubled : ℕ → ℕ
doubled x = word (x_times (byte 0 x)) (x_times (byte 1 x)) (x_times (byte 2 x)) (x_times (byte 3 x))

-- a row p q u v of a matrix times a column a b c d (4.3)
unfoldable pub row : ℕ → ℕ → ℕ → ℕ → ℕ → ℕ → ℕ → ℕ → ℕ
row p q u v a b c d = xor (xor (a • p) (b • q)) (xor (c • u) (d • v))

-- the first row of the matrix of MIXCOLUMNS (5.1.3), and of that of INVMIXCOLUMNS (5.3.3); each next row is the one before turned right by one
abbrev pub mix_row : ℕ → ℕ → ℕ → ℕ → ℕ
mix_row = row 0x02 0x03 0x01 0x01

abbrev pub inv_mix_row : ℕ → ℕ → ℕ → ℕ → ℕ
inv_mix_row = row 0x0e 0x0b 0x0d 0x09

-- the matrix with this first row times the column a b c d
unfoldable pub column : (ℕ → ℕ → ℕ → ℕ → ℕ) → ℕ → ℕ → ℕ → ℕ → ℕ
column first a b c d = word (first a b c d) (first b c d a) (first c d a b) (first d a b c)

unfoldable pub mix_column : ℕ → ℕ
mix_column x = column mix_row (byte 0 x) (byte 1 x) (byte 2 x) (byte 3 x)

unfoldable pub inv_mix_column : ℕ → ℕ
inv_mix_column x = column inv_mix_row (byte 0 x) (byte 1 x) (byte 2 x) (byte 3 x)

-- what byte 0 of a column adds to the mixed column, where each byte is substituted first; and to the one mixed back
abbrev pub mixed_entry : (ℕ → ℕ) → ℕ → ℕ
mixed_entry sub x = mix_column (word (sub x) 0 0 0)

abbrev pub inv_mixed_entry : (ℕ → ℕ) → ℕ → ℕ
inv_mixed_entry sub x = inv_mix_column (word (sub x) 0 0 0)
