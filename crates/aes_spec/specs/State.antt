-- The state of FIPS 197, 3.4, and the steps of a round, 5.1 and 5.3. Assumes nothing: these are definitions.
use Rattle.std.specs.Prelude.{ℕ, ◌+◌, ◌-◌, ◌*◌, ◌/◌, ◌%◌, List, map, get_or}
use Rattle.octets.specs.Octets.{xor, tabulate}
use Rattle.octets.specs.Words.{byte}
use Rattle.aes_mix.specs.Mixing.{mix_row, inv_mix_row}

-- how many columns a state has, and how far each row is shifted: the Rijndael ciphers differ only in these
pub record Shape : Type 0 where
  pub columns : ℕ
  pub shift : ℕ → ℕ

-- FIPS 197: four columns, and row r is shifted by r
abbrev pub aes : Shape
aes = record { columns = 4; shift = λ r. r }

-- byte r + 4c of a block is row r, column c
abbrev pub at : List ℕ → ℕ → ℕ → ℕ
at s r c = get_or s (r + 4 * c) 0

-- the state with f r c in row r, column c
abbrev pub state : Shape → (ℕ → ℕ → ℕ) → List ℕ
state z f = tabulate (4 * z.columns) (λ k. f (k % 4) (k / 4))

-- SUBBYTES (5.1.1) and INVSUBBYTES (5.3.2), over any substitution of bytes
unfoldable pub sub_bytes : (ℕ → ℕ) → List ℕ → List ℕ
sub_bytes sub s = map sub s

-- SHIFTROWS (5.1.2): s'[r, c] = s[r, (c + shift r) mod Nb]
unfoldable pub shift_rows : Shape → List ℕ → List ℕ
shift_rows z s = state z (λ r c. at s r ((c + z.shift r) % z.columns))

-- INVSHIFTROWS (5.3.1): s'[r, c] = s[r, (c - shift r) mod Nb]
unfoldable pub inv_shift_rows : Shape → List ℕ → List ℕ
inv_shift_rows z s = state z (λ r c. at s r ((c + (z.columns - z.shift r)) % z.columns))

-- row r of a matrix, whose first row this is and each next one is turned right by one, times column c
abbrev pub mix_at : (ℕ → ℕ → ℕ → ℕ → ℕ) → List ℕ → ℕ → ℕ → ℕ
mix_at first s r c = first (at s r c) (at s ((r + 1) % 4) c) (at s ((r + 2) % 4) c) (at s ((r + 3) % 4) c)

-- MIXCOLUMNS (5.1.3)
unfoldable pub mix_columns : Shape → List ℕ → List ℕ
mix_columns z s = state z (mix_at mix_row s)

-- INVMIXCOLUMNS (5.3.3)
unfoldable pub inv_mix_columns : Shape → List ℕ → List ℕ
inv_mix_columns z s = state z (mix_at inv_mix_row s)

-- ADDROUNDKEY (5.1.4): column c is added to word Nb n + c of the schedule w
unfoldable pub add_round_key : Shape → List ℕ → ℕ → List ℕ → List ℕ
add_round_key z w n s = state z (λ r c. xor (at s r c) (byte r (get_or w (z.columns * n + c) 0)))
