-- Words of four bytes: numbers below 2^32 whose first byte is the highest (FIPS 197, 3.5). Assumes nothing: these are definitions.
use Rattle.std.specs.Prelude.{ℕ, zero, suc, ◌+◌, ◌*◌, ◌/◌, ◌%◌, List, [], ◌∷◌, get_or}

-- the word with the bytes a, b, c, d
unfoldable pub word : ℕ → ℕ → ℕ → ℕ → ℕ
word a b c d = ((a * 256 + b) * 256 + c) * 256 + d

-- byte r of a word, from 0
abbrev pub byte : ℕ → ℕ → ℕ
byte zero x = x / 16777216 % 256
byte (suc zero) x = x / 65536 % 256
byte (suc (suc zero)) x = x / 256 % 256
byte (suc (suc (suc r))) x = x % 256

-- the word of the four bytes of a list from a place on
abbrev pub word_at : List ℕ → ℕ → ℕ
word_at b at = word (get_or b at 0) (get_or b (at + 1) 0) (get_or b (at + 2) 0) (get_or b (at + 3) 0)

-- the bytes of a list of words
unfoldable pub bytes_of : List ℕ → List ℕ
bytes_of [] = []
bytes_of (x ∷ w) = byte 0 x ∷ byte 1 x ∷ byte 2 x ∷ byte 3 x ∷ bytes_of w
