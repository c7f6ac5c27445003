-- Bytes written as words of hex digits, in lower case. Assumes nothing: these are definitions.
use Rattle.std.specs.Prelude.{ℕ, ◌+◌, ◌/◌, ◌%◌, cond, List, [], ◌∷◌, ltb}

-- the digit of a value below 16
unfoldable pub char_of : ℕ → ℕ
char_of n = cond (ltb n 10) (48 + n) (87 + n)

-- the digits of a list of bytes
unfoldable pub hex_of : List ℕ → List ℕ
hex_of [] = []
hex_of (b ∷ r) = char_of (b / 16) ∷ char_of (b % 16) ∷ hex_of r

-- the word for bytes
unfoldable pub hex_word : List ℕ → List ℕ
hex_word [] = 45 ∷ []
hex_word (b ∷ r) = hex_of (b ∷ r)
