-- Words of hex digits read as bytes, in upper and lower case. Assumes nothing: these are definitions.
use Rattle.std.specs.Prelude.{ℕ, ◌+◌, ◌*◌, ◌%◌, ◌-◌, Bool, true, cond, ◌&&◌, ◌||◌, Option, Some, None, List, [], ◌∷◌, length, get_or, eqb, ltb, leb}
use Rattle.text_put.specs.Places.{fits}

-- the value of a digit, 0 to 9, A to F or a to f, and 16 for any other byte
unfoldable pub digit_of : ℕ → ℕ
digit_of c =
    cond (leb 48 c && leb c 57) (c - 48)
    (cond (leb 65 c && leb c 70) (c - 55)
    (cond (leb 97 c && leb c 102) (c - 87)
    16))

-- the byte of two digits, the high one first
unfoldable pub byte_of : ℕ → ℕ → ℕ
byte_of a b = digit_of a * 16 + digit_of b

-- the bytes of a list of digits
unfoldable pub unhex : List ℕ → List ℕ
unhex [] = []
unhex (a ∷ []) = []
unhex (a ∷ b ∷ r) = byte_of a b ∷ unhex r

-- nothing but digits
unfoldable pub all_hex : List ℕ → Bool
all_hex [] = true
all_hex (c ∷ r) = ltb (digit_of c) 16 && all_hex r

-- the word `-`
unfoldable pub is_dash : List ℕ → Bool
is_dash w = eqb (length w) 1 && eqb (get_or w 0 0) 45

-- a word that means bytes: `-`, or digits in pairs, at least one pair
unfoldable pub is_bytes : List ℕ → Bool
is_bytes w = is_dash w || (ltb 0 (length w) && (eqb (length w % 2) 0 && all_hex w))

-- the bytes that a word means, and none for a word that means no bytes
unfoldable pub bytes_of : List ℕ → List ℕ
bytes_of w = cond (is_bytes w) (unhex w) []

-- what decoding a word into memory at a place answers
unfoldable pub decode_answer : List ℕ → List ℕ → ℕ → Option ℕ
decode_answer w out at = cond (is_bytes w && fits (bytes_of w) out at) (Some (at + length (bytes_of w))) None
