-- The lines of a response file (AESAVS, 6; docs/REPLAY.md has their form). Assumes nothing: these are definitions.
use Rattle.std.specs.Prelude.{ℕ, ◌-◌, Bool, cond, Option, Some, None, List, [], ◌∷◌, eqb, ltb, length, get_or, take, drop}
use Rattle.octets.specs.Octets.{same}
use Rattle.text_decimal.specs.Numbers.{number_of}
use Rattle.aesavs_line.specs.declared.Run.TheVariants.{Known, Monte}
use Rattle.aesavs_line.specs.declared.Way.TheVariants.{Encrypting, Decrypting}
use Rattle.aesavs_line.specs.declared.Field.{Field}
use Rattle.aesavs_line.specs.declared.Field.TheVariants.{Key, Iv, Plaintext, Ciphertext}
use Rattle.aesavs_line.specs.declared.Line.{Line}
use Rattle.aesavs_line.specs.declared.Line.TheVariants.{Skipped, Opens, Marks, Counts, Value, Outside}

-- "kat", "mct", "[ENCRYPT]", "[DECRYPT]"
abbrev pub kat_word : List ℕ
kat_word = 107 ∷ 97 ∷ 116 ∷ []

abbrev pub mct_word : List ℕ
mct_word = 109 ∷ 99 ∷ 116 ∷ []

abbrev pub encrypt_mark : List ℕ
encrypt_mark = 91 ∷ 69 ∷ 78 ∷ 67 ∷ 82 ∷ 89 ∷ 80 ∷ 84 ∷ 93 ∷ []

abbrev pub decrypt_mark : List ℕ
decrypt_mark = 91 ∷ 68 ∷ 69 ∷ 67 ∷ 82 ∷ 89 ∷ 80 ∷ 84 ∷ 93 ∷ []

-- "COUNT = ", "KEY = ", "IV = ", "PLAINTEXT = ", "CIPHERTEXT = "
abbrev pub count_name : List ℕ
count_name = 67 ∷ 79 ∷ 85 ∷ 78 ∷ 84 ∷ 32 ∷ 61 ∷ 32 ∷ []

abbrev pub name_of : Field → List ℕ
name_of Key = 75 ∷ 69 ∷ 89 ∷ 32 ∷ 61 ∷ 32 ∷ []
name_of Iv = 73 ∷ 86 ∷ 32 ∷ 61 ∷ 32 ∷ []
name_of Plaintext = 80 ∷ 76 ∷ 65 ∷ 73 ∷ 78 ∷ 84 ∷ 69 ∷ 88 ∷ 84 ∷ 32 ∷ 61 ∷ 32 ∷ []
name_of Ciphertext = 67 ∷ 73 ∷ 80 ∷ 72 ∷ 69 ∷ 82 ∷ 84 ∷ 69 ∷ 88 ∷ 84 ∷ 32 ∷ 61 ∷ 32 ∷ []

-- a line begins with a name
abbrev pub starts : List ℕ → List ℕ → Bool
starts name s = same (take (length name) s) name

-- a COUNT is a decimal number that fits 64 bits
abbrev pub counts : Option ℕ → Line
counts (Some n) = Counts n
counts None = Outside

unfoldable pub count_of : List ℕ → Line
count_of s = counts (number_of s 18446744073709551615)

-- a field by its name
unfoldable pub field_line : List ℕ → Line
field_line s =
    cond (starts (name_of Key) s) (Value Key)
    (cond (starts (name_of Iv) s) (Value Iv)
    (cond (starts (name_of Plaintext) s) (Value Plaintext)
    (cond (starts (name_of Ciphertext) s) (Value Ciphertext) Outside)))

-- the words and marks that are whole lines, else a field
unfoldable pub mark_line : List ℕ → Line
mark_line s =
    cond (same s kat_word) (Opens Known)
    (cond (same s mct_word) (Opens Monte)
    (cond (same s encrypt_mark) (Marks Encrypting)
    (cond (same s decrypt_mark) (Marks Decrypting) (field_line s))))

-- what a line is: none has more than 4,096 bytes; an empty one and one that begins with # say nothing
unfoldable pub line_of : List ℕ → Line
line_of s =
    cond (ltb 4096 (length s)) Outside
    (cond (eqb (length s) 0) Skipped
    (cond (eqb (get_or s 0 0) 35) Skipped
    (cond (starts count_name s) (count_of (drop (length count_name) s)) (mark_line s))))

-- the value of a field is what follows its name
abbrev pub value_at : Field → ℕ
value_at f = length (name_of f)

unfoldable pub value_of : List ℕ → Field → List ℕ
value_of s f = drop (value_at f) s

-- one carriage return at a line's end is taken off
unfoldable pub stripped : List ℕ → List ℕ
stripped s = cond (eqb (get_or s (length s - 1) 0) 13) (take (length s - 1) s) s
