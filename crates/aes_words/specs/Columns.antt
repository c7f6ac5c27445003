-- What is done to a word as a whole: rotation and substitution of FIPS 197, 5.2, and its bytes looked up. Assumes nothing: these are definitions.
use Rattle.std.specs.Prelude.{ℕ, ◌≡◌}
use Rattle.octets.specs.Octets.{xor}
use Rattle.octets.specs.Words.{word, byte}

-- ROTWORD (5.2): [a0, a1, a2, a3] becomes [a1, a2, a3, a0]
unfoldable pub rot_word : ℕ → ℕ
rot_word x = word (byte 1 x) (byte 2 x) (byte 3 x) (byte 0 x)

-- ROTWORD twice, and three times
unfoldable pub rot_two : ℕ → ℕ
rot_two x = word (byte 2 x) (byte 3 x) (byte 0 x) (byte 1 x)

unfoldable pub rot_three : ℕ → ℕ
rot_three x = word (byte 3 x) (byte 0 x) (byte 1 x) (byte 2 x)

-- byte 0 of a, byte 1 of b, byte 2 of c and byte 3 of d, substituted
unfoldable pub diagonal : (ℕ → ℕ) → ℕ → ℕ → ℕ → ℕ → ℕ
diagonal sub a b c d = word (sub (byte 0 a)) (sub (byte 1 b)) (sub (byte 2 c)) (sub (byte 3 d))

-- r is that word; its bytes follow where the substitution gives bytes, which of a table that is lent only its reader knows
pub record IsDiagonal (sub : ℕ → ℕ) (a b c d r : ℕ) : Type 0 where
  pub whole : r ≡ diagonal sub a b c d
  pub first : byte 0 r ≡ sub (byte 0 a)
  pub second : byte 1 r ≡ sub (byte 1 b)
  pub third : byte 2 r ≡ sub (byte 2 c)
  pub fourth : byte 3 r ≡ sub (byte 3 d)

-- SUBWORD (5.2): each of the four bytes substituted
abbrev pub sub_word : (ℕ → ℕ) → ℕ → ℕ
sub_word sub x = diagonal sub x x x x

-- ---- lookups in a table of words

-- byte 0 of a, byte 1 of b, byte 2 of c and byte 3 of d looked up in the table t, each entry turned to its byte's place, added up
unfoldable pub sub_mix_column : (ℕ → ℕ) → ℕ → ℕ → ℕ → ℕ → ℕ
sub_mix_column t a b c d = xor (xor (t (byte 0 a)) (rot_three (t (byte 1 b)))) (xor (rot_two (t (byte 2 c))) (rot_word (t (byte 3 d))))
