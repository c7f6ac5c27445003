-- KEYEXPANSION of FIPS 197, 5.2, over any substitution `sub` of bytes: the standard's is at `s_box`.
-- Nk is the number of words of the key. Assumes nothing: these are definitions.
use Rattle.std.specs.Prelude.{ℕ, zero, suc, ◌-◌, ◌*◌, ◌/◌, ◌%◌, Bool, ◌&&◌, cond, List, [], ◌∷◌, ◌++◌, eqb, ltb, leb, length, get_or}
use Rattle.octets.specs.Octets.{xor, over}
use Rattle.octets.specs.Words.{word, word_at}
use Rattle.field.specs.Field.{x_power}
use Rattle.aes_words.specs.Columns.{rot_word, sub_word}

-- Rcon[j] (table 5): x^(j - 1) and three zeros
unfoldable pub r_con : ℕ → ℕ
r_con j = word (x_power (j - 1)) 0 0 0

-- `temp` of algorithm 2, at word i, of the word before it
unfoldable pub temp : (ℕ → ℕ) → ℕ → ℕ → ℕ → ℕ
temp sub nk i last =
    cond (eqb (i % nk) 0) (xor (sub_word sub (rot_word last)) (r_con (i / nk)))
    (cond (ltb 6 nk) (cond (eqb (i % nk) 4) (sub_word sub last) last) last)

-- word i: the key's own, or of the key and the words w before it
unfoldable pub next_word : (ℕ → ℕ) → List ℕ → ℕ → List ℕ → ℕ → ℕ
next_word sub key nk w i =
    cond (ltb i nk) (word_at key (i * 4))
    (xor (get_or w (i - nk) 0) (temp sub nk i (get_or w (i - 1) 0)))

-- the first n words
unfoldable pub key_expansion : (ℕ → ℕ) → List ℕ → ℕ → ℕ → List ℕ
key_expansion sub key nk zero = []
key_expansion sub key nk (suc i) =
    key_expansion sub key nk i ++ (next_word sub key nk (key_expansion sub key nk i) i ∷ [])

-- a key of so many bytes has nk words, one at least, and n words have room
abbrev pub expandable : ℕ → ℕ → ℕ → ℕ → Bool
expandable bytes nk n room = ltb 0 nk && (leb nk (bytes / 4) && leb n room)

-- the first n words replace the first of w; w is unchanged if the key does not have so many words, or there is no room for them
unfoldable pub expanded_over : (ℕ → ℕ) → List ℕ → ℕ → ℕ → List ℕ → List ℕ
expanded_over sub key nk n w = cond (expandable (length key) nk n (length w)) (over (key_expansion sub key nk n) w) w

-- ---- what the code adds in a group of nk words: at its first word, with the constant, and at the word in place m

unfoldable pub first_temp : (ℕ → ℕ) → ℕ → ℕ → ℕ
first_temp sub constant last = xor (sub_word sub (rot_word last)) (word constant 0 0 0)

unfoldable pub later_temp : (ℕ → ℕ) → ℕ → ℕ → ℕ → ℕ
later_temp sub nk m last = cond (ltb 6 nk) (cond (eqb m 4) (sub_word sub last) last) last
