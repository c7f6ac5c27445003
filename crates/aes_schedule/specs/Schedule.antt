-- The key schedule of a key of FIPS 197, 5.2, over any substitution `sub` of bytes: the standard's is at `s_box`.
-- Nk is the number of words of the key, Nr that of rounds. Assumes nothing: these are definitions.
use Rattle.std.specs.Prelude.{ℕ, ◌+◌, ◌*◌, ◌%◌, Bool, ◌||◌, cond, List, eqb, length, replicate}
use Rattle.octets.specs.Octets.{pad_to}
use Rattle.aes_expand.specs.Expansion.{key_expansion}
use Rattle.aes_schedule.specs.declared.KeyAnswer.{KeyAnswer}
use Rattle.aes_schedule.specs.declared.KeyAnswer.TheVariants.{Taken, KeyLength}
use Rattle.aes_schedule.specs.declared.Expanded.{Expanded}
use Rattle.aes_schedule.specs.declared.KeySchedule.{KeySchedule}
use Rattle.aes_schedule.specs.declared.KeySize.{KeySize}

-- 4 (Nr + 1) words, and zeros up to 60
unfoldable pub taken : (ℕ → ℕ) → List ℕ → ℕ → ℕ → Expanded
taken sub key nk nr = record {
  answer = Taken;
  schedule = record { words = pad_to 60 (key_expansion sub key nk (4 * (nr + 1))); rounds = nr };
}

unfoldable pub refused : Expanded
refused = record { answer = KeyLength; schedule = record { words = replicate 60 0; rounds = 0 } }

-- Nk and Nr for each length of a key (table 3); any other length is refused
unfoldable pub schedule_of : (ℕ → ℕ) → List ℕ → Expanded
schedule_of sub key =
    cond (eqb (length key) 16) (taken sub key 4 10)
    (cond (eqb (length key) 24) (taken sub key 6 12)
    (cond (eqb (length key) 32) (taken sub key 8 14) refused))

-- the number of each answer (docs/REFUSALS.md)
abbrev pub key_number : KeyAnswer → ℕ
key_number Taken = 0
key_number KeyLength = 1

-- the schedule of no key
abbrev pub no_schedule : KeySchedule
no_schedule = record { words = replicate 60 0; rounds = 0 }

-- the numbers of rounds that a key can give (table 3)
abbrev pub round_count : ℕ → Bool
round_count nr = eqb nr 10 || (eqb nr 12 || eqb nr 14)

-- ---- what the code goes by

-- round key n is words 4n to 4n + 3, in 64 bits
abbrev pub first_word : ℕ → ℕ
first_word n = n * 4 % 18446744073709551616

-- Nk and Nr for each length of a key, zeros for any other
abbrev pub key_size : ℕ → KeySize
key_size n =
    cond (eqb n 16) (record { words = 4; rounds = 10 })
    (cond (eqb n 24) (record { words = 6; rounds = 12 })
    (cond (eqb n 32) (record { words = 8; rounds = 14 }) (record { words = 0; rounds = 0 })))

-- the answer for a key, by its number of rounds
abbrev pub answer_of : ℕ → KeyAnswer
answer_of nr = cond (eqb nr 0) KeyLength Taken
