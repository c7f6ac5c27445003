-- CIPHER and INVCIPHER of FIPS 197, 5.1 and 5.3, over a schedule w of words, and AES as a block cipher.
-- Assumes nothing: these are definitions.
use Rattle.std.specs.Prelude.{cond, ℕ, zero, suc, ◌-◌, List, replicate}
use Rattle.octets.specs.Blocks.{BlockCipher}
use Rattle.aes_sbox.specs.Sbox.{s_box, inv_s_box}
use Rattle.aes_schedule.specs.Schedule.{schedule_of, round_count}
use Rattle.aes_spec.specs.State.{Shape, aes, sub_bytes, shift_rows, inv_shift_rows, mix_columns, inv_mix_columns, add_round_key}

-- round n of algorithm 1
unfoldable pub one_round : Shape → (ℕ → ℕ) → List ℕ → ℕ → List ℕ → List ℕ
one_round z sub w n s = add_round_key z w n (mix_columns z (shift_rows z (sub_bytes sub s)))

-- rounds 1 to n
unfoldable pub rounds : Shape → (ℕ → ℕ) → List ℕ → ℕ → List ℕ → List ℕ
rounds z sub w zero s = s
rounds z sub w (suc n) s = one_round z sub w (suc n) (rounds z sub w n s)

-- CIPHER (algorithm 1): round key 0 is added first, and the last round, Nr, omits the mixing
unfoldable pub cipher : Shape → (ℕ → ℕ) → List ℕ → ℕ → List ℕ → List ℕ
cipher z sub w nr s =
    add_round_key z w nr (shift_rows z (sub_bytes sub (rounds z sub w (nr - 1) (add_round_key z w 0 s))))

-- round n of algorithm 3
unfoldable pub inv_round : Shape → (ℕ → ℕ) → List ℕ → ℕ → List ℕ → List ℕ
inv_round z inv w n s = inv_mix_columns z (add_round_key z w n (sub_bytes inv (inv_shift_rows z s)))

-- rounds n down to 1
unfoldable pub inv_rounds : Shape → (ℕ → ℕ) → List ℕ → ℕ → List ℕ → List ℕ
inv_rounds z inv w zero s = s
inv_rounds z inv w (suc n) s = inv_rounds z inv w n (inv_round z inv w (suc n) s)

-- INVCIPHER (algorithm 3)
unfoldable pub inv_cipher : Shape → (ℕ → ℕ) → List ℕ → ℕ → List ℕ → List ℕ
inv_cipher z inv w nr s =
    add_round_key z w 0 (sub_bytes inv (inv_shift_rows z (inv_rounds z inv w (nr - 1) (add_round_key z w nr s))))

-- ---- one block

-- under a schedule: sixteen zeros if its number of rounds is none that a key gives
unfoldable pub encrypt_block : (ℕ → ℕ) → List ℕ → ℕ → List ℕ → List ℕ
encrypt_block sub w nr b = cond (round_count nr) (cipher aes sub w nr b) (replicate 16 0)

unfoldable pub decrypt_block : (ℕ → ℕ) → List ℕ → ℕ → List ℕ → List ℕ
decrypt_block inv w nr b = cond (round_count nr) (inv_cipher aes inv w nr b) (replicate 16 0)

-- the two as one block cipher
abbrev pub block_cipher : (sub inv : ℕ → ℕ) → List ℕ → ℕ → BlockCipher
block_cipher sub inv w nr = record { enc = encrypt_block sub w nr; dec = decrypt_block inv w nr }

-- AES under a schedule, and under that of a key
abbrev pub standard : List ℕ → ℕ → BlockCipher
standard w nr = block_cipher s_box inv_s_box w nr

abbrev pub aes_of : List ℕ → BlockCipher
aes_of key = standard (schedule_of s_box key).schedule.words (schedule_of s_box key).schedule.rounds
