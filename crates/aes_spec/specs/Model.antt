-- EQINVCIPHER and KEYEXPANSIONEIC of FIPS 197, 5.3.5 (algorithms 4 and 5): the inverse cipher with its steps in the order of the cipher,
-- over round keys that are mixed back. For any shape. Nobody has to trust these: laws say that it is INVCIPHER.
-- Assumes nothing: these are definitions.
use Rattle.std.specs.Prelude.{ℕ, zero, suc, ◌-◌, ◌*◌, ◌&&◌, cond, List, leb, ltb, length, get_or, replicate}
use Rattle.octets.specs.Octets.{tabulate}
use Rattle.octets.specs.Blocks.{BlockCipher}
use Rattle.aes_sbox.specs.Sbox.{s_box, inv_s_box}
use Rattle.aes_mix.specs.Mixing.{inv_mix_column}
use Rattle.aes_schedule.specs.Schedule.{round_count}
use Rattle.aes_schedule.specs.declared.KeySchedule.{KeySchedule}
use Rattle.aes_spec.specs.State.{Shape, aes, sub_bytes, inv_shift_rows, inv_mix_columns, add_round_key}
use Rattle.aes_spec.specs.Cipher.{encrypt_block}

-- the words from place a up to place b mixed back, the others as they are
abbrev pub mixed_back_at : ℕ → ℕ → List ℕ → ℕ → ℕ
mixed_back_at a b w i = cond (leb a i && ltb i b) (inv_mix_column (get_or w i 0)) (get_or w i 0)

unfoldable pub mixed_back : ℕ → ℕ → List ℕ → List ℕ
mixed_back a b w = tabulate (length w) (mixed_back_at a b w)

-- KEYEXPANSIONEIC (algorithm 5): the words of every round key but the first and the last mixed back
abbrev pub equivalent_words : Shape → List ℕ → ℕ → List ℕ
equivalent_words z w nr = mixed_back z.columns (z.columns * nr) w

-- that schedule for AES, if the number of rounds is one that a key gives; otherwise the schedule as it is
unfoldable pub inverse_words : List ℕ → ℕ → List ℕ
inverse_words w nr = cond (round_count nr) (equivalent_words aes w nr) w

-- the same of a schedule with its rounds
abbrev pub inverse_schedule : KeySchedule → KeySchedule
inverse_schedule s = record { words = inverse_words s.words s.rounds; rounds = s.rounds }

-- round n of algorithm 4; INVSUBBYTES and INVSHIFTROWS may change places, and stand as INVCIPHER has them
unfoldable pub eq_round : Shape → (ℕ → ℕ) → List ℕ → ℕ → List ℕ → List ℕ
eq_round z inv dw n s = add_round_key z dw n (inv_mix_columns z (sub_bytes inv (inv_shift_rows z s)))

-- rounds n down to 1
unfoldable pub eq_rounds : Shape → (ℕ → ℕ) → List ℕ → ℕ → List ℕ → List ℕ
eq_rounds z inv dw zero s = s
eq_rounds z inv dw (suc n) s = eq_rounds z inv dw n (eq_round z inv dw (suc n) s)

-- EQINVCIPHER (algorithm 4)
unfoldable pub eq_inv_cipher : Shape → (ℕ → ℕ) → List ℕ → ℕ → List ℕ → List ℕ
eq_inv_cipher z inv dw nr s =
    add_round_key z dw 0 (sub_bytes inv (inv_shift_rows z (eq_rounds z inv dw (nr - 1) (add_round_key z dw nr s))))

-- one block of AES under an inverse schedule
unfoldable pub eq_decrypt_block : (ℕ → ℕ) → List ℕ → ℕ → List ℕ → List ℕ
eq_decrypt_block inv dw nr b = cond (round_count nr) (eq_inv_cipher aes inv dw nr b) (replicate 16 0)

-- the two ways as one block cipher, each over the schedule that is lent for it
abbrev pub equivalent_cipher : List ℕ → List ℕ → ℕ → BlockCipher
equivalent_cipher w dw nr = record { enc = encrypt_block s_box w nr; dec = eq_decrypt_block inv_s_box dw nr }

-- over one schedule, for a caller that needs only one direction
abbrev pub one_way : List ℕ → ℕ → BlockCipher
one_way w nr = equivalent_cipher w w nr
