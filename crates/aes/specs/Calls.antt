-- One block under a key. Assumes nothing: these are definitions.
use Rattle.std.specs.Prelude.{ℕ, List}
use Rattle.aes_sbox.specs.Sbox.{s_box, inv_s_box}
use Rattle.aes_schedule.specs.Schedule.{schedule_of}
use Rattle.aes_schedule.specs.declared.Expanded.{Expanded}
use Rattle.aes_spec.specs.Cipher.{encrypt_block, decrypt_block}
use Rattle.aes.specs.declared.Ciphered.{Ciphered}

-- under the schedule of a key: a refused key has 0 rounds, hence zeros
abbrev pub block_under : (List ℕ → ℕ → List ℕ) → Expanded → Ciphered
block_under f k = record { answer = k.answer; block = f k.schedule.words k.schedule.rounds }

unfoldable pub encrypt_under : List ℕ → List ℕ → Ciphered
encrypt_under key b = block_under (λ w nr. encrypt_block s_box w nr b) (schedule_of s_box key)

unfoldable pub decrypt_under : List ℕ → List ℕ → Ciphered
decrypt_under key b = block_under (λ w nr. decrypt_block inv_s_box w nr b) (schedule_of s_box key)
