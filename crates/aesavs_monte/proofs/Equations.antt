-- AESAVS's loops over j, 6.4.1 and 6.4.2, as equations by index, and what the next record starts from. Assumes nothing.
use mathlib.Core.Path.{◌≡◌, refl}
use mathlib.Core.Bool.{true, false}
use mathlib.Core.List.{List}
use Prim.Native.Nat.{ℕ, suc}
use Rattle.octets.specs.Blocks.{◌⊕◌}
use Rattle.aes_spec.specs.Cipher.{aes_of}
use Rattle.aesavs_line.specs.declared.Way.TheVariants.{Encrypting, Decrypting}
use Rattle.aesavs_monte.specs.Chain.{iterate, turns, text_at, output_at}

module _ (key iv text : List ℕ) where
  -- 6.4.1: CT[j] = AES(Key, PT[j]), PT[j+1] = CT[j]
  pub ecb_encrypts : (j : ℕ) → (text_at Encrypting false key iv text 0 ≡ text)
      × (output_at Encrypting false key iv text j ≡ (aes_of key).enc (text_at Encrypting false key iv text j))
      × (text_at Encrypting false key iv text (suc j) ≡ output_at Encrypting false key iv text j)
  unfolding text_at output_at turns iterate
  ecb_encrypts j = (refl, refl, refl)

  pub ecb_decrypts : (j : ℕ) → (text_at Decrypting false key iv text 0 ≡ text)
      × (output_at Decrypting false key iv text j ≡ (aes_of key).dec (text_at Decrypting false key iv text j))
      × (text_at Decrypting false key iv text (suc j) ≡ output_at Decrypting false key iv text j)
  unfolding text_at output_at turns iterate
  ecb_decrypts j = (refl, refl, refl)

  -- 6.4.2, j = 0: CT[0] = AES(Key, IV, PT[0]), PT[1] = IV
  pub cbc_encrypts_first : (text_at Encrypting true key iv text 0 ≡ text)
      × (output_at Encrypting true key iv text 0 ≡ (aes_of key).enc (text ⊕ iv)) × (text_at Encrypting true key iv text 1 ≡ iv)
  unfolding text_at output_at turns iterate
  cbc_encrypts_first = (refl, refl, refl)

  pub cbc_decrypts_first : (text_at Decrypting true key iv text 0 ≡ text)
      × (output_at Decrypting true key iv text 0 ≡ (aes_of key).dec text ⊕ iv) × (text_at Decrypting true key iv text 1 ≡ iv)
  unfolding text_at output_at turns iterate
  cbc_decrypts_first = (refl, refl, refl)

  -- else: CT[j] = AES(Key, PT[j]), chained to CT[j-1], and PT[j+1] = CT[j-1]
  pub cbc_encrypts : (j : ℕ) → (output_at Encrypting true key iv text (suc j) ≡ (aes_of key).enc (text_at Encrypting true key iv text (suc j) ⊕ output_at Encrypting true key iv text j))
      × (text_at Encrypting true key iv text (suc (suc j)) ≡ output_at Encrypting true key iv text j)
  unfolding text_at output_at turns iterate
  cbc_encrypts j = (refl, refl)

  pub cbc_decrypts : (j : ℕ) → (output_at Decrypting true key iv text (suc j) ≡ (aes_of key).dec (text_at Decrypting true key iv text (suc j)) ⊕ text_at Decrypting true key iv text j)
      × (text_at Decrypting true key iv text (suc (suc j)) ≡ output_at Decrypting true key iv text j)
  unfolding text_at output_at turns iterate
  cbc_decrypts j = (refl, refl)
