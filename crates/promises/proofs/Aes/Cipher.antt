-- Demands 2 and 3 for the key schedule and for one block. Assumes nothing.
use mathlib.Core.Path.{◌≡◌, refl, ap, ◌∙◌}
use mathlib.Core.Bool.{true}
use mathlib.Core.List.{List}
use Prim.Native.Nat.{ℕ, ◌+◌, ◌*◌}
use native.Mathlib.Omega.{arith}
use borrow.Author.Tests.{eq-eqb, ne_eqb}
use lib.ListN.{length, replicate}
use Rattle.octets.specs.Octets.{Octets, pad_to}
use Rattle.aes_sbox.specs.Sbox.{s_box, inv_s_box}
use Rattle.aes_expand.specs.Expansion.{key_expansion}
use Rattle.aes_schedule.specs.Schedule.{taken, refused, schedule_of, key_number, round_count}
use Rattle.aes_schedule.specs.declared.Expanded.{Expanded}
use Rattle.aes_schedule.specs.declared.KeyAnswer.TheVariants.{Taken, KeyLength}
use Rattle.aes_spec.specs.State.{aes}
use Rattle.aes_spec.specs.Cipher.{cipher, inv_cipher, encrypt_block, decrypt_block}
use Rattle.aes.specs.Calls.{encrypt_under, decrypt_under}
use Rattle.aes.specs.declared.Ciphered.{Ciphered}
use Rattle.aes_spec.proofs.State.{aes_regular}
use Rattle.aes_spec.proofs.Undo.{decipher_cipher, cipher_decipher}
use Rattle.aes_spec.proofs.Aes.{s_box_inverse}
use Rattle.aes_spec.proofs.Padding.{cipher_padded, inv_cipher_padded}
use Rattle.aes_schedule.proofs.KeySchedule.new.Reads as new
use Rattle.aes.proofs.encrypt.Reads as encrypt
use Rattle.aes.proofs.decrypt.Reads as decrypt

-- FIPS 197, table 3: bytes of the key, Nk and Nr
pub data KeySize : ℕ → ℕ → ℕ → Type 0 where
  aes_128 : KeySize 16 4 10
  aes_192 : KeySize 24 6 12
  aes_256 : KeySize 32 8 14

-- a length that no key has
pub record NoKeySize (n : ℕ) : Type 0 where
  pub not_16 : n ≡ 16 → ⊥
  pub not_24 : n ≡ 24 → ⊥
  pub not_32 : n ≡ 32 → ⊥

-- ---- which schedule a key has

module _ (key : List ℕ) where
  pub sized : {n nk nr : ℕ} → KeySize n nk nr → length key ≡ n → schedule_of s_box key ≡ taken s_box key nk nr
  unfolding schedule_of
  sized aes_128 e = rw (eq-eqb (length key) 16 e)
  sized aes_192 e =
      let a : length key ≡ 16 → ⊥ = λ h. omega arith in
      rw (ne_eqb (length key) 16 a, eq-eqb (length key) 24 e)
  sized aes_256 e =
      let a : length key ≡ 16 → ⊥ = λ h. omega arith in
      let b : length key ≡ 24 → ⊥ = λ h. omega arith in
      rw (ne_eqb (length key) 16 a, ne_eqb (length key) 24 b, eq-eqb (length key) 32 e)

  pub unsized : NoKeySize (length key) → schedule_of s_box key ≡ refused
  unfolding schedule_of
  unsized h = rw (ne_eqb (length key) 16 h.not_16, ne_eqb (length key) 24 h.not_24, ne_eqb (length key) 32 h.not_32)

pub known_rounds : {n nk nr : ℕ} → KeySize n nk nr → round_count nr ≡ true
known_rounds aes_128 = refl
known_rounds aes_192 = refl
known_rounds aes_256 = refl

-- the words of the schedule
abbrev pub expanded : List ℕ → ℕ → ℕ → List ℕ
expanded key nk nr = key_expansion s_box key nk (4 * (nr + 1))

module _ (key b : List ℕ) where
  encrypted_by : {n nk nr : ℕ} → KeySize n nk nr → length key ≡ n
      → encrypt_under key b ≡ record { answer = Taken; block = cipher aes s_box (expanded key nk nr) nr b }
  unfolding encrypt_under encrypt_block taken
  encrypted_by {n} {nk} {nr} size e = rw (sized key size e, known_rounds size, cipher_padded aes s_box 60 (expanded key nk nr) nr b)

  decrypted_by : {n nk nr : ℕ} → KeySize n nk nr → length key ≡ n
      → decrypt_under key b ≡ record { answer = Taken; block = inv_cipher aes inv_s_box (expanded key nk nr) nr b }
  unfolding decrypt_under decrypt_block taken
  decrypted_by {n} {nk} {nr} size e = rw (sized key size e, known_rounds size, inv_cipher_padded aes inv_s_box 60 (expanded key nk nr) nr b)

  encrypt_unsized : NoKeySize (length key) → encrypt_under key b ≡ record { answer = KeyLength; block = replicate 16 0 }
  unfolding encrypt_under encrypt_block refused
  encrypt_unsized h = rw (unsized key h)

  decrypt_unsized : NoKeySize (length key) → decrypt_under key b ≡ record { answer = KeyLength; block = replicate 16 0 }
  unfolding decrypt_under decrypt_block refused
  decrypt_unsized h = rw (unsized key h)

-- ---- demand 2: the calls equal FIPS 197

-- the key schedule of a key of each size, with zeros past its last word
pub schedule_is_key_expansion : (κs : _) (a : _) (r : _) (s : _) → new.Post κs a r s
    → {n nk nr : ℕ} → KeySize n nk nr → length a.0.now ≡ n
    → (key_number r.answer ≡ 0) × (r.schedule.rounds ≡ nr) × (r.schedule.words ≡ pad_to 60 (expanded a.0.now nk nr))
unfolding taken
schedule_is_key_expansion κs a r s p {n} {nk} {nr} size e =
    let t : r ≡ taken s_box a.0.now nk nr = p ∙ sized a.0.now size e in
    (ap (λ (x : Expanded). key_number x.answer) t, ap (λ (x : Expanded). x.schedule.rounds) t, ap (λ (x : Expanded). x.schedule.words) t)

-- one block encrypted under a key of each size
pub encrypt_is_cipher : (κs : _) (a : _) (r : _) (s : _) → encrypt.Post κs a r s
    → {n nk nr : ℕ} → KeySize n nk nr → length a.0.now ≡ n
    → (key_number r.answer ≡ 0) × (r.block ≡ cipher aes s_box (expanded a.0.now nk nr) nr a.1.0)
encrypt_is_cipher κs a r s p size e =
    let t = p ∙ encrypted_by a.0.now a.1.0 size e in
    (ap (λ (x : Ciphered). key_number x.answer) t, ap (λ (x : Ciphered). x.block) t)

-- one block decrypted under a key of each size
pub decrypt_is_inverse_cipher : (κs : _) (a : _) (r : _) (s : _) → decrypt.Post κs a r s
    → {n nk nr : ℕ} → KeySize n nk nr → length a.0.now ≡ n
    → (key_number r.answer ≡ 0) × (r.block ≡ inv_cipher aes inv_s_box (expanded a.0.now nk nr) nr a.1.0)
decrypt_is_inverse_cipher κs a r s p size e =
    let t = p ∙ decrypted_by a.0.now a.1.0 size e in
    (ap (λ (x : Ciphered). key_number x.answer) t, ap (λ (x : Ciphered). x.block) t)

-- a key of any other length is refused by 1, with zeros in the answer
pub schedule_refuses : (κs : _) (a : _) (r : _) (s : _) → new.Post κs a r s → NoKeySize (length a.0.now)
    → (key_number r.answer ≡ 1) × (r.schedule.rounds ≡ 0) × (r.schedule.words ≡ replicate 60 0)
unfolding refused
schedule_refuses κs a r s p h =
    let t : r ≡ refused = p ∙ unsized a.0.now h in
    (ap (λ (x : Expanded). key_number x.answer) t, ap (λ (x : Expanded). x.schedule.rounds) t, ap (λ (x : Expanded). x.schedule.words) t)

pub encrypt_refuses : (κs : _) (a : _) (r : _) (s : _) → encrypt.Post κs a r s → NoKeySize (length a.0.now)
    → (key_number r.answer ≡ 1) × (r.block ≡ replicate 16 0)
encrypt_refuses κs a r s p h =
    let t = p ∙ encrypt_unsized a.0.now a.1.0 h in
    (ap (λ (x : Ciphered). key_number x.answer) t, ap (λ (x : Ciphered). x.block) t)

pub decrypt_refuses : (κs : _) (a : _) (r : _) (s : _) → decrypt.Post κs a r s → NoKeySize (length a.0.now)
    → (key_number r.answer ≡ 1) × (r.block ≡ replicate 16 0)
decrypt_refuses κs a r s p h =
    let t = p ∙ decrypt_unsized a.0.now a.1.0 h in
    (ap (λ (x : Ciphered). key_number x.answer) t, ap (λ (x : Ciphered). x.block) t)

-- ---- demand 3: decrypting undoes encrypting, and encrypting undoes decrypting

-- of the cipher, under any schedule and any number of rounds (for any number of columns: `decipher-cipher` of the cipher's own proofs)
pub decrypting_undoes_encrypting : (w : List ℕ) (nr : ℕ) (b : List ℕ) → Octets 16 b → inv_cipher aes inv_s_box w nr (cipher aes s_box w nr b) ≡ b
decrypting_undoes_encrypting w nr b o = decipher_cipher aes aes_regular s_box inv_s_box s_box_inverse w nr o

pub encrypting_undoes_decrypting : (w : List ℕ) (nr : ℕ) (b : List ℕ) → Octets 16 b → cipher aes s_box w nr (inv_cipher aes inv_s_box w nr b) ≡ b
encrypting_undoes_decrypting w nr b o = cipher_decipher aes aes_regular s_box inv_s_box s_box_inverse w nr o

-- of the calls: under a key of each size, what `decrypt` gives for what `encrypt` gave is the block, and the other way round
pub decrypt_undoes_encrypt : (κs : _) (a : _) (r : _) (s : _) → encrypt.Post κs a r s
    → (κs' : _) (a' : _) (r' : _) (s' : _) → decrypt.Post κs' a' r' s'
    → {n nk nr : ℕ} → KeySize n nk nr → length a.0.now ≡ n → a'.0.now ≡ a.0.now → a'.1.0 ≡ r.block
    → Octets 16 a.1.0 → r'.block ≡ a.1.0
decrypt_undoes_encrypt κs a r s p κs' a' r' s' q {n} {nk} {nr} size e k b o =
    let w = expanded a.0.now nk nr in
    (decrypt_is_inverse_cipher κs' a' r' s' q size (ap length k ∙ e)).1
    ∙ ap (λ (x : List ℕ). inv_cipher aes inv_s_box (expanded x nk nr) nr a'.1.0) k
    ∙ ap (inv_cipher aes inv_s_box w nr) (b ∙ (encrypt_is_cipher κs a r s p size e).1)
    ∙ decrypting_undoes_encrypting w nr a.1.0 o

pub encrypt_undoes_decrypt : (κs : _) (a : _) (r : _) (s : _) → decrypt.Post κs a r s
    → (κs' : _) (a' : _) (r' : _) (s' : _) → encrypt.Post κs' a' r' s'
    → {n nk nr : ℕ} → KeySize n nk nr → length a.0.now ≡ n → a'.0.now ≡ a.0.now → a'.1.0 ≡ r.block
    → Octets 16 a.1.0 → r'.block ≡ a.1.0
encrypt_undoes_decrypt κs a r s p κs' a' r' s' q {n} {nk} {nr} size e k b o =
    let w = expanded a.0.now nk nr in
    (encrypt_is_cipher κs' a' r' s' q size (ap length k ∙ e)).1
    ∙ ap (λ (x : List ℕ). cipher aes s_box (expanded x nk nr) nr a'.1.0) k
    ∙ ap (cipher aes s_box w nr) (b ∙ (decrypt_is_inverse_cipher κs a r s p size e).1)
    ∙ encrypting_undoes_decrypting w nr a.1.0 o
