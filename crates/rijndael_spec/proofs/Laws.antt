-- Rijndael is lawful over every regular shape and key, AES is its case of four columns, and under a schedule it is what it is under the key.
-- Assumes nothing.
use mathlib.Core.Path.{◌≡◌, refl}
use mathlib.Core.Bool.{Bool, true, false, ◌||◌}
use mathlib.Core.List.{List}
use mathlib.Core.Logic.{◌⊎◌, inl, inr, ⊎_elim}
use Prim.Native.Nat.{ℕ, zero, suc, ◌+◌, ◌*◌, ◌≤◌, ◌<◌}
use native.Mathlib.Nat.{zero-lt-suc}
use native.Mathlib.Omega.{arith}
use borrow.Author.Tests.{eqb-true}
use lib.Dec.{eqb}
use lib.ListN.{length}
use Rattle.octets.specs.Blocks.{Lawful}
use Rattle.octets.proofs.Fill.{length_pad_to}
use Rattle.aes_sbox.specs.Sbox.{s_box, inv_s_box}
use Rattle.aes_sbox.proofs.Laws.{s_box_lt, inv_s_box_lt}
use Rattle.aes_expand.proofs.Laws.{length_expansion}
use Rattle.aes_schedule.specs.Schedule.{taken, schedule_of}
use Rattle.aes_spec.specs.State.{Shape, aes}
use Rattle.aes_spec.specs.Cipher.{encrypt_block, decrypt_block, aes_of}
use Rattle.aes_spec.proofs.State.{Regular}
use Rattle.aes_spec.proofs.Undo.{cipher_block, inv_cipher_block, decipher_cipher, cipher_decipher}
use Rattle.aes_spec.proofs.Padding.{cipher_padded, inv_cipher_padded}
use Rattle.aes_spec.proofs.Aes.{s_box_inverse}
use Rattle.rijndael_spec.specs.Rijndael.{shape_of, block_size, key_words, rounds_of, expanded, rijndael, takes_key, wide_words, wide_rounds, wide_round_count, wide_encrypt, wide_decrypt}
use Rattle.rijndael_spec.specs.declared.Width.{Width}
use Rattle.rijndael_spec.specs.declared.Width.TheVariants.{Six, Eight}

pub regular : (v : Width) → Regular (shape_of v)
regular Six = record { some = zero-lt-suc 5; within = λ r h. omega arith }
regular Eight = record { some = zero-lt-suc 7; within = rows }
  where
    rows : (r : ℕ) → r < 4 → (shape_of Eight).shift r ≤ 8
    rows zero h = omega arith
    rows (suc zero) h = omega arith
    rows (suc (suc zero)) h = omega arith
    rows (suc (suc (suc r))) h = omega arith

-- blocks go to blocks, and each way undoes the other
pub lawful : (z : Shape) → Regular z → (key : List ℕ) → Lawful (4 * z.columns) (rijndael z key)
lawful z g key = record {
  enc_block = λ x o. cipher_block z s_box s_box_lt (expanded z key) (rounds_of (key_words key) z.columns) o;
  dec_block = λ x o. inv_cipher_block z inv_s_box inv_s_box_lt (expanded z key) (rounds_of (key_words key) z.columns) o;
  dec_enc = λ x o. decipher_cipher z g s_box inv_s_box s_box_inverse (expanded z key) (rounds_of (key_words key) z.columns) o;
  enc_dec = λ x o. cipher_decipher z g s_box inv_s_box s_box_inverse (expanded z key) (rounds_of (key_words key) z.columns) o;
}

pub wide_lawful : (v : Width) (key : List ℕ) → Lawful (block_size v) (rijndael (shape_of v) key)
wide_lawful v key = lawful (shape_of v) (regular v) key

-- ---- AES is the case of four columns

module _ (key x : List ℕ) where
  abbrev Same : Type 0
  Same = ((aes_of key).enc x ≡ (rijndael aes key).enc x) × ((aes_of key).dec x ≡ (rijndael aes key).dec x)

  four_16 : length key ≡ 16 → Same
  unfolding schedule_of taken encrypt_block decrypt_block expanded
  four_16 e = rw e (cipher_padded aes s_box 60 _ 10 x, inv_cipher_padded aes inv_s_box 60 _ 10 x)

  four_24 : length key ≡ 24 → Same
  unfolding schedule_of taken encrypt_block decrypt_block expanded
  four_24 e = rw e (cipher_padded aes s_box 60 _ 12 x, inv_cipher_padded aes inv_s_box 60 _ 12 x)

  four_32 : length key ≡ 32 → Same
  unfolding schedule_of taken encrypt_block decrypt_block expanded
  four_32 e = rw e (cipher_padded aes s_box 60 _ 14 x, inv_cipher_padded aes inv_s_box 60 _ 14 x)

  pub aes_is_four : (length key ≡ 16) ⊎ ((length key ≡ 24) ⊎ (length key ≡ 32)) → Same
  aes_is_four = ⊎_elim four_16 (⊎_elim four_24 four_32)

-- ---- the sizes of a key

pub key_sizes : (n : ℕ) → takes_key n ≡ true → (n ≡ 16) ⊎ ((n ≡ 24) ⊎ (n ≡ 32))
key_sizes n = each (eqb n 16) (eqb n 24) (eqb n 32) refl refl refl
  where
    each : (a b c : Bool) → eqb n 16 ≡ a → eqb n 24 ≡ b → eqb n 32 ≡ c → a || (b || c) ≡ true → (n ≡ 16) ⊎ ((n ≡ 24) ⊎ (n ≡ 32))
    each true b c e f g h = inl (eqb-true n 16 e)
    each false true c e f g h = inr (inl (eqb-true n 24 f))
    each false false true e f g h = inr (inr (eqb-true n 32 g))
    each false false false e f g h = let x : ◌≡◌ {A = ℕ} 0 1 = cc in absurd (omega arith)

pub size_taken : (n : ℕ) → (n ≡ 16) ⊎ ((n ≡ 24) ⊎ (n ≡ 32)) → takes_key n ≡ true
size_taken n = ⊎_elim (λ e. rw e) (⊎_elim (λ e. rw e) (λ e. rw e))

-- ---- the number of rounds

-- from 1 on, and its words are at most 120
abbrev pub Rounds : Width → ℕ → Type 0
Rounds v nr = (0 < nr) × (nr < 15) × ((shape_of v).columns * nr + (shape_of v).columns ≤ 120)

pub wide-round-count : (v : Width) (nr : ℕ) → wide_round_count v nr ≡ true → Rounds v nr
wide-round-count Six nr = each (eqb nr 12) (eqb nr 14) refl refl
  where
    each : (a b : Bool) → eqb nr 12 ≡ a → eqb nr 14 ≡ b → a || b ≡ true → Rounds Six nr
    each true b e f h = let k = eqb-true nr 12 e in (omega arith, omega arith, omega arith)
    each false true e f h = let k = eqb-true nr 14 f in (omega arith, omega arith, omega arith)
    each false false e f h = let x : ◌≡◌ {A = ℕ} 0 1 = cc in absurd (omega arith)
wide-round-count Eight nr = λ h. let k = eqb-true nr 14 h in (omega arith, omega arith, omega arith)

module _ (key : List ℕ) (known : takes_key (length key) ≡ true) where
  key_rounds : (v : Width) → wide_round_count v (rounds_of (key_words key) (shape_of v).columns) ≡ true
  key_rounds Six = ⊎_elim (λ e. rw e) (⊎_elim (λ e. rw e) (λ e. rw e)) (key_sizes (length key) known)
  key_rounds Eight = ⊎_elim (λ e. rw e) (⊎_elim (λ e. rw e) (λ e. rw e)) (key_sizes (length key) known)

  pub rounds_known : (v : Width) → wide_round_count v (wide_rounds v key) ≡ true
  unfolding wide_rounds
  rounds_known v = rw known (key_rounds v)

  -- under its schedule the cipher is what it is under the key
  pub under_encrypts : (v : Width) (x : List ℕ) → wide_encrypt v (wide_words v key) (wide_rounds v key) x ≡ (rijndael (shape_of v) key).enc x
  unfolding wide_encrypt wide_words wide_rounds
  under_encrypts v x = rw (known, key_rounds v) (cipher_padded (shape_of v) s_box 120 (expanded (shape_of v) key) (rounds_of (key_words key) (shape_of v).columns) x)

  pub under_decrypts : (v : Width) (x : List ℕ) → wide_decrypt v (wide_words v key) (wide_rounds v key) x ≡ (rijndael (shape_of v) key).dec x
  unfolding wide_decrypt wide_words wide_rounds
  under_decrypts v x = rw (known, key_rounds v) (inv_cipher_padded (shape_of v) inv_s_box 120 (expanded (shape_of v) key) (rounds_of (key_words key) (shape_of v).columns) x)

  -- its words have room
  pub words_room : (v : Width) → (shape_of v).columns * (rounds_of (key_words key) (shape_of v).columns + 1) ≤ 120
  words_room Six = ⊎_elim (λ e. rw e (omega arith)) (⊎_elim (λ e. rw e (omega arith)) (λ e. rw e (omega arith))) (key_sizes (length key) known)
  words_room Eight = ⊎_elim (λ e. rw e (omega arith)) (⊎_elim (λ e. rw e (omega arith)) (λ e. rw e (omega arith))) (key_sizes (length key) known)

-- the words of every schedule are 120
pub wide_length : (v : Width) (key : List ℕ) → length (wide_words v key) ≡ 120
unfolding wide_words expanded
wide_length v key = on (takes_key (length key)) refl
  where
    on : (k : Bool) → takes_key (length key) ≡ k → length (wide_words v key) ≡ 120
    on true e = rw e (length_pad_to 120 (expanded v' key) (rw (length_expansion s_box key (key_words key) (v'.columns * (rounds_of (key_words key) v'.columns + 1))) (words_room key e v)))
      where
        v' : Shape
        v' = shape_of v
    on false e = rw e
