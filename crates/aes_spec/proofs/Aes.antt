-- AES is a lawful block cipher under every key that is taken. Assumes nothing.
use mathlib.Core.Path.{◌≡◌, refl}
use mathlib.Core.Bool.{Bool, true, false, cond}
use mathlib.Core.List.{List}
use Prim.Native.Nat.{ℕ}
use native.Mathlib.Omega.{arith}
use lib.Dec.{eqb}
use lib.ListN.{length}
use Rattle.octets.specs.Octets.{Octets}
use Rattle.octets.specs.Blocks.{Lawful}
use Rattle.aes_sbox.specs.Sbox.{s_box, inv_s_box}
use Rattle.aes_sbox.proofs.Laws.{s_box_lt, inv_s_box_lt, inv_s_box_s_box, s_box_inv_s_box}
use Rattle.aes_schedule.specs.Schedule.{taken, refused, schedule_of, key_number, round_count}
use Rattle.aes_schedule.specs.declared.Expanded.{Expanded}
use Rattle.aes_spec.specs.State.{aes}
use Rattle.aes_spec.specs.Cipher.{encrypt_block, decrypt_block, block_cipher, aes_of}
use Rattle.aes_spec.proofs.State.{aes_regular}
use Rattle.aes_spec.proofs.Undo.{Inverse, cipher_block, inv_cipher_block, decipher_cipher, cipher_decipher}

pub s_box_inverse : Inverse s_box inv_s_box
s_box_inverse = record { sub_lt = s_box_lt; inv_lt = inv_s_box_lt; inv_sub = inv_s_box_s_box; sub_inv = s_box_inv_s_box }

module _ (w : List ℕ) (nr : ℕ) (known : round_count nr ≡ true) where
  enc_block : (x : List ℕ) → Octets 16 x → Octets 16 (encrypt_block s_box w nr x)
  unfolding encrypt_block
  enc_block x o = rw known (cipher_block aes s_box s_box_lt w nr o)

  dec_block : (x : List ℕ) → Octets 16 x → Octets 16 (decrypt_block inv_s_box w nr x)
  unfolding decrypt_block
  dec_block x o = rw known (inv_cipher_block aes inv_s_box inv_s_box_lt w nr o)

  dec_enc : (x : List ℕ) → Octets 16 x → decrypt_block inv_s_box w nr (encrypt_block s_box w nr x) ≡ x
  unfolding encrypt_block decrypt_block
  dec_enc x o = rw known (decipher_cipher aes aes_regular s_box inv_s_box s_box_inverse w nr o)

  enc_dec : (x : List ℕ) → Octets 16 x → encrypt_block s_box w nr (decrypt_block inv_s_box w nr x) ≡ x
  unfolding encrypt_block decrypt_block
  enc_dec x o = rw known (cipher_decipher aes aes_regular s_box inv_s_box s_box_inverse w nr o)

  pub aes_lawful : Lawful 16 (block_cipher s_box inv_s_box w nr)
  aes_lawful = record { enc_block = enc_block; dec_block = dec_block; dec_enc = dec_enc; enc_dec = enc_dec }

-- under every key that is taken
key_rounds : (key : List ℕ) → key_number (schedule_of s_box key).answer ≡ 0 → round_count (schedule_of s_box key).schedule.rounds ≡ true
unfolding schedule_of taken refused
key_rounds key = each (eqb (length key) 16) (eqb (length key) 24) (eqb (length key) 32)
  where
    made : Bool → Bool → Bool → Expanded
    made a b c = cond a (taken s_box key 4 10) (cond b (taken s_box key 6 12) (cond c (taken s_box key 8 14) refused))

    each : (a b c : Bool) → key_number (made a b c).answer ≡ 0 → round_count (made a b c).schedule.rounds ≡ true
    each true b c e = refl
    each false true c e = refl
    each false false true e = refl
    each false false false e = absurd (omega arith)

pub key_lawful : (key : List ℕ) → key_number (schedule_of s_box key).answer ≡ 0 → Lawful 16 (aes_of key)
key_lawful key e = aes_lawful (schedule_of s_box key).schedule.words (schedule_of s_box key).schedule.rounds (key_rounds key e)
