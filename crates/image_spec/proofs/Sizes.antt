-- How long the parts of a block are, over ciphers that give 16 bytes whatever they are given, as AES does under any schedule. Assumes nothing.
use mathlib.Core.Path.{◌≡◌, refl, ap, ◌∙◌}
use mathlib.Core.Bool.{Bool, true, false, cond}
use mathlib.Core.List.{List, ◌++◌}
use Prim.Native.Nat.{ℕ, zero, suc, ◌+◌, ◌*◌, ◌/◌, ◌%◌, ◌≤◌}
use native.Mathlib.Omega.{arith}
use lib.ListN.{length, get_or, take, drop, replicate, length-append, length-drop}
use lib.Seq.{length-take-le}
use Rattle.octets.specs.Octets.{xor}
use Rattle.octets.specs.Words.{byte}
use Rattle.octets.specs.Blocks.{◌⊕◌, BlockCipher}
use Rattle.octets.proofs.Blocks.{⊕-length}
use Rattle.octets.proofs.Same.{same_true}
use Rattle.octets.proofs.Fill.{length_tabulate}
use Rattle.aes_schedule.specs.Schedule.{round_count}
use Rattle.aes_spec.specs.State.{aes, at, add_round_key}
use Rattle.aes_spec.specs.Cipher.{cipher, encrypt_block}
use Rattle.aes_spec.specs.Model.{eq_inv_cipher, eq_decrypt_block}
use Rattle.aes_sbox.specs.Sbox.{s_box}
use Rattle.modes_spec.specs.Pieces.{output_of}
use Rattle.modes_spec.specs.Modes.{machine}
use Rattle.modes_spec.specs.declared.Operation.TheVariants.{CbcDecrypt}
use Rattle.modes_spec.proofs.Pieces.{count_whole}
use Rattle.cmac_spec.specs.Cmac.{ended_by, cmac_by}
use Rattle.image_spec.specs.Sealed.{Mac, opened, checks}
use Rattle.image_spec.specs.Model.{lent_mac}

-- a function that gives blocks of 16, whatever it is given
abbrev pub Sixteen : (List ℕ → List ℕ) → Type 0
Sixteen f = (x : List ℕ) → length (f x) ≡ 16

added_sized : (w : List ℕ) (n : ℕ) (s : List ℕ) → length (add_round_key aes w n s) ≡ 16
unfolding add_round_key
added_sized w n s = length_tabulate 16 (λ k. xor (at s (k % 4) (k / 4)) (byte (k % 4) (get_or w (4 * n + k / 4) 0)))

cipher_sized : (sub : ℕ → ℕ) (w : List ℕ) (nr : ℕ) → Sixteen (cipher aes sub w nr)
unfolding cipher
cipher_sized sub w nr x = added_sized w nr _

back_sized : (inv : ℕ → ℕ) (w : List ℕ) (nr : ℕ) → Sixteen (eq_inv_cipher aes inv w nr)
unfolding eq_inv_cipher
back_sized inv w nr x = added_sized w 0 _

-- such a block, or zeros
chosen_sized : (k : Bool) (s : List ℕ) → length s ≡ 16 → length (cond k s (replicate 16 0)) ≡ 16
chosen_sized true s e = e
chosen_sized false s e = refl

pub encrypt_sized : (sub : ℕ → ℕ) (w : List ℕ) (nr : ℕ) → Sixteen (encrypt_block sub w nr)
unfolding encrypt_block
encrypt_sized sub w nr x = chosen_sized (round_count nr) (cipher aes sub w nr x) (cipher_sized sub w nr x)

pub decrypt_sized : (inv : ℕ → ℕ) (w : List ℕ) (nr : ℕ) → Sixteen (eq_decrypt_block inv w nr)
unfolding eq_decrypt_block
decrypt_sized inv w nr x = chosen_sized (round_count nr) (eq_inv_cipher aes inv w nr x) (back_sized inv w nr x)

-- ---- the 480 bytes

module _ (c : BlockCipher) (sized : Sixteen c.dec) where
  -- n pieces of CBC decryption
  pub made_size : (n : ℕ) (st s : List ℕ) → length st ≡ 16 → n * 16 ≤ length s → length (output_of 16 (machine c CbcDecrypt) st n s) ≡ n * 16
  unfolding output_of
  made_size zero st s h l = refl
  made_size (suc n) st s h l =
      let p = take 16 s in
      length-append (c.dec p ⊕ st) (output_of 16 (machine c CbcDecrypt) p n (drop 16 s))
      ∙ omega (arith, ⊕-length (c.dec p) st (omega (arith, sized p)), sized p, made_size n p (drop 16 s) (length-take-le 16 s (omega arith)) (omega (arith, length-drop 16 s)))

module _ (b : List ℕ) (size : length b ≡ 512) where
  pub body_length : length (take 480 (drop 16 b)) ≡ 480
  body_length = length-take-le 480 (drop 16 b) (omega (arith, length-drop 16 b))

  -- thirty pieces
  pub opened_made : (c : BlockCipher) → opened c b ≡ output_of 16 (machine c CbcDecrypt) (c.enc (take 16 b)) 30 (take 480 (drop 16 b))
  unfolding opened
  opened_made c =
      ap (λ (n : ℕ). output_of 16 (machine c CbcDecrypt) (c.enc (take 16 b)) n (take 480 (drop 16 b))) (count_whole 16 30 (take 480 (drop 16 b)) (omega arith) body_length)

  pub opened_size : (c : BlockCipher) → Sixteen c.enc → Sixteen c.dec → length (opened c b) ≡ 480
  opened_size c es ds = ap length (opened_made c) ∙ made_size c ds 30 (c.enc (take 16 b)) (take 480 (drop 16 b)) (es (take 16 b)) (omega (arith, body_length))

-- ---- the check

pub mac_sized : (w : List ℕ) (nr : ℕ) (k1 k2 : List ℕ) → Sixteen (lent_mac w nr k1 k2)
unfolding cmac_by ended_by
mac_sized w nr k1 k2 m = encrypt_sized s_box w nr _

module _ (mac : Mac) (sized : Sixteen mac) where
  -- only a block of 512 bytes can carry its check
  pub checks_block : (tail b : List ℕ) → checks mac tail b ≡ true → length b ≡ 512
  unfolding checks
  checks_block tail b e =
      let s = same_true (mac (take 496 b ++ tail)) (drop 496 b) e in
      omega (arith, ap length s, sized (take 496 b ++ tail), length-drop 496 b)
