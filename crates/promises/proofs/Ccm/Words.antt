-- The words in which the promises about CCM are said. Assumes nothing: these are definitions.
use mathlib.Core.Path.{◌≡◌}
use mathlib.Core.Bool.{true, false}
use mathlib.Core.List.{List}
use Prim.Native.Nat.{ℕ, ◌+◌, ◌≤◌, ◌<◌}
use lib.ListN.{length}
use Rattle.octets.specs.Octets.{Bytes}
use Rattle.aes_spec.specs.Cipher.{aes_of}
use Rattle.ccm_spec.specs.Ccm.{sealed, genuine}
use Rattle.ccm_answer.specs.Answers.{in_profile, sealed_in_profile}
use Rattle.ccm.specs.Calls.{seal_answer, seal_output, open_answer, open_output}
use Rattle.ccm_answer.specs.declared.CcmAnswer.{CcmAnswer}
use Rattle.ccm_answer.specs.declared.CcmAnswer.TheVariants.{CcmDone, CcmKey, CcmSize, CcmRoom, WrongTag}
use Rattle.promises.proofs.Aes.Keys.{KeyTaken}

-- the outputs after the two calls
abbrev pub after_seal : (key nonce a p out : List ℕ) → List ℕ
after_seal key nonce a p out = seal_output (seal_answer key nonce a p out) key nonce a p out

abbrev pub after_open : (key nonce a s out : List ℕ) → List ℕ
after_open key nonce a s out = open_output (open_answer key nonce a s out) key nonce a s out

-- nonce, associated data and message have lengths of the profile
abbrev pub Fits : (nonce a p : List ℕ) → Type 0
Fits nonce a p = in_profile (length nonce) (length a) (length p) ≡ true

-- what sealing asks, of an output of this length
pub record SealFit (key nonce a p : List ℕ) (room : ℕ) : Type 0 where
  pub key_taken : KeyTaken key
  pub fits : Fits nonce a p
  pub roomy : length p + 8 ≤ room

-- what each of its answers says: the first test that fails is the one told
abbrev pub SealSays : (key nonce a p : List ℕ) (room : ℕ) → CcmAnswer → Type 0
SealSays key nonce a p room CcmDone = SealFit key nonce a p room
SealSays key nonce a p room CcmKey = KeyTaken key → ⊥
SealSays key nonce a p room CcmSize = KeyTaken key × (in_profile (length nonce) (length a) (length p) ≡ false)
SealSays key nonce a p room CcmRoom = KeyTaken key × Fits nonce a p × (room < length p + 8)
SealSays key nonce a p room WrongTag = ⊥

-- the same of a sealed message
abbrev pub SealedFits : (nonce a s : List ℕ) → Type 0
SealedFits nonce a s = sealed_in_profile (length nonce) (length a) (length s) ≡ true

abbrev pub TagRight : (key nonce a s : List ℕ) → Type 0
TagRight key nonce a s = genuine (aes_of key) nonce a s ≡ true

pub record OpenFit (key nonce a s : List ℕ) (room : ℕ) : Type 0 where
  pub key_taken : KeyTaken key
  pub fits : SealedFits nonce a s
  pub roomy : length s ≤ room + 8
  pub tag_right : TagRight key nonce a s

abbrev pub OpenSays : (key nonce a s : List ℕ) (room : ℕ) → CcmAnswer → Type 0
OpenSays key nonce a s room CcmDone = OpenFit key nonce a s room
OpenSays key nonce a s room CcmKey = KeyTaken key → ⊥
OpenSays key nonce a s room CcmSize = KeyTaken key × (sealed_in_profile (length nonce) (length a) (length s) ≡ false)
OpenSays key nonce a s room CcmRoom = KeyTaken key × SealedFits nonce a s × (room + 8 < length s)
OpenSays key nonce a s room WrongTag = KeyTaken key × SealedFits nonce a s × (length s ≤ room + 8) × (TagRight key nonce a s → ⊥)

-- a list is what sealing makes, under this key, nonce and associated data, of a message of the profile
pub record SealedOf (key nonce a s : List ℕ) : Type 0 where
  pub message : List ℕ
  pub message_bytes : Bytes message
  pub message_fits : Fits nonce a message
  pub is_sealed : s ≡ sealed (aes_of key) nonce a message
