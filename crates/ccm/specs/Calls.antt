-- The calls: sealing and opening a message under a key. Assumes nothing: these are definitions.
use Rattle.std.specs.Prelude.{cond, ℕ, ◌+◌, ◌-◌, List, length}
use Rattle.octets.specs.Octets.{over}
use Rattle.octets.specs.Blocks.{BlockCipher}
use Rattle.aes_sbox.specs.Sbox.{s_box}
use Rattle.aes_schedule.specs.Schedule.{schedule_of, key_number}
use Rattle.aes_spec.specs.Cipher.{aes_of}
use Rattle.ccm_spec.specs.Ccm.{sealed, opened, genuine}
use Rattle.ccm_answer.specs.Answers.{in_profile, sealed_in_profile, ccm_ruled}
use Rattle.ccm_answer.specs.declared.CcmAnswer.{CcmAnswer}
use Rattle.ccm_answer.specs.declared.CcmAnswer.TheVariants.{CcmDone, CcmKey, CcmSize, CcmRoom, WrongTag}

unfoldable pub seal_answer : (key nonce a p out : List ℕ) → CcmAnswer
seal_answer key nonce a p out =
    ccm_ruled (key_number (schedule_of s_box key).answer) (in_profile (length nonce) (length a) (length p)) (length p + 8) (length out) CcmDone

-- the output afterwards: ciphertext and tag, and the rest as it was; after a refusal, as it was
abbrev pub seal_output : CcmAnswer → (key nonce a p out : List ℕ) → List ℕ
seal_output CcmDone key nonce a p out = over (sealed (aes_of key) nonce a p) out
seal_output CcmKey key nonce a p out = out
seal_output CcmSize key nonce a p out = out
seal_output CcmRoom key nonce a p out = out
seal_output WrongTag key nonce a p out = out

-- then 24: the tag is right in all its eight bytes
abbrev pub verdict : BlockCipher → (nonce a s : List ℕ) → CcmAnswer
verdict c nonce a s = cond (genuine c nonce a s) CcmDone WrongTag

unfoldable pub open_answer : (key nonce a s out : List ℕ) → CcmAnswer
open_answer key nonce a s out =
    ccm_ruled (key_number (schedule_of s_box key).answer) (sealed_in_profile (length nonce) (length a) (length s)) (length s - 8) (length out)
    (verdict (aes_of key) nonce a s)

abbrev pub open_output : CcmAnswer → (key nonce a s out : List ℕ) → List ℕ
open_output CcmDone key nonce a s out = over (opened (aes_of key) nonce s) out
open_output CcmKey key nonce a s out = out
open_output CcmSize key nonce a s out = out
open_output CcmRoom key nonce a s out = out
open_output WrongTag key nonce a s out = out
