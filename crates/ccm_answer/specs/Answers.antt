-- The lengths of the profile of request E14 (docs/REQUIREMENTS.md), and the answers in their order (docs/REFUSALS.md). Assumes nothing: these are definitions.
use Rattle.std.specs.Prelude.{ℕ, ◌-◌, Bool, ◌&&◌, cond, eqb, ltb, leb}
use Rattle.ccm_answer.specs.declared.CcmAnswer.{CcmAnswer}
use Rattle.ccm_answer.specs.declared.CcmAnswer.TheVariants.{CcmDone, CcmKey, CcmSize, CcmRoom, WrongTag}

-- the number of each answer
abbrev pub ccm_number : CcmAnswer → ℕ
ccm_number CcmDone = 0
ccm_number CcmKey = 1
ccm_number CcmRoom = 4
ccm_number CcmSize = 23
ccm_number WrongTag = 24

-- a nonce of 13 bytes, up to 64 bytes of associated data, and a message of up to 1,024
abbrev pub in_profile : (nonce ad len : ℕ) → Bool
in_profile nonce ad len = eqb nonce 13 && (leb ad 64 && leb len 1024)

-- a sealed message is such a message and a tag of 8 bytes
abbrev pub sealed_in_profile : (nonce ad len : ℕ) → Bool
sealed_in_profile nonce ad len = leb 8 len && in_profile nonce ad (len - 8)

-- 1, 23, 4, in that order, of the key's number, whether the lengths are in the profile, the length of the result and that of the output
unfoldable pub ccm_ruled : (key : ℕ) (size : Bool) (result out : ℕ) → CcmAnswer → CcmAnswer
ccm_ruled key size result out answer =
    cond (eqb key 0) (cond size (cond (ltb out result) CcmRoom answer) CcmSize) CcmKey
