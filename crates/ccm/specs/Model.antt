-- What the calls leave in the output, in the parts that the code makes it of. Nobody has to trust these: laws say what they amount to.
-- Assumes nothing: these are definitions.
use Rattle.std.specs.Prelude.{ℕ, ◌-◌, Bool, cond, List, ◌++◌, length, take, drop}
use Rattle.octets.specs.Octets.{pad_to, same, over}
use Rattle.octets.specs.Blocks.{◌⊕◌, BlockCipher}
use Rattle.ccm_spec.specs.Ccm.{counter}
use Rattle.ccm_stream.specs.Model.{streamed_into}
use Rattle.ccm_chain.specs.Model.{mac_over, opened_mac_over}
use Rattle.ccm_answer.specs.declared.CcmAnswer.{CcmAnswer}
use Rattle.ccm_answer.specs.declared.CcmAnswer.TheVariants.{CcmDone, WrongTag}

unfoldable pub sealed_over : BlockCipher → (nonce a p out : List ℕ) → List ℕ
sealed_over c nonce a p out =
    over (streamed_into c (counter nonce 0) p ++ take 8 (mac_over c nonce a p ⊕ c.enc (counter nonce 0))) out

-- the ciphertext of a sealed message
abbrev pub body : List ℕ → List ℕ
body s = take (length s - 8) s

-- the first eight bytes of Yr, and those of the tag found, unmasked
unfoldable pub right : BlockCipher → (nonce a s : List ℕ) → Bool
right c nonce a s =
    same (take 8 (opened_mac_over c nonce a (body s))) (take 8 (pad_to 16 (drop (length s - 8) s ⊕ c.enc (counter nonce 0))))

abbrev pub verdict : BlockCipher → (nonce a s : List ℕ) → CcmAnswer
verdict c nonce a s = cond (right c nonce a s) CcmDone WrongTag

abbrev pub opened_over : BlockCipher → (nonce a s out : List ℕ) → List ℕ
opened_over c nonce a s out = cond (right c nonce a s) (streamed_into c (counter nonce 0) (body s) ++ drop (length s - 8) out) out
