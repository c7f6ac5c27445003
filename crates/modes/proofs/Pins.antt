-- What request E4 (docs/REQUIREMENTS.md) says about the value next to an answer in a sentence, stated of the definition. Assumes nothing.
use mathlib.Core.Path.{◌≡◌, refl}
use mathlib.Core.List.{List}
use Prim.Native.Nat.{ℕ}
use lib.ListN.{replicate}
use Rattle.aes_spec.specs.Cipher.{aes_of}
use Rattle.modes_spec.specs.Modes.{handed_on}
use Rattle.modes_spec.specs.declared.Operation.{Operation}
use Rattle.modes_spec.specs.declared.Operation.TheVariants.{EcbEncrypt, EcbDecrypt}
use Rattle.modes_spec.proofs.Pins.{all_but_ecb_chain}
use Rattle.modes_answer.specs.declared.ModeAnswer.TheVariants.{Done}
use Rattle.modes.specs.Calls.{mode_next}

-- CBC, CFB and OFB hand back the next chaining value, ECB zeros
pub hands_on : (o : Operation) → (o ≡ EcbEncrypt → ⊥) → (o ≡ EcbDecrypt → ⊥) → (key iv inp : List ℕ) → mode_next Done o key iv inp ≡ handed_on 16 (aes_of key) o iv inp
hands_on o e d key iv inp = rw (all_but_ecb_chain o e d)

pub ecb_zeros : (key iv inp : List ℕ) → (mode_next Done EcbEncrypt key iv inp ≡ replicate 16 0) × (mode_next Done EcbDecrypt key iv inp ≡ replicate 16 0)
ecb_zeros key iv inp = (refl, refl)
