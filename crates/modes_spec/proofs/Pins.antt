-- What SP 800-38A and documents 01 and 02 say of each operation in a sentence, of the definitions. Assumes nothing.
use mathlib.Core.Path.{◌≡◌, refl}
use mathlib.Core.Bool.{true, false}
use Prim.Native.Nat.{ℕ}
use Rattle.modes_spec.specs.Modes.{iv_length, any_length, chains}
use Rattle.modes_spec.specs.declared.Operation.{Operation}
use Rattle.modes_spec.specs.declared.Operation.TheVariants.{EcbEncrypt, EcbDecrypt, CbcEncrypt, CbcDecrypt, CfbEncrypt, CfbDecrypt, Ofb}

-- ECB takes an IV of length 0, the others of a block
pub iv_of_each : (z : ℕ)
    → (iv_length z EcbEncrypt ≡ 0) × (iv_length z EcbDecrypt ≡ 0)
    × (iv_length z CbcEncrypt ≡ z) × (iv_length z CbcDecrypt ≡ z)
    × (iv_length z CfbEncrypt ≡ z) × (iv_length z CfbDecrypt ≡ z)
    × (iv_length z Ofb ≡ z)
iv_of_each z = (refl, refl, refl, refl, refl, refl, refl)

-- OFB takes any length; ECB, CBC and CFB take whole pieces
pub ofb_alone_takes_any_length : (any_length Ofb ≡ true) × ((o : Operation) → (o ≡ Ofb → ⊥) → any_length o ≡ false)
ofb_alone_takes_any_length = (refl, each)
  where
    each : (o : Operation) → (o ≡ Ofb → ⊥) → any_length o ≡ false
    each EcbEncrypt n = refl
    each EcbDecrypt n = refl
    each CbcEncrypt n = refl
    each CbcDecrypt n = refl
    each CfbEncrypt n = refl
    each CfbDecrypt n = refl
    each Ofb n = absurd (n refl)

-- CBC, CFB and OFB hand back the next chaining value; ECB has none
pub all_but_ecb_chain : (o : Operation) → (o ≡ EcbEncrypt → ⊥) → (o ≡ EcbDecrypt → ⊥) → chains o ≡ true
all_but_ecb_chain EcbEncrypt e d = absurd (e refl)
all_but_ecb_chain EcbDecrypt e d = absurd (d refl)
all_but_ecb_chain CbcEncrypt e d = refl
all_but_ecb_chain CbcDecrypt e d = refl
all_but_ecb_chain CfbEncrypt e d = refl
all_but_ecb_chain CfbDecrypt e d = refl
all_but_ecb_chain Ofb e d = refl

pub ecb_chains_nothing : (chains EcbEncrypt ≡ false) × (chains EcbDecrypt ≡ false)
ecb_chains_nothing = (refl, refl)
