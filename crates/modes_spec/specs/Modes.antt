-- The modes of SP 800-38A, section 6, over any block cipher of z bytes. Assumes nothing: these are definitions.
use Rattle.std.specs.Prelude.{ℕ, ◌*◌, ◌/◌, ◌≡◌, List, [], ◌∷◌, ◌++◌, Bool, true, false, length}
use Rattle.octets.specs.Blocks.{◌⊕◌, BlockCipher}
use Rattle.modes_spec.specs.Pieces.{Machine, output_of, after, piece_count}
use Rattle.modes_spec.specs.declared.Operation.{Operation}
use Rattle.modes_spec.specs.declared.Operation.TheVariants.{EcbEncrypt, EcbDecrypt, CbcEncrypt, CbcDecrypt, CfbEncrypt, CfbDecrypt, Ofb}

-- of the chaining value st and the piece p: the block that comes out, and the next chaining value (6.1, 6.2, 6.3 with s = b, 6.4)
abbrev pub machine : BlockCipher → Operation → Machine
machine c EcbEncrypt = record { out = λ st p. c.enc p; next = λ st p. st }
machine c EcbDecrypt = record { out = λ st p. c.dec p; next = λ st p. st }
machine c CbcEncrypt = record { out = λ st p. c.enc (p ⊕ st); next = λ st p. c.enc (p ⊕ st) }
machine c CbcDecrypt = record { out = λ st p. c.dec p ⊕ st; next = λ st p. p }
machine c CfbEncrypt = record { out = λ st p. p ⊕ c.enc st; next = λ st p. p ⊕ c.enc st }
machine c CfbDecrypt = record { out = λ st p. p ⊕ c.enc st; next = λ st p. p }
machine c Ofb = record { out = λ st p. p ⊕ c.enc st; next = λ st p. c.enc st }

-- the operation that undoes another: OFB undoes itself
abbrev pub other : Operation → Operation
other EcbEncrypt = EcbDecrypt
other EcbDecrypt = EcbEncrypt
other CbcEncrypt = CbcDecrypt
other CbcDecrypt = CbcEncrypt
other CfbEncrypt = CfbDecrypt
other CfbDecrypt = CfbEncrypt
other Ofb = Ofb

-- whether an operation uses the inverse cipher
abbrev pub inverts : Operation → Bool
inverts EcbEncrypt = false
inverts EcbDecrypt = true
inverts CbcEncrypt = false
inverts CbcDecrypt = true
inverts CfbEncrypt = false
inverts CfbDecrypt = false
inverts Ofb = false

-- how long the IV is: none in ECB, a block in the others (5.3)
abbrev pub iv_length : ℕ → Operation → ℕ
iv_length z EcbEncrypt = 0
iv_length z EcbDecrypt = 0
iv_length z CbcEncrypt = z
iv_length z CbcDecrypt = z
iv_length z CfbEncrypt = z
iv_length z CfbDecrypt = z
iv_length z Ofb = z

-- whether the input may have any length, its last piece short (5.2): in OFB alone; the others take whole pieces
abbrev pub any_length : Operation → Bool
any_length EcbEncrypt = false
any_length EcbDecrypt = false
any_length CbcEncrypt = false
any_length CbcDecrypt = false
any_length CfbEncrypt = false
any_length CfbDecrypt = false
any_length Ofb = true

-- whether an operation chains its pieces, and so has a value to hand on: ECB has none
abbrev pub chains : Operation → Bool
chains EcbEncrypt = false
chains EcbDecrypt = false
chains CbcEncrypt = true
chains CbcDecrypt = true
chains CfbEncrypt = true
chains CfbDecrypt = true
chains Ofb = true

-- what is asked of an input unless any length goes
abbrev pub Unless : Bool → Type 0 → Type 0
Unless true P = Unit {0}
Unless false P = P

-- an operation over a list of bytes; of a short last piece as many bytes come out as it has
abbrev pub moded : ℕ → BlockCipher → Operation → List ℕ → List ℕ → List ℕ
moded z c o iv s = output_of z (machine c o) iv (piece_count z s) s

-- the chaining value handed on: as an IV it lets the next bytes go on where these ended
abbrev pub handed_on : ℕ → BlockCipher → Operation → List ℕ → List ℕ → List ℕ
handed_on z c o iv s = after z (machine c o) iv (piece_count z s) s

-- an operation over parts, each from the value that the one before hands on; and the value at the end
abbrev pub in_parts : ℕ → BlockCipher → Operation → List ℕ → List (List ℕ) → List ℕ
in_parts z c o iv [] = []
in_parts z c o iv (part ∷ parts) = moded z c o iv part ++ in_parts z c o (handed_on z c o iv part) parts

abbrev pub handed_along : ℕ → BlockCipher → Operation → List ℕ → List (List ℕ) → List ℕ
handed_along z c o iv [] = iv
handed_along z c o iv (part ∷ parts) = handed_along z c o (handed_on z c o iv part) parts

-- every part is whole pieces
abbrev pub WholeParts : ℕ → List (List ℕ) → Type 0
WholeParts z [] = Unit {0}
WholeParts z (part ∷ parts) = (length part ≡ length part / z * z) × WholeParts z parts
