-- SP 800-38A's equations about piece i of what an operation gives, section 6, and what it hands on. Assumes nothing: these are definitions.
use Rattle.std.specs.Prelude.{ℕ, zero, suc, ◌≡◌, List}
use Rattle.octets.specs.Blocks.{◌⊕◌, BlockCipher}
use Rattle.modes_spec.specs.Pieces.{piece, piece_count}
use Rattle.modes_spec.specs.declared.Operation.{Operation}
use Rattle.modes_spec.specs.declared.Operation.TheVariants.{EcbEncrypt, EcbDecrypt, CbcEncrypt, CbcDecrypt, CfbEncrypt, CfbDecrypt, Ofb}

-- the ciphertext before piece i: the IV before the first
abbrev pub previous : ℕ → List ℕ → List ℕ → ℕ → List ℕ
previous z iv c zero = iv
previous z iv c (suc i) = piece z c i

-- O(i): O(0) is the IV, and each next one is enciphered from the one before
unfoldable pub output_block : BlockCipher → List ℕ → ℕ → List ℕ
output_block e iv zero = iv
output_block e iv (suc i) = e.enc (output_block e iv i)

-- of the cipher e, the IV, the input and an output as long; pieces are counted from 0 here, from 1 in the standard;
-- a sum goes as far as both, so that of O(i) a short last piece takes the leading bytes
abbrev pub Equation : ℕ → BlockCipher → Operation → (iv inp out : List ℕ) → ℕ → Type 0
Equation z e EcbEncrypt iv p c i = piece z c i ≡ e.enc (piece z p i)
Equation z e EcbDecrypt iv c p i = piece z p i ≡ e.dec (piece z c i)
Equation z e CbcEncrypt iv p c i = piece z c i ≡ e.enc (piece z p i ⊕ previous z iv c i)
Equation z e CbcDecrypt iv c p i = piece z p i ≡ e.dec (piece z c i) ⊕ previous z iv c i
Equation z e CfbEncrypt iv p c i = piece z c i ≡ piece z p i ⊕ e.enc (previous z iv c i)
Equation z e CfbDecrypt iv c p i = piece z p i ≡ piece z c i ⊕ e.enc (previous z iv c i)
Equation z e Ofb iv p c i = piece z c i ≡ piece z p i ⊕ output_block e iv (suc i)

-- the value handed on: the last block of the ciphertext, in OFB the last output block, and the IV where there is no piece
abbrev pub Handed : ℕ → BlockCipher → Operation → (iv inp out value : List ℕ) → Type 0
Handed z e EcbEncrypt iv p c v = Unit {0}
Handed z e EcbDecrypt iv c p v = Unit {0}
Handed z e CbcEncrypt iv p c v = v ≡ previous z iv c (piece_count z p)
Handed z e CbcDecrypt iv c p v = v ≡ previous z iv c (piece_count z c)
Handed z e CfbEncrypt iv p c v = v ≡ previous z iv c (piece_count z p)
Handed z e CfbDecrypt iv c p v = v ≡ previous z iv c (piece_count z c)
Handed z e Ofb iv p c v = v ≡ output_block e iv (piece_count z p)
