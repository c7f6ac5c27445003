-- CCM of SP 800-38C with the formatting of its appendix A, for n = 13, q = 2 and t = 8. Assumes nothing: these are definitions.
use Rattle.std.specs.Prelude.{ℕ, zero, suc, ◌-◌, ◌*◌, ◌/◌, ◌%◌, Bool, true, false, cond, List, [], ◌∷◌, ◌++◌, eqb, length, take, drop, replicate}
use Rattle.octets.specs.Octets.{pad_to, same}
use Rattle.octets.specs.Blocks.{◌⊕◌, BlockCipher}
use Rattle.modes_spec.specs.Pieces.{piece_count}
use Rattle.cmac_spec.specs.Cmac.{chained}

-- a number of two bytes, the highest first
abbrev pub half : ℕ → List ℕ
half n = n / 256 % 256 ∷ n % 256 ∷ []

-- flags, nonce and a number of q = 2 bytes: B0 (A.2.1) and the counter blocks (A.3) are of this form
unfoldable pub flagged : (flags : ℕ) (nonce : List ℕ) (n : ℕ) → List ℕ
flagged flags nonce n = flags ∷ (nonce ++ half n)

-- the flags of B0, by whether there is associated data: 64 if there is, 8 (t - 2) / 2 and q - 1
abbrev pub first_flags : Bool → ℕ
first_flags true = 0x19
first_flags false = 0x59

-- B0: its number is the length of the message
abbrev pub first : (nonce a : List ℕ) (len : ℕ) → List ℕ
first nonce a len = flagged (first_flags (eqb (length a) 0)) nonce len

-- Ctr_i: the flags are q - 1
abbrev pub counter : (nonce : List ℕ) (i : ℕ) → List ℕ
counter nonce i = flagged 1 nonce i

-- zeros up to whole pieces
unfoldable pub whole : List ℕ → List ℕ
whole s = pad_to (piece_count 16 s * 16) s

-- the blocks of the associated data (A.2.2): its length in two bytes before it; none if there is none
unfoldable pub encoded : List ℕ → List ℕ
encoded a = cond (eqb (length a) 0) [] (whole (half (length a) ++ a))

-- B0, B1, .. Br
unfoldable pub formatted : (nonce a p : List ℕ) → List ℕ
formatted nonce a p = first nonce a (length p) ++ (encoded a ++ whole p)

-- Yr (6.1, steps 2 and 3): the chain from zeros, whose first value is then CIPH_K(B0)
unfoldable pub mac : BlockCipher → List ℕ → List ℕ
mac c b = chained c (replicate 16 0) (length b / 16) b

-- T = MSB_Tlen(Yr)
unfoldable pub tag : BlockCipher → (nonce a p : List ℕ) → List ℕ
tag c nonce a p = take 8 (mac c (formatted nonce a p))

-- S_i, S_(i+1), .. joined, n of them
unfoldable pub stream : BlockCipher → (nonce : List ℕ) (i n : ℕ) → List ℕ
stream c nonce i zero = []
stream c nonce i (suc n) = c.enc (counter nonce i) ++ stream c nonce (suc i) n

-- P ⊕ MSB_Plen(S), where S is S1 to Sm and m the pieces of the message: a sum goes as far as both
unfoldable pub streamed : BlockCipher → (nonce p : List ℕ) → List ℕ
streamed c nonce p = p ⊕ stream c nonce 1 (piece_count 16 p)

-- MSB_Tlen(S0)
unfoldable pub mask : BlockCipher → (nonce : List ℕ) → List ℕ
mask c nonce = take 8 (c.enc (counter nonce 0))

-- generation-encryption (6.1)
unfoldable pub sealed : BlockCipher → (nonce a p : List ℕ) → List ℕ
sealed c nonce a p = streamed c nonce p ++ (tag c nonce a p ⊕ mask c nonce)

-- decryption-verification (6.2): the message, and whether the tag is right, all eight bytes
unfoldable pub opened : BlockCipher → (nonce s : List ℕ) → List ℕ
opened c nonce s = streamed c nonce (take (length s - 8) s)

unfoldable pub genuine : BlockCipher → (nonce a s : List ℕ) → Bool
genuine c nonce a s = same (tag c nonce a (opened c nonce s)) (drop (length s - 8) s ⊕ mask c nonce)
