-- One block, sealed and opened, over any two block ciphers (docs/IMAGE.md). Assumes nothing: these are definitions.
use Rattle.std.specs.Prelude.{ℕ, Bool, true, ◌&&◌, List, [], ◌∷◌, ◌++◌, eqb, length, take, drop}
use Rattle.octets.specs.Octets.{pad_to, same}
use Rattle.octets.specs.Blocks.{BlockCipher}
use Rattle.modes_spec.specs.Modes.{moded}
use Rattle.modes_spec.specs.declared.Operation.TheVariants.{CbcEncrypt, CbcDecrypt}
use Rattle.cmac_spec.specs.Cmac.{cmac}
use Rattle.image_layout.specs.Layout.{head_size, body_size, block_size, check_at, head_of_lem, head_bytes_of}
use Rattle.image_layout.specs.declared.Head.{Head}
use Rattle.image_spec.specs.Edition.{Edition}

-- 512 bytes
abbrev pub is_block : List ℕ → Bool
is_block b = eqb (length b) block_size

-- ---- the writer's side

-- payload, then zero fill
abbrev pub filled : List ℕ → List ℕ
filled p = pad_to body_size p

-- bytes 0 to 495: the header, and payload and fill in CBC, whose IV is the header enciphered
unfoldable pub front : BlockCipher → Head → List ℕ → List ℕ
front ek h p = head_bytes_of h ++ moded 16 ek CbcEncrypt (ek.enc (head_bytes_of h)) (filled p)

-- what the check covers: bytes 0 to 495, then the edition's tail
abbrev pub covered : (front tail : List ℕ) → List ℕ
covered front tail = front ++ tail

-- what makes a check of a message: CMAC under the check key
abbrev pub Mac : Type 0
Mac = List ℕ → List ℕ

-- the whole block, by the encryption key's cipher and what makes a check
unfoldable pub sealed : BlockCipher → Mac → (tail : List ℕ) → Head → List ℕ → List ℕ
sealed ek mac tail h p = front ek h p ++ mac (covered (front ek h p) tail)

-- a block's header in an edition
abbrev pub head_for : Edition → (number count release len : ℕ) → Head
head_for ed number count release len = record { number = number; count = count; release = release; len = len; reserved = ed.mark }

-- the block of an edition with this payload, sealed on the check of the block before
abbrev pub block_for : Edition → (ek ck : BlockCipher) (last : List ℕ) (number count release : ℕ) (payload : List ℕ) → List ℕ
block_for ed ek ck last number count release p = sealed ek (cmac ck) (ed.tail last) (head_for ed number count release (length p)) p

-- ---- the reader's side

-- the 480 decrypted bytes
unfoldable pub opened : BlockCipher → List ℕ → List ℕ
opened ek b = moded 16 ek CbcDecrypt (ek.enc (take head_size b)) (take body_size (drop head_size b))

-- bytes 496 to 511 are the check, all sixteen
unfoldable pub checks : Mac → (tail b : List ℕ) → Bool
checks mac tail b = same (mac (covered (take check_at b) tail)) (drop check_at b)

abbrev pub all_zero : List ℕ → Bool
all_zero [] = true
all_zero (x ∷ s) = eqb x 0 && all_zero s

-- what follows a payload of this length is zero
unfoldable pub zero_after : BlockCipher → (len : ℕ) → List ℕ → Bool
zero_after ek len b = all_zero (drop len (opened ek b))

-- what follows the payload is zero
abbrev pub fill_zero : BlockCipher → List ℕ → Bool
fill_zero ek b = zero_after ek (head_of_lem b).len b
