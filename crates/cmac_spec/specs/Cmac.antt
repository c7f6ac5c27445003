-- CMAC of SP 800-38B over any block cipher of 16 bytes, CIPH_K there. Assumes nothing: these are definitions.
use Rattle.std.specs.Prelude.{cond, ℕ, zero, suc, ◌+◌, ◌-◌, ◌*◌, ◌/◌, ◌%◌, ◌≡◌, List, [], ◌∷◌, ◌++◌, eqb, ltb, length, get_or, take, drop, replicate}
use Rattle.octets.specs.Octets.{tabulate, pad_to}
use Rattle.octets.specs.Blocks.{◌⊕◌, BlockCipher}

-- a 128-bit number, its highest byte first, shifted left by one bit: each byte hands its top bit to the byte before it
unfoldable pub shifted : List ℕ → List ℕ
shifted s = tabulate 16 (λ k. get_or s k 0 % 128 * 2 + get_or s (k + 1) 0 / 128)

-- R_128 (5.3): fifteen zeros and 87
abbrev pub r128 : List ℕ
r128 = replicate 15 0 ++ (0x87 ∷ [])

-- such a number doubled (6.1, steps 2 and 3): if its top bit was set, R_128 is added
unfoldable pub doubled : List ℕ → List ℕ
doubled s = cond (ltb (get_or s 0 0) 128) (shifted s) (shifted s ⊕ r128)

-- the subkeys K1 and K2 (6.1), of L = CIPH_K(0)
unfoldable pub key1 : BlockCipher → List ℕ
key1 c = doubled (c.enc (replicate 16 0))

unfoldable pub key2 : BlockCipher → List ℕ
key2 c = doubled (key1 c)

-- a short piece gets 80 and zeros
unfoldable pub padded : List ℕ → List ℕ
padded b = pad_to 16 (b ++ (0x80 ∷ []))

-- M_n of the last piece M_n* (6.2, step 4), with the subkeys at hand
abbrev pub last_by : (k1 k2 b : List ℕ) → List ℕ
last_by k1 k2 b = cond (eqb (length b) 16) (k1 ⊕ b) (k2 ⊕ padded b)

unfoldable pub last : BlockCipher → List ℕ → List ℕ
last c b = last_by (key1 c) (key2 c) b

-- how many pieces come before the last (6.2, step 2): a full piece at the end is the last, and so is the piece of no bytes
abbrev pub before_last : List ℕ → ℕ
before_last m = (length m - 1) / 16

-- the value of the chain after n whole pieces of m, from the value st (6.2, step 6)
unfoldable pub chained : BlockCipher → List ℕ → ℕ → List ℕ → List ℕ
chained c st zero m = st
chained c st (suc n) m = chained c (c.enc (st ⊕ take 16 m)) n (drop 16 m)

-- the last block of the chain
unfoldable pub ended_by : BlockCipher → (k1 k2 st b : List ℕ) → List ℕ
ended_by c k1 k2 st b = c.enc (st ⊕ last_by k1 k2 b)

unfoldable pub ended : BlockCipher → List ℕ → List ℕ → List ℕ
ended c st b = c.enc (st ⊕ last c b)

-- MAC generation (6.2), all 16 bytes: the chain starts at zeros (step 5)
unfoldable pub cmac : BlockCipher → List ℕ → List ℕ
cmac c m = ended c (chained c (replicate 16 0) (before_last m) m) (drop (before_last m * 16) m)

-- the same with subkeys that were made before: CMAC if they are the cipher's own
unfoldable pub cmac_by : BlockCipher → (k1 k2 m : List ℕ) → List ℕ
cmac_by c k1 k2 m = ended_by c k1 k2 (chained c (replicate 16 0) (before_last m) m) (drop (before_last m * 16) m)

-- two messages are the same outside piece i of 16 bytes, counted from the start
abbrev pub SameOutside : ℕ → List ℕ → List ℕ → Type 0
SameOutside i a b = (k : ℕ) → (k / 16 ≡ i → ⊥) → get_or a k 0 ≡ get_or b k 0
