-- The key wrap of RFC 3394, section 2.2, in its index form, over any block cipher of 16 bytes. Assumes nothing: these are definitions.
use Rattle.std.specs.Prelude.{ℕ, zero, suc, ◌+◌, ◌-◌, ◌*◌, ◌/◌, ◌%◌, List, [], ◌∷◌, ◌++◌, length, take, drop, replicate}
use Rattle.octets.specs.Words.{bytes_of}
use Rattle.octets.specs.Blocks.{◌⊕◌, BlockCipher}

-- the initial value (2.2.3.1): eight bytes a6
abbrev pub initial : List ℕ
initial = replicate 8 0xa6

-- the step number t as 64 bits, the highest byte first
unfoldable pub counter : ℕ → List ℕ
counter t = bytes_of (t / 4294967296 ∷ t % 4294967296 ∷ [])

-- the registers A, R[1], .. R[n] stand one after another, eight bytes each; A is register 0
abbrev pub register : List ℕ → ℕ → List ℕ
register w i = take 8 (drop (8 * i) w)

-- the registers with another A and another R[i], i from 1
unfoldable pub replaced : List ℕ → ℕ → (a r : List ℕ) → List ℕ
replaced w i a r = a ++ (drop 8 (take (8 * i) w) ++ (r ++ drop (8 * i + 8) w))

-- the first and the last 64 bits of a block
abbrev pub msb : List ℕ → List ℕ
msb b = take 8 b

abbrev pub lsb : List ℕ → List ℕ
lsb b = drop 8 b

-- ---- wrapping (2.2.1, index form)

-- B = AES(K, A | R[i]); A = MSB(64, B) ^ t; R[i] = LSB(64, B)
unfoldable pub step : BlockCipher → (t i : ℕ) → List ℕ → List ℕ
step c t i w = replaced w i (msb (c.enc (register w 0 ++ register w i)) ⊕ counter t) (lsb (c.enc (register w 0 ++ register w i)))

-- for i = 1 to m, with t = (n * j) + i
unfoldable pub pass : BlockCipher → (n j m : ℕ) → List ℕ → List ℕ
pass c n j zero w = w
pass c n j (suc m) w = step c (n * j + suc m) (suc m) (pass c n j m w)

-- for j = 0 to k - 1
unfoldable pub passes : BlockCipher → (n k : ℕ) → List ℕ → List ℕ
passes c n zero w = w
passes c n (suc k) w = pass c n k n (passes c n k w)

-- A = IV and R[i] = P[i], six passes, and A and R[i] are the output
unfoldable pub wrapped : BlockCipher → List ℕ → List ℕ
wrapped c p = passes c (length p / 8) 6 (initial ++ p)

-- ---- unwrapping (2.2.2, index form)

-- B = AES-1(K, (A ^ t) | R[i]); A = MSB(64, B); R[i] = LSB(64, B)
unfoldable pub unstep : BlockCipher → (t i : ℕ) → List ℕ → List ℕ
unstep c t i w = replaced w i (msb (c.dec ((register w 0 ⊕ counter t) ++ register w i))) (lsb (c.dec ((register w 0 ⊕ counter t) ++ register w i)))

-- for i = m to 1
unfoldable pub unpass : BlockCipher → (n j m : ℕ) → List ℕ → List ℕ
unpass c n j zero w = w
unpass c n j (suc m) w = unpass c n j m (unstep c (n * j + suc m) (suc m) w)

-- for j = k - 1 to 0
unfoldable pub unpasses : BlockCipher → (n k : ℕ) → List ℕ → List ℕ
unpasses c n zero w = w
unpasses c n (suc k) w = unpasses c n k (unpass c n k n w)

-- the registers at the end: A, which must be the initial value, and the key data
unfoldable pub unwrapped : BlockCipher → List ℕ → List ℕ
unwrapped c w = unpasses c (length w / 8 - 1) 6 w
