-- Rijndael by its submission, over any shape, and its blocks of 24 and 32 bytes. Assumes nothing: these are definitions.
use Rattle.std.specs.Prelude.{ℕ, zero, suc, ◌+◌, ◌*◌, ◌/◌, max, Bool, ◌||◌, cond, List, eqb, length, replicate}
use Rattle.octets.specs.Octets.{pad_to}
use Rattle.octets.specs.Blocks.{BlockCipher}
use Rattle.aes_sbox.specs.Sbox.{s_box, inv_s_box}
use Rattle.aes_expand.specs.Expansion.{key_expansion}
use Rattle.aes_spec.specs.State.{Shape}
use Rattle.aes_spec.specs.Cipher.{cipher, inv_cipher}
use Rattle.rijndael_spec.specs.declared.Width.{Width}
use Rattle.rijndael_spec.specs.declared.Width.TheVariants.{Six, Eight}

-- how far the rows are shifted where there are eight columns: 0 1 3 4 (source document 002, table 3)
abbrev pub shift_of_eight : ℕ → ℕ
shift_of_eight zero = 0
shift_of_eight (suc zero) = 1
shift_of_eight (suc (suc zero)) = 3
shift_of_eight (suc (suc (suc r))) = 4

-- six columns, whose rows are shifted by 0 1 2 3; and eight (document 02, E6)
abbrev pub shape_of : Width → Shape
shape_of Six = record { columns = 6; shift = λ r. r }
shape_of Eight = record { columns = 8; shift = shift_of_eight }

-- the bytes of a block: four in each column
abbrev pub block_size : Width → ℕ
block_size v = 4 * (shape_of v).columns

-- Nk, the words of a key
abbrev pub key_words : List ℕ → ℕ
key_words key = length key / 4

-- Nr, from Nk and Nb: 6 plus the larger of both (document 02, E6)
abbrev pub rounds_of : ℕ → ℕ → ℕ
rounds_of nk nb = 6 + max nk nb

-- the words of the round keys: Nb (Nr + 1) of them
unfoldable pub expanded : Shape → List ℕ → List ℕ
expanded z key = key_expansion s_box key (key_words key) (z.columns * (rounds_of (key_words key) z.columns + 1))

-- Rijndael under a key: the cipher of FIPS 197 over another shape
abbrev pub rijndael : Shape → List ℕ → BlockCipher
rijndael z key = record {
  enc = cipher z s_box (expanded z key) (rounds_of (key_words key) z.columns);
  dec = inv_cipher z inv_s_box (expanded z key) (rounds_of (key_words key) z.columns);
}

-- the bytes that a key may have (document 01)
abbrev pub takes_key : ℕ → Bool
takes_key n = eqb n 16 || (eqb n 24 || eqb n 32)

-- ---- under a schedule of 120 words, as many as the widest has

-- the schedule of a key: its words and zeros past the last, and its number of rounds; zeros where the key is refused
unfoldable pub wide_words : Width → List ℕ → List ℕ
wide_words v key = cond (takes_key (length key)) (pad_to 120 (expanded (shape_of v) key)) (replicate 120 0)

unfoldable pub wide_rounds : Width → List ℕ → ℕ
wide_rounds v key = cond (takes_key (length key)) (rounds_of (key_words key) (shape_of v).columns) 0

-- the numbers of rounds that a key can give
abbrev pub wide_round_count : Width → ℕ → Bool
wide_round_count Six nr = eqb nr 12 || eqb nr 14
wide_round_count Eight nr = eqb nr 14

-- one block: zeros where the number of rounds is none that a key gives
unfoldable pub wide_encrypt : Width → List ℕ → ℕ → List ℕ → List ℕ
wide_encrypt v w nr b = cond (wide_round_count v nr) (cipher (shape_of v) s_box w nr b) (replicate (block_size v) 0)

unfoldable pub wide_decrypt : Width → List ℕ → ℕ → List ℕ → List ℕ
wide_decrypt v w nr b = cond (wide_round_count v nr) (inv_cipher (shape_of v) inv_s_box w nr b) (replicate (block_size v) 0)
