-- A block of an image: where its parts are, and its header (docs/IMAGE.md). Assumes nothing: these are definitions.
use Rattle.std.specs.Prelude.{ℕ, ◌+◌, ◌*◌, ◌/◌, ◌%◌, List, [], ◌∷◌, ◌++◌, get_or}
use Rattle.octets.specs.Words.{word_at, bytes_of}
use Rattle.image_layout.specs.declared.Head.{Head}

-- ---- the parts of a block, in bytes

abbrev pub head_size : ℕ
head_size = 16

abbrev pub body_size : ℕ
body_size = 480

-- where the check begins, after header and body
abbrev pub check_at : ℕ
check_at = 496

abbrev pub block_size : ℕ
block_size = 512

-- ---- the header: numbers of four bytes and of two, the highest byte first

abbrev pub half_at : List ℕ → ℕ → ℕ
half_at b at = get_or b at 0 * 256 + get_or b (at + 1) 0

abbrev pub half_bytes : ℕ → List ℕ
half_bytes n = n / 256 % 256 ∷ n % 256 ∷ []

unfoldable pub head_of_lem : List ℕ → Head
head_of_lem b = record {
  number = word_at b 0;
  count = word_at b 4;
  release = word_at b 8;
  len = half_at b 12;
  reserved = half_at b 14;
}

unfoldable pub head_bytes_of : Head → List ℕ
head_bytes_of h = bytes_of (h.number ∷ h.count ∷ h.release ∷ []) ++ (half_bytes h.len ++ half_bytes h.reserved)
