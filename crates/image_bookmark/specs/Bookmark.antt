-- The bytes of a bookmark (docs/IMAGE.md): numbers of four bytes and of eight, the highest byte first. Assumes nothing: these are definitions.
use Rattle.std.specs.Prelude.{ℕ, ◌+◌, ◌*◌, ◌/◌, ◌%◌, List, [], ◌∷◌, ◌++◌, take, drop}
use Rattle.octets.specs.Words.{word_at, bytes_of}
use Rattle.image_progress.specs.declared.Progress.{Progress}

-- a number of eight bytes
abbrev pub long_bytes : ℕ → List ℕ
long_bytes n = bytes_of (n / 4294967296 ∷ n % 4294967296 ∷ [])

abbrev pub long_at : List ℕ → ℕ → ℕ
long_at b at = word_at b at * 4294967296 + word_at b (at + 4)

-- ---- the parts, in bytes

-- where the check begins
abbrev pub check_from : ℕ
check_from = 40

abbrev pub bookmark_size : ℕ
bookmark_size = 56

-- what the check covers: the number expected, count, release and edition; the check accepted last; the payload bytes accepted so far
unfoldable pub front_of_lem : Progress → (bytes : ℕ) → List ℕ
front_of_lem s n = bytes_of (s.next ∷ s.count ∷ s.release ∷ s.edition ∷ []) ++ s.last ++ long_bytes n

-- how far the reader had come
unfoldable pub progress_in : List ℕ → Progress
progress_in b = record { next = word_at b 0; count = word_at b 4; release = word_at b 8; edition = word_at b 12; last = take 16 (drop 16 b) }

-- the payload bytes that it had accepted
abbrev pub bytes_in : List ℕ → ℕ
bytes_in b = long_at b 32
