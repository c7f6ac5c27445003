-- The map of the blocks that a receiver holds: a bit for each (docs/IMAGE.md). Assumes nothing: these are definitions.
use Rattle.std.specs.Prelude.{ℕ, zero, suc, ◌+◌, ◌/◌, ◌%◌, min, Bool, cond, List, ◌++◌, eqb, length, get_or, set, drop, replicate}

-- how many bytes hold so many bits
abbrev pub map_size : ℕ → ℕ
map_size count = (count + 7) / 8

-- what bit k of a byte is worth, 0 the lowest
abbrev pub worth : ℕ → ℕ
worth zero = 1
worth (suc zero) = 2
worth (suc (suc zero)) = 4
worth (suc (suc (suc zero))) = 8
worth (suc (suc (suc (suc zero)))) = 16
worth (suc (suc (suc (suc (suc zero))))) = 32
worth (suc (suc (suc (suc (suc (suc zero)))))) = 64
worth (suc (suc (suc (suc (suc (suc (suc k))))))) = 128

-- bit k of a byte, 0 or 1
unfoldable pub bit_of : (byte k : ℕ) → ℕ
bit_of byte k = byte / worth k % 2

-- the byte with bit k set
unfoldable pub with_bit : (byte k : ℕ) → ℕ
with_bit byte k = cond (eqb (bit_of byte k) 1) byte (byte + worth k)

-- bit n of a map, 0 past its end
unfoldable pub bit : List ℕ → ℕ → ℕ
bit m n = bit_of (get_or m (n / 8) 0) (n % 8)

abbrev pub bit_at : List ℕ → ℕ → Bool
bit_at m n = eqb (bit m n) 1

-- the map with bit n set; the map as it is if it ends before
unfoldable pub bit_put : List ℕ → ℕ → List ℕ
bit_put m n = set m (n / 8) (with_bit (get_or m (n / 8) 0) (n % 8))

-- the map with its first bytes cleared, as many as there are
unfoldable pub cleared : ℕ → List ℕ → List ℕ
cleared size m = replicate (min size (length m)) 0 ++ drop (min size (length m)) m

-- how many of the bits below a number are set
unfoldable pub bits_below : List ℕ → ℕ → ℕ
bits_below m zero = 0
bits_below m (suc n) = bits_below m n + bit m n
