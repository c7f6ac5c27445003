-- Where a block's bit is in the map, in the words of request E11 (docs/REQUIREMENTS.md), stated of the definitions. Assumes nothing.
use mathlib.Core.Path.{◌≡◌, refl}
use mathlib.Core.List.{List}
use Prim.Native.Nat.{ℕ, ◌+◌, ◌/◌, ◌%◌}
use lib.ListN.{get_or}
use Rattle.image_receiver_map.specs.Map.{map_size, worth, bit_of, bit}

-- bit 0 is the lowest
pub worths : (worth 0 ≡ 1) × (worth 1 ≡ 2) × (worth 2 ≡ 4) × (worth 3 ≡ 8) × (worth 4 ≡ 16) × (worth 5 ≡ 32) × (worth 6 ≡ 64) × (worth 7 ≡ 128)
worths = (refl, refl, refl, refl, refl, refl, refl, refl)

-- bit n mod 8 of byte n / 8
pub bit_of_a_block : (m : List ℕ) (n : ℕ) → bit m n ≡ get_or m (n / 8) 0 / worth (n % 8) % 2
unfolding bit bit_of
bit_of_a_block m n = refl

-- one bit a block
pub one_bit_a_block : (count : ℕ) → map_size count ≡ (count + 7) / 8
one_bit_a_block count = refl
