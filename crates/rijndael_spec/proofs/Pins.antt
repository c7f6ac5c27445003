-- What request E6 (docs/REQUIREMENTS.md) and the submission say about Rijndael in a sentence, stated of the definitions. Assumes nothing.
use mathlib.Core.Path.{◌≡◌, refl}
use mathlib.Core.List.{[], ◌∷◌}
use Prim.Native.Nat.{◌+◌}
use Rattle.octets.specs.Octets.{xor, tabulate}
use Rattle.field.specs.Field.{x_times, x_power}
use Rattle.rijndael_spec.specs.Rijndael.{shape_of, block_size, rounds_of}
use Rattle.rijndael_spec.specs.declared.Width.TheVariants.{Six, Eight}

-- the columns and the bytes of a block
pub columns_and_bytes : ((shape_of Six).columns ≡ 6) × (block_size Six ≡ 24) × ((shape_of Eight).columns ≡ 8) × (block_size Eight ≡ 32)
columns_and_bytes = (refl, refl, refl, refl)

-- the shifts of the rows
pub row_shifts : (tabulate 4 (shape_of Six).shift ≡ 0 ∷ 1 ∷ 2 ∷ 3 ∷ []) × (tabulate 4 (shape_of Eight).shift ≡ 0 ∷ 1 ∷ 3 ∷ 4 ∷ [])
row_shifts = (refl, refl)

-- the rounds for keys of 4, 6 and 8 words, by six columns, by eight, and by AES's four
pub round_numbers : (tabulate 3 (λ k. rounds_of (4 + k + k) 6) ≡ 12 ∷ 12 ∷ 14 ∷ []) × (tabulate 3 (λ k. rounds_of (4 + k + k) 8) ≡ 14 ∷ 14 ∷ 14 ∷ [])
    × (tabulate 3 (λ k. rounds_of (4 + k + k) 4) ≡ 10 ∷ 12 ∷ 14 ∷ [])
round_numbers = (refl, refl, refl)

-- key constants 11 to 29, which go on by doubling
pub constants_past_the_tenth : tabulate 19 (λ k. x_power (k + 10))
    ≡ 0x6c ∷ 0xd8 ∷ 0xab ∷ 0x4d ∷ 0x9a ∷ 0x2f ∷ 0x5e ∷ 0xbc ∷ 0x63 ∷ 0xc6 ∷ 0x97 ∷ 0x35 ∷ 0x6a ∷ 0xd4 ∷ 0xb3 ∷ 0x7d ∷ 0xfa ∷ 0xef ∷ 0xc5 ∷ []
unfolding x_power x_times xor
constants_past_the_tenth = refl
