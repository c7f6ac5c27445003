-- The hand cases of docs/REQUIREMENTS.md, R46, as one table with one claim about all of its rows. Assumes nothing.
use mathlib.Core.Bool.{cond}
use mathlib.Core.Path.{◌≡◌, refl}
use mathlib.Core.List.{List, [], ◌∷◌, ◌++◌, map}
use Prim.Native.Nat.{ℕ}
use lib.Dec.{eqb}
use lib.ListN.{get_or, replicate}
use Rattle.octets.specs.Octets.{xor, tabulate}
use Rattle.octets.specs.Words.{word}
use Rattle.field.specs.Field.{x_times, x_power, product_within, ◌•◌}
use Rattle.aes_sbox.specs.Sbox.{square, power_within, inverse, bit, from_bits, affine, inv_affine, s_box, inv_s_box}
use Rattle.aes_words.specs.Columns.{rot_word, diagonal}
use Rattle.aes_mix.specs.Mixing.{row}
use Rattle.aes_expand.specs.Expansion.{r_con, temp, next_word}
use Rattle.aes_spec.specs.State.{aes, at, state, shift_rows, mix_columns, inv_mix_columns}
use Rattle.cmac_spec.specs.Cmac.{shifted, doubled}

-- what a definition gives, and what the document has
pub record Case : Type 0 where
  pub given : List ℕ
  pub wanted : List ℕ

abbrev gives : List ℕ → List ℕ → Case
gives x y = record { given = x; wanted = y }

-- a state whose first column this is, and its first column
abbrev as_column : List ℕ → List ℕ
as_column s = state aes (λ r c. cond (eqb c 0) (get_or s r 0) 0)

abbrev first_column : List ℕ → List ℕ
first_column s = tabulate 4 (λ r. at s r 0)

-- a state whose row in place 1 this is, and that row
abbrev as_row : List ℕ → List ℕ
as_row s = state aes (λ r c. cond (eqb r 1) (get_or s c 0) 0)

abbrev row_one : List ℕ → List ℕ
row_one s = tabulate 4 (λ c. at s 1 c)

-- for any byte a
pub hand_cases : ℕ → List Case
hand_cases a =
    gives ((0x57 • 0x13) ∷ (0x57 • 0x10) ∷ []) (0xfe ∷ 0x07 ∷ [])
    ∷ gives ((0x6b • 0x02) ∷ (a • 0x00) ∷ []) (0xd6 ∷ 0x00 ∷ [])
    ∷ gives (s_box 0x00 ∷ s_box 0x2a ∷ s_box 0x6a ∷ []) (0x63 ∷ 0xe5 ∷ 0x02 ∷ [])
    ∷ gives (inv_s_box 0x02 ∷ []) (0x6a ∷ [])
    ∷ gives (next_word s_box [] 4 (replicate 16 0 ++ (0x2f563ac5 ∷ 0x78bbde47 ∷ 0x14f523d7 ∷ 0xa8cfe235 ∷ [])) 20 ∷ []) (0xb5ceac07 ∷ [])
    ∷ gives (first_column (mix_columns aes (as_column (0xc9 ∷ 0xc5 ∷ 0x63 ∷ 0x23 ∷ [])))) (0x9d ∷ 0xde ∷ 0xaf ∷ 0xa0 ∷ [])
    ∷ gives (first_column (inv_mix_columns aes (as_column (0x9d ∷ 0xde ∷ 0xaf ∷ 0xa0 ∷ [])))) (0xc9 ∷ 0xc5 ∷ 0x63 ∷ 0x23 ∷ [])
    ∷ gives (row_one (shift_rows aes (as_row (0x6e ∷ 0x63 ∷ 0x96 ∷ 0x48 ∷ [])))) (0x63 ∷ 0x96 ∷ 0x48 ∷ 0x6e ∷ [])
    ∷ gives (doubled (0x80 ∷ replicate 15 0x00)) (replicate 15 0x00 ++ (0x87 ∷ []))
    ∷ gives (doubled (replicate 15 0x00 ++ (0x01 ∷ []))) (replicate 15 0x00 ++ (0x02 ∷ []))
    ∷ []

pub hand_cases_hold : (a : ℕ) → map (λ (c : Case). c.given) (hand_cases a) ≡ map (λ (c : Case). c.wanted) (hand_cases a)
unfolding hand_cases xor word x_times x_power product_within ◌•◌ square power_within inverse bit from_bits affine inv_affine s_box inv_s_box rot_word diagonal row r_con temp next_word shift_rows mix_columns inv_mix_columns shifted doubled
hand_cases_hold a = refl
