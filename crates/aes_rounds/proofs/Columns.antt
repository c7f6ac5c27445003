-- What a column by its rows is. Assumes nothing.
use mathlib.Core.Path.{◌≡◌, refl, ◌∙◌}
use mathlib.Core.List.{List}
use Prim.Native.Nat.{ℕ}
use Rattle.aes_sbox.specs.Sbox.{s_box}
use Rattle.aes_sbox.proofs.Laws.{s_box_lt}
use Rattle.aes_mix.specs.Mixing.{mix_column, mixed_entry}
use Rattle.aes_mix.proofs.Spin.{sub_mix_column_mixes}
use Rattle.aes_model.proofs.Rows.{rows_of, rows_all}
use Rattle.aes_rounds.specs.Model.{from, sub_shifted}

pub column_law : (t : List ℕ) (j : ℕ) → rows_of (mixed_entry s_box) (from t j) 4 ≡ mix_column (sub_shifted t j)
column_law t j =
    rows_all (mixed_entry s_box) (from t j)
    ∙ sub_mix_column_mixes s_box s_box_lt (mixed_entry s_box) (from t j 0) (from t j 1) (from t j 2) (from t j 3) (λ k h. refl)
