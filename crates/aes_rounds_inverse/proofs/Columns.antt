-- What a column by its rows is. Assumes nothing.
use mathlib.Core.Path.{◌≡◌, refl, ◌∙◌}
use mathlib.Core.List.{List}
use Prim.Native.Nat.{ℕ}
use Rattle.aes_sbox.specs.Sbox.{inv_s_box}
use Rattle.aes_sbox.proofs.Laws.{inv_s_box_lt}
use Rattle.aes_mix.specs.Mixing.{inv_mix_column, inv_mixed_entry}
use Rattle.aes_mix.proofs.Spin.{sub_mix_column_mixes_back}
use Rattle.aes_model.proofs.Rows.{rows_of, rows_all}
use Rattle.aes_rounds_inverse.specs.Model.{back_from, inv_sub_shifted}

pub column_law : (t : List ℕ) (j : ℕ) → rows_of (inv_mixed_entry inv_s_box) (back_from t j) 4 ≡ inv_mix_column (inv_sub_shifted t j)
column_law t j =
    rows_all (inv_mixed_entry inv_s_box) (back_from t j)
    ∙ sub_mix_column_mixes_back inv_s_box inv_s_box_lt (inv_mixed_entry inv_s_box) (back_from t j 0) (back_from t j 1) (back_from t j 2) (back_from t j 3) (λ k h. refl)
