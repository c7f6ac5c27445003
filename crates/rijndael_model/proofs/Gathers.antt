-- Columns looked up from where the shift of rows brings them are substituted, shifted and mixed. Assumes nothing.
use mathlib.Core.Path.{◌≡◌, refl, sym, ap, ◌∙◌}
use mathlib.Core.List.{List, map}
use Prim.Native.Nat.{ℕ, ◌+◌, ◌-◌, ◌*◌, ◌/◌, ◌%◌, ◌<◌}
use native.Mathlib.Nat.{mod-lt}
use native.Mathlib.Omega.{arith}
use lib.ListN.{length}
use Rattle.octets.specs.Octets.{tabulate}
use Rattle.octets.specs.Words.{byte, bytes_of}
use Rattle.octets.proofs.Fill.{length_tabulate, get_d_tabulate}
use Rattle.octets.proofs.Words.{byte_lt}
use Rattle.aes_words.specs.Columns.{diagonal, IsDiagonal, sub_mix_column}
use Rattle.aes_words.proofs.Rotate.{is_diagonal}
use Rattle.aes_mix.specs.Mixing.{row, column, mix_column, inv_mix_column, mixed_entry, inv_mixed_entry}
use Rattle.aes_mix.proofs.Spin.{sub_mix_column_mixes, sub_mix_column_mixes_back}
use Rattle.aes_spec.specs.State.{Shape, at, state, mix_at, sub_bytes, shift_rows, inv_shift_rows, mix_columns, inv_mix_columns}
use Rattle.aes_spec.proofs.State.{shift_at, inv_shift_at, at_state, is_state}
use Rattle.aes_spec.proofs.Undo.{by_row}
use Rattle.rijndael_model.specs.Model.{back, from, gathered}
use Rattle.rijndael_model.proofs.Columns.{words_length, words_octets, at_words, get_d_map, product_byte}

module _ (z : Shape) (some : 0 < z.columns) (sub : ℕ → ℕ) (s : List ℕ) (size : length s ≡ z.columns) where
  -- what stands in row r, column c, substituted and then shifted
  shifted_at : (r c : ℕ) → r < 4 → c < z.columns → at (shift_rows z (sub_bytes sub (bytes_of s))) r c ≡ sub (byte r (from z s r c))
  unfolding shift_rows sub_bytes
  shifted_at r c hr hc =
      let m = mod-lt (c + z.shift r) some in
      let k = (c + z.shift r) % z.columns in
      at_state z (shift_at z (map sub (bytes_of s))) r c hr hc
      ∙ get_d_map sub (bytes_of s) (r + 4 * k) (omega (arith, m, words_length s, size))
      ∙ ap sub (at_words s r k hr)

  -- and shifted back and then substituted
  unshifted_at : (r c : ℕ) → r < 4 → c < z.columns → at (sub_bytes sub (inv_shift_rows z (bytes_of s))) r c ≡ sub (byte r (from (back z) s r c))
  unfolding inv_shift_rows sub_bytes
  unshifted_at r c hr hc =
      let k = (c + (z.columns - z.shift r)) % z.columns in
      let l = length_tabulate (4 * z.columns) (λ i. inv_shift_at z (bytes_of s) (i % 4) (i / 4)) in
      get_d_map sub (state z (inv_shift_at z (bytes_of s))) (r + 4 * c) (omega (arith, l))
      ∙ ap sub (at_state z (inv_shift_at z (bytes_of s)) r c hr hc ∙ at_words s r k hr)

-- x has in row r, column c what the shift brings there, substituted
module _ (z : Shape) (sub : ℕ → ℕ) (lt : (k : ℕ) → k < 256 → sub k < 256) (s x : List ℕ)
    (seen : (r c : ℕ) → r < 4 → c < z.columns → at x r c ≡ sub (byte r (from z s r c))) where
  abbrev diag : ℕ → ℕ
  diag c = diagonal sub (from z s 0 c) (from z s 1 c) (from z s 2 c) (from z s 3 c)

  is_diag : (c : ℕ) → IsDiagonal sub (from z s 0 c) (from z s 1 c) (from z s 2 c) (from z s 3 c) (diag c)
  is_diag c = is_diagonal sub (from z s 0 c) (from z s 1 c) (from z s 2 c) (from z s 3 c) _ (lt _ (byte_lt 0 _)) (lt _ (byte_lt 1 _)) (lt _ (byte_lt 2 _)) (lt _ (byte_lt 3 _)) refl

  diag_at : (c : ℕ) → c < z.columns → (r : ℕ) → r < 4 → byte r (diag c) ≡ at x r c
  diag_at c hc =
      by_row (λ r. byte r (diag c) ≡ at x r c)
      ((is_diag c).first ∙ sym (seen 0 c (omega arith) hc)) ((is_diag c).second ∙ sym (seen 1 c (omega arith) hc))
      ((is_diag c).third ∙ sym (seen 2 c (omega arith) hc)) ((is_diag c).fourth ∙ sym (seen 3 c (omega arith) hc))

  -- mixed, by the matrix with any first row
  gathered_mixes : (t : ℕ → ℕ) (p q u v : ℕ)
      → ((a b c d : ℕ) → let y = diagonal sub a b c d in sub_mix_column t a b c d ≡ column (row p q u v) (byte 0 y) (byte 1 y) (byte 2 y) (byte 3 y))
      → bytes_of (gathered z t s) ≡ state z (mix_at (row p q u v) x)
  unfolding gathered
  gathered_mixes t p q u v e =
      let g : ℕ → ℕ = λ c. sub_mix_column t (from z s 0 c) (from z s 1 c) (from z s 2 c) (from z s 3 c) in
      is_state z (bytes_of (tabulate z.columns g)) (mix_at (row p q u v) x) (words_octets z.columns (tabulate z.columns g) (length_tabulate z.columns g))
      (λ r c hr hc.
      at_words (tabulate z.columns g) r c hr ∙ ap (byte r) (get_d_tabulate z.columns g c hc ∙ e (from z s 0 c) (from z s 1 c) (from z s 2 c) (from z s 3 c))
      ∙ product_byte p q u v (diag c) r hr
      ∙ rw (diag_at c hc r hr, diag_at c hc ((r + 1) % 4) (omega arith), diag_at c hc ((r + 2) % 4) (omega arith), diag_at c hc ((r + 3) % 4) (omega arith)))

pub gathered_length : (z : Shape) (t : ℕ → ℕ) (s : List ℕ) → length (gathered z t s) ≡ z.columns
unfolding gathered
gathered_length z t s = length_tabulate z.columns (λ c. sub_mix_column t (from z s 0 c) (from z s 1 c) (from z s 2 c) (from z s 3 c))

-- ---- the steps of a round

module _ (z : Shape) (some : 0 < z.columns) (sub : ℕ → ℕ) (lt : (k : ℕ) → k < 256 → sub k < 256) (t : ℕ → ℕ) (s : List ℕ) (size : length s ≡ z.columns) where
  pub gathered_forth : ((k : ℕ) → k < 256 → t k ≡ mixed_entry sub k) → bytes_of (gathered z t s) ≡ mix_columns z (shift_rows z (sub_bytes sub (bytes_of s)))
  unfolding mix_columns mix_column
  gathered_forth e =
      gathered_mixes z sub lt s (shift_rows z (sub_bytes sub (bytes_of s))) (shifted_at z some sub s size) t 2 3 1 1 (λ a b c d. sub_mix_column_mixes sub lt t a b c d e)

  -- the inverse shift is the shift of the other shape
  pub gathered_back : ((k : ℕ) → k < 256 → t k ≡ inv_mixed_entry sub k) → bytes_of (gathered (back z) t s) ≡ inv_mix_columns z (sub_bytes sub (inv_shift_rows z (bytes_of s)))
  unfolding inv_mix_columns inv_mix_column
  gathered_back e =
      gathered_mixes (back z) sub lt s (sub_bytes sub (inv_shift_rows z (bytes_of s))) (unshifted_at z some sub s size) t 14 11 13 9 (λ a b c d. sub_mix_column_mixes_back sub lt t a b c d e)
