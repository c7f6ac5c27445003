-- A round on four words is the standard's on their bytes. Assumes nothing.
use mathlib.Core.Path.{◌≡◌, refl, sym, ap, ◌∙◌}
use mathlib.Core.List.{List, [], ◌∷◌}
use Prim.Native.Nat.{ℕ, zero, suc, ◌-◌, ◌/◌, ◌%◌, ◌<◌}
use native.Mathlib.Nat.{not-suc-le-zero}
use native.Mathlib.Numerals.{sub-one}
use lib.ListN.{length, get_or}
use Rattle.octets.specs.Octets.{tabulate}
use Rattle.octets.specs.Words.{byte, bytes_of}
use Rattle.octets.proofs.Fill.{is_tabulate}
use Rattle.aes_sbox.specs.Sbox.{inv_s_box}
use Rattle.aes_sbox.proofs.Laws.{inv_s_box_lt}
use Rattle.aes_mix.specs.Mixing.{inv_mix_column}
use Rattle.aes_spec.specs.State.{aes, sub_bytes, inv_shift_rows, inv_mix_columns, add_round_key}
use Rattle.aes_spec.specs.Model.{eq_round, eq_rounds}
use Rattle.aes_state.proofs.Keyed.{words_four, substituted, keyed, keyed_law}
use Rattle.aes_state.proofs.ByColumns.{four, inv_sub_shift_law, inv_mix_law}
use Rattle.aes_rounds_inverse.specs.Model.{back_from, inv_sub_shifted}

-- substituted and shifted back, all four columns
pub shifted_law : (t : List ℕ) → length t ≡ 4
    → four (inv_sub_shifted t 0) (inv_sub_shifted t 1) (inv_sub_shifted t 2) (inv_sub_shifted t 3) ≡ sub_bytes inv_s_box (inv_shift_rows aes (bytes_of t))
shifted_law t e =
    let a = get_or t 0 0 in
    let b = get_or t 1 0 in
    let c = get_or t 2 0 in
    let d = get_or t 3 0 in
    inv_sub_shift_law inv_s_box a b c d (substituted inv_s_box inv_s_box_lt a d c b) (substituted inv_s_box inv_s_box_lt b a d c) (substituted inv_s_box inv_s_box_lt c b a d) (substituted inv_s_box inv_s_box_lt d c b a)
    ∙ ap (λ (x : List ℕ). sub_bytes inv_s_box (inv_shift_rows aes x)) (words_four t e)

pub round_law : (w : List ℕ) (n : ℕ) (t r : List ℕ) → length t ≡ 4 → r ≡ tabulate 4 (keyed w n (λ j. inv_mix_column (inv_sub_shifted t j))) → bytes_of r ≡ eq_round aes inv_s_box w n (bytes_of t)
unfolding eq_round
round_law w n t r e f =
    ap bytes_of f
    ∙ keyed_law w n (λ j. inv_mix_column (inv_sub_shifted t j))
    ∙ ap (add_round_key aes w n) (inv_mix_law (inv_sub_shifted t 0) (inv_sub_shifted t 1) (inv_sub_shifted t 2) (inv_sub_shifted t 3) ∙ ap (inv_mix_columns aes) (shifted_law t e))

-- ---- the rounds one after the other

module _ (w s : List ℕ) where
  pub rounds_none : eq_rounds aes inv_s_box w 0 s ≡ s
  unfolding eq_rounds
  rounds_none = refl

  pub rounds_next : (n : ℕ) → 0 < n → eq_rounds aes inv_s_box w (n - 1) (eq_round aes inv_s_box w n s) ≡ eq_rounds aes inv_s_box w n s
  unfolding eq_rounds
  rounds_next zero h = absurd (not-suc-le-zero h)
  rounds_next (suc n) h = rw (sub-one (suc n))

-- ---- the last round

-- byte m of the last round but for its key
pub last_byte : List ℕ → ℕ → ℕ
last_byte t m = inv_s_box (byte (m % 4) (back_from t (m / 4) (m % 4)))

pub last_byte_is : (t : List ℕ) (m r : ℕ) → r ≡ inv_s_box (byte (m % 4) (back_from t (m / 4) (m % 4))) → r ≡ last_byte t m
unfolding last_byte
last_byte_is t m r e = e

last_four : (a b c d : ℕ) → tabulate 16 (last_byte (a ∷ b ∷ c ∷ d ∷ [])) ≡ sub_bytes inv_s_box (inv_shift_rows aes (bytes_of (a ∷ b ∷ c ∷ d ∷ [])))
unfolding last_byte inv_shift_rows sub_bytes bytes_of
last_four a b c d = refl

pub last_law : (t : List ℕ) → length t ≡ 4 → tabulate 16 (last_byte t) ≡ sub_bytes inv_s_box (inv_shift_rows aes (bytes_of t))
last_law t e =
    let f : t ≡ get_or t 0 0 ∷ get_or t 1 0 ∷ get_or t 2 0 ∷ get_or t 3 0 ∷ [] = is_tabulate 4 (λ k. get_or t k 0) t e (λ k h. refl) in
    ap (λ (x : List ℕ). tabulate 16 (last_byte x)) f
    ∙ last_four (get_or t 0 0) (get_or t 1 0) (get_or t 2 0) (get_or t 3 0)
    ∙ ap (λ (x : List ℕ). sub_bytes inv_s_box (inv_shift_rows aes (bytes_of x))) (sym f)
