-- A round on four words is the standard's on their bytes. Assumes nothing.
use mathlib.Core.Path.{◌≡◌, refl, sym, ap, ◌∙◌}
use mathlib.Core.List.{List, [], ◌∷◌}
use Prim.Native.Nat.{ℕ, zero, suc, ◌-◌, ◌/◌, ◌%◌, ◌<◌}
use native.Mathlib.Nat.{not-suc-le-zero}
use native.Mathlib.Numerals.{sub-one}
use lib.ListN.{length, get_or}
use Rattle.octets.specs.Octets.{tabulate}
use Rattle.octets.specs.Words.{byte, bytes_of}
use Rattle.octets.proofs.Fill.{is_tabulate}
use Rattle.aes_sbox.specs.Sbox.{s_box}
use Rattle.aes_sbox.proofs.Laws.{s_box_lt}
use Rattle.aes_mix.specs.Mixing.{mix_column}
use Rattle.aes_spec.specs.State.{aes, sub_bytes, shift_rows, mix_columns, add_round_key}
use Rattle.aes_spec.specs.Cipher.{one_round, rounds}
use Rattle.aes_state.proofs.Keyed.{words_four, substituted, keyed, keyed_law}
use Rattle.aes_state.proofs.ByColumns.{four, sub_shift_law, mix_law}
use Rattle.aes_rounds.specs.Model.{from, sub_shifted}

-- substituted and shifted, all four columns
pub shifted_law : (t : List ℕ) → length t ≡ 4
    → four (sub_shifted t 0) (sub_shifted t 1) (sub_shifted t 2) (sub_shifted t 3) ≡ shift_rows aes (sub_bytes s_box (bytes_of t))
shifted_law t e =
    let a = get_or t 0 0 in
    let b = get_or t 1 0 in
    let c = get_or t 2 0 in
    let d = get_or t 3 0 in
    sub_shift_law s_box a b c d (substituted s_box s_box_lt a b c d) (substituted s_box s_box_lt b c d a) (substituted s_box s_box_lt c d a b) (substituted s_box s_box_lt d a b c)
    ∙ ap (λ (x : List ℕ). shift_rows aes (sub_bytes s_box x)) (words_four t e)

pub round_law : (w : List ℕ) (n : ℕ) (t r : List ℕ) → length t ≡ 4 → r ≡ tabulate 4 (keyed w n (λ j. mix_column (sub_shifted t j))) → bytes_of r ≡ one_round aes s_box w n (bytes_of t)
unfolding one_round
round_law w n t r e f =
    ap bytes_of f
    ∙ keyed_law w n (λ j. mix_column (sub_shifted t j))
    ∙ ap (add_round_key aes w n) (mix_law (sub_shifted t 0) (sub_shifted t 1) (sub_shifted t 2) (sub_shifted t 3) ∙ ap (mix_columns aes) (shifted_law t e))

-- ---- the rounds one after the other

module _ (w s : List ℕ) where
  pub rounds_none : s ≡ rounds aes s_box w 0 s
  unfolding rounds
  rounds_none = refl

  pub rounds_next : (n : ℕ) → 0 < n → one_round aes s_box w n (rounds aes s_box w (n - 1) s) ≡ rounds aes s_box w n s
  unfolding rounds
  rounds_next zero h = absurd (not-suc-le-zero h)
  rounds_next (suc n) h = rw (sub-one (suc n))

-- ---- the last round

-- byte m of the last round but for its key
pub last_byte : List ℕ → ℕ → ℕ
last_byte t m = s_box (byte (m % 4) (from t (m / 4) (m % 4)))

pub last_byte_is : (t : List ℕ) (m r : ℕ) → r ≡ s_box (byte (m % 4) (from t (m / 4) (m % 4))) → r ≡ last_byte t m
unfolding last_byte
last_byte_is t m r e = e

last_four : (a b c d : ℕ) → tabulate 16 (last_byte (a ∷ b ∷ c ∷ d ∷ [])) ≡ shift_rows aes (sub_bytes s_box (bytes_of (a ∷ b ∷ c ∷ d ∷ [])))
unfolding last_byte shift_rows sub_bytes bytes_of
last_four a b c d = refl

pub last_law : (t : List ℕ) → length t ≡ 4 → tabulate 16 (last_byte t) ≡ shift_rows aes (sub_bytes s_box (bytes_of t))
last_law t e =
    let f : t ≡ get_or t 0 0 ∷ get_or t 1 0 ∷ get_or t 2 0 ∷ get_or t 3 0 ∷ [] = is_tabulate 4 (λ k. get_or t k 0) t e (λ k h. refl) in
    ap (λ (x : List ℕ). tabulate 16 (last_byte x)) f
    ∙ last_four (get_or t 0 0) (get_or t 1 0) (get_or t 2 0) (get_or t 3 0)
    ∙ ap (λ (x : List ℕ). shift_rows aes (sub_bytes s_box (bytes_of x))) (sym f)
