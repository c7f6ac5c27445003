-- The steps of a round on four words are the steps on their bytes. Assumes nothing.
use mathlib.Core.Path.{◌≡◌, refl, sym}
use mathlib.Core.List.{List, [], ◌∷◌}
use Prim.Native.Nat.{ℕ, ◌+◌, ◌*◌, ◌<◌}
use native.Mathlib.Nat.{add-zero}
use lib.ListN.{length, get_or}
use Rattle.octets.specs.Octets.{xor}
use Rattle.octets.specs.Words.{word, byte, bytes_of}
use Rattle.octets.proofs.Fill.{is_tabulate}
use Rattle.octets.proofs.Words.{byte_lt, byte_xor, byte0_word, byte1_word, byte2_word, byte3_word}
use Rattle.aes_words.specs.Columns.{IsDiagonal}
use Rattle.aes_mix.specs.Mixing.{row, column, mix_column, inv_mix_column}
use Rattle.aes_mix.proofs.Mix.{row_lt}
use Rattle.aes_spec.specs.State.{aes, sub_bytes, shift_rows, inv_shift_rows, mix_columns, inv_mix_columns, add_round_key}

-- the bytes of four columns
abbrev pub four : ℕ → ℕ → ℕ → ℕ → List ℕ
four a b c d = bytes_of (a ∷ b ∷ c ∷ d ∷ [])

pub same_four : {a b c d a' b' c' d' : ℕ} → a ≡ a' → b ≡ b' → c ≡ c' → d ≡ d' → four a b c d ≡ four a' b' c' d'
same_four p q u v = rw (p, q, u, v)

bytes_word : (a b c d : ℕ) → a < 256 → b < 256 → c < 256 → d < 256 → (w : List ℕ) → bytes_of (word a b c d ∷ w) ≡ a ∷ b ∷ c ∷ d ∷ bytes_of w
unfolding bytes_of
bytes_word a b c d ha hb hc hd w = rw (byte0_word a b c d, byte1_word a b c d, byte2_word a b c d, byte3_word a b c d)

-- ---- adding a round key

pub add_law : (w : List ℕ) (n a b c d : ℕ)
    → four (xor a (get_or w (4 * n) 0)) (xor b (get_or w (4 * n + 1) 0)) (xor c (get_or w (4 * n + 2) 0)) (xor d (get_or w (4 * n + 3) 0))
    ≡ add_round_key aes w n (four a b c d)
unfolding add_round_key bytes_of
add_law w n a b c d = simp (byte_xor 0, byte_xor 1, byte_xor 2, byte_xor 3, add-zero)

-- ---- substituting and shifting, both ways

module _ (sub : ℕ → ℕ) (a b c d : ℕ) {p q u v : ℕ} where
  pub sub_shift_law : IsDiagonal sub a b c d p → IsDiagonal sub b c d a q → IsDiagonal sub c d a b u → IsDiagonal sub d a b c v
      → four p q u v ≡ shift_rows aes (sub_bytes sub (four a b c d))
  unfolding shift_rows sub_bytes bytes_of
  sub_shift_law e f g h =
      rw (
        e.first,
        e.second,
        e.third,
        e.fourth,
        f.first,
        f.second,
        f.third,
        f.fourth,
        g.first,
        g.second,
        g.third,
        g.fourth,
        h.first,
        h.second,
        h.third,
        h.fourth,
      )

  pub inv_sub_shift_law : IsDiagonal sub a d c b p → IsDiagonal sub b a d c q → IsDiagonal sub c b a d u → IsDiagonal sub d c b a v
      → four p q u v ≡ sub_bytes sub (inv_shift_rows aes (four a b c d))
  unfolding inv_shift_rows sub_bytes bytes_of
  inv_sub_shift_law e f g h =
      rw (
        e.first,
        e.second,
        e.third,
        e.fourth,
        f.first,
        f.second,
        f.third,
        f.fourth,
        g.first,
        g.second,
        g.third,
        g.fourth,
        h.first,
        h.second,
        h.third,
        h.fourth,
      )

-- ---- mixing, both ways

module _ (p q u v : ℕ) where
  bytes_column : (x : ℕ) (w : List ℕ) → bytes_of (column (row p q u v) (byte 0 x) (byte 1 x) (byte 2 x) (byte 3 x) ∷ w)
      ≡ row p q u v (byte 0 x) (byte 1 x) (byte 2 x) (byte 3 x) ∷ row p q u v (byte 1 x) (byte 2 x) (byte 3 x) (byte 0 x)
      ∷ row p q u v (byte 2 x) (byte 3 x) (byte 0 x) (byte 1 x) ∷ row p q u v (byte 3 x) (byte 0 x) (byte 1 x) (byte 2 x) ∷ bytes_of w
  unfolding column
  bytes_column x w =
      let a = byte_lt 0 x in
      let b = byte_lt 1 x in
      let c = byte_lt 2 x in
      let d = byte_lt 3 x in
      bytes_word _ _ _ _ (row_lt p q u v a b c d) (row_lt p q u v b c d a) (row_lt p q u v c d a b) (row_lt p q u v d a b c) w

pub mix_law : (a b c d : ℕ) → four (mix_column a) (mix_column b) (mix_column c) (mix_column d) ≡ mix_columns aes (four a b c d)
unfolding mix_column mix_columns bytes_of
mix_law a b c d = rw (bytes_column 2 3 1 1 a, bytes_column 2 3 1 1 b, bytes_column 2 3 1 1 c, bytes_column 2 3 1 1 d)

pub inv_mix_law : (a b c d : ℕ) → four (inv_mix_column a) (inv_mix_column b) (inv_mix_column c) (inv_mix_column d) ≡ inv_mix_columns aes (four a b c d)
unfolding inv_mix_column inv_mix_columns bytes_of
inv_mix_law a b c d = rw (bytes_column 14 11 13 9 a, bytes_column 14 11 13 9 b, bytes_column 14 11 13 9 c, bytes_column 14 11 13 9 d)

-- ---- a block loaded

pub load_law : (s : List ℕ) → length s ≡ 16 → ((k : ℕ) → get_or s k 0 < 256)
    → four (word (get_or s 0 0) (get_or s 1 0) (get_or s 2 0) (get_or s 3 0)) (word (get_or s 4 0) (get_or s 5 0) (get_or s 6 0) (get_or s 7 0))
    (word (get_or s 8 0) (get_or s 9 0) (get_or s 10 0) (get_or s 11 0)) (word (get_or s 12 0) (get_or s 13 0) (get_or s 14 0) (get_or s 15 0)) ≡ s
unfolding bytes_of
load_law s e lt =
    rw (
      bytes_word (get_or s 0 0) (get_or s 1 0) (get_or s 2 0) (get_or s 3 0) (lt 0) (lt 1) (lt 2) (lt 3),
      bytes_word (get_or s 4 0) (get_or s 5 0) (get_or s 6 0) (get_or s 7 0) (lt 4) (lt 5) (lt 6) (lt 7),
      bytes_word (get_or s 8 0) (get_or s 9 0) (get_or s 10 0) (get_or s 11 0) (lt 8) (lt 9) (lt 10) (lt 11),
      bytes_word (get_or s 12 0) (get_or s 13 0) (get_or s 14 0) (get_or s 15 0) (lt 12) (lt 13) (lt 14) (lt 15),
    )
    (sym (is_tabulate 16 (λ k. get_or s k 0) s e (λ k h. refl)))
