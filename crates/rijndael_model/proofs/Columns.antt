-- A list of words by the rows and columns of its bytes. Assumes nothing.
use mathlib.Core.Path.{◌≡◌, refl, sym, ap, ◌∙◌}
use mathlib.Core.List.{List, [], ◌∷◌, map}
use Prim.Native.Nat.{ℕ, zero, suc, ◌+◌, ◌*◌, ◌%◌, ◌<◌}
use native.Mathlib.Nat.{zero-lt-suc}
use native.Mathlib.Omega.{arith}
use lib.ListN.{length, get_or, take, length-map}
use lib.Seq.{get_or-take}
use Rattle.octets.specs.Octets.{xor, tabulate, Bytes, Octets}
use Rattle.octets.specs.Words.{byte, bytes_of}
use Rattle.octets.proofs.Fill.{length_tabulate, get_d_tabulate, is_tabulate}
use Rattle.octets.proofs.Words.{byte_lt, byte_xor, byte0_word, byte1_word, byte2_word, byte3_word}
use Rattle.aes_mix.specs.Mixing.{row, column, mix_column, inv_mix_column}
use Rattle.aes_mix.proofs.Mix.{row_lt}
use Rattle.aes_spec.specs.State.{Shape, at, state, mix_at, mix_columns, inv_mix_columns, add_round_key}
use Rattle.aes_spec.proofs.State.{is_state}
use Rattle.aes_spec.proofs.Undo.{by_row}
use Rattle.rijndael_model.specs.Model.{key_added}

words_bytes : (w : List ℕ) → Bytes (bytes_of w)
unfolding bytes_of
words_bytes [] k = zero-lt-suc 255
words_bytes (x ∷ w) zero = byte_lt 0 x
words_bytes (x ∷ w) (suc zero) = byte_lt 1 x
words_bytes (x ∷ w) (suc (suc zero)) = byte_lt 2 x
words_bytes (x ∷ w) (suc (suc (suc zero))) = byte_lt 3 x
words_bytes (x ∷ w) (suc (suc (suc (suc k)))) = words_bytes w k

pub words_length : (w : List ℕ) → length (bytes_of w) ≡ 4 * length w
unfolding bytes_of
words_length [] = refl
words_length (x ∷ w) = let e = words_length w in omega arith

pub words_octets : (n : ℕ) (w : List ℕ) → length w ≡ n → Octets (4 * n) (bytes_of w)
words_octets n w e = record { size = words_length w ∙ ap (4 *◌) e; bytes = words_bytes w }

byte_zero : (r : ℕ) → byte r 0 ≡ 0
byte_zero zero = refl
byte_zero (suc zero) = refl
byte_zero (suc (suc zero)) = refl
byte_zero (suc (suc (suc r))) = refl

pub at_words : (w : List ℕ) (r c : ℕ) → r < 4 → at (bytes_of w) r c ≡ byte r (get_or w c 0)
unfolding bytes_of
at_words [] r c h = sym (byte_zero r)
at_words (x ∷ w) r zero h = by_row (λ r. at (bytes_of (x ∷ w)) r 0 ≡ byte r x) refl refl refl refl r h
at_words (x ∷ w) r (suc c) h =
    let e : r + 4 * suc c ≡ suc (suc (suc (suc (r + 4 * c)))) = omega arith in
    ap (λ (k : ℕ). get_or (bytes_of (x ∷ w)) k 0) e ∙ at_words w r c h

pub get_d_map : (f : ℕ → ℕ) (s : List ℕ) (k : ℕ) → k < length s → get_or (map f s) k 0 ≡ f (get_or s k 0)
get_d_map f [] k h = absurd (omega arith)
get_d_map f (x ∷ s) zero h = refl
get_d_map f (x ∷ s) (suc k) h = get_d_map f s k (omega arith)

-- ---- adding a key

pub added_length : (z : Shape) (w : List ℕ) (n : ℕ) (s : List ℕ) → length (key_added z w n s) ≡ z.columns
unfolding key_added
added_length z w n s = length_tabulate z.columns (λ c. xor (get_or s c 0) (get_or w (z.columns * n + c) 0))

pub key-added : (z : Shape) (w : List ℕ) (n : ℕ) (s : List ℕ) → bytes_of (key_added z w n s) ≡ add_round_key z w n (bytes_of s)
unfolding key_added add_round_key
key-added z w n s =
    let f : ℕ → ℕ = λ c. xor (get_or s c 0) (get_or w (z.columns * n + c) 0) in
    is_state z (bytes_of (tabulate z.columns f)) (λ r c. xor (at (bytes_of s) r c) (byte r (get_or w (z.columns * n + c) 0)))
    (words_octets z.columns (tabulate z.columns f) (length_tabulate z.columns f))
    (λ r c hr hc.
    at_words (tabulate z.columns f) r c hr
    ∙ ap (byte r) (get_d_tabulate z.columns f c hc)
    ∙ byte_xor r (get_or s c 0) (get_or w (z.columns * n + c) 0)
    ∙ ap (λ (x : ℕ). xor x (byte r (get_or w (z.columns * n + c) 0))) (sym (at_words s r c hr)))

-- only the columns of the block count
pub key_front : (z : Shape) (w : List ℕ) (n : ℕ) (s : List ℕ) → key_added z w n s ≡ key_added z w n (take z.columns s)
unfolding key_added
key_front z w n s =
    let m = z.columns in
    let f : ℕ → ℕ = λ c. xor (get_or s c 0) (get_or w (m * n + c) 0) in
    let g : ℕ → ℕ = λ c. xor (get_or (take m s) c 0) (get_or w (m * n + c) 0) in
    is_tabulate m g (tabulate m f) (length_tabulate m f)
    (λ k h. get_d_tabulate m f k h ∙ ap (λ (x : ℕ). xor x (get_or w (m * n + k) 0)) (sym (get_or-take m s k 0 h)))

-- ---- every column mixed

module _ (p q u v : ℕ) where
  abbrev product : ℕ → ℕ
  product x = column (row p q u v) (byte 0 x) (byte 1 x) (byte 2 x) (byte 3 x)

  pub product_byte : (x r : ℕ) → r < 4 → byte r (product x) ≡ row p q u v (byte r x) (byte ((r + 1) % 4) x) (byte ((r + 2) % 4) x) (byte ((r + 3) % 4) x)
  unfolding column
  product_byte x =
      let a = byte_lt 0 x in
      let b = byte_lt 1 x in
      let c = byte_lt 2 x in
      let d = byte_lt 3 x in
      let l0 = row_lt p q u v a b c d in
      let l1 = row_lt p q u v b c d a in
      let l2 = row_lt p q u v c d a b in
      let l3 = row_lt p q u v d a b c in
      by_row (λ r. byte r (product x) ≡ row p q u v (byte r x) (byte ((r + 1) % 4) x) (byte ((r + 2) % 4) x) (byte ((r + 3) % 4) x))
      (byte0_word _ _ _ _ l0 l1 l2 l3) (byte1_word _ _ _ _ l0 l1 l2 l3) (byte2_word _ _ _ _ l0 l1 l2 l3) (byte3_word _ _ _ _ l0 l1 l2 l3)

  columns_mixed : (z : Shape) (w : List ℕ) → length w ≡ z.columns → bytes_of (map product w) ≡ state z (mix_at (row p q u v) (bytes_of w))
  columns_mixed z w e =
      is_state z (bytes_of (map product w)) (mix_at (row p q u v) (bytes_of w)) (words_octets z.columns (map product w) (length-map w product ∙ e))
      (λ r c hr hc.
      at_words (map product w) r c hr ∙ ap (byte r) (get_d_map product w c (omega arith)) ∙ product_byte (get_or w c 0) r hr
      ∙ rw (at_words w r c hr, at_words w ((r + 1) % 4) c (omega arith), at_words w ((r + 2) % 4) c (omega arith), at_words w ((r + 3) % 4) c (omega arith)))

pub mixed_columns : (z : Shape) (w : List ℕ) → length w ≡ z.columns → bytes_of (map mix_column w) ≡ mix_columns z (bytes_of w)
unfolding mix_column mix_columns
mixed_columns z w e = columns_mixed 2 3 1 1 z w e

pub mixed_columns_back : (z : Shape) (w : List ℕ) → length w ≡ z.columns → bytes_of (map inv_mix_column w) ≡ inv_mix_columns z (bytes_of w)
unfolding inv_mix_column inv_mix_columns
mixed_columns_back z w e = columns_mixed 14 11 13 9 z w e
