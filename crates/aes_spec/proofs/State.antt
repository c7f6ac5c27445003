-- States by their rows and columns, for any shape; every step of a round gives bytes. Assumes nothing.
use mathlib.Core.Path.{◌≡◌, refl, ap, ◌∙◌}
use mathlib.Core.List.{List, [], ◌∷◌, map}
use Prim.Native.Nat.{ℕ, zero, suc, ◌+◌, ◌-◌, ◌*◌, ◌/◌, ◌%◌, ◌≤◌, ◌<◌}
use native.Mathlib.Nat.{zero-lt-suc}
use native.Mathlib.Omega.{arith}
use lib.ListN.{get_or, length-map}
use Rattle.octets.specs.Octets.{xor, Bytes, Octets}
use Rattle.octets.specs.Words.{byte}
use Rattle.octets.proofs.Xor.{xor_lt}
use Rattle.octets.proofs.Fill.{length_tabulate, get_d_tabulate, tabulate_lt, is_tabulate}
use Rattle.octets.proofs.Words.{byte_lt}
use Rattle.aes_mix.specs.Mixing.{row, mix_row, inv_mix_row}
use Rattle.aes_mix.proofs.Mix.{row_lt}
use Rattle.aes_spec.specs.State.{Shape, aes, at, state, sub_bytes, shift_rows, inv_shift_rows, mix_at, mix_columns, inv_mix_columns, add_round_key}

-- the bytes of a state of this shape
abbrev pub Block : Shape → List ℕ → Type 0
Block z s = Octets (4 * z.columns) s

-- a shape with a column at least, in which no row is shifted past its start
pub record Regular (z : Shape) : Type 0 where
  pub some : 0 < z.columns
  pub within : (r : ℕ) → r < 4 → z.shift r ≤ z.columns

pub aes_regular : Regular aes
aes_regular = record { some = zero-lt-suc 3; within = λ r h. omega arith }

module _ (z : Shape) where
  pub at_state : (f : ℕ → ℕ → ℕ) (r c : ℕ) → r < 4 → c < z.columns → at (state z f) r c ≡ f r c
  at_state f r c hr hc =
      let row : (r + 4 * c) % 4 ≡ r = omega arith in
      let column : (r + 4 * c) / 4 ≡ c = omega arith in
      get_d_tabulate (4 * z.columns) (λ k. f (k % 4) (k / 4)) (r + 4 * c) (omega arith) ∙ rw (row, column)

  pub is_state : (s : List ℕ) (f : ℕ → ℕ → ℕ) → Block z s
      → ((r c : ℕ) → r < 4 → c < z.columns → at s r c ≡ f r c) → s ≡ state z f
  is_state s f b h = is_tabulate (4 * z.columns) (λ k. f (k % 4) (k / 4)) s b.size each
    where
      each : (k : ℕ) → k < 4 * z.columns → get_or s k 0 ≡ f (k % 4) (k / 4)
      each k l =
          let e : k ≡ k % 4 + 4 * (k / 4) = omega arith in
          ap (λ (i : ℕ). get_or s i 0) e ∙ h (k % 4) (k / 4) (omega arith) (omega arith)

  pub state_block : (f : ℕ → ℕ → ℕ) → ((r c : ℕ) → f r c < 256) → Block z (state z f)
  state_block f h = record {
    size = length_tabulate (4 * z.columns) (λ k. f (k % 4) (k / 4));
    bytes = tabulate_lt (4 * z.columns) 256 (λ k. f (k % 4) (k / 4)) (zero-lt-suc 255) (λ k. h (k % 4) (k / 4));
  }

  -- what the steps have in row r, column c
  abbrev pub add_at : List ℕ → ℕ → List ℕ → ℕ → ℕ → ℕ
  add_at w n s r c = xor (at s r c) (byte r (get_or w (z.columns * n + c) 0))

  abbrev pub shift_at : List ℕ → ℕ → ℕ → ℕ
  shift_at s r c = at s r ((c + z.shift r) % z.columns)

  abbrev pub inv_shift_at : List ℕ → ℕ → ℕ → ℕ
  inv_shift_at s r c = at s r ((c + (z.columns - z.shift r)) % z.columns)

  pub add_block : (w : List ℕ) (n : ℕ) {s : List ℕ} → Block z s → Block z (add_round_key z w n s)
  unfolding add_round_key
  add_block w n {s} b = state_block (add_at w n s) (λ r c. xor_lt (b.bytes (r + 4 * c)) (byte_lt r (get_or w (z.columns * n + c) 0)))

  pub shift_block : {s : List ℕ} → Block z s → Block z (shift_rows z s)
  unfolding shift_rows
  shift_block {s} b = state_block (shift_at s) (λ r c. b.bytes (r + 4 * ((c + z.shift r) % z.columns)))

  pub inv_shift_block : {s : List ℕ} → Block z s → Block z (inv_shift_rows z s)
  unfolding inv_shift_rows
  inv_shift_block {s} b = state_block (inv_shift_at s) (λ r c. b.bytes (r + 4 * ((c + (z.columns - z.shift r)) % z.columns)))

  mixed_lt : (p q u v : ℕ) {s : List ℕ} → Block z s → (r c : ℕ) → mix_at (row p q u v) s r c < 256
  mixed_lt p q u v b r c =
      row_lt p q u v (b.bytes (r + 4 * c)) (b.bytes ((r + 1) % 4 + 4 * c)) (b.bytes ((r + 2) % 4 + 4 * c)) (b.bytes ((r + 3) % 4 + 4 * c))

  pub mix_block : {s : List ℕ} → Block z s → Block z (mix_columns z s)
  unfolding mix_columns
  mix_block {s} b = state_block (mix_at mix_row s) (mixed_lt 2 3 1 1 b)

  pub inv_mix_block : {s : List ℕ} → Block z s → Block z (inv_mix_columns z s)
  unfolding inv_mix_columns
  inv_mix_block {s} b = state_block (mix_at inv_mix_row s) (mixed_lt 14 11 13 9 b)

-- ---- substitution, byte by byte

map_bytes : (sub : ℕ → ℕ) → ((k : ℕ) → k < 256 → sub k < 256) → (s : List ℕ) → Bytes s → Bytes (map sub s)
map_bytes sub lt [] b k = b k
map_bytes sub lt (x ∷ s) b zero = lt x (b 0)
map_bytes sub lt (x ∷ s) b (suc k) = map_bytes sub lt s (λ k. b (suc k)) k

pub sub_block : (sub : ℕ → ℕ) → ((k : ℕ) → k < 256 → sub k < 256) → {n : ℕ} {s : List ℕ} → Octets n s → Octets n (sub_bytes sub s)
unfolding sub_bytes
sub_block sub lt {n} {s} b = record { size = length-map s sub ∙ b.size; bytes = map_bytes sub lt s b.bytes }

-- one that undoes another
pub sub_undone : (f g : ℕ → ℕ) → ((k : ℕ) → k < 256 → g (f k) ≡ k) → (s : List ℕ) → Bytes s → sub_bytes g (sub_bytes f s) ≡ s
unfolding sub_bytes
sub_undone f g undo [] b = refl
sub_undone f g undo (x ∷ s) b = rw (undo x (b 0), sub_undone f g undo s (λ k. b (suc k)))
