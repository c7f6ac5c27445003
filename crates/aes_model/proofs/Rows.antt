-- A column by its rows, added up one after the other, over any table and any words. Assumes nothing.
use mathlib.Core.Path.{◌≡◌, refl, ap, ◌∙◌}
use Prim.Native.Nat.{ℕ, zero, suc, ◌+◌}
use native.Mathlib.Numerals.{add-one}
use Rattle.octets.specs.Octets.{xor}
use Rattle.octets.specs.Words.{byte}
use Rattle.octets.proofs.Xor.{xor_assoc, zero_xor}
use Rattle.aes_words.specs.Columns.{sub_mix_column}
use Rattle.aes_model.specs.Turned.{turned}

module _ (table word : ℕ → ℕ) where
  -- the first k rows: byte k of word k looked up, and turned by k
  pub rows_of : ℕ → ℕ
  rows_of zero = 0
  rows_of (suc k) = xor (rows_of k) (turned k (table (byte k (word k))))

  pub rows_none : 0 ≡ rows_of 0
  unfolding rows_of
  rows_none = refl

  pub rows_more : (k r a : ℕ) → r ≡ turned k (table (byte k (word k))) → a ≡ rows_of k → xor a r ≡ rows_of (k + 1)
  unfolding rows_of
  rows_more k r a e f = rw (add-one k, e, f)

  pub rows_all : rows_of 4 ≡ sub_mix_column table (word 0) (word 1) (word 2) (word 3)
  unfolding rows_of sub_mix_column
  rows_all =
      let row : ℕ → ℕ = λ k. turned k (table (byte k (word k))) in
      ap (λ (x : ℕ). xor (xor (xor x (row 1)) (row 2)) (row 3)) (zero_xor (row 0)) ∙ xor_assoc (xor (row 0) (row 1)) (row 2) (row 3)
