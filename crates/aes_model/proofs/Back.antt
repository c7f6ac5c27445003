-- The words and the bytes that decryption looks up are what FIPS 197 says, by one test over each list. Assumes nothing.
use mathlib.Core.Path.{◌≡◌, sym, ap, ◌∙◌}
use mathlib.Core.Bool.{Bool}
use Prim.Native.Nat.{ℕ, ◌<◌}
use lib.Dec.{eqb, ltb, eqb→eq, ltb→lt}
use Rattle.octets.specs.Octets.{xor, entry}
use Rattle.octets.specs.Words.{word}
use Rattle.octets.proofs.Tests.{at_each}
use Rattle.field.specs.Field.{x_times, product_within, ◌•◌}
use Rattle.aes_sbox.specs.Sbox.{inv_s_box}
use Rattle.aes_sbox.proofs.Lists.{inv_s_box_table}
use Rattle.aes_sbox.proofs.Laws.{inv_s_box_rule}
use Rattle.aes_mix.specs.Mixing.{row, column, inv_mix_column, inv_mixed_entry}
use Rattle.aes_lookup_inverse.specs.Model.{inverse_entries}
use Rattle.aes_lookup_inv_sbox.specs.Model.{inv_s_box_bytes}

is_inv_mixed : ℕ → ℕ → Bool
is_inv_mixed k x = eqb x (inv_mixed_entry (entry inv_s_box_bytes) k)

inv_mixed_rule : (k : ℕ) → k < 256 → entry inverse_entries k ≡ inv_mixed_entry (entry inv_s_box_bytes) k
unfolding is_inv_mixed inverse_entries inv_s_box_bytes word row column inv_mix_column xor x_times ◌•◌ product_within
inv_mixed_rule k h = eqb→eq (entry inverse_entries k) (inv_mixed_entry (entry inv_s_box_bytes) k) (at_each is_inv_mixed inverse_entries tt k h)

pub inv_sub_rule : (k : ℕ) → k < 256 → entry inv_s_box_bytes k ≡ inv_s_box k
unfolding inv_s_box_bytes inv_s_box_table
inv_sub_rule k h = inv_s_box_rule k h

pub inverse_rule : (k : ℕ) → k < 256 → entry inverse_entries k ≡ inv_mixed_entry inv_s_box k
inverse_rule k h = inv_mixed_rule k h ∙ ap (λ (x : ℕ). inv_mix_column (word x 0 0 0)) (inv_sub_rule k h)

pub inverse_lt : (k : ℕ) → k < 256 → entry inverse_entries k < 4294967296
unfolding inverse_entries
inverse_lt k h = ltb→lt (entry inverse_entries k) 4294967296 (at_each (λ k x. ltb x 4294967296) inverse_entries tt k h)

pub inv_sub_lt : (k : ℕ) → k < 256 → entry inv_s_box_bytes k < 256
unfolding inv_s_box_bytes
inv_sub_lt k h = ltb→lt (entry inv_s_box_bytes k) 256 (at_each (λ k x. ltb x 256) inv_s_box_bytes tt k h)
