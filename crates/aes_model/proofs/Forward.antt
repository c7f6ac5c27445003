-- The words and the bytes that encryption looks up are what FIPS 197 says, by one test over each list. Assumes nothing.
use mathlib.Core.Path.{◌≡◌, sym, ap, ◌∙◌}
use mathlib.Core.Bool.{Bool}
use Prim.Native.Nat.{ℕ, ◌<◌}
use lib.Dec.{eqb, ltb, eqb→eq, ltb→lt}
use Rattle.octets.specs.Octets.{xor, entry}
use Rattle.octets.specs.Words.{word}
use Rattle.octets.proofs.Tests.{at_each}
use Rattle.field.specs.Field.{x_times, product_within, ◌•◌}
use Rattle.aes_sbox.specs.Sbox.{s_box}
use Rattle.aes_sbox.proofs.Lists.{s_box_table}
use Rattle.aes_sbox.proofs.Laws.{s_box_rule}
use Rattle.aes_mix.specs.Mixing.{row, column, mix_column, mixed_entry}
use Rattle.aes_lookup_forward.specs.Model.{forward_entries}
use Rattle.aes_lookup_sbox.specs.Model.{s_box_bytes}

is_mixed : ℕ → ℕ → Bool
is_mixed k x = eqb x (mixed_entry (entry s_box_bytes) k)

mixed_rule : (k : ℕ) → k < 256 → entry forward_entries k ≡ mixed_entry (entry s_box_bytes) k
unfolding is_mixed forward_entries s_box_bytes word row column mix_column xor x_times ◌•◌ product_within
mixed_rule k h = eqb→eq (entry forward_entries k) (mixed_entry (entry s_box_bytes) k) (at_each is_mixed forward_entries tt k h)

pub sub_rule : (k : ℕ) → k < 256 → entry s_box_bytes k ≡ s_box k
unfolding s_box_bytes s_box_table
sub_rule k h = s_box_rule k h

pub forward_rule : (k : ℕ) → k < 256 → entry forward_entries k ≡ mixed_entry s_box k
forward_rule k h = mixed_rule k h ∙ ap (λ (x : ℕ). mix_column (word x 0 0 0)) (sub_rule k h)

pub forward_lt : (k : ℕ) → k < 256 → entry forward_entries k < 4294967296
unfolding forward_entries
forward_lt k h = ltb→lt (entry forward_entries k) 4294967296 (at_each (λ k x. ltb x 4294967296) forward_entries tt k h)

pub sub_lt : (k : ℕ) → k < 256 → entry s_box_bytes k < 256
unfolding s_box_bytes
sub_lt k h = ltb→lt (entry s_box_bytes k) 256 (at_each (λ k x. ltb x 256) s_box_bytes tt k h)
