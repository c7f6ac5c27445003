-- What document 02, E5, and source document 001 say of the definitions' numbers. Assumes nothing.
use mathlib.Core.Bool.{cond}
use mathlib.Core.Path.{◌≡◌, refl}
use Prim.Native.Nat.{ℕ, ◌*◌, ◌<◌}
use lib.Dec.{eqb, ltb, eqb→eq}
use Rattle.octets.specs.Octets.{xor, entry}
use Rattle.octets.proofs.Tests.{all, below}
use Rattle.saes_spec.specs.Nibbles.{x_times, with_digit, ◌•₄◌}
use Rattle.saes_spec.specs.Sbox.{s_table, inv_s_table, s_box, inv_s_box, power, inverse, bit, from_bits, affine, inv_affine, s_rule, inv_s_rule}
use Rattle.saes_spec.specs.Saes.{number_of, key0, key1, key2, encrypted, decrypted}
use Rattle.saes_spec.proofs.Nibbles.{on_nibbles, on_pairs}

-- ---- the field

-- x times a nibble is its double, less x^4 + x + 1 (13 hex) where it has reached x^4
pub doubled_and_reduced : (a : ℕ) → a < 16 → x_times a ≡ cond (ltb (a * 2) 16) (a * 2) (xor (a * 2) 0x13)
unfolding x_times xor
doubled_and_reduced = on_nibbles x_times (λ a. cond (ltb (a * 2) 16) (a * 2) (xor (a * 2) 0x13)) tt

-- a product with 1, with x times b, and with a sum
pub product_with_one : (a : ℕ) → a < 16 → a •₄ 1 ≡ a
unfolding ◌•₄◌ with_digit x_times xor
product_with_one = on_nibbles (λ a. a •₄ 1) (λ a. a) tt

pub product_with_double : (a b : ℕ) → a < 16 → b < 16 → a •₄ x_times b ≡ x_times (a •₄ b)
unfolding ◌•₄◌ with_digit x_times xor
product_with_double = on_pairs (λ a b. a •₄ x_times b) (λ a b. x_times (a •₄ b)) tt

pub product_with_sum : (a b c : ℕ) → a < 16 → b < 16 → c < 16 → a •₄ xor b c ≡ xor (a •₄ b) (a •₄ c)
unfolding ◌•₄◌ with_digit x_times xor
product_with_sum a b c ha hb hc =
    let f : ℕ → ℕ → ℕ → ℕ = λ a b c. a •₄ xor b c in
    let g : ℕ → ℕ → ℕ → ℕ = λ a b c. xor (a •₄ b) (a •₄ c) in
    eqb→eq (f a b c) (g a b c)
    (below 16 (λ c. eqb (f a b c) (g a b c))
    (below 16 (λ b. all 16 (λ c. eqb (f a b c) (g a b c)))
    (below 16 (λ a. all 16 (λ b. all 16 (λ c. eqb (f a b c) (g a b c)))) tt a ha) b hb) c hc)

-- ---- the tables: the S-box is the inverse and then the affine step, at every nibble; its inverse, the other way round

pub s-rule : (x : ℕ) → x < 16 → s_box x ≡ s_rule x
unfolding affine inverse power bit from_bits ◌•₄◌ with_digit x_times xor
s-rule = on_nibbles s_box s_rule tt

pub inv-s-rule : (y : ℕ) → y < 16 → inv_s_box y ≡ inv_s_rule y
unfolding inv_affine inverse power bit from_bits ◌•₄◌ with_digit x_times xor
inv-s-rule = on_nibbles inv_s_box inv_s_rule tt

-- each nibble but 0 times its inverse is 1
pub inverse_rule : (x : ℕ) → x < 16 → x •₄ inverse x ≡ cond (eqb x 0) 0 1
unfolding inverse power ◌•₄◌ with_digit x_times xor
inverse_rule = on_nibbles (λ x. x •₄ inverse x) (λ x. cond (eqb x 0) 0 1) tt

-- ---- the key constants: x^3 and x^4 in the high nibble

pub constants_are_powers : (power 3 2 ≡ 0x8) × (power 4 2 ≡ 0x3)
unfolding power ◌•₄◌ with_digit x_times xor
constants_are_powers = (refl, refl)

-- ---- source document 001, section 1: its key, its block and the way back

pub worked_keys : (number_of (key0 0x1f56) ≡ 0x1f56) × (number_of (key1 0x1f56) ≡ 0x1e48) × (number_of (key2 0x1f56) ≡ 0x430b)
unfolding xor
worked_keys = (refl, refl, refl)

pub worked_states : (encrypted 0x1f56 0x2726 ≡ record { first = 0x3870; second = 0x8da9; third = 0x2105 })
    × (decrypted 0x1f56 0x2105 ≡ record { first = 0x620e; second = 0x93e1; third = 0x2726 })
unfolding ◌•₄◌ with_digit x_times xor
worked_states = (refl, refl)
