-- The steps on single nibbles and on pairs of them, by tests that the checker computes. Assumes nothing.
use mathlib.Core.Path.{◌≡◌, refl}
use mathlib.Core.Bool.{Bool, true, false, cond}
use Prim.Native.Nat.{ℕ, ◌<◌}
use borrow.Author.Tests.{ltb-true}
use lib.Dec.{T, eqb, ltb, eqb→eq}
use Rattle.octets.specs.Octets.{xor, entry}
use Rattle.octets.proofs.Tests.{all, below}
use Rattle.saes_spec.specs.Nibbles.{x_times, with_digit, ◌•₄◌}
use Rattle.saes_spec.specs.Sbox.{s_table, inv_s_table, s_box, inv_s_box}

t_true : (b : Bool) → T b → b ≡ true
t_true true t = refl
t_true false t = absurd t

-- a rule for every nibble, and one for every pair
pub on_nibbles : (f g : ℕ → ℕ) → T (all 16 (λ x. eqb (f x) (g x))) → (x : ℕ) → x < 16 → f x ≡ g x
on_nibbles f g t x h = eqb→eq (f x) (g x) (below 16 (λ x. eqb (f x) (g x)) t x h)

pub on_pairs : (f g : ℕ → ℕ → ℕ) → T (all 16 (λ a. all 16 (λ b. eqb (f a b) (g a b)))) → (a b : ℕ) → a < 16 → b < 16 → f a b ≡ g a b
on_pairs f g t a b ha hb =
    eqb→eq (f a b) (g a b) (below 16 (λ b. eqb (f a b) (g a b)) (below 16 (λ a. all 16 (λ b. eqb (f a b) (g a b))) t a ha) b hb)

nibble_each : (f : ℕ → ℕ) → T (all 16 (λ x. ltb (f x) 16)) → (x : ℕ) → x < 16 → f x < 16
nibble_each f t x h = ltb-true (f x) 16 (t_true (ltb (f x) 16) (below 16 (λ x. ltb (f x) 16) t x h))

nibble_pair : (f : ℕ → ℕ → ℕ) → T (all 16 (λ a. all 16 (λ b. ltb (f a b) 16))) → (a b : ℕ) → a < 16 → b < 16 → f a b < 16
nibble_pair f t a b ha hb =
    ltb-true (f a b) 16 (t_true (ltb (f a b) 16) (below 16 (λ b. ltb (f a b) 16) (below 16 (λ a. all 16 (λ b. ltb (f a b) 16)) t a ha) b hb))

-- ---- nibbles stay nibbles

pub xor_nibble : (a b : ℕ) → a < 16 → b < 16 → xor a b < 16
unfolding xor
xor_nibble = nibble_pair xor tt

pub product_nibble : (a b : ℕ) → a < 16 → b < 16 → a •₄ b < 16
unfolding ◌•₄◌ with_digit x_times xor
product_nibble = nibble_pair ◌•₄◌ tt

pub s_nibble : (x : ℕ) → x < 16 → s_box x < 16
s_nibble = nibble_each s_box tt

pub inv_s_nibble : (x : ℕ) → x < 16 → inv_s_box x < 16
inv_s_nibble = nibble_each inv_s_box tt

-- ---- each way undoes the other

pub inv_s_undoes_s : (x : ℕ) → x < 16 → inv_s_box (s_box x) ≡ x
inv_s_undoes_s = on_nibbles (λ x. inv_s_box (s_box x)) (λ x. x) tt

pub s_undoes_inv_s : (x : ℕ) → x < 16 → s_box (inv_s_box x) ≡ x
s_undoes_inv_s = on_nibbles (λ x. s_box (inv_s_box x)) (λ x. x) tt

-- a column that went through the matrix p q / q p and then through u v / v u
abbrev pub first : (p q u v a b : ℕ) → ℕ
first p q u v a b = xor (u •₄ xor (p •₄ a) (q •₄ b)) (v •₄ xor (q •₄ a) (p •₄ b))

abbrev pub second : (p q u v a b : ℕ) → ℕ
second p q u v a b = xor (v •₄ xor (p •₄ a) (q •₄ b)) (u •₄ xor (q •₄ a) (p •₄ b))

pub unmixed : (a b : ℕ) → a < 16 → b < 16 → (first 1 4 9 2 a b ≡ a) × (second 1 4 9 2 a b ≡ b)
unfolding ◌•₄◌ with_digit x_times xor
unmixed a b ha hb = (on_pairs (λ a b. first 1 4 9 2 a b) (λ a b. a) tt a b ha hb, on_pairs (λ a b. second 1 4 9 2 a b) (λ a b. b) tt a b ha hb)

pub remixed : (a b : ℕ) → a < 16 → b < 16 → (first 9 2 1 4 a b ≡ a) × (second 9 2 1 4 a b ≡ b)
unfolding ◌•₄◌ with_digit x_times xor
remixed a b ha hb = (on_pairs (λ a b. first 9 2 1 4 a b) (λ a b. a) tt a b ha hb, on_pairs (λ a b. second 9 2 1 4 a b) (λ a b. b) tt a b ha hb)
