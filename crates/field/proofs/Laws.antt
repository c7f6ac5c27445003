-- The algebra of doubling and of the product. Assumes nothing.
use mathlib.Core.Path.{◌≡◌, refl, sym, ap, ap₂, ◌∙◌}
use mathlib.Core.Bool.{Bool, true, false, cond}
use mathlib.Core.Logic.{⊎_elim}
use Prim.Native.Nat.{ℕ, zero, suc, ◌+◌, ◌*◌, ◌/◌, ◌%◌, ◌≤◌, ◌<◌}
use native.Mathlib.Nat.{not-suc-le-zero, le_refl, zero-lt-suc, mod-lt, add-zero}
use native.Mathlib.Decide.{le_ind}
use native.Mathlib.Numerals.{add-one}
use native.Mathlib.Omega.{arith}
use borrow.Author.Tests.{eq-eqb, ne_eqb, lt-ltb, le-ltb}
use lib.Arith.{half_le, bin_ind}
use lib.Dec.{eqb}
use lib.Bits.{bit_xor, xor_block, xor_mod, xor_shr}
use Rattle.octets.specs.Octets.{xor}
use Rattle.octets.proofs.Xor.{lt_or_le, cond_lt, xor_medial, xor_zero, zero_xor, xor_lt}
use Rattle.field.specs.Field.{x_times, x_power, product_within, ◌•◌}

-- ---- doubling

-- doubling as a sum of two parts, the shifted number and the reduction
pub double_parts : (a : ℕ) → a < 256 → x_times a ≡ xor (a * 2 % 256) (a / 128 * 27)
unfolding x_times
double_parts a h = ⊎_elim small large (lt_or_le a 128)
  where
    small : a < 128 → x_times a ≡ xor (a * 2 % 256) (a / 128 * 27)
    small l = let q : a / 128 ≡ 0 = omega arith in rw (lt-ltb a 128 l, q, xor_zero)

    large : 128 ≤ a → x_times a ≡ xor (a * 2 % 256) (a / 128 * 27)
    large l = let q : a / 128 ≡ 1 = omega arith in rw (le-ltb a 128 l, q)

pub double_lt : {a : ℕ} → a < 256 → x_times a < 256
double_lt {a} h = rw (double_parts a h) (xor_lt (mod-lt (a * 2) (zero-lt-suc 255)) (omega arith))

-- each part goes through a sum
shifted : (a b : ℕ) → xor a b * 2 % 256 ≡ xor (a * 2 % 256) (b * 2 % 256)
unfolding xor
shifted a b = ap (λ (x : ℕ). x % 256) (sym twice) ∙ xor_mod (a * 2) (b * 2) 8
  where
    twice : bit_xor (a * 2) (b * 2) ≡ bit_xor a b * 2
    twice =
        ap₂ bit_xor (sym (add-zero (a * 2))) (sym (add-zero (b * 2)))
        ∙ xor_block 1 a b 0 0 (zero-lt-suc 1) (zero-lt-suc 1)
        ∙ add-zero (bit_xor a b * 2)

top_bit : (a b : ℕ) → xor a b / 128 ≡ xor (a / 128) (b / 128)
unfolding xor
top_bit a b = xor_shr a b 7

reduced : (p q : ℕ) → p < 2 → q < 2 → xor p q * 27 ≡ xor (p * 27) (q * 27)
unfolding xor
reduced zero q hp hq = refl
reduced (suc zero) zero hp hq = refl
reduced (suc zero) (suc zero) hp hq = refl
reduced (suc zero) (suc (suc q)) hp hq = omega arith
reduced (suc (suc p)) q hp hq = omega arith

pub double_xor : (a b : ℕ) → a < 256 → b < 256 → x_times (xor a b) ≡ xor (x_times a) (x_times b)
double_xor a b ha hb =
    double_parts (xor a b) (xor_lt ha hb)
    ∙ ap₂ xor (shifted a b) (ap (λ (x : ℕ). x * 27) (top_bit a b) ∙ reduced (a / 128) (b / 128) (omega arith) (omega arith))
    ∙ xor_medial (a * 2 % 256) (b * 2 % 256) (a / 128 * 27) (b / 128 * 27)
    ∙ ap₂ xor (sym (double_parts a ha)) (sym (double_parts b hb))

pub power_more : (n : ℕ) → x_power (n + 1) ≡ x_times (x_power n)
unfolding x_power
power_more n = rw (add-one n)

-- ---- the product, by the digits of its second factor

more : (n a b : ℕ) → b ≤ n → product_within (suc n) a b ≡ product_within n a b
unfolding product_within
more zero a zero h = refl
more zero a (suc b) h = absurd (not-suc-le-zero h)
more (suc n) a zero h = refl
more (suc n) a (suc b) h =
    ap (λ (x : ℕ). cond (eqb (suc b % 2) 0) (x_times x) (xor (x_times x) a)) (more n a (suc b / 2) (half_le h))

enough : (n a b : ℕ) → b ≤ n → product_within n a b ≡ product_within b a b
enough n a b h = le_ind (λ (m : ℕ). product_within m a b ≡ product_within b a b) refl (λ m k e. more m a b k ∙ e) n h

-- the product's rule, with no bound on the halvings
pub product_step : (a b : ℕ) → a • b ≡ cond (eqb (b % 2) 0) (x_times (a • (b / 2))) (xor (x_times (a • (b / 2))) a)
unfolding ◌•◌ product_within x_times
product_step a zero = refl
product_step a (suc b) =
    ap (λ (x : ℕ). cond (eqb (suc b % 2) 0) (x_times x) (xor (x_times x) a)) (enough b a (suc b / 2) (half_le (le_refl (suc b))))

pub product_zero : (a : ℕ) → a • 0 ≡ 0
unfolding ◌•◌ product_within
product_zero a = refl

pub zero_factor : (a b : ℕ) → b ≡ 0 → a • b ≡ 0
zero_factor a b e = rw e (product_zero a)

pub product_even : (a b : ℕ) → b % 2 ≡ 0 → a • b ≡ x_times (a • (b / 2))
product_even a b e = product_step a b ∙ rw (eq-eqb (b % 2) 0 e)

pub product_odd : (a b : ℕ) → (b % 2 ≡ 0 → ⊥) → a • b ≡ xor (x_times (a • (b / 2))) a
product_odd a b e = product_step a b ∙ rw (ne_eqb (b % 2) 0 e)

pub product_one : (a : ℕ) → a • 1 ≡ a
unfolding ◌•◌ product_within x_times xor
product_one a = refl

pub product_two : (a : ℕ) → a • 2 ≡ x_times a
product_two a = product_even a 2 refl ∙ ap x_times (product_one a)

pub product_three : (a : ℕ) → a • 3 ≡ xor (x_times a) a
product_three a = product_odd a 3 (λ e. omega arith) ∙ ap (λ (x : ℕ). xor (x_times x) a) (product_one a)

pub product_lt : {a : ℕ} (b : ℕ) → a < 256 → a • b < 256
product_lt {a} b h =
    bin_ind (λ (b : ℕ). a • b < 256) (rw (product_zero a) (zero-lt-suc 255))
    (λ b ih. rw (product_step a b) (cond_lt (eqb (b % 2) 0) (double_lt ih) (xor_lt (double_lt ih) h))) b

-- the product goes through a sum in its first factor
pub product_xor : (x y b : ℕ) → x < 256 → y < 256 → xor x y • b ≡ xor (x • b) (y • b)
product_xor x y b hx hy =
    bin_ind (λ (b : ℕ). xor x y • b ≡ xor (x • b) (y • b))
    (product_zero (xor x y) ∙ sym (ap₂ xor (product_zero x) (product_zero y) ∙ zero_xor 0)) step b
  where
    step : (b : ℕ) → xor x y • (b / 2) ≡ xor (x • (b / 2)) (y • (b / 2)) → xor x y • b ≡ xor (x • b) (y • b)
    step b ih =
        product_step (xor x y) b ∙ ap (λ (d : ℕ). cond (eqb (b % 2) 0) d (xor d (xor x y))) both
        ∙ split (eqb (b % 2) 0)
        ∙ sym (ap₂ xor (product_step x b) (product_step y b))
      where
        u : ℕ
        u = x_times (x • (b / 2))

        v : ℕ
        v = x_times (y • (b / 2))

        both : x_times (xor x y • (b / 2)) ≡ xor u v
        both = ap x_times ih ∙ double_xor (x • (b / 2)) (y • (b / 2)) (product_lt (b / 2) hx) (product_lt (b / 2) hy)

        split : (t : Bool) → cond t (xor u v) (xor (xor u v) (xor x y)) ≡ xor (cond t u (xor u x)) (cond t v (xor v y))
        split true = refl
        split false = xor_medial u v x y
