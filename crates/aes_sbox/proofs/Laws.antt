-- Each table is what its rule says, by one test over it; each table undoes the other. Assumes nothing.
use mathlib.Core.Path.{◌≡◌, refl, sym, ap, ◌∙◌}
use mathlib.Core.Bool.{Bool, true, false, ◌&&◌, cond}
use Prim.Native.Nat.{ℕ, zero, suc, ◌+◌, ◌-◌, ◌*◌, ◌/◌, ◌%◌, ◌^◌, ◌<◌}
use native.Mathlib.Nat.{zero-mul, one-mul, add-mul, pow-suc}
use native.Mathlib.Omega.{arith}
use borrow.Author.Tests.{eqb-true, eqb-false, ne_eqb}
use lib.Dec.{eqb, ltb, eqb→eq, ltb→lt}
use Rattle.octets.specs.Octets.{xor, tabulate, entry}
use Rattle.octets.proofs.Tests.{both_left, both_right, at_each, below, on_bytes}
use Rattle.octets.proofs.Fill.{is_tabulate, get_d_tabulate}
use Rattle.field_log.specs.Model.{l_table}
use Rattle.field_exp.specs.Model.{e_table}
use Rattle.field.specs.Field.{x_times, product_within, ◌•◌}
use Rattle.field.specs.Logarithms.{E, L}
use Rattle.field.proofs.Logarithms.{zero_product, E-sum, E-rule, E-around, E-turns, L-rule, L-lt, E-of-L}
use Rattle.aes_sbox.specs.Sbox.{square, power_within, inverse, bit, from_bits, affine, inv_affine, s_box, inv_s_box}
use Rattle.aes_sbox.proofs.Lists.{s_box_table, inv_s_box_table}

-- ---- the inverse by logarithms

-- a power of a power of 03
power_e : (n l e : ℕ) → e < 2 ^ n → power_within n (E l) e ≡ E (e * l)
unfolding power_within square E
power_e zero l e h = let z : e ≡ 0 = omega arith in rw (z, zero-mul l)
power_e (suc n) l zero h = rw (zero-mul l)
power_e (suc n) l (suc e) h = by (eqb (suc e % 2) 0) refl (ap square (power_e n l d (omega (arith, pow-suc 2 n))) ∙ E-sum (d * l) (d * l) ∙ ap E (sym (add-mul d d l)))
  where
    d : ℕ
    d = suc e / 2

    by : (t : Bool) → eqb (suc e % 2) 0 ≡ t → square (power_within n (E l) d) ≡ E ((d + d) * l)
        → cond t (square (power_within n (E l) d)) (square (power_within n (E l) d) • E l) ≡ E (suc e * l)
    by true q twice = let z : suc e % 2 ≡ 0 = eqb-true (suc e % 2) 0 q in twice ∙ ap (λ (x : ℕ). E (x * l)) (omega arith)
    by false q twice =
        let z : suc e % 2 ≡ 0 → ⊥ = eqb-false (suc e % 2) 0 q in
        ap (λ (x : ℕ). x • E l) twice ∙ E-sum ((d + d) * l) l ∙ ap E (sym (ap (λ (x : ℕ). (d + d) * l + x) (one-mul l)) ∙ sym (add-mul (d + d) 1 l))
        ∙ ap (λ (x : ℕ). E (x * l)) (omega arith)

-- the inverse of a power of 03, from the tables
inverse_at : ℕ → ℕ
inverse_at k = cond (eqb k 0) 0 (entry e_table (255 - entry l_table k))

inverse_e : (l : ℕ) → inverse (E l) ≡ E (254 * l)
unfolding inverse
inverse_e l = power_e 8 l 254 (omega arith)

inverse_0 : inverse 0 ≡ 0
unfolding square power_within inverse xor x_times ◌•◌ product_within
inverse_0 = refl

inverse-at : (k : ℕ) → k < 256 → inverse k ≡ inverse_at k
unfolding inverse_at
inverse-at zero h = inverse_0
inverse-at (suc k) h =
    let n : suc k ≡ 0 → ⊥ = λ e. omega arith in
    let l = L (suc k) in
    let b : l < 255 = L-lt (suc k) h in
    rw (ne_eqb (suc k) 0 n) (ap inverse (sym (E-of-L (suc k) h n)) ∙ inverse_e l
    ∙ ap E (omega arith) ∙ E-around (254 * l + 255) (omega arith) ∙ ap E (omega arith) ∙ E-turns l (255 - l)
    ∙ sym (E-rule (255 - l) (omega arith)) ∙ ap (λ (x : ℕ). entry e_table (255 - x)) (sym (L-rule (suc k) h)))

-- the product with the inverse is 1 for every byte but 0
pub inverse_rule : (k : ℕ) → k < 256 → k • inverse k ≡ cond (eqb k 0) 0 1
unfolding E
inverse_rule zero h = zero_product (inverse 0) (omega (arith, inverse_0))
inverse_rule (suc k) h =
    let l = L (suc k) in
    let n : suc k ≡ 0 → ⊥ = λ z. omega arith in
    let m : l + 254 * l ≡ 255 * l + 0 = omega arith in
    rw (ne_eqb (suc k) 0 n)
    (ap (λ (x : ℕ). x • inverse x) (sym (E-of-L (suc k) h n)) ∙ ap (λ (x : ℕ). E l • x) (inverse_e l) ∙ E-sum l (254 * l) ∙ ap E m ∙ E-turns l 0)

-- ---- the tables

is_s_box : ℕ → ℕ → Bool
is_s_box k x = eqb x (affine (inverse_at k))

pub s_box_rule : (k : ℕ) → k < 256 → entry s_box_table k ≡ s_box k
unfolding is_s_box s_box_table e_table l_table inverse_at bit from_bits affine s_box
s_box_rule k h = eqb→eq (entry s_box_table k) (affine (inverse_at k)) (at_each is_s_box s_box_table tt k h) ∙ ap affine (sym (inverse-at k h))

is_inv_s_box : ℕ → ℕ → Bool
is_inv_s_box k x = ltb (inv_affine k) 256 && eqb x (inverse_at (inv_affine k))

pub inv_s_box_rule : (k : ℕ) → k < 256 → entry inv_s_box_table k ≡ inv_s_box k
unfolding is_inv_s_box inv_s_box_table e_table l_table inverse_at bit from_bits inv_affine inv_s_box
inv_s_box_rule k h =
    let t = at_each is_inv_s_box inv_s_box_table tt k h in
    let l = ltb→lt (inv_affine k) 256 (both_left (ltb (inv_affine k) 256) (eqb (entry inv_s_box_table k) (inverse_at (inv_affine k))) t) in
    eqb→eq (entry inv_s_box_table k) (inverse_at (inv_affine k)) (both_right (ltb (inv_affine k) 256) (eqb (entry inv_s_box_table k) (inverse_at (inv_affine k))) t)
    ∙ sym (inverse-at (inv_affine k) l)

pub s_box-table : s_box_table ≡ tabulate 256 s_box
unfolding s_box_table
s_box-table = is_tabulate 256 s_box s_box_table refl s_box_rule

pub inv_s_box-table : inv_s_box_table ≡ tabulate 256 inv_s_box
unfolding inv_s_box_table
inv_s_box-table = is_tabulate 256 inv_s_box inv_s_box_table refl inv_s_box_rule

-- a table of 256 entries, at a byte
pub entry_table : (f : ℕ → ℕ) (k : ℕ) → k < 256 → entry (tabulate 256 f) k ≡ f k
entry_table f k h = get_d_tabulate 256 f k h

-- ---- both are bytes, and undo each other

small : (k : ℕ) → k < 256 → entry s_box_table k < 256
unfolding s_box_table
small k h = ltb→lt (entry s_box_table k) 256 (below 256 (λ k. ltb (entry s_box_table k) 256) tt k h)

inv_small : (k : ℕ) → k < 256 → entry inv_s_box_table k < 256
unfolding inv_s_box_table
inv_small k h = ltb→lt (entry inv_s_box_table k) 256 (below 256 (λ k. ltb (entry inv_s_box_table k) 256) tt k h)

back : (k : ℕ) → k < 256 → entry inv_s_box_table (entry s_box_table k) ≡ k
unfolding s_box_table inv_s_box_table
back = on_bytes (λ k. entry inv_s_box_table (entry s_box_table k)) (λ k. k) tt

forth : (k : ℕ) → k < 256 → entry s_box_table (entry inv_s_box_table k) ≡ k
unfolding s_box_table inv_s_box_table
forth = on_bytes (λ k. entry s_box_table (entry inv_s_box_table k)) (λ k. k) tt

pub s_box_lt : (k : ℕ) → k < 256 → s_box k < 256
s_box_lt k h = rw (s_box_rule k h) at (small k h)

pub inv_s_box_lt : (k : ℕ) → k < 256 → inv_s_box k < 256
inv_s_box_lt k h = rw (inv_s_box_rule k h) at (inv_small k h)

pub inv_s_box_s_box : (k : ℕ) → k < 256 → inv_s_box (s_box k) ≡ k
inv_s_box_s_box k h =
    sym (inv_s_box_rule (s_box k) (s_box_lt k h)) ∙ ap (entry inv_s_box_table) (sym (s_box_rule k h)) ∙ back k h

pub s_box_inv_s_box : (k : ℕ) → k < 256 → s_box (inv_s_box k) ≡ k
s_box_inv_s_box k h =
    sym (s_box_rule (inv_s_box k) (inv_s_box_lt k h)) ∙ ap (entry s_box_table) (sym (inv_s_box_rule k h)) ∙ forth k h
