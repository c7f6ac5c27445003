-- The tables L and E hold what their rule says, by one test over each, and the product by lookups in them is the product, for every
-- pair of bytes. Assumes nothing.
use mathlib.Core.Path.{◌≡◌, refl, sym, ap, ap₂, ◌∙◌}
use mathlib.Core.Bool.{Bool, true, false, ◌&&◌, cond}
use mathlib.Core.Logic.{⊎_elim}
use Prim.Native.Nat.{ℕ, zero, suc, ◌+◌, ◌-◌, ◌*◌, ◌/◌, ◌%◌, ◌≤◌, ◌<◌}
use native.Mathlib.Nat.{zero-add, suc-add, le_of_suc-le-suc, eq-or-lt_of_le}
use native.Mathlib.Omega.{arith}
use borrow.Author.Tests.{eq-eqb, ne_eqb, lt-ltb, le-ltb}
use lib.Arith.{bin_ind}
use lib.Dec.{T, eqb, ltb, eqb→eq, ltb→lt}
use Rattle.octets.specs.Octets.{xor, entry}
use Rattle.octets.proofs.Tests.{both_left, both_right, at_each, below, on_bytes}
use Rattle.octets.proofs.Xor.{lt_or_le}
use Rattle.field_log.specs.Model.{l_table}
use Rattle.field_exp.specs.Model.{e_table}
use Rattle.field.specs.Field.{x_times, product_within, ◌•◌}
use Rattle.field.specs.Logarithms.{E, logarithm_below, L, added, looked_up}
use Rattle.field.proofs.Laws.{double_lt, double_xor, product_step, product_zero, product_three, product_lt, product_xor}

-- ---- powers of 03

-- doubling goes through the product
double_product : (a b : ℕ) → a < 256 → x_times a • b ≡ x_times (a • b)
unfolding x_times
double_product a b h =
    bin_ind (λ (b : ℕ). x_times a • b ≡ x_times (a • b)) (product_zero (x_times a) ∙ sym (ap x_times (product_zero a))) step b
  where
    step : (b : ℕ) → x_times a • (b / 2) ≡ x_times (a • (b / 2)) → x_times a • b ≡ x_times (a • b)
    step b ih =
        product_step (x_times a) b ∙ ap (λ (x : ℕ). cond (eqb (b % 2) 0) (x_times x) (xor (x_times x) (x_times a))) ih
        ∙ either (eqb (b % 2) 0) ∙ sym (ap x_times (product_step a b))
      where
        u : ℕ
        u = x_times (a • (b / 2))

        either : (t : Bool) → cond t (x_times u) (xor (x_times u) (x_times a)) ≡ x_times (cond t u (xor u a))
        either true = refl
        either false = sym (double_xor u a (double_lt (product_lt (b / 2) h)) h)

-- and so does the product with 03
three_product : (a b : ℕ) → a < 256 → (a • 3) • b ≡ (a • b) • 3
three_product a b h =
    ap (λ (x : ℕ). x • b) (product_three a)
    ∙ product_xor (x_times a) a b (double_lt h) h
    ∙ ap (λ (x : ℕ). xor x (a • b)) (double_product a b h)
    ∙ sym (product_three (a • b))

one_product : (b : ℕ) → b < 256 → 1 • b ≡ b
unfolding xor x_times ◌•◌ product_within
one_product = on_bytes (λ b. 1 • b) (λ b. b) tt

pub zero_product : (b : ℕ) → b < 256 → 0 • b ≡ 0
unfolding xor x_times ◌•◌ product_within
zero_product = on_bytes (λ b. 0 • b) (λ b. 0) tt

E-lt : (n : ℕ) → E n < 256
unfolding E
E-lt zero = omega arith
E-lt (suc n) = product_lt 3 (E-lt n)

-- the product of two powers
pub E-sum : (m n : ℕ) → E m • E n ≡ E (m + n)
unfolding E
E-sum zero n = one_product (E n) (E-lt n) ∙ ap E (sym (zero-add n))
E-sum (suc m) n = three_product (E m) (E n) (E-lt m) ∙ ap (λ (x : ℕ). x • 3) (E-sum m n) ∙ ap E (sym (suc-add m n))

-- ---- table E

-- the first entry is 1, and each other one the product of the one before with 03
is_power : ℕ → ℕ → Bool
is_power zero x = eqb x 1
is_power (suc n) x = eqb x (entry e_table n • 3)

E-test : (n : ℕ) → n < 256 → T (is_power n (entry e_table n))
unfolding is_power e_table xor x_times ◌•◌ product_within
E-test = at_each is_power e_table tt

pub E-rule : (n : ℕ) → n < 256 → entry e_table n ≡ E n
unfolding is_power E
E-rule zero h = eqb→eq (entry e_table 0) 1 (E-test 0 h)
E-rule (suc n) h =
    eqb→eq (entry e_table (suc n)) (entry e_table n • 3) (E-test (suc n) h) ∙ ap (λ (x : ℕ). x • 3) (E-rule n (omega arith))

E-255 : E 255 ≡ 1
unfolding e_table
E-255 = sym (E-rule 255 (omega arith))

-- 255 taken off leaves the power
pub E-around : (n : ℕ) → 255 ≤ n → E (n - 255) ≡ E n
E-around n h =
    sym (one_product (E (n - 255)) (E-lt (n - 255)))
    ∙ ap (λ (x : ℕ). x • E (n - 255)) (sym E-255)
    ∙ E-sum 255 (n - 255)
    ∙ ap E (omega arith)

pub E-turns : (k m : ℕ) → E (255 * k + m) ≡ E m
E-turns zero m = ap E (zero-add m)
E-turns (suc k) m = sym (E-around (255 * suc k + m) (omega arith)) ∙ ap E (omega arith) ∙ E-turns k m

-- ---- table L

-- the entry of 0 is 0, and that of another byte is below 255 and gives it back
is_logarithm : ℕ → ℕ → Bool
is_logarithm zero x = eqb x 0
is_logarithm (suc a) x = ltb x 255 && eqb (entry e_table x) (suc a)

L-test : (a : ℕ) → a < 256 → T (is_logarithm a (entry l_table a))
unfolding is_logarithm e_table l_table
L-test = at_each is_logarithm l_table tt

back : (n : ℕ) → n < 255 → entry l_table (entry e_table n) ≡ n
unfolding e_table l_table
back n h = eqb→eq (entry l_table (entry e_table n)) n (below 255 (λ n. eqb (entry l_table (entry e_table n)) n) tt n h)

-- below 255 no two powers are the same, and none is 0
E-injective : (m n : ℕ) → m < 255 → n < 255 → E m ≡ E n → m ≡ n
E-injective m n hm hn e =
    sym (back m hm) ∙ ap (entry l_table) (E-rule m (omega arith) ∙ e ∙ sym (E-rule n (omega arith))) ∙ back n hn

E-never-0 : (n : ℕ) → n < 255 → E n ≡ 0 → ⊥
unfolding E l_table
E-never-0 n h e = omega (arith, zero_place ∙ e)
  where
    zero_place : 1 ≡ E n
    zero_place = ap E (sym (sym (back n h) ∙ ap (entry l_table) (E-rule n (omega arith) ∙ e)))

found : (m n : ℕ) → n < m → m ≤ 255 → logarithm_below m (E n) ≡ n
unfolding logarithm_below
found zero n h l = omega arith
found (suc m) n h l =
    ⊎_elim (λ e. rw (eq-eqb (E m) (E n) (ap E (sym e))) (sym e))
    (λ k. rw (ne_eqb (E m) (E n) (λ e. omega (arith, E-injective m n (omega arith) (omega arith) e))) (found m n k (omega arith)))
    (eq-or-lt_of_le (le_of_suc-le-suc h))

none : (m : ℕ) → m ≤ 255 → logarithm_below m 0 ≡ 0
unfolding logarithm_below
none zero l = refl
none (suc m) l = rw (ne_eqb (E m) 0 (E-never-0 m (omega arith))) (none m (omega arith))

pub L-of-E : (n : ℕ) → n < 255 → L (E n) ≡ n
unfolding L
L-of-E n h = found 255 n h (omega arith)

pub L-0 : L 0 ≡ 0
unfolding L
L-0 = none 255 (omega arith)

pub L-1 : L 1 ≡ 0
unfolding E
L-1 = L-of-E 0 (omega arith)

-- what the test says of a byte but 0
module _ (a : ℕ) (h : suc a < 256) where
  place : ℕ
  place = entry l_table (suc a)

  place_lt : place < 255
  unfolding is_logarithm place
  place_lt = ltb→lt place 255 (both_left (ltb place 255) (eqb (entry e_table place) (suc a)) (L-test (suc a) h))

  place_back : E place ≡ suc a
  unfolding is_logarithm place
  place_back =
      sym (E-rule place (omega (arith, place_lt)))
      ∙ eqb→eq (entry e_table place) (suc a) (both_right (ltb place 255) (eqb (entry e_table place) (suc a)) (L-test (suc a) h))

pub L-rule : (a : ℕ) → a < 256 → entry l_table a ≡ L a
unfolding is_logarithm place
L-rule zero h = eqb→eq (entry l_table 0) 0 (L-test 0 h) ∙ sym L-0
L-rule (suc a) h = sym (L-of-E (place a h) (place_lt a h)) ∙ ap L (place_back a h)

pub L-lt : (a : ℕ) → a < 256 → L a < 255
unfolding place
L-lt zero h = omega (arith, L-0)
L-lt (suc a) h = omega (arith, place_lt a h, L-rule (suc a) h)

pub E-of-L : (a : ℕ) → a < 256 → (a ≡ 0 → ⊥) → E (L a) ≡ a
unfolding place
E-of-L zero h n = absurd (n refl)
E-of-L (suc a) h n = ap E (sym (L-rule (suc a) h)) ∙ place_back a h

-- ---- the product

added_lt : (x y : ℕ) → x < 255 → y < 255 → added x y < 256
unfolding added
added_lt x y hx hy =
    ⊎_elim (λ l. rw (lt-ltb 255 (x + y) l) (omega arith)) (λ l. rw (le-ltb 255 (x + y) l) (omega arith)) (lt_or_le 255 (x + y))

E-added : (x y : ℕ) → E (added x y) ≡ E x • E y
unfolding added
E-added x y = reduced ∙ sym (E-sum x y)
  where
    reduced : E (added x y) ≡ E (x + y)
    reduced =
        ⊎_elim (λ l. rw (lt-ltb 255 (x + y) l) (E-around (x + y) (omega arith))) (λ l. rw (le-ltb 255 (x + y) l)) (lt_or_le 255 (x + y))

-- the product of two bytes that are not 0
product_powers : (a b : ℕ) → a < 256 → b < 256 → (a ≡ 0 → ⊥) → (b ≡ 0 → ⊥) → a • b ≡ E (added (L a) (L b))
product_powers a b ha hb na nb = sym (E-added (L a) (L b) ∙ ap₂ ◌•◌ (E-of-L a ha na) (E-of-L b hb nb))

-- the same by the tables
pub product_entries : (a b : ℕ) → a < 256 → b < 256 → (a ≡ 0 → ⊥) → (b ≡ 0 → ⊥)
    → a • b ≡ entry e_table (added (entry l_table a) (entry l_table b))
product_entries a b ha hb na nb =
    product_powers a b ha hb na nb
    ∙ sym (E-rule (added (L a) (L b)) (added_lt (L a) (L b) (L-lt a ha) (L-lt b hb)))
    ∙ ap (entry e_table) (ap₂ added (sym (L-rule a ha)) (sym (L-rule b hb)))

-- the request's rule, for every pair of bytes
pub product_looked_up : (a b : ℕ) → a < 256 → b < 256 → a • b ≡ looked_up a b
unfolding looked_up
product_looked_up zero b ha hb = zero_product b hb
product_looked_up (suc a) zero ha hb = rw (ne_eqb (suc a) 0 (λ e. omega arith)) (product_zero (suc a))
product_looked_up (suc a) (suc b) ha hb =
    let na : suc a ≡ 0 → ⊥ = λ e. omega arith in
    let nb : suc b ≡ 0 → ⊥ = λ e. omega arith in
    rw (ne_eqb (suc a) 0 na, ne_eqb (suc b) 0 nb) (product_powers (suc a) (suc b) ha hb na nb)
