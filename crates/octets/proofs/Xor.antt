-- The algebra of exclusive or, and the bounds that it keeps. Assumes nothing.
use mathlib.Core.Path.{◌≡◌, refl, sym, ap, ap₂, ◌∙◌}
use mathlib.Core.Bool.{Bool, true, false, cond}
use mathlib.Core.Logic.{◌⊎◌, inl, inr}
use Prim.Native.Nat.{ℕ, zero, suc, ◌+◌, ◌*◌, ◌/◌, ◌%◌, ◌≤◌, ◌<◌}
use native.Mathlib.Nat.{zero-lt-suc, mod-lt}
use native.Mathlib.Omega.{arith}
use borrow.Author.Tests.{ltb-true, ltb-false}
use lib.Arith.{bin_ind, digits_mod}
use lib.Dec.{ltb}
use lib.Bits.{bit_xor, differ, xor_step, xor_shr}
use lib.Bits as bits
use Rattle.octets.specs.Octets.{xor}

pub lt_or_le : (a b : ℕ) → (a < b) ⊎ (b ≤ a)
lt_or_le a b = go (ltb a b) refl
  where
    go : (t : Bool) → ltb a b ≡ t → (a < b) ⊎ (b ≤ a)
    go true e = inl (ltb-true a b e)
    go false e = inr (ltb-false a b e)

pub cond_lt : (t : Bool) {n x y : ℕ} → x < n → y < n → cond t x y < n
cond_lt true hx hy = hx
cond_lt false hx hy = hy

differ_assoc : (x y z : ℕ) → x < 2 → y < 2 → z < 2 → differ (differ x y) z ≡ differ x (differ y z)
differ_assoc zero y z hx hy hz = refl
differ_assoc (suc zero) zero z hx hy hz = refl
differ_assoc (suc zero) (suc zero) zero hx hy hz = refl
differ_assoc (suc zero) (suc zero) (suc zero) hx hy hz = refl
differ_assoc (suc zero) (suc zero) (suc (suc z)) hx hy hz = omega arith
differ_assoc (suc zero) (suc (suc y)) z hx hy hz = omega arith
differ_assoc (suc (suc x)) y z hx hy hz = omega arith

differ_lt : (x y : ℕ) → x < 2 → y < 2 → differ x y < 2
differ_lt zero y hx hy = hy
differ_lt (suc x) zero hx hy = hx
differ_lt (suc zero) (suc y) hx hy = omega arith
differ_lt (suc (suc x)) (suc y) hx hy = omega arith

assoc_bits : (a b c : ℕ) → bit_xor (bit_xor a b) c ≡ bit_xor a (bit_xor b c)
assoc_bits =
    bin_ind (λ (a : ℕ). (b c : ℕ) → bit_xor (bit_xor a b) c ≡ bit_xor a (bit_xor b c)) (λ b c. refl)
    λ a ih b c. xor_step (bit_xor a b) c
    ∙ ap₂ (λ (x y : ℕ). x * 2 + y)
    (ap (λ (x : ℕ). bit_xor x (c / 2)) (xor_shr a b 1) ∙ ih (b / 2) (c / 2) ∙ ap (bit_xor (a / 2)) (sym (xor_shr b c 1)))
    (ap (λ (x : ℕ). differ x (c % 2)) (low a b)
    ∙ differ_assoc (a % 2) (b % 2) (c % 2) (digit a) (digit b) (digit c)
    ∙ ap (differ (a % 2)) (sym (low b c)))
    ∙ sym (xor_step a (bit_xor b c))
  where
    digit : (a : ℕ) → a % 2 < 2
    digit a = mod-lt a (zero-lt-suc 1)

    low : (a b : ℕ) → bit_xor a b % 2 ≡ differ (a % 2) (b % 2)
    low a b =
        ap (λ (x : ℕ). x % 2) (xor_step a b)
        ∙ digits_mod (bit_xor (a / 2) (b / 2)) (differ_lt (a % 2) (b % 2) (digit a) (digit b))

pub xor_assoc : (a b c : ℕ) → xor (xor a b) c ≡ xor a (xor b c)
unfolding xor
xor_assoc = assoc_bits

pub xor_comm : (a b : ℕ) → xor a b ≡ xor b a
unfolding xor
xor_comm = bits.xor_comm

pub xor_left_comm : (a b c : ℕ) → xor a (xor b c) ≡ xor b (xor a c)
xor_left_comm a b c = sym (xor_assoc a b c) ∙ ap (λ (x : ℕ). xor x c) (xor_comm a b) ∙ xor_assoc b a c

pub xor_medial : (a b c d : ℕ) → xor (xor a b) (xor c d) ≡ xor (xor a c) (xor b d)
xor_medial a b c d = xor_assoc a b (xor c d) ∙ ap (xor a) (xor_left_comm b c d) ∙ sym (xor_assoc a c (xor b d))

pub xor_self : (a : ℕ) → xor a a ≡ 0
unfolding xor
xor_self = bits.xor_self

pub xor_zero : (a : ℕ) → xor a 0 ≡ a
unfolding xor
xor_zero = bits.xor_zero_r

pub zero_xor : (a : ℕ) → xor 0 a ≡ a
unfolding xor
zero_xor a = refl

-- adding the same twice
pub xor_undo : (a b : ℕ) → xor (xor a b) b ≡ a
xor_undo a b = xor_assoc a b b ∙ ap (xor a) (xor_self b) ∙ xor_zero a

pub xor_lt : {a b : ℕ} → a < 256 → b < 256 → xor a b < 256
unfolding xor
xor_lt {a} {b} ha hb = bits.xor_lt 8 a b ha hb
