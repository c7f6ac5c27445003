-- Two lists compared. Assumes nothing.
use mathlib.Core.Path.{◌≡◌, refl, sym, ap, ap₂, ◌∙◌}
use mathlib.Core.Bool.{Bool, true, false, ◌&&◌}
use mathlib.Core.List.{List, [], ◌∷◌}
use Prim.Native.Nat.{ℕ, zero, suc, ◌+◌, ◌≤◌, ◌<◌}
use native.Mathlib.Omega.{arith}
use borrow.Author.Tests.{eq-eqb, ne_eqb, eqb-true, eqb-false}
use lib.Bits.{bit_or, or_zero_l, or_add_and, and_le_r}
use lib.Dec.{eqb}
use lib.ListN.{length, get_or, drop, drop_of_length-le}
use lib.Seq.{drop-cons}
use Rattle.octets.specs.Octets.{xor, same}
use Rattle.octets.proofs.Xor.{xor_self, xor_undo, zero_xor}

pub same_end : (a b : List ℕ) (i : ℕ) → length a ≤ i → length b ≤ i → true ≡ same (drop i a) (drop i b)
same_end a b i ha hb = rw (drop_of_length-le a {i = i} ha, drop_of_length-le b {i = i} hb)

-- lists that pass are equal, and equal ones pass
pub same_true : (a b : List ℕ) → same a b ≡ true → a ≡ b
same_true [] [] e = refl
same_true [] (y ∷ b) e = let z : ◌≡◌ {A = ℕ} 0 1 = cc in absurd (omega arith)
same_true (x ∷ a) [] e = let z : ◌≡◌ {A = ℕ} 0 1 = cc in absurd (omega arith)
same_true (x ∷ a) (y ∷ b) e = go (eqb x y) refl e (same_true a b)
  where
    go : (t : Bool) → eqb x y ≡ t → (t && same a b) ≡ true → (same a b ≡ true → a ≡ b) → x ∷ a ≡ y ∷ b
    go true f g r = ap₂ ◌∷◌ (eqb-true x y f) (r g)
    go false f g r = let z : ◌≡◌ {A = ℕ} 0 1 = cc in absurd (omega arith)

pub same_refl : (a : List ℕ) → same a a ≡ true
same_refl [] = refl
same_refl (x ∷ a) = rw (eq-eqb x x refl) (same_refl a)

-- ---- differences gathered by `or`, so that no byte ends the comparison early

or_none : (d e : ℕ) → eqb (bit_or d e) 0 ≡ (eqb d 0 && eqb e 0)
or_none zero e = rw (or_zero_l e)
or_none (suc d) e =
    ne_eqb (bit_or (suc d) e) 0 (λ z. omega (arith, z, or_add_and (suc d) e, and_le_r (suc d) e)) ∙ rw (ne_eqb (suc d) 0 (λ z. omega (arith, z)))

xor_none : (x y : ℕ) → eqb (xor x y) 0 ≡ eqb x y
xor_none x y = go (eqb x y) refl
  where
    go : (t : Bool) → eqb x y ≡ t → eqb (xor x y) 0 ≡ t
    go true e = eq-eqb (xor x y) 0 (ap (xor x) (sym (eqb-true x y e)) ∙ xor_self x)
    go false e = ne_eqb (xor x y) 0 (λ z. eqb-false x y e (sym (xor_undo x y) ∙ ap (λ (w : ℕ). xor w y) z ∙ zero_xor y))

and_assoc : (p q r : Bool) → ((p && q) && r) ≡ (p && (q && r))
and_assoc true q r = refl
and_assoc false q r = refl

with_true : (p : Bool) → (p && true) ≡ p
with_true true = refl
with_true false = refl

-- one place more: what is gathered so far is 0, and the rest is the same
pub same_gather : (a b : List ℕ) (i d : ℕ) → i < length a → i < length b
    → (eqb (bit_or d (xor (get_or a i 0) (get_or b i 0))) 0 && same (drop (i + 1) a) (drop (i + 1) b)) ≡ (eqb d 0 && same (drop i a) (drop i b))
same_gather a b i d ha hb =
    let n : i + 1 ≡ suc i = omega arith in
    rw (n, drop-cons a i 0 ha, drop-cons b i 0 hb, or_none d (xor (get_or a i 0) (get_or b i 0)), xor_none (get_or a i 0) (get_or b i 0)) (and_assoc (eqb d 0) (eqb (get_or a i 0) (get_or b i 0)) (same (drop (suc i) a) (drop (suc i) b)))

pub same_gathered : (a b : List ℕ) (i d : ℕ) → length a ≤ i → length b ≤ i → (eqb d 0 && same (drop i a) (drop i b)) ≡ eqb d 0
same_gathered a b i d ha hb = rw (sym (same_end a b i ha hb), with_true (eqb d 0))

-- lists of two lengths differ
pub same_lengths : (a b : List ℕ) → (length a ≡ length b → ⊥) → false ≡ same a b
same_lengths a b n = go (same a b) refl
  where
    go : (t : Bool) → same a b ≡ t → false ≡ t
    go true e = absurd (n (ap length (same_true a b e)))
    go false e = refl
