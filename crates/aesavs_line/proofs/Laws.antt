-- Lines compared with words. Assumes nothing.
use Rattle.std.proofs.Common.{◌≡◌, ℕ, Bool, true, false, cond, Option, Some, None, List, [], ◌∷◌, ◌-◌, ◌&&◌, eqb, suc, take, drop, length, get_or, refl, ap, ap₂, ◌∙◌, arith}
use Rattle.std.proofs.lemmas.Bool.Decides.{nat_tests}
use Rattle.std.specs.Str.{bytes_eq}
use Rattle.std.specs.List.{find}
use Rattle.std.specs.Option.{unwrap_or, option_map}
use Rattle.aesavs_line.specs.Lines.{starts, name_of, field_line}
use Rattle.aesavs_line.specs.declared.Field.{Field}
use Rattle.aesavs_line.specs.declared.Field.TheVariants.{Key, Iv, Plaintext, Ciphertext}
use Rattle.aesavs_line.specs.declared.Line.TheVariants.{Value, Outside}
use Rattle.octets.specs.Octets.{same}
use Rattle.octets.proofs.Same.{same_true, same_lengths}

-- a line of another first byte is another
pub same_first : (a : List ℕ) (y : ℕ) (b : List ℕ) → (get_or a 0 0 ≡ y → ⊥) → false ≡ same a (y ∷ b)
same_first a y b n = go (same a (y ∷ b)) refl
  where
    go : (t : Bool) → same a (y ∷ b) ≡ t → false ≡ t
    go true e = absurd (n (ap (λ (l : List ℕ). get_or l 0 0) (same_true a (y ∷ b) e)))
    go false e = refl

pub ruleset words = (same_true, same_lengths, same_first)

-- the library's comparison of two lists is ours, in either order
pub same_is : (a b : List ℕ) → bytes_eq a b ≡ same a b
same_is [] [] = refl
same_is [] (y ∷ b) = refl
same_is (x ∷ a) [] = refl
same_is (x ∷ a) (y ∷ b) = ap (λ t. eqb x y && t) (same_is a b)

eqb_turned : (x y : ℕ) → eqb y x ≡ eqb x y
eqb_turned x y = grind (arith, nat_tests)

pub same_turned : (a b : List ℕ) → bytes_eq b a ≡ same a b
same_turned [] [] = refl
same_turned [] (y ∷ b) = refl
same_turned (x ∷ a) [] = refl
same_turned (x ∷ a) (y ∷ b) = ap₂ ◌&&◌ (eqb_turned x y) (same_turned a b)

with_true : (b : Bool) → (b && true) ≡ b
with_true true = refl
with_true false = refl

-- a line that ends in a carriage return, or begins with `#`
pub last_is : (s : List ℕ) → bytes_eq (drop (length s - 1) s) (13 ∷ []) ≡ eqb (get_or s (length s - 1) 0) 13
last_is [] = refl
last_is (x ∷ []) = with_true (eqb x 13)
last_is (x ∷ y ∷ r) = let e : length (x ∷ y ∷ r) - 1 ≡ suc (length (y ∷ r) - 1) = omega arith in rw e (last_is (y ∷ r))

pub first_is : (s : List ℕ) → bytes_eq (35 ∷ []) (take 1 s) ≡ eqb (get_or s 0 0) 35
first_is [] = refl
first_is (x ∷ r) = with_true (eqb 35 x) ∙ eqb_turned x 35

pub ruleset fronts = (same_is, first_is)

-- the line of a field that is found, or of none
pub field_found : (s : List ℕ) (r : Option Field) → r ≡ find (λ f. starts (name_of f) s) (Key ∷ Iv ∷ Plaintext ∷ Ciphertext ∷ []) → unwrap_or (option_map Value r) Outside ≡ field_line s
unfolding field_line
field_found s r e = rw e (go (starts (name_of Key) s) (starts (name_of Iv) s) (starts (name_of Plaintext) s) (starts (name_of Ciphertext) s))
  where
    go : (a b c d : Bool)
        → unwrap_or (option_map Value (cond a (Some Key) (cond b (Some Iv) (cond c (Some Plaintext) (cond d (Some Ciphertext) None))))) Outside
        ≡ cond a (Value Key) (cond b (Value Iv) (cond c (Value Plaintext) (cond d (Value Ciphertext) Outside)))
    go true b c d = refl
    go false true c d = refl
    go false false true d = refl
    go false false false true = refl
    go false false false false = refl
