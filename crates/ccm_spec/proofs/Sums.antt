-- Sums of lists by their parts, and lists that are filled up with zeros. Assumes nothing.
use mathlib.Core.Path.{◌≡◌, refl, sym, ap₂}
use mathlib.Core.List.{List, [], ◌∷◌, ◌++◌, append_assoc, append-nil}
use Prim.Native.Nat.{ℕ, zero, suc, ◌+◌, ◌-◌, ◌≤◌}
use native.Mathlib.Omega.{arith}
use lib.ListN.{length, take, drop, replicate, length-append}
use Rattle.octets.specs.Octets.{pad_to}
use Rattle.octets.specs.Blocks.{◌⊕◌}

-- ---- sums

pub ⊕-nil : (a : List ℕ) → a ⊕ [] ≡ []
⊕-nil [] = refl
⊕-nil (x ∷ a) = refl

pub take-⊕ : (n : ℕ) (a b : List ℕ) → take n (a ⊕ b) ≡ take n a ⊕ take n b
take-⊕ zero a b = refl
take-⊕ (suc n) [] b = refl
take-⊕ (suc n) (x ∷ a) [] = refl
take-⊕ (suc n) (x ∷ a) (y ∷ b) = ap₂ ◌∷◌ refl (take-⊕ n a b)

pub drop-⊕ : (n : ℕ) (a b : List ℕ) → drop n (a ⊕ b) ≡ drop n a ⊕ drop n b
drop-⊕ zero a b = refl
drop-⊕ (suc n) [] b = refl
drop-⊕ (suc n) (x ∷ a) [] = sym (⊕-nil (drop n a))
drop-⊕ (suc n) (x ∷ a) (y ∷ b) = drop-⊕ n a b

-- a sum goes no further than its second list
pub ⊕-reach : (n : ℕ) (a b : List ℕ) → length b ≤ n → take n a ⊕ b ≡ a ⊕ b
⊕-reach zero a [] h = sym (⊕-nil a)
⊕-reach zero a (y ∷ b) h = absurd (omega arith)
⊕-reach (suc n) [] b h = refl
⊕-reach (suc n) (x ∷ a) [] h = refl
⊕-reach (suc n) (x ∷ a) (y ∷ b) h = ap₂ ◌∷◌ refl (⊕-reach n a b (omega arith))

pub ⊕-append : (a b c d : List ℕ) → length a ≡ length b → (a ++ c) ⊕ (b ++ d) ≡ (a ⊕ b) ++ (c ⊕ d)
⊕-append [] [] c d e = refl
⊕-append [] (y ∷ b) c d e = absurd (omega arith)
⊕-append (x ∷ a) [] c d e = absurd (omega arith)
⊕-append (x ∷ a) (y ∷ b) c d e = ap₂ ◌∷◌ refl (⊕-append a b c d (omega arith))

pub ⊕-short : (a b : List ℕ) → length (a ⊕ b) ≤ length b
⊕-short [] b = omega arith
⊕-short (x ∷ a) [] = omega arith
⊕-short (x ∷ a) (y ∷ b) = omega (arith, ⊕-short a b)

-- ---- zeros behind a list

pub pad_to_full : (n : ℕ) (s : List ℕ) → n ≤ length s → pad_to n s ≡ s
unfolding pad_to
pad_to_full n s h = let e : n - length s ≡ 0 = omega arith in rw e (append-nil s)

pub pad_to_append : (m k : ℕ) (a b : List ℕ) → length a ≡ m → pad_to (m + k) (a ++ b) ≡ a ++ pad_to k b
unfolding pad_to
pad_to_append m k a b e =
    let n : m + k - length (a ++ b) ≡ k - length b = omega (arith, length-append a b) in
    rw n (append_assoc a b (replicate (k - length b) 0))
