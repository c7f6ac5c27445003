-- A list put into another, and two lists compared. Assumes nothing.
use mathlib.Core.Path.{◌≡◌, ap, ◌∙◌}
use mathlib.Core.List.{List, ◌∷◌, ◌++◌}
use Prim.Native.Nat.{ℕ, zero, suc, ◌+◌, ◌-◌, ◌≤◌}
use native.Mathlib.Omega.{arith}
use borrow.Author.Tests.{le-leb}
use mathlib.Core.Bool.{◌&&◌}
use lib.Bits.{bit_or, bit_xor}
use lib.Dec.{eqb}
use lib.ListN.{length, drop, replicate, length-replicate}
use lib.Seq.{paste, take-length}
use Rattle.octets.specs.Octets.{xor, pad_to, over, same}
use Rattle.octets.proofs.Same.{same_gather}
use Rattle.octets_slice.specs.Slices.{copied}

pub copied_fits : (s : List ℕ) (at : ℕ) (w : List ℕ) → at + length s ≤ length w → copied s at w ≡ paste w at s (length s)
unfolding copied
copied_fits s at w h = rw (le-leb (at + length s) (length w) h)

-- a list put in front of another
pub paste_front : (out s : List ℕ) → paste out 0 s (length s) ≡ over s out
paste_front out s = let e : 0 + length s ≡ length s = omega arith in rw e (ap (λ (x : List ℕ). x ++ drop (length s) out) (take-length s))

pub drop_zeros : (k n : ℕ) → drop {A = ℕ} k (replicate n 0) ≡ replicate (n - k) 0
drop_zeros zero n = let e : n - 0 ≡ n = omega arith in rw e
drop_zeros (suc k) zero = let e : 0 - suc k ≡ 0 = omega arith in rw e
drop_zeros (suc k) (suc n) = let e : suc n - suc k ≡ n - k = omega arith in drop_zeros k n ∙ rw e

-- a list put in front of zeros
pub copied_zeros : (n : ℕ) (s : List ℕ) → length s ≤ n → copied s 0 (replicate n 0) ≡ pad_to n s
unfolding pad_to
copied_zeros n s h =
    copied_fits s 0 (replicate n 0) (omega (arith, length-replicate {A = ℕ} n 0)) ∙ paste_front (replicate n 0) s ∙ ap (s ++◌) (drop_zeros (length s) n)

-- ---- one place more of two slices compared: what is gathered so far is 0, and the rest is the same

pub gathered_more : (x y d : ℕ) (a b r s : List ℕ) → r ≡ x ∷ a → s ≡ y ∷ b → (eqb (bit_or d (bit_xor x y)) 0 && same a b) ≡ (eqb d 0 && same r s)
unfolding xor
gathered_more x y d a b r s e f = rw (e, f) (same_gather (x ∷ a) (y ∷ b) 0 d (omega arith) (omega arith))
