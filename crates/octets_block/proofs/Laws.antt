-- A block by its bytes. Assumes nothing.
use mathlib.Core.Path.{◌≡◌, refl, ap, ◌∙◌, subst}
use denote.Param.Members.{Mut, Called}
use Rattle.std.specs.Array.{IsFromFnResultFrom, IsFromFnResult}
use mathlib.Core.List.{List, [], ◌∷◌}
use Prim.Native.Nat.{ℕ, zero, suc, ◌+◌, ◌≤◌, ◌<◌}
use native.Mathlib.Omega.{arith}
use borrow.Author.Tests.{le-leb}
use lib.ListN.{length, get_or, take, drop, length-drop}
use lib.Seq.{paste}
use Rattle.octets.specs.Octets.{xor, tabulate, Bytes, Octets}
use Rattle.octets.specs.Blocks.{◌⊕◌}
use Rattle.octets.proofs.Fill.{is_tabulate}
use Rattle.octets.proofs.Blocks.{⊕-length, take_octets, drop_bytes}
use Rattle.octets_slice.specs.Slices.{copied}
use Rattle.octets_slice.proofs.Laws.{copied_fits}
use Rattle.octets_block.specs.Blocks.{block_at}

get_d_sum : (a b : List ℕ) (k : ℕ) → k < length a → k < length b → get_or (a ⊕ b) k 0 ≡ xor (get_or a k 0) (get_or b k 0)
get_d_sum [] b k h l = absurd (omega arith)
get_d_sum (x ∷ a) [] k h l = absurd (omega arith)
get_d_sum (x ∷ a) (y ∷ b) zero h l = refl
get_d_sum (x ∷ a) (y ∷ b) (suc k) h l = get_d_sum a b k (omega arith) (omega arith)

pub sum_tabulate : (n : ℕ) (a b : List ℕ) → length a ≡ n → n ≤ length b → a ⊕ b ≡ tabulate n (λ k. xor (get_or a k 0) (get_or b k 0))
sum_tabulate n a b ha hb =
    is_tabulate n (λ k. xor (get_or a k 0) (get_or b k 0)) (a ⊕ b) (⊕-length a b (omega arith) ∙ ha)
    (λ k l. get_d_sum a b k (omega arith) (omega arith))

-- ---- an array made by a closure that keeps what it holds

module _ {F : Type 0} (g : Mut F (ℕ × Unit {0}) ℕ) (f : F) (h : ℕ → ℕ) (same : (i y : ℕ) (q : F) → Called g f (i, tt) y q → (q ≡ f) × (y ≡ h i)) (ys : List ℕ) where
  made_at : (n i k : ℕ) → k < n → IsFromFnResultFrom g f ys i n → get_or ys (i + k) 0 ≡ h (i + k)
  made_at zero i k l w = absurd (omega arith)
  made_at (suc n) i zero l w =
      let e : i + 0 ≡ i = omega arith in
      rw e (w.2.1 0 ∙ (same i w.1 w.0 w.3).1)
  made_at (suc n) i (suc k) l w =
      let e : i + suc k ≡ i + 1 + k = omega arith in
      rw e (made_at n (i + 1) k (omega arith) (subst (λ (q : F). IsFromFnResultFrom g q ys (i + 1) n) (same i w.1 w.0 w.3).0 w.4))

  pub made_tabulate : (n : ℕ) → IsFromFnResult g f ys n → ys ≡ tabulate n h
  made_tabulate n w =
      is_tabulate n h ys w.long (λ k l. let e : 0 + k ≡ k = omega arith in rw e at (made_at n 0 k l w.each))

-- ---- where there is room

module _ (s : List ℕ) (at : ℕ) (h : at + 16 ≤ length s) where
  pub block-at : block_at s at ≡ take 16 (drop at s)
  unfolding block_at
  block-at = rw (le-leb (at + 16) (length s) h)

  pub block_put : (b : List ℕ) → length b ≡ 16 → copied b at s ≡ paste s at b 16
  block_put b e = copied_fits b at s (omega (arith, e)) ∙ ap (paste s at b) e

  pub block_octets : Bytes s → Octets 16 (block_at s at)
  block_octets b = rw block-at (take_octets 16 (drop at s) (omega (arith, length-drop at s)) (drop_bytes at s b))
