-- The sum of blocks, and the parts of lists of bytes. Assumes nothing.
use mathlib.Core.Path.{◌≡◌, refl, sym, ap, ap₂, ◌∙◌}
use mathlib.Core.List.{List, [], ◌∷◌, ◌++◌}
use Prim.Native.Nat.{ℕ, zero, suc, ◌≤◌}
use native.Mathlib.Omega.{arith}
use lib.ListN.{length, take, drop, replicate}
use lib.Seq.{length-take-le}
use Rattle.octets.specs.Octets.{Bytes, Octets}
use Rattle.octets.specs.Blocks.{◌⊕◌}
use Rattle.octets.proofs.Xor.{xor_comm, xor_undo, xor_lt}

pub ⊕-comm : (a b : List ℕ) → a ⊕ b ≡ b ⊕ a
⊕-comm [] [] = refl
⊕-comm [] (y ∷ b) = refl
⊕-comm (x ∷ a) [] = refl
⊕-comm (x ∷ a) (y ∷ b) = ap₂ ◌∷◌ (xor_comm x y) (⊕-comm a b)

-- what was added is taken off again
pub ⊕-undo : (a b : List ℕ) → length a ≤ length b → (a ⊕ b) ⊕ b ≡ a
⊕-undo [] b h = refl
⊕-undo (x ∷ a) [] h = absurd (omega arith)
⊕-undo (x ∷ a) (y ∷ b) h = ap₂ ◌∷◌ (xor_undo x y) (⊕-undo a b (omega arith))

pub ⊕-injective : (a b c : List ℕ) → length a ≤ length c → length b ≤ length c → a ⊕ c ≡ b ⊕ c → a ≡ b
⊕-injective a b c ha hb e = sym (⊕-undo a c ha) ∙ ap (λ (x : List ℕ). x ⊕ c) e ∙ ⊕-undo b c hb

pub ⊕-length : (a b : List ℕ) → length a ≤ length b → length (a ⊕ b) ≡ length a
⊕-length [] b h = refl
⊕-length (x ∷ a) [] h = omega arith
⊕-length (x ∷ a) (y ∷ b) h = ap suc (⊕-length a b (omega arith))

pub ⊕-bytes : (a b : List ℕ) → Bytes a → Bytes b → Bytes (a ⊕ b)
⊕-bytes [] b ha hb k = omega arith
⊕-bytes (x ∷ a) [] ha hb k = omega arith
⊕-bytes (x ∷ a) (y ∷ b) ha hb zero = xor_lt (ha 0) (hb 0)
⊕-bytes (x ∷ a) (y ∷ b) ha hb (suc k) = ⊕-bytes a b (λ k. ha (suc k)) (λ k. hb (suc k)) k

pub ⊕-octets : {n : ℕ} {a b : List ℕ} → Octets n a → Octets n b → Octets n (a ⊕ b)
⊕-octets {n} {a} {b} ha hb = record {
  size = ⊕-length a b (omega (arith, ha.size, hb.size)) ∙ ha.size;
  bytes = ⊕-bytes a b ha.bytes hb.bytes;
}

-- ---- parts of lists of bytes

pub take_bytes : (n : ℕ) (s : List ℕ) → Bytes s → Bytes (take n s)
take_bytes zero s h k = omega arith
take_bytes (suc n) [] h k = omega arith
take_bytes (suc n) (x ∷ s) h zero = h 0
take_bytes (suc n) (x ∷ s) h (suc k) = take_bytes n s (λ k. h (suc k)) k

pub drop_bytes : (n : ℕ) (s : List ℕ) → Bytes s → Bytes (drop n s)
drop_bytes zero s h k = h k
drop_bytes (suc n) [] h k = omega arith
drop_bytes (suc n) (x ∷ s) h k = drop_bytes n s (λ k. h (suc k)) k

pub append_bytes : (s t : List ℕ) → Bytes s → Bytes t → Bytes (s ++ t)
append_bytes [] t h g k = g k
append_bytes (x ∷ s) t h g zero = h 0
append_bytes (x ∷ s) t h g (suc k) = append_bytes s t (λ k. h (suc k)) g k

pub zeros_bytes : (n : ℕ) → Bytes (replicate n 0)
zeros_bytes zero k = omega arith
zeros_bytes (suc n) zero = omega arith
zeros_bytes (suc n) (suc k) = zeros_bytes n k

pub take_octets : (n : ℕ) (s : List ℕ) → n ≤ length s → Bytes s → Octets n (take n s)
take_octets n s h b = record { size = length-take-le n s h; bytes = take_bytes n s b }

pub length_nil : (s : List ℕ) → length s ≡ 0 → s ≡ []
length_nil [] e = refl
length_nil (x ∷ s) e = absurd (omega arith)
