-- What SP 800-38C, appendix A, says of the blocks, in bytes. Assumes nothing.
use mathlib.Core.Path.{◌≡◌, refl}
use mathlib.Core.List.{List, [], ◌∷◌, ◌++◌}
use Prim.Native.Nat.{ℕ, suc, ◌+◌, ◌-◌, ◌*◌, ◌/◌, ◌%◌}
use native.Mathlib.Omega.{arith}
use borrow.Author.Tests.{ne_eqb}
use lib.ListN.{length}
use Rattle.octets.specs.Octets.{pad_to}
use Rattle.ccm_spec.specs.Ccm.{flagged, first, counter, whole, encoded, formatted}

-- B0 (A.2.1): flags 64 Adata + 8 (t - 2) / 2 + q - 1 with t = 8 and q = 2, the nonce, and the length of the message in two bytes
pub first_block : (nonce : List ℕ) (len : ℕ)
    → (first nonce [] len ≡ (8 * ((8 - 2) / 2) + (2 - 1)) ∷ (nonce ++ (len / 256 % 256 ∷ len % 256 ∷ [])))
    × ((a : List ℕ) → (length a ≡ 0 → ⊥) → first nonce a len ≡ (64 + 8 * ((8 - 2) / 2) + (2 - 1)) ∷ (nonce ++ (len / 256 % 256 ∷ len % 256 ∷ [])))
unfolding flagged
first_block nonce len = (refl, λ a n. rw (ne_eqb (length a) 0 n))

-- Ctr_i (A.3): flags q - 1, the nonce, and i in two bytes
pub counter_blocks : (nonce : List ℕ) (i : ℕ) → counter nonce i ≡ (2 - 1) ∷ (nonce ++ (i / 256 % 256 ∷ i % 256 ∷ []))
unfolding flagged
counter_blocks nonce i = refl

-- associated data (A.2.2): none gives no block; else its length in two bytes, the data, and as few zeros as make whole blocks
pub associated_data : (encoded [] ≡ [])
    × ((a : List ℕ) → (length a ≡ 0 → ⊥) → encoded a ≡ pad_to ((length a + 17) / 16 * 16) (length a / 256 % 256 ∷ length a % 256 ∷ a))
unfolding encoded whole
associated_data = (
  refl,
  λ a n. (let e : suc (suc (length a)) + 15 ≡ length a + 17 = omega arith in rw (ne_eqb (length a) 0 n, e)),
)

-- the payload (A.2.3): the message and as few zeros as make whole blocks; it comes behind B0 and the associated data
pub payload : (nonce a p : List ℕ) → formatted nonce a p ≡ first nonce a (length p) ++ (encoded a ++ pad_to ((length p + 15) / 16 * 16) p)
unfolding formatted whole
payload nonce a p = refl
