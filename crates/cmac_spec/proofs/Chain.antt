-- The chain piece by piece. Assumes nothing.
use mathlib.Core.Path.{◌≡◌, refl, ap, ◌∙◌}
use mathlib.Core.List.{List, ◌++◌}
use Prim.Native.Nat.{ℕ, zero, suc, ◌+◌, ◌-◌, ◌*◌, ◌≤◌, ◌<◌}
use native.Mathlib.Nat.{zero-add, suc-add}
use native.Mathlib.Omega.{arith}
use lib.ListN.{length, take, drop, length-drop}
use lib.Seq.{take-append-le, drop-append-le, drop-drop}
use Rattle.octets.specs.Blocks.{◌⊕◌, BlockCipher}
use Rattle.cmac_spec.specs.Cmac.{chained}

pub drop_piece : (n : ℕ) (s : List ℕ) → drop (n * 16) (drop 16 s) ≡ drop (suc n * 16) s
drop_piece n s = let e : 16 + n * 16 ≡ suc n * 16 = omega arith in drop-drop (n * 16) 16 s ∙ ap (λ (m : ℕ). drop m s) e

module _ (c : BlockCipher) where
  pub chained_add : (n k : ℕ) (st s : List ℕ) → chained c st (n + k) s ≡ chained c (chained c st n s) k (drop (n * 16) s)
  unfolding chained
  chained_add zero k st s = rw (zero-add k)
  chained_add (suc n) k st s =
      rw (suc-add n k)
      (chained_add n k (c.enc (st ⊕ take 16 s)) (drop 16 s)
      ∙ ap (chained c (chained c (c.enc (st ⊕ take 16 s)) n (drop 16 s)) k) (drop_piece n s))

  -- what comes after n pieces does not change them
  pub chained_front : (n : ℕ) (st s t : List ℕ) → n * 16 ≤ length s → chained c st n (s ++ t) ≡ chained c st n s
  unfolding chained
  chained_front zero st s t h = refl
  chained_front (suc n) st s t h =
      let l : 16 ≤ length s = omega arith in
      rw (take-append-le 16 s t l, drop-append-le 16 s t l) (chained_front n (c.enc (st ⊕ take 16 s)) (drop 16 s) t (omega (arith, length-drop 16 s)))

  -- a turn of a loop that has gone through i of n pieces
  pub chained_turn : (st s : List ℕ) (i n : ℕ) → i < n
      → chained c st (n - i) (drop (i * 16) s) ≡ chained c (c.enc (st ⊕ take 16 (drop (i * 16) s))) (n - (i + 1)) (drop ((i + 1) * 16) s)
  unfolding chained
  chained_turn st s i n h =
      let e : n - i ≡ suc (n - (i + 1)) = omega arith in
      let d : i * 16 + 16 ≡ (i + 1) * 16 = omega arith in
      ap (λ (k : ℕ). chained c st k (drop (i * 16) s)) e
      ∙ ap (chained c (c.enc (st ⊕ take 16 (drop (i * 16) s))) (n - (i + 1))) (drop-drop 16 (i * 16) s ∙ ap (λ (k : ℕ). drop k s) d)

  pub chained_end : (st s : List ℕ) (i n : ℕ) → n ≤ i → chained c st (n - i) s ≡ st
  unfolding chained
  chained_end st s i n h = let e : n - i ≡ 0 = omega arith in rw e
