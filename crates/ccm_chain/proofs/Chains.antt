-- The chain over what is joined, and over what zeros fill up. Assumes nothing.
use mathlib.Core.Path.{◌≡◌, refl, sym, ap, ap₂, ◌∙◌}
use mathlib.Core.List.{List, ◌∷◌, ◌++◌, append_assoc}
use Prim.Native.Nat.{ℕ, zero, suc, ◌+◌, ◌-◌, ◌*◌, ◌/◌, ◌≤◌}
use native.Mathlib.Omega.{arith}
use borrow.Author.Tests.{eq-eqb, ne_eqb}
use borrow.Rule.Slice.PartMut.{put_mid}
use lib.ListN.{length, take, drop, replicate, length-append, take-append-drop}
use lib.Seq.{length-take-le, drop_at, take-append-add}
use Rattle.octets.specs.Octets.{pad_to}
use Rattle.octets.specs.Blocks.{◌⊕◌, BlockCipher}
use Rattle.octets_slice.proofs.Laws.{drop_zeros}
use Rattle.cmac_spec.specs.Cmac.{chained}
use Rattle.cmac_spec.proofs.Chain.{chained_add, chained_front}
use Rattle.modes_spec.specs.Pieces.{piece_count}
use Rattle.ccm_spec.specs.Ccm.{half, first, whole, encoded}
use Rattle.ccm_spec.proofs.Sums.{pad_to_full, pad_to_append}
use Rattle.ccm_chain.specs.Model.{begun}

module _ (c : BlockCipher) where
  pub chained_joined : (st : List ℕ) (n k : ℕ) (a b : List ℕ) → length a ≡ n * 16 → chained c st (n + k) (a ++ b) ≡ chained c (chained c st n a) k b
  chained_joined st n k a b e =
      chained_add c n k st (a ++ b)
      ∙ ap₂ (λ (x y : List ℕ). chained c x k y) (chained_front c n st a b (omega arith)) (drop_at a b (n * 16) e)

  pub single : (v b : List ℕ) → chained c v 1 b ≡ c.enc (v ⊕ take 16 b)
  unfolding chained
  single v b = refl

  -- one piece more
  pub chained_one : (st : List ℕ) (n : ℕ) (a b : List ℕ) → length a ≡ n * 16 → chained c st (n + 1) (a ++ b) ≡ c.enc (chained c st n a ⊕ take 16 b)
  chained_one st n a b e = chained_joined st n 1 a b e ∙ single (chained c st n a) b

  -- ---- over a message and zeros up to whole pieces

  module _ (st m : List ℕ) where
    pub through_whole : length m / 16 * 16 ≡ length m → chained c st (length m / 16) m ≡ chained c st (piece_count 16 m) (whole m)
    unfolding whole
    through_whole e =
        let k : piece_count 16 m ≡ length m / 16 = omega arith in
        rw (k, pad_to_full (length m / 16 * 16) m (omega arith))

    pub through_rest : (rest : List ℕ) → length rest ≡ 16 → rest ≡ pad_to 16 (drop (length m / 16 * 16) m) → (length m / 16 * 16 ≡ length m → ⊥)
        → chained c (chained c st (length m / 16) m) (length rest / 16) rest ≡ chained c st (piece_count 16 m) (whole m)
    unfolding whole
    through_rest rest lr er n =
        let q = length m / 16 in
        let t = take (q * 16) m in
        let d = drop (q * 16) m in
        let lt : length t ≡ q * 16 = length-take-le (q * 16) m (omega arith) in
        let k : piece_count 16 m ≡ q + 1 = omega arith in
        let one : length rest / 16 ≡ 1 = omega arith in
        let split : t ++ d ≡ m = take-append-drop (q * 16) m in
        let m1 : (q + 1) * 16 ≡ q * 16 + 16 = omega arith in
        let w : pad_to ((q + 1) * 16) m ≡ t ++ rest =
        ap₂ (λ (i : ℕ) (x : List ℕ). pad_to i x) m1 (sym split) ∙ pad_to_append (q * 16) 16 t d lt ∙ ap (t ++◌) (sym er) in
        let f : chained c st q m ≡ chained c st q t = ap (chained c st q) (sym split) ∙ chained_front c q st t d (omega arith) in
        rw (one, k, w, f) (sym (chained_joined st q 1 t rest lt))

  -- ---- over B0 and the associated data

  module _ (nonce a : List ℕ) (len : ℕ) where
    pub begun_none : (b : List ℕ) → b ≡ first nonce a len → length b ≡ 16 → length a ≡ 0 → chained c (replicate 16 0) (length b / 16) b ≡ begun c nonce a len
    unfolding begun encoded chained
    begun_none b e l z =
        let one : length b / 16 ≡ 1 = omega arith in
        rw (one, e, eq-eqb (length a) 0 z)

    pub begun_some : (b d : List ℕ) → b ≡ first nonce a len → length b ≡ 16 → (length a ≡ 0 → ⊥) → d ≡ whole (half (length a) ++ a)
        → chained c (chained c (replicate 16 0) (length b / 16) b) (length d / 16) d ≡ begun c nonce a len
    unfolding begun encoded
    begun_some b d e l z ed =
        let one : length b / 16 ≡ 1 = omega arith in
        rw (one, e, ed, ne_eqb (length a) 0 z)

-- ---- the associated data with its length before it

take_zeros : (k n : ℕ) → k ≤ n → take {A = ℕ} k (replicate n 0) ≡ replicate k 0
take_zeros zero n h = refl
take_zeros (suc k) zero h = absurd (omega arith)
take_zeros (suc k) (suc n) h = ap (0 ∷◌) (take_zeros k n (omega arith))

pub take_pad_to : (m n : ℕ) (s : List ℕ) → length s ≤ m → m ≤ n → take m (pad_to n s) ≡ pad_to m s
unfolding pad_to
take_pad_to m n s l h =
    let e : length s + (m - length s) ≡ m = omega arith in
    ap (λ (k : ℕ). take k (s ++ replicate (n - length s) 0)) (sym e) ∙ take-append-add s (replicate (n - length s) 0) (m - length s)
    ∙ ap (s ++◌) (take_zeros (m - length s) (n - length s) (omega arith))

module _ (a : List ℕ) (h : length a ≤ 64) where
  pub data_made : (x y : List ℕ) (m : ℕ) → x ≡ half (length a) → y ≡ a → m ≡ length a → put_mid 2 m (x ++ drop 2 (replicate 80 0)) y ≡ pad_to 80 (half (length a) ++ a)
  unfolding pad_to
  data_made x y m ex ey em =
      let n = half (length a) in
      let e : 78 - m ≡ 80 - length (n ++ a) = omega (arith, length-append n a) in
      ap₂ (λ (s t : List ℕ). put_mid 2 m (s ++ drop 2 (replicate 80 0)) t) ex ey
      ∙ ap (λ (s : List ℕ). n ++ (a ++ s)) (drop_zeros m 78 ∙ ap (λ (k : ℕ). replicate k 0) e)
      ∙ sym (append_assoc n a (replicate (80 - length (n ++ a)) 0))

  pub data_whole : (d : List ℕ) (m : ℕ) → d ≡ pad_to 80 (half (length a) ++ a) → m ≡ (length a + 17) / 16 * 16 → take m d ≡ whole (half (length a) ++ a)
  unfolding whole
  data_whole d m e em =
      let s = half (length a) ++ a in
      let l : length s ≡ length a + 2 = length-append (half (length a)) a ∙ omega arith in
      let k : piece_count 16 s * 16 ≡ m = omega arith in
      ap (take m) e ∙ take_pad_to m 80 s (omega arith) (omega arith) ∙ ap (λ (i : ℕ). pad_to i s) (sym k)
