-- Counter blocks, sums with a block, and a block put into a list as far as it goes. Assumes nothing.
use mathlib.Core.Path.{◌≡◌, sym, ap, ap₂, ◌∙◌}
use mathlib.Core.List.{List, [], ◌∷◌, ◌++◌, append-nil}
use Prim.Native.Nat.{ℕ, ◌+◌, ◌-◌, ◌≤◌, min}
use native.Mathlib.Omega.{arith}
use borrow.Rule.Slice.PartMut.{put_mid}
use Rattle.std.proofs.lemmas.List.{drop_all}
use lib.ListN.{length, take, drop, replicate, length-append, length-drop}
use lib.Seq.{drop-drop, length-take-le, take_all, take_at, take-append-add, take-append-le}
use Rattle.octets.specs.Octets.{pad_to}
use Rattle.octets.specs.Blocks.{◌⊕◌}
use Rattle.octets.proofs.Xor.{lt_or_le}
use Rattle.octets.proofs.Blocks.{⊕-length, ⊕-comm}
use Rattle.ccm_spec.specs.Ccm.{half, flagged}
use Rattle.ccm_spec.proofs.Sums.{take-⊕, ⊕-short}
use Rattle.ccm_stream.specs.Model.{numbered_as, put_leading}
use mathlib.Core.Logic.{⊎_elim}

-- ---- counter blocks

module _ (nonce : List ℕ) (size : length nonce ≡ 13) (flags n : ℕ) where
  pub flagged_made : numbered_as (flags ∷ (nonce ++ (0 ∷ 0 ∷ []))) n ≡ flagged flags nonce n
  unfolding flagged
  flagged_made = ap (◌++ half n) (take_at (flags ∷ nonce) (0 ∷ 0 ∷ []) 14 (omega arith))

  pub flagged_again : (m : ℕ) → numbered_as (flagged flags nonce m) n ≡ flagged flags nonce n
  unfolding flagged
  flagged_again m = ap (◌++ half n) (take_at (flags ∷ nonce) (half m) 14 (omega arith))

-- ---- the sum with a block, of a piece that was put into zeros, and zeros past it

pub sum_led : (d b x z : List ℕ) (n : ℕ) → length b ≡ 16 → n ≡ min (length d) 16 → x ≡ (take n d ++ drop n (replicate 16 0)) ⊕ b → z ≡ replicate (16 - n) 0
    → put_mid n (16 - n) x z ≡ pad_to 16 (d ⊕ b)
unfolding pad_to
sum_led d b x z n lb en ex ez =
    let t = take n d in
    let p : List ℕ = t ++ drop n (replicate 16 0) in
    let lt : length t ≡ n = length-take-le n d (omega arith) in
    let lp : length p ≡ 16 = length-append t (drop n (replicate 16 0)) ∙ omega (arith, length-drop n (replicate {A = ℕ} 16 0)) in
    let lx : length x ≡ 16 = ap length ex ∙ ⊕-length p b (omega arith) ∙ lp in
    let less : length (d ⊕ b) ≤ n = omega (arith, ⊕-short d b, ⊕-short b d, ap length (⊕-comm d b)) in
    let q : t ⊕ take n b ≡ d ⊕ b = sym (take-⊕ n d b) ∙ take_all n (d ⊕ b) less in
    let front : take n x ≡ d ⊕ b = ap (take n) ex ∙ take-⊕ n p b ∙ ap (◌⊕ take n b) (take_at t (drop n (replicate 16 0)) n lt) ∙ q in
    let size : length (d ⊕ b) ≡ n = ap length (sym q) ∙ ⊕-length t (take n b) (omega (arith, length-take-le n b (omega arith))) ∙ lt in
    let none : drop (16 - n) (drop n x) ≡ [] = drop_all (16 - n) (drop n x) (omega (arith, length-drop n x)) in
    ap₂ (λ (u v : List ℕ). u ++ (z ++ v)) front none
    ∙ ap (λ (v : List ℕ). (d ⊕ b) ++ v) (append-nil z ∙ ez ∙ ap (λ (k : ℕ). replicate (16 - k) 0) (sym size))

-- ---- a block put into a list, as far as that goes

pub put_led : (w : List ℕ) (at : ℕ) (b y : List ℕ) (n k : ℕ) → length b ≡ 16 → at ≤ length w → n ≡ min (length w - at) 16 → k ≡ n → y ≡ take n b
    → put_mid at k w y ≡ put_leading w at b
unfolding put_leading
put_led w at b y n k lb h en ek ey =
    let r = drop (at + 16) w in
    let l = length w - at in
    let whole : length w ≡ length (take at w) + l = omega (arith, length-take-le at w h) in
    let lr = length-drop (at + 16) w in
    let back : take n b ++ drop n (drop at w) ≡ take l (b ++ r) =
    ⊎_elim
    (λ i. let e : n ≡ l = omega arith in
    ap (take n b ++◌) (drop_all n (drop at w) (omega (arith, length-drop at w))) ∙ append-nil (take n b) ∙ ap (λ (j : ℕ). take j b) e ∙ sym (take-append-le l b r (omega arith)))
    (λ i. let e : n ≡ 16 = omega arith in
    ap₂ (λ (u v : List ℕ). u ++ v) (take_all n b (omega arith)) (drop-drop n at w ∙ ap (λ (j : ℕ). drop (at + j) w) e)
    ∙ sym (take_all l (b ++ r) (omega (arith, length-append b r))))
    (lt_or_le (length w) (at + 16)) in
    ap₂ (λ (u : List ℕ) (j : ℕ). take at w ++ (u ++ drop j (drop at w))) ey ek
    ∙ ap (take at w ++◌) back
    ∙ sym (ap (λ (j : ℕ). take j (take at w ++ (b ++ r))) whole ∙ take-append-add (take at w) (b ++ r) l)

-- what is left of a list from a place on, be it past the end
pub rest_from : (s : List ℕ) (at m : ℕ) → m ≡ min at (length s) → take (length s - m) (drop m s) ≡ drop at s
rest_from s at m e =
    ⊎_elim
    (λ i. let k : m ≡ at = omega arith in take_all (length s - m) (drop m s) (omega (arith, length-drop m s)) ∙ ap (λ (j : ℕ). drop j s) k)
    (λ i. take_all (length s - m) (drop m s) (omega (arith, length-drop m s)) ∙ drop_all m s (omega arith) ∙ sym (drop_all at s (omega arith)))
    (lt_or_le at (length s))
