-- A block of zeros after what is held and what comes were put into it. Assumes nothing.
use mathlib.Core.Path.{◌≡◌, sym, ap, ap₂, ◌∙◌}
use mathlib.Core.List.{List, ◌++◌, append_assoc}
use Prim.Native.Nat.{ℕ, ◌+◌, ◌-◌, ◌≤◌, min}
use native.Mathlib.Omega.{arith}
use borrow.Rule.Slice.PartMut.{put_mid}
use lib.ListN.{length, take, drop, replicate, length-append, length-take}
use lib.Seq.{take-append_seam, drop-append_seam, take-append-add, drop-drop}
use Rattle.std.proofs.lemmas.List.{take_min, drop-replicate}
use Rattle.octets.specs.Octets.{pad_to}

-- the bytes a, and as many of the part as there is room for
two_parts : (a part : List ℕ) (h n : ℕ) → length a ≡ h → h ≤ 16 → n ≡ min (length part) (16 - h)
    → put_mid h n (a ++ drop h (replicate 16 0)) (take n part) ≡ pad_to 16 (take 16 (a ++ part))
unfolding pad_to
two_parts a part h n l s e =
    let z : List ℕ = drop h (replicate 16 0) in
    let b = take n part in
    let front : take h (a ++ z) ≡ a = ap (λ (k : ℕ). take k (a ++ z)) (sym l) ∙ take-append_seam a z in
    let back : drop h (a ++ z) ≡ z = ap (λ (k : ℕ). drop k (a ++ z)) (sym l) ∙ drop-append_seam a z in
    let rest : drop n z ≡ replicate (16 - (h + n)) 0 = drop-drop n h (replicate 16 0) ∙ drop-replicate (h + n) 16 0 in
    let room : 16 ≡ length a + (16 - h) = omega arith in
    let m : min (16 - h) (length part) ≡ n = omega arith in
    let whole : take 16 (a ++ part) ≡ a ++ b =
    ap (λ (k : ℕ). take k (a ++ part)) room ∙ take-append-add a part (16 - h) ∙ ap (a ++◌) (sym (take_min (16 - h) part) ∙ ap (λ (k : ℕ). take k part) m) in
    let size : 16 - (h + n) ≡ 16 - length (a ++ b) = omega (arith, length-append a b, length-take n part) in
    ap₂ (λ (x y : List ℕ). x ++ (b ++ drop n y)) front back
    ∙ ap (λ (x : List ℕ). a ++ (b ++ x)) (rest ∙ ap (λ (k : ℕ). replicate k 0) size)
    ∙ sym (append_assoc a b (replicate (16 - length (a ++ b)) 0))
    ∙ ap (λ (x : List ℕ). x ++ replicate (16 - length x) 0) (sym whole)

pub filled : (held part a b : List ℕ) (count h n : ℕ) → length held ≡ 16 → h ≡ min count 16 → n ≡ min (length part) (16 - h) → a ≡ take h held → b ≡ take n part
    → put_mid h (h + n - h) (a ++ drop h (replicate 16 0)) b ≡ pad_to 16 (take 16 (take count held ++ part))
filled held part a b count h n l eh en ea eb =
    let m : h + n - h ≡ n = omega arith in
    let i : h ≡ min count (length held) = omega arith in
    let t : a ≡ take count held = ea ∙ ap (λ (k : ℕ). take k held) i ∙ take_min count held in
    ap₂ (λ (k : ℕ) (y : List ℕ). put_mid h k (a ++ drop h (replicate 16 0)) y) m eb
    ∙ two_parts a part h n (ap length ea ∙ omega (arith, length-take h held)) (omega arith) en
    ∙ ap (λ (x : List ℕ). pad_to 16 (take 16 (x ++ part))) t
