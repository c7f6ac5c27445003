-- The registers, by what is written where. Assumes nothing.
use mathlib.Core.Path.{◌≡◌, refl, sym, ap, ap₂, ◌∙◌}
use mathlib.Core.List.{List, [], ◌∷◌, ◌++◌, append_assoc}
use Prim.Native.Nat.{ℕ, zero, suc, ◌+◌, ◌-◌, ◌*◌, ◌/◌, ◌%◌, ◌≤◌, ◌<◌}
use native.Mathlib.Omega.{arith}
use borrow.Rule.Slice.PartMut.{put_mid}
use lib.ListN.{length, get_or, take, drop, set, replicate}
use lib.Seq.{take-add, drop_at, drop-drop, take-append-add, drop-append-add, length-take-le}
use Rattle.octets.specs.Octets.{xor}
use Rattle.octets.specs.Words.{bytes_of}
use Rattle.octets.specs.Blocks.{◌⊕◌}
use Rattle.octets.proofs.Xor.{xor_zero}
use Rattle.wrap_spec.specs.Wrap.{counter, replaced, msb, lsb}

-- ---- lists

pub take_past : (p q : List ℕ) (n k : ℕ) → length p ≡ n → take (n + k) (p ++ q) ≡ p ++ take k q
take_past p q n k e = ap (λ (x : ℕ). take (x + k) (p ++ q)) (sym e) ∙ take-append-add p q k

pub drop_past : (p q : List ℕ) (n k : ℕ) → length p ≡ n → drop (n + k) (p ++ q) ≡ drop k q
drop_past p q n k e = ap (λ (x : ℕ). drop (x + k) (p ++ q)) (sym e) ∙ drop-append-add p q k

pub drop_take : (n k : ℕ) (s : List ℕ) → n ≤ length s → drop n (take (n + k) s) ≡ take k (drop n s)
drop_take n k s h = ap (drop n) (take-add n k s) ∙ drop_at (take n s) (take k (drop n s)) n (length-take-le n s h)

-- ---- the step number

counter_byte : (t : ℕ) → t < 256 → counter t ≡ replicate 7 0 ++ (t ∷ [])
unfolding counter bytes_of
counter_byte t h =
    let hi : t / 4294967296 ≡ 0 = omega arith in
    let lo : t % 4294967296 ≡ t = omega arith in
    let b0 : t / 16777216 % 256 ≡ 0 = omega arith in
    let b1 : t / 65536 % 256 ≡ 0 = omega arith in
    let b2 : t / 256 % 256 ≡ 0 = omega arith in
    let b3 : t % 256 ≡ t = omega arith in
    rw (hi, lo, b0, b1, b2, b3)

added : (k : ℕ) (b : List ℕ) (t : ℕ) → k < length b → set b k (xor (get_or b k 0) t) ≡ (take (suc k) b ⊕ (replicate k 0 ++ (t ∷ []))) ++ drop (suc k) b
added k [] t h = absurd (omega arith)
added zero (x ∷ b) t h = refl
added (suc k) (x ∷ b) t h = ap₂ ◌∷◌ (sym (xor_zero x)) (added k b t (omega arith))

pub counted_by : (b : List ℕ) (t : ℕ) → length b ≡ 16 → t < 256 → set b 7 (xor (get_or b 7 0) t) ≡ (msb b ⊕ counter t) ++ lsb b
counted_by b t e h = added 7 b t (omega arith) ∙ ap (λ (x : List ℕ). (take 8 b ⊕ x) ++ drop 8 b) (sym (counter_byte t h))

-- ---- the halves of a block become A and R[i]

pub put_by : (w : List ℕ) (i k : ℕ) (a r : List ℕ) → 1 ≤ i → 8 * i + 8 ≤ length w → k ≡ 8 → length a ≡ 8 → put_mid (8 * i) k (a ++ drop 8 w) r ≡ replaced w i a r
unfolding replaced
put_by w i k a r hi hw ek la =
    let q = 8 * i - 8 in
    let ei : 8 * i ≡ 8 + q = omega arith in
    let en : 8 * i + k ≡ 8 + (q + 8) = omega arith in
    let el : 8 + (q + 8) ≡ 8 * i + 8 = omega arith in
    let front : take (8 * i) (a ++ drop 8 w) ≡ a ++ drop 8 (take (8 * i) w) =
    rw ei (take_past a (drop 8 w) 8 q la ∙ ap (a ++◌) (sym (drop_take 8 q w (omega arith)))) in
    let rest : drop k (drop (8 * i) (a ++ drop 8 w)) ≡ drop (8 * i + 8) w =
    drop-drop k (8 * i) (a ++ drop 8 w) ∙ ap (λ (n : ℕ). drop n (a ++ drop 8 w)) en
    ∙ drop_past a (drop 8 w) 8 (q + 8) la ∙ drop-drop (q + 8) 8 w ∙ ap (λ (n : ℕ). drop n w) el in
    ap₂ (λ (x y : List ℕ). x ++ (r ++ y)) front rest ∙ append_assoc a (drop 8 (take (8 * i) w)) (r ++ drop (8 * i + 8) w)
