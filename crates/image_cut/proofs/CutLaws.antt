-- Laws on a payload that is cut into blocks: the count by cases, the parts that join to the payload, and what the writer asks of
-- each. Assumes nothing.
use Prim.Native.Nat.{ℕ, zero, suc, ◌+◌, ◌-◌, ◌*◌, ◌/◌, ◌≤◌, ◌<◌, min}
use mathlib.Core.Path.{◌≡◌, refl, ap, ap₂, sym, ◌∙◌}
use mathlib.Core.Bool.{Bool, true, false, ◌||◌}
use mathlib.Core.List.{List}
use native.Mathlib.Omega.{arith}
use native.Mathlib.Nat.{max-eq_right}
use lib.ListN.{length, take, drop, length-take, length-drop}
use lib.Seq.{take_all, drop-drop, take-add}
use lib.Dec.{eqb}
use Rattle.std.proofs.lemmas.List.{take_min, drop_min}
use borrow.Author.Tests.{lt-ltb, le-ltb, le-leb, eq-eqb, eqb-true, eqb-false}
use Rattle.image_limits.specs.Fits.{count_fits_of, length_fits}
use Rattle.modes_spec.specs.Pieces.{piece}
use Rattle.std.specs.Prelude.{None, Some}
use Rattle.image_cut.specs.Cut.{most, blocks_of, count_of, joined}

-- ---- the count

blocks_none : blocks_of 0 ≡ 1
unfolding blocks_of
blocks_none = refl

pub blocks_some : (n : ℕ) → 0 < n → blocks_of n ≡ (n + 479) / 480
unfolding blocks_of
blocks_some n h = max-eq_right (omega arith)

pub count_over : (n : ℕ) → most < n → count_of n ≡ None
unfolding count_of
count_over n h = rw (lt-ltb most n h)

pub count_within : (n : ℕ) → n ≤ most → count_of n ≡ Some (blocks_of n)
unfolding count_of
count_within n h = rw (le-ltb most n h)

-- ---- the parts

-- the part as the code cuts it: from its place, or the end, to the end first
pub part_here : (p : List ℕ) (i k n : ℕ) → k ≡ min (i * 480) (length p) → n ≡ min (length p - k) 480 → take n (take (length p - k) (drop k p)) ≡ piece 480 p i
part_here p i k n ek en =
    let e : length (drop k p) ≡ length p - k = length-drop k p in
    let rest : take (length p - k) (drop k p) ≡ drop (i * 480) p =
    take_all (length p - k) (drop k p) (omega (arith, e)) ∙ ap (λ (j : ℕ). drop j p) ek ∙ drop_min (i * 480) p in
    let size : n ≡ min 480 (length (drop (i * 480) p)) = omega (arith, length-drop (i * 480) p) in
    ap₂ take size rest ∙ take_min 480 (drop (i * 480) p)

-- what a turn of the sealing takes: part i behind the first n blocks is part n + i
pub part_later : (p : List ℕ) (n i : ℕ) → piece 480 (drop (n * 480) p) i ≡ piece 480 p (n + i)
part_later p n i =
    let e : (n + i) * 480 ≡ n * 480 + i * 480 = omega arith in
    rw (e, drop-drop)

joined_take : (p : List ℕ) (n : ℕ) → joined p n ≡ take (n * 480) p
unfolding joined
joined_take p zero = refl
joined_take p (suc n) =
    let e : suc n * 480 ≡ n * 480 + 480 = omega arith in
    rw (joined_take p n) (rw e (sym (take-add (n * 480) 480 p)))

reaches : (n : ℕ) → n ≤ blocks_of n * 480
reaches zero = omega arith
reaches (suc n) = rw (blocks_some (suc n) (omega arith)) (omega arith)

-- the parts of all blocks join to the payload
pub parts_join : (p : List ℕ) → joined p (blocks_of (length p)) ≡ p
parts_join p = joined_take p (blocks_of (length p)) ∙ take_all (blocks_of (length p) * 480) p (reaches (length p))

-- ---- what the writer asks

part_length : (p : List ℕ) (i : ℕ) → length (piece 480 p i) ≡ min 480 (length p - i * 480)
part_length p i = rw (length-take, length-drop)

pub count_fits : (n : ℕ) → n ≤ most → count_fits_of (blocks_of n) ≡ true
unfolding count_fits_of
count_fits zero h = rw blocks_none
count_fits (suc n) h =
    rw (blocks_some (suc n) (omega arith)) (rw (lt-ltb 0 ((suc n + 479) / 480) (omega arith), le-leb ((suc n + 479) / 480) 65535 (omega arith)))

or_right : (t : Bool) → t || true ≡ true
or_right true = refl
or_right false = refl

-- the length of block i of b, where b is the count of n bytes; in an empty payload it is the only one
module _ (n i b : ℕ) (e : b ≡ (n + 479) / 480) (h : i < b) where
  fits_by : (t : Bool) → eqb (i + 1) b ≡ t → length_fits i b (min 480 (n - i * 480)) ≡ true
  unfolding length_fits
  fits_by true q =
      let l : i + 1 ≡ b = eqb-true (i + 1) b q in
      rw (q, le-leb (min 480 (n - i * 480)) 480 (omega arith), lt-ltb 0 (min 480 (n - i * 480)) (omega arith))
  fits_by false q =
      let l : i + 1 ≡ b → ⊥ = eqb-false (i + 1) b q in
      rw (q) (eq-eqb (min 480 (n - i * 480)) 480 (omega arith))

fits_none : (i : ℕ) → i < 1 → length_fits i 1 (min 480 (0 - i * 480)) ≡ true
unfolding length_fits
fits_none zero h = refl
fits_none (suc i) h = absurd (omega arith)

size_fits : (n i : ℕ) → i < blocks_of n → length_fits i (blocks_of n) (min 480 (n - i * 480)) ≡ true
size_fits zero i h = rw blocks_none (fits_none i (rw blocks_none at h))
size_fits (suc n) i h = fits_by (suc n) i (blocks_of (suc n)) (blocks_some (suc n) (omega arith)) h (eqb (i + 1) (blocks_of (suc n))) refl

-- the length of each part is the one that its place asks for
pub part_fits : (p : List ℕ) (i : ℕ) → i < blocks_of (length p) → length_fits i (blocks_of (length p)) (length (piece 480 p i)) ≡ true
part_fits p i h = rw (part_length p i) (size_fits (length p) i h)
