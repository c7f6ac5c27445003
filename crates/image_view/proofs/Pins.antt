-- What request E12 says of a view, of the definitions. Assumes nothing.
use mathlib.Core.Path.{◌≡◌, refl, sym, ap, ap₂, ◌∙◌}
use mathlib.Core.Bool.{Bool, true, false, cond}
use mathlib.Core.List.{List, [], ◌++◌}
use mathlib.Core.Logic.{◌⊎◌, inl, inr}
use Prim.Native.Nat.{ℕ, zero, suc, ◌+◌, ◌*◌, ◌/◌, ◌%◌, ◌<◌, ◌≤◌}
use native.Mathlib.Omega.{arith}
use borrow.Author.Tests.{lt-ltb, le-ltb, eq-eqb, ne_eqb}
use lib.Dec.{ltb}
use lib.ListN.{length, take, drop, length-drop}
use lib.Seq.{take_all, length-take-le, take-add, drop-drop, drop_at}
use Rattle.image_view.specs.Views.{whole, made_number, held_of, held_length, is_place, shown_number, part_of, offset_of, size_of, block_shown, check_shown, answer_of}
use Rattle.image_view.proofs.Places.{part_fits, held_fits}

-- ---- 6 where the length is no multiple of 512, and the view then holds an empty image

pub made_of_whole : (n : ℕ) → n % 512 ≡ 0 → made_number n ≡ 0
unfolding made_number
made_of_whole n e = simp (eq-eqb (n % 512) 0 e)

pub made_of_odd : (n : ℕ) → (n % 512 ≡ 0 → ⊥) → made_number n ≡ 6
unfolding made_number
made_of_odd n h = simp (ne_eqb (n % 512) 0 h)

pub held_of_whole : (s : List ℕ) → length s % 512 ≡ 0 → held_of s ≡ s
unfolding held_of
held_of_whole s e = simp (eq-eqb (length s % 512) 0 e)

pub held_of_odd : (s : List ℕ) → (length s % 512 ≡ 0 → ⊥) → held_of s ≡ []
unfolding held_of
held_of_odd s h = simp (ne_eqb (length s % 512) 0 h)

-- no other number
pub made_numbers : (n : ℕ) → (made_number n ≡ 0) ⊎ (made_number n ≡ 6)
unfolding made_number
made_numbers n = go (whole n)
  where
    go : (b : Bool) → (◌≡◌ {A = ℕ} (cond b 0 6) 0) ⊎ (◌≡◌ {A = ℕ} (cond b 0 6) 6)
    go true = inl refl
    go false = inr refl

-- how many bytes that is
pub kept_of_whole : (n : ℕ) → n % 512 ≡ 0 → held_length n ≡ n
unfolding held_length
kept_of_whole n e = simp (eq-eqb (n % 512) 0 e)

pub kept_of_odd : (n : ℕ) → (n % 512 ≡ 0 → ⊥) → held_length n ≡ 0
unfolding held_length
kept_of_odd n h = simp (ne_eqb (n % 512) 0 h)

-- ---- 20 where the place is not below the number of blocks, and nothing is shown then

pub shown_below : (n place : ℕ) → place < n / 512 → shown_number n place ≡ 0
unfolding shown_number
shown_below n place h = simp (lt-ltb place (n / 512) h)

pub shown_past : (n place : ℕ) → n / 512 ≤ place → shown_number n place ≡ 20
unfolding shown_number
shown_past n place h = simp (le-ltb place (n / 512) h)

pub shown_numbers : (n place : ℕ) → (shown_number n place ≡ 0) ⊎ (shown_number n place ≡ 20)
unfolding shown_number
shown_numbers n place = go (is_place n place)
  where
    go : (b : Bool) → (◌≡◌ {A = ℕ} (cond b 0 20) 0) ⊎ (◌≡◌ {A = ℕ} (cond b 0 20) 20)
    go true = inl refl
    go false = inr refl

pub nothing_past : (from size : ℕ) (s : List ℕ) (place : ℕ) → length s / 512 ≤ place → part_of from size s place ≡ []
unfolding part_of
nothing_past from size s place h = simp (le-ltb place (length s / 512) h)

pub size_past : (size n place : ℕ) → n / 512 ≤ place → size_of size n place ≡ 0
unfolding size_of
size_past size n place h = simp (le-ltb place (n / 512) h)

-- ---- what is shown is that part of the image

part_below : (from size : ℕ) (s : List ℕ) (place : ℕ) → place < length s / 512 → part_of from size s place ≡ take size (drop (place * 512 + from) s)
unfolding part_of
part_below from size s place h = simp (lt-ltb place (length s / 512) h)

pub block_below : (s : List ℕ) (place : ℕ) → place < length s / 512 → block_shown s place ≡ take 512 (drop (place * 512) s)
block_below s place h = let e : place * 512 + 0 ≡ place * 512 = omega arith in part_below 0 512 s place h ∙ ap (λ (k : ℕ). take 512 (drop k s)) e

pub block_size : (s : List ℕ) (place : ℕ) → place < length s / 512 → length (block_shown s place) ≡ 512
block_size s place h = ap length (block_below s place h) ∙ length-take-le 512 (drop (place * 512) s) (omega (arith, length-drop (place * 512) s))

-- the check is the last 16 bytes of its block
pub check_below : (s : List ℕ) (place : ℕ) → place < length s / 512 → check_shown s place ≡ drop 496 (block_shown s place)
check_below s place h =
    let t = drop (place * 512) s in
    let long : 512 ≤ length t = omega (arith, length-drop (place * 512) s) in
    part_below 496 16 s place h ∙ ap (take 16) (sym (drop-drop 496 (place * 512) s))
    ∙ sym (ap (drop 496) (block_below s place h ∙ take-add 496 16 t) ∙ drop_at (take 496 t) (take 16 (drop 496 t)) 496 (length-take-le 496 t (omega arith)))

pub check_size : (s : List ℕ) (place : ℕ) → place < length s / 512 → length (check_shown s place) ≡ 16
check_size s place h = ap length (part_below 496 16 s place h) ∙ length-take-le 16 (drop (place * 512 + 496) s) (omega (arith, length-drop (place * 512 + 496) s))

-- ---- the blocks that are shown join to the image

unfoldable pub shown_up_to : List ℕ → (places : ℕ) → List ℕ
shown_up_to s zero = []
shown_up_to s (suc n) = shown_up_to s n ++ block_shown s n

joined_up_to : (s : List ℕ) (n : ℕ) → n ≤ length s / 512 → shown_up_to s n ≡ take (n * 512) s
unfolding shown_up_to
joined_up_to s zero h = refl
joined_up_to s (suc n) h =
    let e : suc n * 512 ≡ n * 512 + 512 = omega arith in
    ap₂ (λ (a b : List ℕ). a ++ b) (joined_up_to s n (omega arith)) (block_below s n (omega arith)) ∙ sym (ap (λ (k : ℕ). take k s) e ∙ take-add (n * 512) 512 s)

pub shown_join : (s : List ℕ) → length s % 512 ≡ 0 → shown_up_to s (length s / 512) ≡ s
shown_join s e = joined_up_to s (length s / 512) (omega arith) ∙ take_all (length s / 512 * 512) s (omega (arith, e))

-- ---- the numbers alone say the same

pub held-length : (s : List ℕ) → length (held_of s) ≡ held_length (length s)
unfolding held_of held_length
held-length s = go (whole (length s))
  where
    go : (b : Bool) → length (cond b s []) ≡ cond b (length s) 0
    go true = refl
    go false = refl

-- what the answer names is what is shown of what the view holds, and lies in the image
pub answer_shows : (from size : ℕ) (s : List ℕ) (place : ℕ)
    → take (answer_of from size (length s) place).length (drop (answer_of from size (length s) place).offset s) ≡ part_of from size (held_of s) place
unfolding answer_of held_of held_length offset_of size_of part_of
answer_shows from size s place = go (whole (length s))
  where
    go : (b : Bool)
        → take (cond (is_place (cond b (length s) 0) place) size 0) (drop (cond (is_place (cond b (length s) 0) place) (place * 512 + from) 0) s)
        ≡ cond (is_place (length (cond b s [])) place) (take size (drop (place * 512 + from) (cond b s []))) []
    go true = by (is_place (length s) place)
      where
        by : (c : Bool) → take (cond c size 0) (drop (cond c (place * 512 + from) 0) s) ≡ cond c (take size (drop (place * 512 + from) s)) []
        by true = refl
        by false = refl
    go false = let t : ltb place 0 ≡ false = le-ltb place 0 (omega arith) in simp t

pub answer_fits : (from size n place : ℕ) → from + size ≤ 512 → (answer_of from size n place).offset + (answer_of from size n place).length ≤ n
unfolding answer_of
answer_fits from size n place h = omega (arith, part_fits from size (held_length n) place h, held_fits n)
