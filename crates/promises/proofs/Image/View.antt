-- Request E12: what a view of a stored image holds and shows, and by which numbers it refuses; then demand 1 for its calls. Assumes nothing.
use mathlib.Core.Path.{◌≡◌, refl, sym, ap, subst, ◌∙◌}
use mathlib.Core.List.{List, [], Mem}
use mathlib.Core.Logic.{◌⊎◌, inl, inr}
use Prim.Native.Nat.{ℕ, zero, suc, ◌+◌, ◌*◌, ◌/◌, ◌%◌, ◌<◌, ◌≤◌}
use native.Mathlib.Omega.{arith}
use contract.Lifetimes.{Lfts}
use denote.Ref.{Bor}
use denote.RattleType.{RattleType}
use Rattle.std.specs.Prelude.{Result, Ok, Err}
use Rattle.std.specs.Result.{IsOkAnd, IsErrAnd}
use lib.ListN.{length, take, drop, get_or}
use lib.Seq.{drop-drop}
use Rattle.octets.proofs.Xor.{lt_or_le}
use Rattle.image_reader_turn.specs.Turn.{cut, handled}
use Rattle.image_view.specs.Views.{refusal_number, answer_number, answer_value, made_number, held_of, held_length, shown_number, part_of, block_shown, check_shown, offset_of, Within, answer_of, block_answer, check_answer}
use Rattle.image_view.specs.declared.ViewAnswer.{ViewAnswer}
use Rattle.image_view.specs.declared.View.{View}
use Rattle.image_view.specs.declared.Refused.{Refused}
use Rattle.image_view.specs.declared.ViewRefusal.{ViewRefusal}
use Rattle.image_view.specs.declared.ViewRefusal.TheVariants.{NotWhole, NoBlock}
use Rattle.image_view.proofs.Pins as pins
use Rattle.promises.proofs.Image.Words.{given}
use Rattle.image_view.proofs.ViewRefusal.number.Reads as refusal-number
use Rattle.image_view.proofs.with_number.Reads as with-number
use Rattle.image_view.proofs.made_number.Reads as made-number
use Rattle.image_view.proofs.held.Reads as held
use Rattle.image_view.proofs.blocks.Reads as blocks
use Rattle.image_view.proofs.shown_number.Reads as shown-number
use Rattle.image_view.proofs.block_part.Reads as block_part
use Rattle.image_view.proofs.check_part.Reads as check_part
use Rattle.image_view.proofs.block_answer.Reads as block-answer
use Rattle.image_view.proofs.check_answer.Reads as check-answer
use Rattle.image_view.proofs.View.of.Reads as of
use Rattle.image_view.proofs.View.block.Reads as block
use Rattle.image_view.proofs.View.check.Reads as check
use Rattle.dock.proofs.dock_view_block.Reads as dock_view_block
use Rattle.dock.proofs.dock_view_check.Reads as dock_view_check

-- ---- when a view is made: 6 exactly where the length is no multiple of 512, and it then holds an empty image

pub six_exactly_for_an_odd_length : (n : ℕ) → (made_number n ≡ 6 → n % 512 ≡ 0 → ⊥) × ((n % 512 ≡ 0 → ⊥) → made_number n ≡ 6)
six_exactly_for_an_odd_length n = ((λ e w. omega (arith, e, pins.made_of_whole n w)), pins.made_of_odd n)

-- an empty image too is whole blocks, and is no refusal
pub whole_blocks_are_made : (n : ℕ) → n % 512 ≡ 0 → made_number n ≡ 0
whole_blocks_are_made = pins.made_of_whole

pub whole_blocks_are_held : (s : List ℕ) → length s % 512 ≡ 0 → held_of s ≡ s
whole_blocks_are_held = pins.held_of_whole

-- so every place gets 20 then
pub refused_holds_nothing : (s : List ℕ) → (length s % 512 ≡ 0 → ⊥) → (held_of s ≡ []) × ((place : ℕ) → shown_number (length (held_of s)) place ≡ 20)
refused_holds_nothing s h =
    (pins.held_of_odd s h, λ place. ap (λ (t : List ℕ). shown_number (length t) place) (pins.held_of_odd s h) ∙ pins.shown_past 0 place (omega arith))

-- ---- what is shown: 20 and nothing exactly for a place not below the number of blocks, of whatever a view holds

pub twenty_exactly_past_the_blocks : (n place : ℕ) → (shown_number n place ≡ 20 → n / 512 ≤ place) × (n / 512 ≤ place → shown_number n place ≡ 20)
twenty_exactly_past_the_blocks n place = (go, pins.shown_past n place)
  where
    go : shown_number n place ≡ 20 → n / 512 ≤ place
    go e = by (lt_or_le place (n / 512))
      where
        by : (place < n / 512) ⊎ (n / 512 ≤ place) → n / 512 ≤ place
        by (inl l) = absurd (omega (arith, e, pins.shown_below n place l))
        by (inr l) = l

pub each_block_is_shown : (n place : ℕ) → place < n / 512 → shown_number n place ≡ 0
each_block_is_shown = pins.shown_below

pub nothing_is_shown_past : (s : List ℕ) (place : ℕ) → length s / 512 ≤ place → (block_shown s place ≡ []) × (check_shown s place ≡ [])
nothing_is_shown_past s place h = (pins.nothing_past 0 512 s place h, pins.nothing_past 496 16 s place h)

-- the block itself, and its check is the last 16 bytes of it
pub what_is_shown_is_the_block : (s : List ℕ) (place : ℕ) → place < length s / 512 → (block_shown s place ≡ take 512 (drop (place * 512) s)) × (length (block_shown s place) ≡ 512)
what_is_shown_is_the_block s place h = (pins.block_below s place h, pins.block_size s place h)

pub its_check_is_its_last_bytes : (s : List ℕ) (place : ℕ) → place < length s / 512 → (check_shown s place ≡ drop 496 (block_shown s place)) × (length (check_shown s place) ≡ 16)
its_check_is_its_last_bytes s place h = (pins.check_below s place h, pins.check_size s place h)

-- the blocks that are shown, joined, are the image
pub shown_blocks_join_to_the_image : (s : List ℕ) → length s % 512 ≡ 0 → pins.shown_up_to s (length s / 512) ≡ s
shown_blocks_join_to_the_image = pins.shown_join

-- block n shown is what a turn over the image would be lent as its block n
pub shown_is_what_a_turn_reads : (lent : List ℕ) (asked place : ℕ) → place < handled lent asked → get_or (given lent asked) place [] ≡ block_shown lent place
unfolding cut
shown_is_what_a_turn_reads lent asked place h = cut_at (handled lent asked) lent place h ∙ sym (pins.block_below lent place (omega (arith, h)))
  where
    cut_at : (m : ℕ) (s : List ℕ) (k : ℕ) → k < m → get_or (cut m s) k [] ≡ take 512 (drop (k * 512) s)
    cut_at zero s k l = absurd (omega arith)
    cut_at (suc m) s zero l = refl
    cut_at (suc m) s (suc k) l =
        let e : 512 + k * 512 ≡ suc k * 512 = omega arith in
        cut_at m (drop 512 s) k (omega arith) ∙ ap (take 512) (drop-drop (k * 512) 512 s ∙ ap (λ (i : ℕ). drop i s) e)

-- ---- the numbers alone, which C has, say the same: of an image of this length, what was made, how many blocks it holds, and of a place the
-- part of the lent image that is shown

pub numbers_of_a_view : (from size : ℕ) (s : List ℕ) (place : ℕ) → ((answer_of from size (length s) place).made ≡ made_number (length s))
    × ((answer_of from size (length s) place).blocks ≡ length (held_of s) / 512)
    × ((answer_of from size (length s) place).number ≡ shown_number (length (held_of s)) place)
    × ((answer_of from size (length s) place).offset ≡ offset_of from (length (held_of s)) place)
unfolding answer_of
numbers_of_a_view from size s place =
    let e = sym (pins.held-length s) in
    (refl, ap (λ (n : ℕ). n / 512) e, ap (λ (n : ℕ). shown_number n place) e, ap (λ (n : ℕ). offset_of from n place) e)

pub numbers_name_the_block : (s : List ℕ) (place : ℕ)
    → (take (block_answer (length s) place).length (drop (block_answer (length s) place).offset s) ≡ block_shown (held_of s) place)
    × ((block_answer (length s) place).offset + (block_answer (length s) place).length ≤ length s)
numbers_name_the_block s place = (pins.answer_shows 0 512 s place, pins.answer_fits 0 512 (length s) place (omega arith))

pub numbers_name_the_check : (s : List ℕ) (place : ℕ)
    → (take (check_answer (length s) place).length (drop (check_answer (length s) place).offset s) ≡ check_shown (held_of s) place)
    × ((check_answer (length s) place).offset + (check_answer (length s) place).length ≤ length s)
numbers_name_the_check s place = (pins.answer_shows 496 16 s place, pins.answer_fits 496 16 (length s) place (omega arith))

-- what the table says of the answer: 6 exactly for an odd length, with no blocks then, and 20 with nothing shown exactly for a place not below
-- the number of blocks
pub record AsTold (n place : ℕ) (r : ViewAnswer) : Type 0 where
  pub made_of_whole : n % 512 ≡ 0 → (r.made ≡ 0) × (r.blocks ≡ n / 512)
  pub made_of_odd : (n % 512 ≡ 0 → ⊥) → (r.made ≡ 6) × (r.blocks ≡ 0)
  pub shown_below : place < r.blocks → r.number ≡ 0
  pub shown_past : r.blocks ≤ place → (r.number ≡ 20) × (r.length ≡ 0)

as_told : (from size n place : ℕ) → AsTold n place (answer_of from size n place)
unfolding answer_of
as_told from size n place = record {
  made_of_whole = λ e. (pins.made_of_whole n e, ap (λ (m : ℕ). m / 512) (pins.kept_of_whole n e));
  made_of_odd = λ h. (pins.made_of_odd n h, ap (λ (m : ℕ). m / 512) (pins.kept_of_odd n h));
  shown_below = λ h. pins.shown_below (held_length n) place h;
  shown_past = λ h. (pins.shown_past (held_length n) place h, pins.size_past size (held_length n) place h);
}

-- ---- demand 1: on slices

-- the same bytes at the same address
abbrev pub Same : (r r' : Bor (List ℕ)) → Type 0
Same r r' = (r.now ≡ r'.now) × (r.ref_ptr.0 ≡ r'.ref_ptr.0) × (r.ref_ptr.1 ≡ r'.ref_ptr.1)

pub refusal_number_asks_nothing : (κs : _) (a : _) → refusal-number.Asked κs a
refusal_number_asks_nothing κs a = tt

pub refusal_number_determined : (κs : _) (a : _) (r r' : _) (s s' : _) → refusal-number.Post κs a r s → refusal-number.Post κs a r' s' → r ≡ r'
refusal_number_determined κs a r r' s s' p q = p ∙ sym q

-- 6 for an image that is not whole blocks, and 20 for a place that is not one of a block
pub refusal_numbers : (refusal_number NotWhole ≡ 6) × (refusal_number NoBlock ≡ 20)
refusal_numbers = (refl, refl)

-- of any type; as every function over a type, it asks that what a value borrows is lent while the call runs
pub with_number_asks_nothing : (g : RattleType) (m : _) (κs : Lfts 1) (a : _) → ((k : ℕ) → Mem k g.lives → Mem k κs.0) → with-number.Asked g m κs a
with_number_asks_nothing g m κs a lent = lent

pub with_number_determined : (g m κs : _) (a : _) (r r' : _) (s s' : _) → with-number.Post g m κs a r s → with-number.Post g m κs a r' s' → (r.0 ≡ r'.0) × (r.1 ≡ r'.1)
with_number_determined g m κs a r r' s s' p q = (p.0 ∙ sym q.0, p.1 ∙ sym q.1)

pub made_number_asks_nothing : (κs : _) (a : _) → made-number.Asked κs a
made_number_asks_nothing κs a = tt

pub made_number_determined : (κs : _) (a : _) (r r' : _) (s s' : _) → made-number.Post κs a r s → made-number.Post κs a r' s' → r ≡ r'
made_number_determined κs a r r' s s' p q = p ∙ sym q

-- 6 where the length is no multiple of 512, and 0 where it is one
pub made_number_as_told : (κs : _) (a : _) (r : _) (s : _) → made-number.Post κs a r s → ((r ≡ 0) × (length a.0.now % 512 ≡ 0)) ⊎ ((r ≡ 6) × (length a.0.now % 512 ≡ 0 → ⊥))
made_number_as_told κs a r s p = go (length a.0.now % 512) refl
  where
    go : (m : ℕ) → length a.0.now % 512 ≡ m → ((r ≡ 0) × (length a.0.now % 512 ≡ 0)) ⊎ ((r ≡ 6) × (length a.0.now % 512 ≡ 0 → ⊥))
    go zero e = inl (p ∙ pins.made_of_whole _ e, e)
    go (suc m) e = let h : length a.0.now % 512 ≡ 0 → ⊥ = λ z. omega (arith, e, z) in inr (p ∙ pins.made_of_odd _ h, h)

pub made_number_done : (κs : _) (a : _) (r : _) (s : _) → made-number.Post κs a r s → length a.0.now % 512 ≡ 0 → r ≡ 0
made_number_done κs a r s p e = p ∙ pins.made_of_whole _ e

pub held_asks_nothing : (κs : _) (a : _) → held.Asked κs a
held_asks_nothing κs a = tt

pub held_determined : (κs : _) (a : _) (r r' : _) (s s' : _) → held.Post κs a r s → held.Post κs a r' s' → Same r r'
held_determined κs a r r' s s' p q = (p.0 ∙ sym q.0, p.1.0 ∙ sym q.1.0, p.1.1 ∙ sym q.1.1)

pub blocks_asks_nothing : (κs : _) (a : _) → blocks.Asked κs a
blocks_asks_nothing κs a = tt

pub blocks_determined : (κs : _) (a : _) (r r' : _) (s s' : _) → blocks.Post κs a r s → blocks.Post κs a r' s' → r ≡ r'
blocks_determined κs a r r' s s' p q = p ∙ sym q

pub shown_number_asks_nothing : (κs : _) (a : _) → shown-number.Asked κs a
shown_number_asks_nothing κs a = tt

pub shown_number_determined : (κs : _) (a : _) (r r' : _) (s s' : _) → shown-number.Post κs a r s → shown-number.Post κs a r' s' → r ≡ r'
shown_number_determined κs a r r' s s' p q = p ∙ sym q

-- 20 where the place is not below the number of blocks, and 0 where it is
pub shown_number_as_told : (κs : _) (a : _) (r : _) (s : _) → shown-number.Post κs a r s
    → ((r ≡ 0) × (a.1.0 < length a.0.now / 512)) ⊎ ((r ≡ 20) × (length a.0.now / 512 ≤ a.1.0))
shown_number_as_told κs a r s p = go (lt_or_le a.1.0 (length a.0.now / 512))
  where
    go : (a.1.0 < length a.0.now / 512) ⊎ (length a.0.now / 512 ≤ a.1.0)
        → ((r ≡ 0) × (a.1.0 < length a.0.now / 512)) ⊎ ((r ≡ 20) × (length a.0.now / 512 ≤ a.1.0))
    go (inl l) = inl (p ∙ pins.shown_below _ a.1.0 l, l)
    go (inr l) = inr (p ∙ pins.shown_past _ a.1.0 l, l)

pub shown_number_done : (κs : _) (a : _) (r : _) (s : _) → shown-number.Post κs a r s → a.1.0 < length a.0.now / 512 → r ≡ 0
shown_number_done κs a r s p l = p ∙ pins.shown_below _ a.1.0 l

pub block_part_asks_nothing : (κs : _) (a : _) → block_part.Asked κs a
block_part_asks_nothing κs a = tt

pub block_part_determined : (κs : _) (a : _) (r r' : _) (s s' : _) → block_part.Post κs a r s → block_part.Post κs a r' s' → Same r r'
block_part_determined κs a r r' s s' p q = (p.0 ∙ sym q.0, p.1.0 ∙ sym q.1.0, p.1.1 ∙ sym q.1.1)

pub check_part_asks_nothing : (κs : _) (a : _) → check_part.Asked κs a
check_part_asks_nothing κs a = tt

pub check_part_determined : (κs : _) (a : _) (r r' : _) (s s' : _) → check_part.Post κs a r s → check_part.Post κs a r' s' → Same r r'
check_part_determined κs a r r' s s' p q = (p.0 ∙ sym q.0, p.1.0 ∙ sym q.1.0, p.1.1 ∙ sym q.1.1)

-- ---- on numbers, and as C links them

pub block_answer_asks_nothing : (κs : _) (a : _) → block-answer.Asked κs a
block_answer_asks_nothing κs a = tt

pub block_answer_determined : (κs : _) (a : _) (r r' : _) (s s' : _) → block-answer.Post κs a r s → block-answer.Post κs a r' s' → r ≡ r'
block_answer_determined κs a r r' s s' p q = p ∙ sym q

pub check_answer_asks_nothing : (κs : _) (a : _) → check-answer.Asked κs a
check_answer_asks_nothing κs a = tt

pub check_answer_determined : (κs : _) (a : _) (r r' : _) (s s' : _) → check-answer.Post κs a r s → check-answer.Post κs a r' s' → r ≡ r'
check_answer_determined κs a r r' s s' p q = p ∙ sym q

pub dock_view_block_asks_nothing : (κs : _) (a : _) → dock_view_block.Asked κs a
dock_view_block_asks_nothing κs a = tt

pub dock_view_block_determined : (κs : _) (a : _) (r r' : _) (s s' : _) → dock_view_block.Post κs a r s → dock_view_block.Post κs a r' s' → r ≡ r'
dock_view_block_determined κs a r r' s s' p q = p ∙ sym q

pub dock_view_block_is_block_answer : (κs : _) (a : _) (r : _) (s : _) → dock_view_block.Post κs a r s → block-answer.Post κs a r s
dock_view_block_is_block_answer κs a r s p = p

pub dock_view_check_asks_nothing : (κs : _) (a : _) → dock_view_check.Asked κs a
dock_view_check_asks_nothing κs a = tt

pub dock_view_check_determined : (κs : _) (a : _) (r r' : _) (s s' : _) → dock_view_check.Post κs a r s → dock_view_check.Post κs a r' s' → r ≡ r'
dock_view_check_determined κs a r r' s s' p q = p ∙ sym q

pub dock_view_check_is_check_answer : (κs : _) (a : _) (r : _) (s : _) → dock_view_check.Post κs a r s → check-answer.Post κs a r s
dock_view_check_is_check_answer κs a r s p = p

-- each answers as told: 0, 6 or 20 as the length and the place say
pub dock_view_block_as_told : (κs : _) (a : _) (r : _) (s : _) → dock_view_block.Post κs a r s → AsTold a.0 a.1.0 r
dock_view_block_as_told κs a r s p = subst (λ (x : ViewAnswer). AsTold a.0 a.1.0 x) (sym p) (as_told 0 512 a.0 a.1.0)

pub dock_view_check_as_told : (κs : _) (a : _) (r : _) (s : _) → dock_view_check.Post κs a r s → AsTold a.0 a.1.0 r
dock_view_check_as_told κs a r s p = subst (λ (x : ViewAnswer). AsTold a.0 a.1.0 x) (sym p) (as_told 496 16 a.0 a.1.0)

-- ---- the view itself

-- both refused by the same, or neither, and of what both hold or show that holds
abbrev pub SameAnswer : {A : Type 0} → (A → A → Type 0) → (r r' : Result A (Refused A)) → Type 0
SameAnswer R (Ok x) (Ok y) = R x y
SameAnswer R (Ok x) (Err f) = ⊥
SameAnswer R (Err e) (Ok y) = ⊥
SameAnswer R (Err e) (Err f) = (e.refusal ≡ f.refusal) × R e.empty f.empty

some_number : (f : ViewRefusal) → refusal_number f ≡ 0 → ⊥
some_number NotWhole e = omega (arith, e)
some_number NoBlock e = omega (arith, e)

with_6 : (f : ViewRefusal) → refusal_number f ≡ 6 → f ≡ NotWhole
with_6 NotWhole e = refl
with_6 NoBlock e = absurd (omega (arith, e))

with_20 : (f : ViewRefusal) → refusal_number f ≡ 20 → f ≡ NoBlock
with_20 NotWhole e = absurd (omega (arith, e))
with_20 NoBlock e = refl

same_refusal : (f g : ViewRefusal) → refusal_number f ≡ refusal_number g → f ≡ g
same_refusal NotWhole g e = sym (with_6 g (sym e))
same_refusal NoBlock g e = sym (with_20 g (sym e))

module _ {A : Type 0} where
  by_0 : (r : Result A (Refused A)) (P : A → Type 0) → answer_number r ≡ 0 → P (answer_value r) → IsOkAnd r P
  by_0 (Ok x) P n h = h
  by_0 (Err e) P n h = absurd (some_number e.refusal n)

  by_6 : (r : Result A (Refused A)) (P : A → Type 0) → answer_number r ≡ 6 → P (answer_value r) → IsErrAnd r (λ e. (e.refusal ≡ NotWhole) × P e.empty)
  by_6 (Ok x) P n h = absurd (omega (arith, n))
  by_6 (Err e) P n h = (with_6 e.refusal n, h)

  by_20 : (r : Result A (Refused A)) (P : A → Type 0) → answer_number r ≡ 20 → P (answer_value r) → IsErrAnd r (λ e. (e.refusal ≡ NoBlock) × P e.empty)
  by_20 (Ok x) P n h = absurd (omega (arith, n))
  by_20 (Err e) P n h = (with_20 e.refusal n, h)

  same_answer : (R : A → A → Type 0) (r r' : Result A (Refused A)) → answer_number r ≡ answer_number r' → R (answer_value r) (answer_value r') → SameAnswer R r r'
  same_answer R (Ok x) (Ok y) n h = h
  same_answer R (Ok x) (Err f) n h = some_number f.refusal (sym n)
  same_answer R (Err e) (Ok y) n h = some_number e.refusal n
  same_answer R (Err e) (Err f) n h = (same_refusal e.refusal f.refusal n, h)

-- what the contracts of `of` and of the two others say of the view that is given, and of the part that is
abbrev pub Held : (s : Bor (List ℕ)) (v : View) → Type 0
Held s v = (v.image.now ≡ held_of s.now) × Within v.image s 0

abbrev pub Shows : (from size : ℕ) (v : View) (place : ℕ) (part : Bor (List ℕ)) → Type 0
Shows from size v place part = (part.now ≡ part_of from size v.image.now place) × Within part v.image (offset_of from (length v.image.now) place)

pub of_asks_nothing : (κs : _) (a : _) → of.Asked κs a
of_asks_nothing κs a = tt

-- what a refused view holds too
pub of_determined : (κs : _) (a : _) (r r' : _) (s s' : _) → of.Post κs a r s → of.Post κs a r' s' → SameAnswer (λ (v w : View). Same v.image w.image) r r'
of_determined κs a r r' s s' p q =
    same_answer (λ (v w : View). Same v.image w.image) r r' (p.0 ∙ sym q.0) (p.1.1.0 ∙ sym q.1.1.0, p.1.1.1.0 ∙ sym q.1.1.1.0, p.1.1.1.1 ∙ sym q.1.1.1.1)

same_parts : (from size : ℕ) (v : View) (place : ℕ) (p q : Bor (List ℕ)) → Shows from size v place p → Shows from size v place q → Same p q
same_parts from size v place p q h k = (h.0 ∙ sym k.0, h.1.0 ∙ sym k.1.0, h.1.1 ∙ sym k.1.1)

pub block_asks_nothing : (κs : _) (a : _) → block.Asked κs a
block_asks_nothing κs a = tt

pub block_determined : (κs : _) (a : _) (r r' : _) (s s' : _) → block.Post κs a r s → block.Post κs a r' s' → SameAnswer Same r r'
block_determined κs a r r' s s' p q =
    same_answer Same r r' (p.0 ∙ sym q.0) (same_parts 0 512 a.0 a.1.0 (answer_value r) (answer_value r') p.1 q.1)

pub check_asks_nothing : (κs : _) (a : _) → check.Asked κs a
check_asks_nothing κs a = tt

pub check_determined : (κs : _) (a : _) (r r' : _) (s s' : _) → check.Post κs a r s → check.Post κs a r' s' → SameAnswer Same r r'
check_determined κs a r r' s s' p q =
    same_answer Same r r' (p.0 ∙ sym q.0) (same_parts 496 16 a.0 a.1.0 (answer_value r) (answer_value r') p.1 q.1)

-- a view holds these bytes, from the start of the lent image on
abbrev pub Holds : (s : Bor (List ℕ)) (bytes : List ℕ) (v : View) → Type 0
Holds s bytes v = (v.image.now ≡ bytes) × Within v.image s 0

-- 6 and an empty image exactly where the length is no multiple of 512, else a view of the image
abbrev pub OfSays : (s : Bor (List ℕ)) (r : Result View (Refused View)) → Type 0
OfSays s r = (length s.now % 512 ≡ 0 → IsOkAnd r (Holds s s.now))
    × ((length s.now % 512 ≡ 0 → ⊥) → IsErrAnd r (λ e. (e.refusal ≡ NotWhole) × Holds s [] e.empty))

pub of_as_told : (κs : _) (a : _) (r : _) (s : _) → of.Post κs a r s → OfSays a.0 r
of_as_told κs a r s p = (
  (λ w. by_0 r (Holds a.0 a.0.now) (p.0 ∙ pins.made_of_whole _ w) (p.1.1.0 ∙ pins.held_of_whole a.0.now w, p.1.1.1)),
  (λ h. by_6 r (Holds a.0 []) (p.0 ∙ pins.made_of_odd _ h) (p.1.1.0 ∙ pins.held_of_odd a.0.now h, p.1.1.1)),
)

-- 20 and nothing where the place is not below the number of blocks, else this part
abbrev pub ShownSays : (v : View) (place : ℕ) (part : List ℕ) (r : Result (Bor (List ℕ)) (Refused (Bor (List ℕ)))) → Type 0
ShownSays v place part r = (place < length v.image.now / 512 → IsOkAnd r (λ p. p.now ≡ part))
    × (length v.image.now / 512 ≤ place → IsErrAnd r (λ e. (e.refusal ≡ NoBlock) × (e.empty.now ≡ [])))

shown_says : (from size : ℕ) (v : View) (place : ℕ) (part : List ℕ) (r : Result (Bor (List ℕ)) (Refused (Bor (List ℕ))))
    → answer_number r ≡ shown_number (length v.image.now) place → Shows from size v place (answer_value r) → (place < length v.image.now / 512 → part_of from size v.image.now place ≡ part)
    → ShownSays v place part r
shown_says from size v place part r n h e = (
  (λ l. by_0 r (λ (p : Bor (List ℕ)). p.now ≡ part) (n ∙ pins.shown_below _ place l) (h.0 ∙ e l)),
  (λ l. by_20 r (λ (p : Bor (List ℕ)). p.now ≡ []) (n ∙ pins.shown_past _ place l) (h.0 ∙ pins.nothing_past from size v.image.now place l)),
)

pub block_as_told : (κs : _) (a : _) (r : _) (s : _) → block.Post κs a r s → ShownSays a.0 a.1.0 (take 512 (drop (a.1.0 * 512) a.0.image.now)) r
block_as_told κs a r s p =
    shown_says 0 512 a.0 a.1.0 _ r p.0 p.1 (pins.block_below a.0.image.now a.1.0)

pub check_as_told : (κs : _) (a : _) (r : _) (s : _) → check.Post κs a r s → ShownSays a.0 a.1.0 (drop 496 (take 512 (drop (a.1.0 * 512) a.0.image.now))) r
check_as_told κs a r s p =
    shown_says 496 16 a.0 a.1.0 _ r p.0 p.1 (λ l. pins.check_below a.0.image.now a.1.0 l ∙ ap (drop 496) (pins.block_below a.0.image.now a.1.0 l))

-- ---- the view that `of` gives, refused or not, shows the part of the lent image itself, no copy, that the numbers name

-- what the numbers name: whether the image is refused, whether there is no such block, and the part, which is empty where one of them is so
abbrev pub Named : (s : Bor (List ℕ)) (m : Result View (Refused View)) (r : Result (Bor (List ℕ)) (Refused (Bor (List ℕ)))) (a : ViewAnswer) → Type 0
Named s m r a = (answer_number m ≡ a.made) × (answer_number r ≡ a.number) × ((answer_value r).now ≡ take a.length (drop a.offset s.now)) × Within (answer_value r) s a.offset

pub view_is_made_as_named : (κs : _) (a : _) (m : _) (e : _) (from size place : ℕ) → of.Post κs a m e → answer_number m ≡ (answer_of from size (length a.0.now) place).made
unfolding answer_of
view_is_made_as_named κs a m e from size place p = p.0

named : (from size : ℕ) (s : Bor (List ℕ)) (m : Result View (Refused View)) (place : ℕ) (r : Result (Bor (List ℕ)) (Refused (Bor (List ℕ))))
    → answer_number m ≡ made_number (length s.now) → Held s (answer_value m)
    → answer_number r ≡ shown_number (length (answer_value m).image.now) place → Shows from size (answer_value m) place (answer_value r)
    → Named s m r (answer_of from size (length s.now) place)
named from size s m place r made h number b =
    let n = numbers_of_a_view from size s.now place in
    let e = h.0 in
    let o : offset_of from (length (answer_value m).image.now) place ≡ (answer_of from size (length s.now) place).offset = ap (λ (t : List ℕ). offset_of from (length t) place) e ∙ sym n.3 in (
      made ∙ sym n.0,
      number ∙ ap (λ (t : List ℕ). shown_number (length t) place) e ∙ sym n.2,
      b.0 ∙ ap (λ (t : List ℕ). part_of from size t place) e ∙ sym (pins.answer_shows from size s.now place),
      (b.1.0 ∙ h.1.0, omega (arith, b.1.1, h.1.1, o)),
    )

pub view_shows_the_block : (κs κs' : _) (s : Bor (List ℕ)) (place : ℕ) (m : Result View (Refused View)) (r : _) (e e' : _)
    → of.Post κs (s, tt) m e → block.Post κs' (answer_value m, (place, tt)) r e' → Named s m r (block_answer (length s.now) place)
view_shows_the_block κs κs' s place m r e e' p q =
    named 0 512 s m place r p.0 p.1.1 q.0 q.1

pub view_shows_the_check : (κs κs' : _) (s : Bor (List ℕ)) (place : ℕ) (m : Result View (Refused View)) (r : _) (e e' : _)
    → of.Post κs (s, tt) m e → check.Post κs' (answer_value m, (place, tt)) r e' → Named s m r (check_answer (length s.now) place)
view_shows_the_check κs κs' s place m r e e' p q =
    named 496 16 s m place r p.0 p.1.1 q.0 q.1
