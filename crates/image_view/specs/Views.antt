-- A stored image: how many blocks it has, and where each of them and its check are (docs/IMAGE.md). Assumes nothing: these are definitions.
use Rattle.std.specs.Prelude.{ℕ, ◌+◌, ◌*◌, ◌/◌, ◌%◌, Bool, cond, List, [], ◌≡◌, Option, None, Some, Result, Ok, Err, eqb, ltb, length, take, drop}
use Rattle.std.specs.Borrow.{Bor}
use Rattle.image_layout.specs.Layout.{block_size, check_at}
use Rattle.image_view.specs.declared.ViewAnswer.{ViewAnswer}
use Rattle.image_view.specs.declared.ViewRefusal.{ViewRefusal}
use Rattle.image_view.specs.declared.ViewRefusal.TheVariants.{NotWhole, NoBlock}
use Rattle.image_view.specs.declared.Refused.{Refused}

-- ---- the refusals

-- the number of each (docs/REFUSALS.md)
abbrev pub refusal_number : ViewRefusal → ℕ
refusal_number NotWhole = 6
refusal_number NoBlock = 20

-- 0 if there is none
abbrev pub number_of : Option ViewRefusal → ℕ
number_of None = 0
number_of (Some e) = refusal_number e

abbrev pub answer_number : {A : Type 0} → Result A (Refused A) → ℕ
answer_number (Ok a) = 0
answer_number (Err e) = refusal_number e.refusal

-- what is held or shown, refused or not
abbrev pub answer_value : {A : Type 0} → Result A (Refused A) → A
answer_value (Ok a) = a
answer_value (Err e) = e.empty

-- ---- what a view holds

-- an image of this length is whole blocks, none too
abbrev pub whole : (len : ℕ) → Bool
whole n = eqb (n % block_size) 0

-- 6 if not
unfoldable pub made_number : (len : ℕ) → ℕ
made_number n = cond (whole n) 0 6

-- the image, or nothing of one that is refused
unfoldable pub held_of : List ℕ → List ℕ
held_of s = cond (whole (length s)) s []

unfoldable pub held_length : (len : ℕ) → ℕ
held_length n = cond (whole n) n 0

abbrev pub blocks_in : (len : ℕ) → ℕ
blocks_in n = n / block_size

-- ---- what a view shows of what it holds

-- the place is one of a block
abbrev pub is_place : (len place : ℕ) → Bool
is_place n place = ltb place (blocks_in n)

-- 20 if not
unfoldable pub shown_number : (len place : ℕ) → ℕ
shown_number n place = cond (is_place n place) 0 20

-- so many bytes of the block from one of its bytes on, or nothing
unfoldable pub part_of : (from size : ℕ) → List ℕ → (place : ℕ) → List ℕ
part_of from size s place = cond (is_place (length s) place) (take size (drop (place * block_size + from) s)) []

-- where they begin, and how many they are; nothing begins where the image does
unfoldable pub offset_of : (from len place : ℕ) → ℕ
offset_of from n place = cond (is_place n place) (place * block_size + from) 0

unfoldable pub size_of : (size len place : ℕ) → ℕ
size_of size n place = cond (is_place n place) size 0

-- the same where there is such a block
abbrev pub place_in : (from len place : ℕ) → Option ℕ
place_in from n place = cond (is_place n place) (Some (place * block_size + from)) None

-- the whole block, and bytes 496 to 511 of it
abbrev pub block_shown : List ℕ → (place : ℕ) → List ℕ
block_shown s place = part_of 0 block_size s place

abbrev pub check_shown : List ℕ → (place : ℕ) → List ℕ
check_shown s place = part_of check_at 16 s place

-- a part of the lent memory itself: it begins so many bytes after the start of that memory
abbrev pub Within : (part lent : Bor (List ℕ)) (offset : ℕ) → Type 0
Within r s offset = (r.ref_ptr.0 ≡ s.ref_ptr.0) × (r.ref_ptr.1 ≡ s.ref_ptr.1 + offset)

-- ---- the same with numbers only, of an image that a view is made of

unfoldable pub answer_of : (from size len place : ℕ) → ViewAnswer
answer_of from size n place = record {
  made = made_number n;
  number = shown_number (held_length n) place;
  blocks = blocks_in (held_length n);
  offset = offset_of from (held_length n) place;
  length = size_of size (held_length n) place;
}

abbrev pub block_answer : (len place : ℕ) → ViewAnswer
block_answer n place = answer_of 0 block_size n place

abbrev pub check_answer : (len place : ℕ) → ViewAnswer
check_answer n place = answer_of check_at 16 n place
