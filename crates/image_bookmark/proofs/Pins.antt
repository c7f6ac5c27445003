-- Where each number of a bookmark stands, in bytes (docs/IMAGE.md). Assumes nothing.
use mathlib.Core.Path.{◌≡◌, refl}
use mathlib.Core.List.{List, [], ◌∷◌}
use Prim.Native.Nat.{ℕ}
use Rattle.octets.specs.Words.{word, bytes_of}
use Rattle.image_progress.specs.declared.Progress.{Progress}
use Rattle.image_bookmark.specs.Bookmark.{front_of_lem, progress_in, bytes_in}

-- the bytes 1 to 40: the number expected is 01020304, the count 05060708, the release 090a0b0c, the edition 0d0e0f10; the check accepted last is
-- 11 to 20, and the payload bytes are 2122232425262728
abbrev pub sample : List ℕ
sample =
    0x01 ∷ 0x02 ∷ 0x03 ∷ 0x04 ∷ 0x05 ∷ 0x06 ∷ 0x07 ∷ 0x08 ∷ 0x09 ∷ 0x0a ∷ 0x0b ∷ 0x0c ∷ 0x0d ∷ 0x0e ∷ 0x0f ∷ 0x10
    ∷ 0x11 ∷ 0x12 ∷ 0x13 ∷ 0x14 ∷ 0x15 ∷ 0x16 ∷ 0x17 ∷ 0x18 ∷ 0x19 ∷ 0x1a ∷ 0x1b ∷ 0x1c ∷ 0x1d ∷ 0x1e ∷ 0x1f ∷ 0x20
    ∷ 0x21 ∷ 0x22 ∷ 0x23 ∷ 0x24 ∷ 0x25 ∷ 0x26 ∷ 0x27 ∷ 0x28 ∷ []

abbrev pub state : Progress
state = record {
  next = 0x01020304;
  count = 0x05060708;
  release = 0x090a0b0c;
  edition = 0x0d0e0f10;
  last = 0x11 ∷ 0x12 ∷ 0x13 ∷ 0x14 ∷ 0x15 ∷ 0x16 ∷ 0x17 ∷ 0x18 ∷ 0x19 ∷ 0x1a ∷ 0x1b ∷ 0x1c ∷ 0x1d ∷ 0x1e ∷ 0x1f ∷ 0x20 ∷ [];
}

pub sample_front : front_of_lem state 0x2122232425262728 ≡ sample
unfolding front_of_lem bytes_of
sample_front = refl

pub sample_progress : progress_in sample ≡ state
unfolding progress_in word
sample_progress = refl

pub sample_bytes : bytes_in sample ≡ 0x2122232425262728
unfolding word
sample_bytes = refl
