-- What an edition of the format is (docs/IMAGE.md). Assumes nothing: these are definitions.
use Rattle.std.specs.Prelude.{cond, ℕ, List, [], eqb, replicate}
use Rattle.image_limits.specs.Marks.{mark_of}

-- the number in bytes 14 and 15 of each block, and what the check covers after bytes 0 to 495: a function of the check of the block before
pub record Edition : Type 0 where
  pub mark : ℕ
  pub tail : List ℕ → List ℕ

-- edition 1: reserved 0, and nothing more is covered
abbrev pub one : Edition
one = record { mark = 0; tail = λ last. [] }

-- edition 2: reserved 2, and the check of the block before
abbrev pub two : Edition
two = record { mark = 2; tail = λ last. last }

-- the check before the first block
abbrev pub no_check : List ℕ
no_check = replicate 16 0

-- ---- editions by their numbers

-- what the check covers in an edition, on the check of the block before
unfoldable pub tail_of : ℕ → List ℕ → List ℕ
tail_of n last = cond (eqb n 2) last []

abbrev pub edition : ℕ → Edition
edition n = record { mark = mark_of n; tail = tail_of n }
