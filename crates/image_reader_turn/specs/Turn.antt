-- A turn over blocks, until the first that is refused (docs/IMAGE.md). Assumes nothing: these are definitions.
use Rattle.std.specs.Prelude.{ℕ, zero, suc, ◌+◌, ◌*◌, ◌/◌, ◌%◌, min, ◌&&◌, not, cond, List, [], ◌∷◌, ◌++◌, eqb, ltb, leb, length, take, drop}
use Rattle.octets.specs.Octets.{over}
use Rattle.image_layout.specs.Layout.{body_size, block_size, head_of_lem}
use Rattle.image_progress.specs.declared.Progress.{Progress}
use Rattle.image_reasons.specs.declared.Verdict.{Verdict}
use Rattle.image_reasons.specs.declared.Verdict.TheVariants.{Accepted, Refused}
use Rattle.image_spec.specs.Judge.{Keys, BlockReader, of_both, taken}
use Rattle.image_reader_tally.specs.Tally.{blocks_read_with}
use Rattle.image_reader_tally.specs.declared.BlocksRead.{BlocksRead}
use Rattle.image_reader_tally.specs.declared.Stop.{Stop}
use Rattle.image_reader_tally.specs.declared.Stop.TheVariants.{End, Asked, Lent, Room, At}

-- how far the blocks were taken: how far the reader has come after them, how many were accepted, the sum of their payload lengths,
-- how it stopped, and the bytes handed out
pub record Reading : Type 0 where
  pub progress : Progress
  pub accepted : ℕ
  pub bytes : ℕ
  pub stop : Stop
  pub out : List ℕ

-- a place counted from one block earlier
abbrev pub later : Stop → Stop
later (At place reason) = At (suc place) reason
later End = End
later Asked = Asked
later Lent = Lent
later Room = Room

-- an accepted block comes before what was read after it; a refused one ends the turn and changes nothing
abbrev pub onward : Verdict → Progress → (len : ℕ) (plain : List ℕ) → Reading → Reading
onward Accepted s len plain t = record {
  progress = t.progress;
  accepted = suc t.accepted;
  bytes = len + t.bytes;
  stop = later t.stop;
  out = plain ++ t.out;
}
onward (Refused reason) s len plain t = record { progress = s; accepted = 0; bytes = 0; stop = At 0 reason; out = [] }

unfoldable pub read_blocks : BlockReader → Progress → List (List ℕ) → Reading
read_blocks d s [] = record { progress = s; accepted = 0; bytes = 0; stop = End; out = [] }
read_blocks d s (b ∷ bs) = onward (d.verdict s b) s (head_of_lem b).len (d.plain b) (read_blocks d (taken s b) bs)

-- the first n blocks of what was lent
unfoldable pub cut : ℕ → List ℕ → List (List ℕ)
cut zero s = []
cut (suc n) s = take block_size s ∷ cut n (drop block_size s)

-- ---- a turn

-- k: the smaller of the blocks lent and the number asked for
abbrev pub handled : (lent : List ℕ) (asked : ℕ) → ℕ
handled lent asked = min asked (length lent / block_size)

-- it reads both editions
abbrev pub reading_by : Keys → Progress → (lent : List ℕ) (asked : ℕ) → Reading
reading_by k s lent asked = read_blocks (of_both k) s (cut (handled lent asked) lent)

abbrev pub blocks_read : Reading → BlocksRead
blocks_read t = blocks_read_with t.progress t.accepted t.bytes t.stop

-- a turn that is refused as a whole
abbrev pub whole : Progress → Stop → BlocksRead
whole s why = blocks_read_with s 0 0 why

-- the answer and the output: 5, 6, 4, in that order, and then the blocks
unfoldable pub turn_under : Keys → Progress → (lent : List ℕ) (asked : ℕ) (out : List ℕ) → BlocksRead × List ℕ
turn_under k s lent asked out =
    cond (not (ltb 0 asked && leb asked 128)) (whole s Asked, out)
    (cond (not (eqb (length lent % block_size) 0)) (whole s Lent, out)
    (cond (ltb (length out) (handled lent asked * body_size)) (whole s Room, out)
    (blocks_read (reading_by k s lent asked), over (reading_by k s lent asked).out out)))
