-- What a turn has done, as the code moves it on, block by block. Nobody has to believe it: laws say what it comes to.
use Rattle.std.specs.Prelude.{ℕ, ◌+◌, ◌%◌, List}
use Rattle.image_layout.specs.declared.Head.{Head}
use Rattle.image_limits.specs.Marks.{selected}
use Rattle.image_progress.specs.declared.Progress.{Progress}
use Rattle.image_reasons.specs.declared.Verdict.{Verdict}
use Rattle.image_reasons.specs.declared.Verdict.TheVariants.{Accepted, Refused}
use Rattle.image_reader_tally.specs.declared.BlocksRead.{BlocksRead}
use Rattle.image_reader_tally.specs.declared.Stop.TheVariants.{At}
use Rattle.image_reader_tally.specs.Tally.{blocks_read_with}

-- the progress after a block, were it accepted: no accepted block has the number from which the next is 0
abbrev pub following : Progress → Head → (check : List ℕ) → Progress
following s h check = record {
  next = (s.next + 1) % 4294967296;
  count = h.count;
  release = h.release;
  edition = selected h.reserved;
  last = check;
}

-- what a turn has done after one block more: both sums as a machine word holds them (plain ones in a turn: proofs/Laws.antt)
abbrev pub stepped : Verdict → BlocksRead → Head → (check : List ℕ) → BlocksRead
stepped Accepted t h check =
    blocks_read_with (following t.progress h check) ((t.accepted + 1) % 18446744073709551616) ((t.bytes + h.len) % 18446744073709551616) t.stop
stepped (Refused reason) t h check = blocks_read_with t.progress t.accepted t.bytes (At t.accepted reason)
