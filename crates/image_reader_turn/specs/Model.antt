-- What a turn answers and leaves in the output, as the code has it. Nobody has to believe it: laws say what it comes to.
use Rattle.std.specs.Prelude.{ℕ, List, drop}
use Rattle.octets.specs.Octets.{over}
use Rattle.image_layout.specs.Layout.{check_at, head_of_lem}
use Rattle.image_progress.specs.declared.Progress.{Progress}
use Rattle.image_spec.specs.Judge.{BlockReader}
use Rattle.image_reader_tally.specs.Model.{stepped}
use Rattle.image_reader_tally.specs.declared.BlocksRead.{BlocksRead}
use Rattle.image_reader_turn.specs.Turn.{read_blocks, blocks_read}
use Rattle.image_reasons.specs.declared.Verdict.{Verdict}
use Rattle.image_reasons.specs.declared.Verdict.TheVariants.{Accepted, Refused}

-- what the part of the output that is a block's holds after it
abbrev pub part_after : Verdict → (plain part : List ℕ) → List ℕ
part_after Accepted plain part = plain
part_after (Refused reason) plain part = part

-- what a turn has done after one block more, and that part
abbrev pub block_into : BlockReader → BlocksRead → (block part : List ℕ) → BlocksRead × List ℕ
block_into d t b part =
    (stepped (d.verdict t.progress b) t (head_of_lem b) (drop check_at b), part_after (d.verdict t.progress b) (d.plain b) part)

-- the answer for blocks, and the output after them
abbrev pub read_into : BlockReader → Progress → List (List ℕ) → List ℕ → BlocksRead × List ℕ
read_into d s bs out = (blocks_read (read_blocks d s bs), over (read_blocks d s bs).out out)
