-- What a turn has done, and how it stopped (docs/IMAGE.md). Assumes nothing: these are definitions.
use Rattle.std.specs.Prelude.{ℕ}
use Rattle.image_reasons.specs.Reasons.{reason_number}
use Rattle.image_progress.specs.declared.Progress.{Progress}
use Rattle.image_reader_tally.specs.declared.BlocksRead.{BlocksRead}
use Rattle.image_reader_tally.specs.declared.Stop.{Stop}
use Rattle.image_reader_tally.specs.declared.Stop.TheVariants.{End, Asked, Lent, Room, At}

-- the number of each way to stop (docs/REFUSALS.md)
abbrev pub stop_number : Stop → ℕ
stop_number End = 0
stop_number Asked = 5
stop_number Lent = 6
stop_number Room = 4
stop_number (At place reason) = reason_number reason

abbrev pub blocks_read_with : Progress → (accepted bytes : ℕ) → Stop → BlocksRead
blocks_read_with s accepted bytes stop = record { progress = s; accepted = accepted; bytes = bytes; stop = stop }
