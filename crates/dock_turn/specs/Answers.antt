-- What a turn did, as C has it: numbers in place of enums. Assumes nothing: these are definitions.
use Rattle.std.specs.Prelude.{ℕ, List, get_or}
use Rattle.image_reasons.specs.Reasons.{reason_number, reason_value}
use Rattle.image_reader_tally.specs.Tally.{stop_number}
use Rattle.image_reader_tally.specs.declared.Stop.{Stop}
use Rattle.image_reader_tally.specs.declared.Stop.TheVariants.{End, Asked, Lent, Room, At}
use Rattle.image_reader.specs.declared.Turn.{Turn}
use Rattle.dock_turn.specs.declared.TurnAnswer.{TurnAnswer}

-- a refusal of the whole turn, or the reason of the block that stopped it, the value that it holds, and the block's place
pub record Told : Type 0 where
  pub number : ℕ
  pub reason : ℕ
  pub value : ℕ
  pub place : ℕ

-- the value that a refusal holds, 0 where it holds none
abbrev pub value_held : List ℕ → ℕ
value_held v = get_or v 0 0

-- a turn that no block stopped, by its number
abbrev pub no_block : ℕ → Told
no_block n = record { number = n; reason = 0; value = 0; place = 0 }

-- a refusal of the whole turn has the number; that of a block is the reason
abbrev pub told_of : Stop → Told
told_of End = no_block (stop_number End)
told_of Asked = no_block (stop_number Asked)
told_of Lent = no_block (stop_number Lent)
told_of Room = no_block (stop_number Room)
told_of (At place reason) = record { number = 0; reason = reason_number reason; value = value_held (reason_value reason); place = place }

abbrev pub turn_answer : Turn → TurnAnswer
turn_answer t = record {
  number = (told_of t.stop).number;
  reason = (told_of t.stop).reason;
  value = (told_of t.stop).value;
  place = (told_of t.stop).place;
  accepted = t.accepted;
  bytes = t.bytes;
  reader = t.reader;
}
