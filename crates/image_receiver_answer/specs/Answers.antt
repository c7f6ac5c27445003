-- What a receiver answers, and what it asks of room and header, in its order (docs/REFUSALS.md). Assumes nothing: these are definitions.
use Rattle.std.specs.Prelude.{ℕ, ◌*◌, Bool, true, false, ◌&&◌, not, cond, List, [], ◌∷◌, eqb, ltb, leb}
use Rattle.image_layout.specs.Layout.{body_size}
use Rattle.image_layout.specs.declared.Head.{Head}
use Rattle.image_limits.specs.Fits.{count_fits_of, length_fits}
use Rattle.image_reasons.specs.Reasons.{reason_number, reason_value}
use Rattle.image_reasons.specs.declared.Reason.TheVariants.{Count, OtherCount, OtherRelease, Length, Reserved}
use Rattle.image_receiver_map.specs.Map.{map_size}
use Rattle.image_receiver_answer.specs.declared.Receipt.{Receipt}
use Rattle.image_receiver_answer.specs.declared.ReceiveAnswer.{ReceiveAnswer}
use Rattle.image_receiver_answer.specs.declared.ReceiveAnswer.TheVariants.{Received, NotABlock, NoRoom, Because, NotBelow, AlreadyHeld}
use Rattle.image_receiver_answer.specs.declared.BeginAnswer.{BeginAnswer}
use Rattle.image_receiver_answer.specs.declared.BeginAnswer.TheVariants.{Begun, BeginKey, BeginCount, BeginRoom}

-- ---- the answers

-- the number of each answer to a block (docs/REFUSALS.md)
abbrev pub receive_number : ReceiveAnswer → ℕ
receive_number Received = 0
receive_number NoRoom = 4
receive_number NotABlock = 6
receive_number (Because reason) = reason_number reason
receive_number NotBelow = 20
receive_number AlreadyHeld = 21

-- and the value that it holds
abbrev pub receive_value : ReceiveAnswer → List ℕ
receive_value Received = []
receive_value NoRoom = []
receive_value NotABlock = []
receive_value (Because reason) = reason_value reason
receive_value NotBelow = []
receive_value AlreadyHeld = []

-- the number of each answer to a start
abbrev pub begin_number : BeginAnswer → ℕ
begin_number Begun = 0
begin_number BeginKey = 1
begin_number BeginRoom = 4
begin_number (BeginCount count) = 7

-- and the value that it holds
abbrev pub begin_value : BeginAnswer → List ℕ
begin_value Begun = []
begin_value BeginKey = []
begin_value BeginRoom = []
begin_value (BeginCount count) = count ∷ []

-- the block is accepted
abbrev pub accepted : ReceiveAnswer → Bool
accepted Received = true
accepted NoRoom = false
accepted NotABlock = false
accepted (Because reason) = false
accepted NotBelow = false
accepted AlreadyHeld = false

-- ---- the tests

-- 480 bytes a block in the store, and one bit a block in the map
unfoldable pub room_for : (count store map : ℕ) → Bool
room_for count store map = leb (body_size * count) store && leb (map_size count) map

-- tests, each with the answer that it gives if it holds: the first that holds is the answer
unfoldable pub first_told : List (Bool × ReceiveAnswer) → ReceiveAnswer
first_told [] = Received
first_told (t ∷ ts) = cond t.0 t.1 (first_told ts)

-- 7, 9, 10, 20, 12, 13 of a block's own header, in that order; edition 1 only, so the reserved number must be 0
unfoldable pub header_tests : Receipt → Head → List (Bool × ReceiveAnswer)
header_tests r h =
    (not (count_fits_of h.count), Because (Count h.count))
    ∷ (not (eqb h.count r.count), Because (OtherCount h.count))
    ∷ (not (eqb h.release r.release), Because (OtherRelease h.release))
    ∷ (not (ltb h.number r.count), NotBelow)
    ∷ (not (length_fits h.number h.count h.len), Because (Length h.len))
    ∷ (not (eqb h.reserved 0), Because (Reserved h.reserved))
    ∷ []
