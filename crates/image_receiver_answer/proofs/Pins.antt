-- The numbers and values of a receiver's answers, as docs/REFUSALS.md has them, and what room and 20 ask. Assumes nothing.
use mathlib.Core.Path.{◌≡◌, refl}
use mathlib.Core.Bool.{true, ◌&&◌}
use mathlib.Core.List.{[], ◌∷◌}
use Prim.Native.Nat.{ℕ, ◌+◌, ◌*◌, ◌/◌}
use native.Mathlib.Omega.{arith}
use borrow.Author.Tests.{eq-eqb, le-ltb}
use lib.Dec.{leb}
use Rattle.image_layout.specs.declared.Head.{Head}
use Rattle.image_limits.specs.Fits.{count_fits_of}
use Rattle.image_reasons.specs.Reasons.{reason_number, reason_value}
use Rattle.image_reasons.specs.declared.Reason.{Reason}
use Rattle.image_receiver_answer.specs.Answers.{receive_number, receive_value, begin_number, begin_value, room_for, first_told, header_tests}
use Rattle.image_receiver_answer.specs.declared.Receipt.{Receipt}
use Rattle.image_receiver_answer.specs.declared.ReceiveAnswer.TheVariants.{Received, NotABlock, NoRoom, Because, NotBelow, AlreadyHeld}
use Rattle.image_receiver_answer.specs.declared.BeginAnswer.TheVariants.{Begun, BeginKey, BeginCount, BeginRoom}

pub receive_numbers : (receive_number Received ≡ 0) × (receive_number NoRoom ≡ 4) × (receive_number NotABlock ≡ 6) × (receive_number NotBelow ≡ 20) × (receive_number AlreadyHeld ≡ 21)
    × ((reason : Reason) → receive_number (Because reason) ≡ reason_number reason)
receive_numbers = (refl, refl, refl, refl, refl, λ reason. refl)

pub receive_values : (receive_value NotBelow ≡ []) × (receive_value AlreadyHeld ≡ []) × ((reason : Reason) → receive_value (Because reason) ≡ reason_value reason)
receive_values = (refl, refl, λ reason. refl)

pub begin_numbers : (begin_number Begun ≡ 0) × (begin_number BeginKey ≡ 1) × (begin_number BeginRoom ≡ 4) × ((count : ℕ) → (begin_number (BeginCount count) ≡ 7) × (begin_value (BeginCount count) ≡ count ∷ []))
begin_numbers = (refl, refl, refl, λ count. (refl, refl))

-- the store must hold 480 times the count, and the map one bit a block
pub room_asks : (count store map : ℕ) → room_for count store map ≡ (leb (480 * count) store && leb ((count + 7) / 8) map)
unfolding room_for
room_asks count store map = refl

-- the number of a block that is the count itself is not below it
pub the_count_is_not_below_it : (r : Receipt) (h : Head) → count_fits_of h.count ≡ true → h.count ≡ r.count → h.release ≡ r.release → h.number ≡ r.count → first_told (header_tests r h) ≡ NotBelow
unfolding header_tests first_told
the_count_is_not_below_it r h f c l n = rw (f, eq-eqb h.count r.count c, eq-eqb h.release r.release l, le-ltb h.number r.count (omega arith))
