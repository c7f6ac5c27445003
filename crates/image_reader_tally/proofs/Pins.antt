-- The numbers of the ways in which a turn stops, as docs/REFUSALS.md has them. Assumes nothing.
use Rattle.std.proofs.Common.{◌≡◌, ℕ, refl}
use Rattle.image_reasons.specs.Reasons.{reason_number}
use Rattle.image_reasons.specs.declared.Reason.{Reason}
use Rattle.image_reader_tally.specs.Tally.{stop_number}
use Rattle.image_reader_tally.specs.declared.Stop.TheVariants.{End, Asked, Lent, Room, At}

pub stop_numbers : (stop_number End ≡ 0) × (stop_number Room ≡ 4) × (stop_number Asked ≡ 5) × (stop_number Lent ≡ 6)
    × ((place : ℕ) (reason : Reason) → stop_number (At place reason) ≡ reason_number reason)
stop_numbers = (refl, refl, refl, refl, λ place reason. refl)
