-- When a receiver is complete, in the words of request E11 (docs/REQUIREMENTS.md), stated of the definition. Assumes nothing.
use mathlib.Core.Path.{◌≡◌, refl}
use mathlib.Core.Bool.{◌&&◌}
use lib.Dec.{eqb, ltb}
use Rattle.image_receiver_answer.specs.declared.Receipt.{Receipt}
use Rattle.image_receiver.specs.Calls.{full}

-- exactly when the count held equals the image's count, and that is at least 1
pub complete_when_all_are_held : (r : Receipt) → full r ≡ (ltb 0 r.count && eqb r.held r.count)
unfolding full
complete_when_all_are_held r = refl
