-- what is left to decrypt is zero where it is to be, just where the fill is
use mathlib.Core.Path.{◌≡◌}
use Prim.Native.Nat.{◌<◌}
use lib.ListN.{drop}
use Rattle.image_spec.specs.Sealed.{all_zero, zero_after}
use Rattle.image_spec.specs.Model.{lent_cipher}
use Rattle.image_spec.proofs.Opening.{left}
use Rattle.image_block_fill.proofs.zero_after.Given as goal

abbrev pub invariant-loop-i : goal.invariant-loop-i
invariant-loop-i l = (l.from < 16) × (all_zero (drop l.from (left (lent_cipher l.enc l.dec) l.block l.i l.chain)) ≡ zero_after (lent_cipher l.enc l.dec) l.len l.block)
