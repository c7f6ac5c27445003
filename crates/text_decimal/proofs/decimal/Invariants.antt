-- What is left to find from the digits read so far is the whole. Assumes nothing.
use mathlib.Core.Path.{◌≡◌}
use Prim.Native.Nat.{◌≤◌}
use lib.ListN.{drop}
use Rattle.text_decimal.proofs.NumberLaws.{rest}
use Rattle.text_decimal.specs.Numbers.{number_of}
use Rattle.text_decimal.proofs.decimal.Given as goal

abbrev pub invariant-loop-d : goal.invariant-loop-d
invariant-loop-d l = (rest l.most l.value (drop l.d-index l.word) ≡ number_of l.word l.most) × (l.value ≤ l.most)
