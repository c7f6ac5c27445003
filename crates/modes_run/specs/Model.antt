-- A run through the pieces that input and output have in common. Assumes nothing: these are definitions.
use Rattle.std.specs.Prelude.{cond, ℕ, ◌*◌, ◌/◌, min, List, length, take}
use Rattle.octets.specs.Blocks.{BlockCipher}
use Rattle.modes_spec.specs.Pieces.{ran_through}
use Rattle.modes_spec.specs.Modes.{machine, any_length}
use Rattle.modes_spec.specs.declared.Operation.{Operation}

-- how many bytes of the input a run takes, of those that input and output both have: all where any length goes, else those of whole pieces
unfoldable pub reach : Operation → ℕ → ℕ → ℕ
reach o a b = cond (any_length o) (min a b) (min a b / 16 * 16)

-- a run through them: what a piece after them is chained to, and the output afterwards
unfoldable pub run_over : BlockCipher → Operation → (iv inp out : List ℕ) → List ℕ × List ℕ
run_over c o iv inp out = ran_through 16 (machine c o) iv (take (reach o (length inp) (length out)) inp) out
