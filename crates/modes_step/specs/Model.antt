-- One step of a machine as the code has it. Assumes nothing: these are definitions.
use Rattle.std.specs.Prelude.{ℕ, List}
use Rattle.modes_spec.specs.Pieces.{Machine}
use Rattle.modes_step.specs.declared.Stepped.{Stepped}

abbrev pub step_of : Machine → List ℕ → List ℕ → Stepped
step_of m st p = record { out = m.out st p; next = m.next st p }
