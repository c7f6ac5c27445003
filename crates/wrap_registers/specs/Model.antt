-- What is done with registers of a length in the rule. Assumes nothing: these are definitions.
use Rattle.std.specs.Prelude.{cond, ℕ, ◌-◌, ◌/◌, List, length}
use Rattle.octets.specs.Blocks.{BlockCipher}
use Rattle.wrap_spec.specs.Wrap.{passes, unwrapped}
use Rattle.wrap_answer.specs.Answers.{wrapped_size_fits}

-- all six passes of 2.2.1; registers of no size in the rule stay as they are
unfoldable pub passed_over : BlockCipher → List ℕ → List ℕ
passed_over c w = cond (wrapped_size_fits (length w)) (passes c (length w / 8 - 1) 6 w) w

-- and of 2.2.2
unfoldable pub unpassed_over : BlockCipher → List ℕ → List ℕ
unpassed_over c w = cond (wrapped_size_fits (length w)) (unwrapped c w) w
