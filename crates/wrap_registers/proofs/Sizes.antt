-- The passes over registers of a length in the rule. Assumes nothing.
use mathlib.Core.Path.{◌≡◌}
use mathlib.Core.Bool.{true, false}
use mathlib.Core.List.{List}
use Prim.Native.Nat.{ℕ, ◌-◌, ◌/◌, ◌%◌, ◌≤◌}
use lib.ListN.{length}
use Rattle.octets.specs.Blocks.{BlockCipher}
use Rattle.wrap_spec.specs.Wrap.{passes, unwrapped}
use Rattle.wrap_answer.specs.Answers.{wrapped_size_fits}
use Rattle.wrap_answer.proofs.Sizes.{wrapped_size_right}
use Rattle.wrap_registers.specs.Model.{passed_over, unpassed_over}

module _ (c : BlockCipher) (w : List ℕ) where
  module _ (f : wrapped_size_fits (length w) ≡ true) where
    pub passed_right : passes c (length w / 8 - 1) 6 w ≡ passed_over c w
    unfolding passed_over
    passed_right = rw f

    pub unpassed_right : unwrapped c w ≡ unpassed_over c w
    unfolding unpassed_over
    unpassed_right = rw f

  module _ (f : wrapped_size_fits (length w) ≡ false) where
    pub passed_wrong : w ≡ passed_over c w
    unfolding passed_over
    passed_wrong = rw f

    pub unpassed_wrong : w ≡ unpassed_over c w
    unfolding unpassed_over
    unpassed_wrong = rw f

  -- as the key wrap has them: data of a length in the rule
  module _ (l : 24 ≤ length w) (h : length w ≤ 72) (e : length w % 8 ≡ 0) where
    pub passed_is : passes c (length w / 8 - 1) 6 w ≡ passed_over c w
    passed_is = passed_right (wrapped_size_right (length w) l h e)

    pub unpassed_is : unwrapped c w ≡ unpassed_over c w
    unpassed_is = unpassed_right (wrapped_size_right (length w) l h e)
