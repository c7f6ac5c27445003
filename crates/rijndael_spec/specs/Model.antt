-- The inverse schedule. Nobody has to trust it: laws say that over it the equivalent inverse cipher is the inverse cipher.
-- Assumes nothing: these are definitions.
use Rattle.std.specs.Prelude.{ℕ, cond, List}
use Rattle.aes_spec.specs.Model.{equivalent_words}
use Rattle.rijndael_spec.specs.Rijndael.{shape_of, wide_round_count}
use Rattle.rijndael_spec.specs.declared.Width.{Width}

unfoldable pub wide_inverse : Width → List ℕ → ℕ → List ℕ
wide_inverse v w nr = cond (wide_round_count v nr) (equivalent_words (shape_of v) w nr) w
