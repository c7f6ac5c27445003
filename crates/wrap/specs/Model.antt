-- What an unwrapping under a block cipher leaves in the output. Assumes nothing: these are definitions.
use Rattle.std.specs.Prelude.{cond, ℕ, List, drop}
use Rattle.octets.specs.Octets.{same, over}
use Rattle.octets.specs.Blocks.{BlockCipher}
use Rattle.wrap_spec.specs.Wrap.{initial, register, unwrapped}

-- the key data if A is the initial value, else as it was
abbrev pub opened_over : BlockCipher → (dat out : List ℕ) → List ℕ
opened_over c dat out = cond (same (register (unwrapped c dat) 0) initial) (over (drop 8 (unwrapped c dat)) out) out
