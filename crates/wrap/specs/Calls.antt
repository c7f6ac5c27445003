-- The calls: wrapping and unwrapping under a key. Assumes nothing: these are definitions.
use Rattle.std.specs.Prelude.{cond, ℕ, ◌+◌, ◌-◌, List, length, drop}
use Rattle.octets.specs.Octets.{same, over}
use Rattle.octets.specs.Blocks.{BlockCipher}
use Rattle.aes_sbox.specs.Sbox.{s_box}
use Rattle.aes_schedule.specs.Schedule.{schedule_of, key_number}
use Rattle.aes_spec.specs.Cipher.{aes_of}
use Rattle.wrap_spec.specs.Wrap.{initial, register, wrapped, unwrapped}
use Rattle.wrap_answer.specs.Answers.{size_fits_of, wrapped_size_fits, wrap_ruled}
use Rattle.wrap_answer.specs.declared.WrapAnswer.{WrapAnswer}
use Rattle.wrap_answer.specs.declared.WrapAnswer.TheVariants.{WrapDone, WrapKey, WrapSize, WrapRoom, WrongInitial}

unfoldable pub wrap_answer : (key dat out : List ℕ) → WrapAnswer
wrap_answer key dat out = wrap_ruled (key_number (schedule_of s_box key).answer) (size_fits_of (length dat)) (length dat + 8) (length out) WrapDone

-- the output afterwards: the result, and the rest as it was; after a refusal, as it was
abbrev pub wrap_output : WrapAnswer → (key dat out : List ℕ) → List ℕ
wrap_output WrapDone key dat out = over (wrapped (aes_of key) dat) out
wrap_output WrapKey key dat out = out
wrap_output WrapSize key dat out = out
wrap_output WrapRoom key dat out = out
wrap_output WrongInitial key dat out = out

-- then 19: all eight bytes of A are compared with the initial value
abbrev pub opening : BlockCipher → List ℕ → WrapAnswer
opening c dat = cond (same (register (unwrapped c dat) 0) initial) WrapDone WrongInitial

unfoldable pub unwrap_answer : (key dat out : List ℕ) → WrapAnswer
unwrap_answer key dat out = wrap_ruled (key_number (schedule_of s_box key).answer) (wrapped_size_fits (length dat)) (length dat - 8) (length out) (opening (aes_of key) dat)

abbrev pub unwrap_output : WrapAnswer → (key dat out : List ℕ) → List ℕ
unwrap_output WrapDone key dat out = over (drop 8 (unwrapped (aes_of key) dat)) out
unwrap_output WrapKey key dat out = out
unwrap_output WrapSize key dat out = out
unwrap_output WrapRoom key dat out = out
unwrap_output WrongInitial key dat out = out
