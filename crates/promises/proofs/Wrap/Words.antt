-- The words in which the promises about the key wrap are said. Assumes nothing: these are definitions.
use mathlib.Core.Path.{◌≡◌}
use mathlib.Core.Bool.{true, false}
use mathlib.Core.List.{List}
use Prim.Native.Nat.{ℕ, ◌+◌, ◌≤◌, ◌<◌}
use lib.ListN.{length}
use Rattle.octets.specs.Octets.{Bytes}
use Rattle.aes_spec.specs.Cipher.{aes_of}
use Rattle.wrap_spec.specs.Wrap.{initial, register, wrapped, unwrapped}
use Rattle.wrap_answer.specs.Answers.{wrapped_size_fits, size_fits_of}
use Rattle.wrap.specs.Calls.{wrap_answer, wrap_output, unwrap_answer, unwrap_output}
use Rattle.wrap_answer.specs.declared.WrapAnswer.{WrapAnswer}
use Rattle.wrap_answer.specs.declared.WrapAnswer.TheVariants.{WrapDone, WrapKey, WrapSize, WrapRoom, WrongInitial}
use Rattle.promises.proofs.Aes.Keys.{KeyTaken}

-- the outputs after the two calls
abbrev pub after_wrap : (key dat out : List ℕ) → List ℕ
after_wrap key dat out = wrap_output (wrap_answer key dat out) key dat out

abbrev pub after_unwrap : (key dat out : List ℕ) → List ℕ
after_unwrap key dat out = unwrap_output (unwrap_answer key dat out) key dat out

-- A, once all steps are undone, is the initial value
abbrev pub InitialRight : (key dat : List ℕ) → Type 0
InitialRight key dat = register (unwrapped (aes_of key) dat) 0 ≡ initial

-- what wrapping asks, of key data of this length and an output of that
pub record WrapFit (key : List ℕ) (len room : ℕ) : Type 0 where
  pub key_taken : KeyTaken key
  pub size_fits : size_fits_of len ≡ true
  pub roomy : len + 8 ≤ room

-- what each of its answers says: the first test that fails is the one told
abbrev pub WrapSays : (key : List ℕ) (len room : ℕ) → WrapAnswer → Type 0
WrapSays key len room WrapDone = WrapFit key len room
WrapSays key len room WrapKey = KeyTaken key → ⊥
WrapSays key len room WrapSize = KeyTaken key × (size_fits_of len ≡ false)
WrapSays key len room WrapRoom = KeyTaken key × (size_fits_of len ≡ true) × (room < len + 8)
WrapSays key len room WrongInitial = ⊥

-- what unwrapping asks
pub record UnwrapFit (key dat : List ℕ) (room : ℕ) : Type 0 where
  pub key_taken : KeyTaken key
  pub size_fits : wrapped_size_fits (length dat) ≡ true
  pub roomy : length dat ≤ room + 8
  pub initial_right : InitialRight key dat

abbrev pub UnwrapSays : (key dat : List ℕ) (room : ℕ) → WrapAnswer → Type 0
UnwrapSays key dat room WrapDone = UnwrapFit key dat room
UnwrapSays key dat room WrapKey = KeyTaken key → ⊥
UnwrapSays key dat room WrapSize = KeyTaken key × (wrapped_size_fits (length dat) ≡ false)
UnwrapSays key dat room WrapRoom = KeyTaken key × (wrapped_size_fits (length dat) ≡ true) × (room + 8 < length dat)
UnwrapSays key dat room WrongInitial = KeyTaken key × (wrapped_size_fits (length dat) ≡ true) × (length dat ≤ room + 8) × (InitialRight key dat → ⊥)

-- data is the wrapping, under a key, of key data of a size in the rule
pub record WrappingOf (key dat : List ℕ) : Type 0 where
  pub plain : List ℕ
  pub plain_bytes : Bytes plain
  pub plain_size : size_fits_of (length plain) ≡ true
  pub is_wrapped : dat ≡ wrapped (aes_of key) plain
