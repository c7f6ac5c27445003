-- What request E11 (docs/REQUIREMENTS.md) says about an accepted block, and about the order of 15 and 21, stated of the definitions. Assumes nothing.
use mathlib.Core.Path.{◌≡◌, refl}
use mathlib.Core.Bool.{false}
use mathlib.Core.List.{List}
use Prim.Native.Nat.{ℕ, ◌+◌, ◌*◌, min}
use lib.Seq.{paste}
use Rattle.octets.specs.Blocks.{BlockCipher}
use Rattle.image_layout.specs.Layout.{head_of_lem}
use Rattle.image_reasons.specs.declared.Reason.TheVariants.{FillNotZero}
use Rattle.image_spec.specs.Sealed.{opened, fill_zero}
use Rattle.image_receiver_answer.specs.Answers.{first_told}
use Rattle.image_receiver_answer.specs.declared.Receipt.{Receipt}
use Rattle.image_receiver_answer.specs.declared.ReceiveAnswer.TheVariants.{Because}
use Rattle.image_receiver_block.specs.Receive.{counted_with, stored, last_answer}

-- one block more, and its payload; at 4,294,967,295 both stay
pub one_more_is_held : (r : Receipt) (len : ℕ) → ((counted_with r len).held ≡ min (r.held + 1) 4294967295) × ((counted_with r len).bytes ≡ min (r.bytes + len) 4294967295)
one_more_is_held r len = (refl, refl)

-- its 480 decrypted bytes go to 480 times its number
pub at_480_times_its_number : (ek : BlockCipher) (b store : List ℕ) → stored ek b store ≡ paste store (480 * (head_of_lem b).number) (opened ek b) 480
unfolding stored
at_480_times_its_number ek b store = refl

-- a bad copy of a held block gets its own number
pub fifteen_comes_first : (ek : BlockCipher) (b map : List ℕ) → fill_zero ek b ≡ false → last_answer ek b map ≡ Because FillNotZero
unfolding last_answer first_told
fifteen_comes_first ek b map e = rw e
