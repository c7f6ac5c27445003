-- How the code goes through a call: which way, and over which schedule. Nobody needs to believe this. Assumes nothing: these are definitions.
use Rattle.std.specs.Prelude.{cond, ℕ, List, replicate}
use Rattle.octets.specs.Blocks.{BlockCipher}
use Rattle.aes_sbox.specs.Sbox.{inv_s_box}
use Rattle.aes_spec.specs.Model.{eq_inv_cipher}
use Rattle.rijndael_spec.specs.Rijndael.{shape_of, block_size, wide_round_count, wide_encrypt}
use Rattle.rijndael_spec.specs.Model.{wide_inverse}
use Rattle.rijndael_spec.specs.declared.Width.{Width}
use Rattle.rijndael_spec.specs.declared.WideOperation.{WideOperation}
use Rattle.rijndael_spec.specs.declared.WideOperation.TheVariants.{EncryptEcb, DecryptEcb, EncryptCbc, DecryptCbc}
use Rattle.rijndael_model.specs.declared.Way.{Way}
use Rattle.rijndael_model.specs.declared.Way.TheVariants.{Forth, Back}

abbrev pub way_of : WideOperation → Way
way_of EncryptEcb = Forth
way_of DecryptEcb = Back
way_of EncryptCbc = Forth
way_of DecryptCbc = Back

-- the schedule for a way
abbrev pub words_for : Way → Width → List ℕ → ℕ → List ℕ
words_for Forth v w nr = w
words_for Back v w nr = wide_inverse v w nr

-- one block under a schedule for the way back
unfoldable pub eq_wide_decrypt : Width → List ℕ → ℕ → List ℕ → List ℕ
eq_wide_decrypt v dw nr b = cond (wide_round_count v nr) (eq_inv_cipher (shape_of v) inv_s_box dw nr b) (replicate (block_size v) 0)

-- the two ways as one block cipher, each over the schedule that is lent for it; and over one, where a caller needs but one way
abbrev pub equivalent_wide : Width → List ℕ → List ℕ → ℕ → BlockCipher
equivalent_wide v w dw nr = record { enc = wide_encrypt v w nr; dec = eq_wide_decrypt v dw nr }

abbrev pub wide_one_way : Width → List ℕ → ℕ → BlockCipher
wide_one_way v w nr = equivalent_wide v w w nr
