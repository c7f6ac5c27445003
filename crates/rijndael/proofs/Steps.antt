-- A block through the rounds, in bytes. Assumes nothing.
use mathlib.Core.Path.{◌≡◌, refl, ap, ◌∙◌}
use mathlib.Core.Bool.{Bool, true, false, cond}
use mathlib.Core.List.{List}
use Prim.Native.Nat.{ℕ, ◌-◌, ◌<◌}
use native.Mathlib.Omega.{arith}
use lib.ListN.{length, take, replicate, length-replicate}
use lib.Seq.{take_at, length-take-le}
use Rattle.octets.specs.Octets.{pad_to}
use Rattle.octets.specs.Words.{bytes_of}
use Rattle.aes_sbox.specs.Sbox.{inv_s_box}
use Rattle.aes_spec.specs.Model.{eq_inv_cipher}
use Rattle.rijndael_spec.specs.Rijndael.{shape_of, block_size, wide_round_count, wide_encrypt}
use Rattle.rijndael_spec.specs.declared.Width.{Width}
use Rattle.rijndael_spec.specs.declared.Width.TheVariants.{Six, Eight}
use Rattle.rijndael_spec.proofs.Laws.{regular, wide-round-count}
use Rattle.rijndael_model.specs.Model.{back, entry_of, block_of, looked, passed}
use Rattle.rijndael_model.specs.declared.Way.{Way}
use Rattle.rijndael_model.specs.declared.Way.TheVariants.{Forth, Back}
use Rattle.rijndael_model.proofs.Columns.{words_octets, added_length}
use Rattle.rijndael_model.proofs.Passes.{passed_forth, looked_back, zeros_block}
use Rattle.rijndael.specs.Model.{eq_wide_decrypt}
use Rattle.rijndael.proofs.Blocks.{columns_few}

-- the bytes of eight columns of which a block has the first
pub block_length : (v : Width) (t : List ℕ) → length t ≡ 8 → length (block_of v t) ≡ block_size v
block_length v t e =
    let few = (columns_few v).1 in
    (words_octets (shape_of v).columns (take (shape_of v).columns t) (length-take-le (shape_of v).columns t (omega arith))).size

pub none_block : (v : Width) → block_of v (replicate 8 0) ≡ replicate (block_size v) 0
unfolding bytes_of
none_block Six = refl
none_block Eight = refl

module _ (v : Width) (t : ℕ → ℕ) (w : List ℕ) (nr : ℕ) (s x : List ℕ) where
  passed_length : (y : Way) → length (passed y v t w nr s) ≡ (shape_of v).columns
  unfolding passed looked
  passed_length Forth = on (wide_round_count v nr)
    where
      on : (k : Bool) → length (cond k (looked Forth (shape_of v) t w nr s) (replicate (shape_of v).columns 0)) ≡ (shape_of v).columns
      on true = added_length (shape_of v) w nr _
      on false = length-replicate (shape_of v).columns 0
  passed_length Back = on (wide_round_count v nr)
    where
      on : (k : Bool) → length (cond k (looked Back (back (shape_of v)) t w nr s) (replicate (shape_of v).columns 0)) ≡ (shape_of v).columns
      on true = added_length (back (shape_of v)) w (nr - nr) _
      on false = length-replicate (shape_of v).columns 0

  block_passed : (y : Way) → x ≡ pad_to 8 (passed y v t w nr s) → block_of v x ≡ bytes_of (passed y v t w nr s)
  unfolding pad_to
  block_passed y e = ap (block_of v) e ∙ ap bytes_of (take_at (passed y v t w nr s) _ (shape_of v).columns (passed_length y))

  pub forth_block : x ≡ pad_to 8 (passed Forth v t w nr s) → ((k : ℕ) → k < 256 → t k ≡ entry_of Forth k) → block_of v x ≡ wide_encrypt v w nr (block_of v s)
  forth_block e a = block_passed Forth e ∙ passed_forth v t w nr s a

  pub back_block : x ≡ pad_to 8 (passed Back v t w nr s) → ((k : ℕ) → k < 256 → t k ≡ entry_of Back k) → block_of v x ≡ eq_wide_decrypt v w nr (block_of v s)
  unfolding passed eq_wide_decrypt
  back_block e a = block_passed Back e ∙ on (wide_round_count v nr) refl
    where
      on : (k : Bool) → wide_round_count v nr ≡ k → bytes_of (cond k (looked Back (back (shape_of v)) t w nr s) (replicate (shape_of v).columns 0))
          ≡ cond k (eq_inv_cipher (shape_of v) inv_s_box w nr (block_of v s)) (replicate (block_size v) 0)
      on true known = looked_back (shape_of v) (regular v).some t w a nr s (wide-round-count v nr known).0
      on false known = zeros_block v
