-- The operations over pieces of 16 bytes, of an input whose length is a multiple of 16 or, in OFB, any. Assumes nothing.
use mathlib.Core.Path.{◌≡◌, sym}
use mathlib.Core.List.{List}
use mathlib.Core.Bool.{Bool, true, false, true≢false}
use Prim.Native.Nat.{ℕ, ◌*◌, ◌/◌, ◌%◌}
use native.Mathlib.Nat.{zero-lt-suc}
use native.Mathlib.Omega.{arith}
use lib.ListN.{length}
use Rattle.octets.specs.Octets.{Bytes, Octets}
use Rattle.octets.specs.Blocks.{BlockCipher, Lawful}
use Rattle.modes_spec.specs.Pieces.{piece_count}
use Rattle.modes_spec.specs.Modes.{machine, other, any_length, chains, Unless, moded, handed_on}
use Rattle.modes_spec.specs.declared.Operation.{Operation}
use Rattle.modes_spec.specs.declared.Operation.TheVariants.{EcbEncrypt, EcbDecrypt, CbcEncrypt, CbcDecrypt, CfbEncrypt, CfbDecrypt, Ofb}
use Rattle.modes_spec.proofs.Pieces.{Each, made_bytes, after_kept}
use Rattle.modes_spec.proofs.Undo.{ChainOf, PieceOf, keeps, whole, moded_length, moded_undone}

pub by_sixteen : (n : ℕ) → n % 16 ≡ 0 → n ≡ n / 16 * 16
by_sixteen n h = omega arith

-- as many whole pieces as the length says, where whole ones are asked
pub pieces_16 : (k : Bool) (n : ℕ) → Unless k (n % 16 ≡ 0) → Unless k (n ≡ n / 16 * 16)
pieces_16 true n h = tt
pieces_16 false n h = by_sixteen n h

-- a chaining value is a block, where there is one
pub chain_block : (o : Operation) (st : List ℕ) → chains o ≡ true → ChainOf 16 o st → Octets 16 st
chain_block EcbEncrypt st e g = absurd (true≢false (sym e))
chain_block EcbDecrypt st e g = absurd (true≢false (sym e))
chain_block CbcEncrypt st e g = g
chain_block CbcDecrypt st e g = g
chain_block CfbEncrypt st e g = g
chain_block CfbDecrypt st e g = g
chain_block Ofb st e g = g

module _ (c : BlockCipher) (l : Lawful 16 c) (o : Operation) (iv s : List ℕ) (g : ChainOf 16 o iv) (b : Bytes s) (h : Unless (any_length o) (length s % 16 ≡ 0)) where
  pub whole_16 : Each 16 (PieceOf 16 o) (piece_count 16 s) s
  whole_16 = whole 16 c l o (length s / 16) iv s (zero-lt-suc 15) g b (pieces_16 (any_length o) (length s) h)

  pub length_16 : length (moded 16 c o iv s) ≡ length s
  length_16 = moded_length 16 c l o (length s / 16) iv s (zero-lt-suc 15) g b (pieces_16 (any_length o) (length s) h)

  pub undone_16 : moded 16 c (other o) iv (moded 16 c o iv s) ≡ s
  undone_16 = moded_undone 16 c l o (length s / 16) iv s (zero-lt-suc 15) g b (pieces_16 (any_length o) (length s) h)

  pub bytes_16 : Bytes (moded 16 c o iv s)
  bytes_16 = made_bytes 16 (machine c o) (ChainOf 16 o) (PieceOf 16 o) (keeps 16 c l o) (piece_count 16 s) iv s g whole_16

  pub handed_16 : ChainOf 16 o (handed_on 16 c o iv s)
  handed_16 = after_kept 16 (machine c o) (ChainOf 16 o) (PieceOf 16 o) (keeps 16 c l o) (piece_count 16 s) iv s g whole_16
