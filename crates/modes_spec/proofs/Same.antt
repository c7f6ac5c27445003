-- Ciphers that agree on blocks give the same operations. Assumes nothing.
use mathlib.Core.Path.{◌≡◌, refl, ap}
use mathlib.Core.List.{List}
use Prim.Native.Nat.{ℕ, ◌*◌, ◌<◌}
use lib.ListN.{length}
use Rattle.octets.specs.Octets.{Bytes, Octets}
use Rattle.octets.specs.Blocks.{◌⊕◌, BlockCipher, Lawful}
use Rattle.octets.proofs.Blocks.{⊕-octets}
use Rattle.modes_spec.specs.Pieces.{after, piece_count}
use Rattle.modes_spec.specs.Modes.{machine, any_length, Unless, moded}
use Rattle.modes_spec.specs.declared.Operation.{Operation}
use Rattle.modes_spec.specs.declared.Operation.TheVariants.{EcbEncrypt, EcbDecrypt, CbcEncrypt, CbcDecrypt, CfbEncrypt, CfbDecrypt, Ofb}
use Rattle.modes_spec.proofs.Pieces.{made_same, after_same}
use Rattle.modes_spec.proofs.Undo.{ChainOf, PieceOf, keeps, whole}

module _ (z : ℕ) (c d : BlockCipher) (enc_same : (x : List ℕ) → Octets z x → c.enc x ≡ d.enc x) (dec_same : (x : List ℕ) → Octets z x → c.dec x ≡ d.dec x) where
  out_same : (o : Operation) (st p : List ℕ) → ChainOf z o st → PieceOf z o p → (machine c o).out st p ≡ (machine d o).out st p
  out_same EcbEncrypt st p g h = enc_same p h
  out_same EcbDecrypt st p g h = dec_same p h
  out_same CbcEncrypt st p g h = enc_same (p ⊕ st) (⊕-octets h g)
  out_same CbcDecrypt st p g h = ap (◌⊕ st) (dec_same p h)
  out_same CfbEncrypt st p g h = ap (p ⊕◌) (enc_same st g)
  out_same CfbDecrypt st p g h = ap (p ⊕◌) (enc_same st g)
  out_same Ofb st p g h = ap (p ⊕◌) (enc_same st g)

  next_same : (o : Operation) (st p : List ℕ) → ChainOf z o st → PieceOf z o p → (machine c o).next st p ≡ (machine d o).next st p
  next_same EcbEncrypt st p g h = refl
  next_same EcbDecrypt st p g h = refl
  next_same CbcEncrypt st p g h = enc_same (p ⊕ st) (⊕-octets h g)
  next_same CbcDecrypt st p g h = refl
  next_same CfbEncrypt st p g h = ap (p ⊕◌) (enc_same st g)
  next_same CfbDecrypt st p g h = refl
  next_same Ofb st p g h = enc_same st g

  -- on n whole pieces, or on any length
  module _ (l : Lawful z d) (o : Operation) (n : ℕ) (st s : List ℕ) (some : 0 < z) (g : ChainOf z o st) (b : Bytes s) (e : Unless (any_length o) (length s ≡ n * z)) where
    pub moded_same : moded z c o st s ≡ moded z d o st s
    moded_same =
        made_same z (machine d o) (ChainOf z o) (PieceOf z o) (keeps z d l o) (machine c o) (out_same o) (next_same o) (piece_count z s) st s g
        (whole z d l o n st s some g b e)

    pub handed_same : after z (machine c o) st (piece_count z s) s ≡ after z (machine d o) st (piece_count z s) s
    handed_same =
        after_same z (machine d o) (ChainOf z o) (PieceOf z o) (keeps z d l o) (machine c o) (next_same o) (piece_count z s) st s g
        (whole z d l o n st s some g b e)
