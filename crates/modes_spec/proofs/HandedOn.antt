-- An operation over two inputs joined is the operation over the first and then, with the value handed on, over the second, where the
-- first is whole pieces; and so for any number of cuts. Assumes nothing.
use mathlib.Core.Path.{◌≡◌, refl, ap, ◌∙◌}
use mathlib.Core.List.{List, [], ◌∷◌, ◌++◌, append_assoc}
use Prim.Native.Nat.{ℕ, ◌+◌, ◌-◌, ◌*◌, ◌/◌, ◌<◌}
use native.Mathlib.Nat.{add_comm, add-mul-div_right}
use native.Mathlib.Omega.{arith}
use lib.ListN.{length, length-append}
use Rattle.octets.specs.Octets.{joined}
use Rattle.octets.specs.Blocks.{BlockCipher}
use Rattle.modes_spec.specs.Pieces.{output_of, after, piece_count}
use Rattle.modes_spec.specs.Modes.{machine, moded, handed_on, in_parts, handed_along, WholeParts}
use Rattle.modes_spec.specs.declared.Operation.{Operation}
use Rattle.modes_spec.proofs.Pieces.{count_whole}
use Rattle.modes_spec.proofs.Joining.{made_joined, after_joined}

module _ (z : ℕ) (c : BlockCipher) (o : Operation) (some : 0 < z) where
  module _ (n : ℕ) (iv a b : List ℕ) (e : length a ≡ n * z) where
    count_joined : piece_count z (a ++ b) ≡ n + piece_count z b
    count_joined =
        let f : length (a ++ b) + (z - 1) ≡ length b + (z - 1) + n * z = omega (arith, length-append a b) in
        ap (◌/ z) f ∙ add-mul-div_right (length b + (z - 1)) n some ∙ add_comm (piece_count z b) n

    pub moded_joined : moded z c o iv (a ++ b) ≡ moded z c o iv a ++ moded z c o (handed_on z c o iv a) b
    moded_joined =
        ap (λ (k : ℕ). output_of z (machine c o) iv k (a ++ b)) count_joined ∙ made_joined z (machine c o) n (piece_count z b) iv a b e
        ∙ rw (count_whole z n a some e)

    pub handed_joined : handed_on z c o iv (a ++ b) ≡ handed_on z c o (handed_on z c o iv a) b
    handed_joined =
        ap (λ (k : ℕ). after z (machine c o) iv k (a ++ b)) count_joined ∙ after_joined z (machine c o) n (piece_count z b) iv a b e
        ∙ rw (count_whole z n a some e)

  -- parts of whole pieces, and then a last one of any length
  pub cut_anywhere : (parts : List (List ℕ)) (iv last : List ℕ) → WholeParts z parts
      → (moded z c o iv (joined parts ++ last) ≡ in_parts z c o iv parts ++ moded z c o (handed_along z c o iv parts) last)
      × (handed_on z c o iv (joined parts ++ last) ≡ handed_on z c o (handed_along z c o iv parts) last)
  cut_anywhere [] iv last w = (refl, refl)
  cut_anywhere (part ∷ parts) iv last w =
      let rest = joined parts ++ last in
      let n = length part / z in
      let st = handed_on z c o iv part in
      let ih = cut_anywhere parts st last w.1 in
      let end = moded z c o (handed_along z c o st parts) last in (
        ap (moded z c o iv) (append_assoc part (joined parts) last) ∙ moded_joined n iv part rest w.0
            ∙ ap (moded z c o iv part ++◌) ih.0 ∙ rw (append_assoc (moded z c o iv part) (in_parts z c o st parts) end),
        ap (handed_on z c o iv) (append_assoc part (joined parts) last) ∙ handed_joined n iv part rest w.0 ∙ ih.1,
      )
