-- A piece filled up from what is held and what comes, and the last piece. Assumes nothing.
use mathlib.Core.Path.{◌≡◌, sym, ap, ◌∙◌}
use mathlib.Core.List.{List, [], ◌∷◌, ◌++◌}
use Prim.Native.Nat.{ℕ, ◌-◌, ◌≤◌, ◌<◌}
use native.Mathlib.Omega.{arith}
use borrow.Author.Tests.{eq-eqb, ne_eqb}
use lib.ListN.{length, get_or, take, drop, length-append, length-drop, length-take}
use lib.Seq.{length-take-le, take_all, get_or-take}
use Rattle.octets.specs.Octets.{pad_to, tabulate}
use Rattle.octets.specs.Blocks.{◌⊕◌}
use Rattle.octets.proofs.Fill.{is_tabulate, get_d_pad_to, length_pad_to}
use Rattle.cmac_spec.specs.Cmac.{padded, last_by}

-- the first 16 bytes, and zeros past the end
abbrev pub piece : List ℕ → List ℕ
piece s = pad_to 16 (take 16 s)

piece_length : (s : List ℕ) → length (take 16 s) ≤ 16
piece_length s = omega (arith, length-take 16 s)

pub piece_tabulate : (s : List ℕ) → piece s ≡ tabulate 16 (λ k. get_or s k 0)
piece_tabulate s =
    is_tabulate 16 (λ k. get_or s k 0) (piece s) (length_pad_to 16 (take 16 s) (piece_length s))
    (λ k h. get_d_pad_to 16 (take 16 s) k ∙ get_or-take 16 s k 0 h)

pub piece_short : (s : List ℕ) → length s ≤ 16 → piece s ≡ pad_to 16 s
piece_short s h = ap (pad_to 16) (take_all 16 s h)

pub piece_full : (s : List ℕ) → 16 ≤ length s → piece s ≡ take 16 s
piece_full s h = piece_tabulate s ∙ sym (is_tabulate 16 (λ k. get_or s k 0) (take 16 s) (length-take-le 16 s h) (λ k l. get_or-take 16 s k 0 l))

-- a part of a slice from a place to its end
pub to_end : (s : List ℕ) (at : ℕ) → take (length s - at) (drop at s) ≡ drop at s
to_end s at = take_all (length s - at) (drop at s) (omega (arith, length-drop at s))

-- ---- held bytes, a count past 16 taken as 16

module _ (held : List ℕ) (size : length held ≡ 16) where
  pub held-length : (count : ℕ) → length (take count held) ≡ 16 - (16 - count)
  held-length count = omega (arith, length-take count held)

  -- ---- the last piece

  pub last_short : (k1 k2 : List ℕ) (count : ℕ) → count < 16 → k2 ⊕ piece (take count held ++ (128 ∷ [])) ≡ last_by k1 k2 (take count held)
  unfolding padded
  last_short k1 k2 count h =
      let n : length (take count held) ≡ 16 → ⊥ = λ e. omega (arith, held-length count) in
      rw (ne_eqb (length (take count held)) 16 n, piece_short (take count held ++ (128 ∷ [])) (omega (arith, held-length count, length-append (take count held) (128 ∷ []))))

  pub last_full : (k1 k2 : List ℕ) (count : ℕ) → 16 ≤ count → k1 ⊕ held ≡ last_by k1 k2 (take count held)
  last_full k1 k2 count h = rw (take_all count held (omega arith), eq-eqb (length held) 16 size)
