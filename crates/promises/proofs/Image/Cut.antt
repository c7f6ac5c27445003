-- A payload cut into blocks. Demand 1 for the calls; the parts join to the payload, each has the length that the writer asks for at its
-- place, a turn of the sealing that starts at a block finds the parts of the whole, and the image of a payload is its parts, sealed in order. Assumes nothing.
use mathlib.Core.Path.{◌≡◌, refl, ap, sym, ◌∙◌}
use mathlib.Core.Bool.{true}
use mathlib.Core.List.{List, [], ◌∷◌}
use Prim.Native.Nat.{ℕ, zero, suc, ◌+◌, ◌*◌, ◌≤◌, ◌<◌}
use native.Mathlib.Omega.{arith}
use lib.ListN.{length, take, drop}
use lib.Seq.{drop-drop}
use Rattle.image_limits.specs.Fits.{count_fits_of, length_fits}
use Rattle.octets.specs.Blocks.{BlockCipher}
use Rattle.image_spec.specs.Edition.{Edition, no_check}
use Rattle.image_spec.specs.Sealed.{block_for}
use Rattle.promises.proofs.Image.Words.{blocks, written, image}
use Rattle.modes_spec.specs.Pieces.{piece}
use Rattle.std.specs.Prelude.{None, Some}
use Rattle.image_cut.specs.Cut.{most, blocks_of, joined}
use Rattle.image_cut.proofs.CutLaws as laws
use Rattle.image_cut.proofs.block_count.Reads as block_count
use Rattle.image_cut.proofs.block_part.Reads as block_part

pub block_count_asks_nothing : (κs : _) (a : _) → block_count.Asked κs a
block_count_asks_nothing κs a = tt

pub block_count_determined : (κs : _) (a : _) (r r' : _) (s s' : _) → block_count.Post κs a r s → block_count.Post κs a r' s' → r ≡ r'
block_count_determined κs a r r' s s' p q = p ∙ sym q

pub block_count_as_told : (κs : _) (a : _) (r : _) (s : _) → block_count.Post κs a r s → most < a.0 → r ≡ None
block_count_as_told κs a r s p h = p ∙ laws.count_over _ h

pub block_count_done : (κs : _) (a : _) (r : _) (s : _) → block_count.Post κs a r s → a.0 ≤ most → r ≡ Some (blocks_of a.0)
block_count_done κs a r s p h = p ∙ laws.count_within _ h

pub block_part_asks_nothing : (κs : _) (a : _) → block_part.Asked κs a
block_part_asks_nothing κs a = tt

pub block_part_determined : (κs : _) (a : _) (r r' : _) (s s' : _) → block_part.Post κs a r s → block_part.Post κs a r' s' → r.now ≡ r'.now
block_part_determined κs a r r' s s' p q = p ∙ sym q

-- ---- what the writer takes, and what a reader hands out

pub the_parts_join : (p : List ℕ) → joined p (blocks_of (length p)) ≡ p
the_parts_join p = laws.parts_join p

pub the_count_fits : (n : ℕ) → n ≤ most → count_fits_of (blocks_of n) ≡ true
the_count_fits n h = laws.count_fits n h

pub the_parts_fit : (p : List ℕ) (i : ℕ) → i < blocks_of (length p) → length_fits i (blocks_of (length p)) (length (piece 480 p i)) ≡ true
the_parts_fit p i h = laws.part_fits p i h

pub parts_behind : (p : List ℕ) (n i : ℕ) → piece 480 (drop (n * 480) p) i ≡ piece 480 p (n + i)
parts_behind p n i = laws.part_later p n i

-- ---- the image of a payload

-- n blocks from a number on, each of its own part of the payload and sealed on the check of the block before
unfoldable pub sealed_parts : Edition → (ek ck : BlockCipher) (count release : ℕ) (last : List ℕ) (number n : ℕ) → List ℕ → List (List ℕ)
sealed_parts ed ek ck count release last number zero p = []
sealed_parts ed ek ck count release last number (suc n) p =
    let b = block_for ed ek ck last number count release (piece 480 p number) in
    b ∷ sealed_parts ed ek ck count release (drop 496 b) (number + 1) n p

module _ (ed : Edition) (ek ck : BlockCipher) (count release : ℕ) (p : List ℕ) where
  written_from : (last : List ℕ) (number n : ℕ) → written ed ek ck count release last number n (drop (number * 480) p) ≡ sealed_parts ed ek ck count release last number n p
  unfolding written sealed_parts
  written_from last number zero = refl
  written_from last number (suc n) =
      let b = block_for ed ek ck last number count release (take 480 (drop (number * 480) p)) in
      let e : (number + 1) * 480 ≡ number * 480 + 480 = omega arith in
      let d : drop 480 (drop (number * 480) p) ≡ drop ((number + 1) * 480) p = drop-drop 480 (number * 480) p ∙ ap (λ (k : ℕ). drop k p) (sym e) in
      ap (λ (q : List ℕ). b ∷ written ed ek ck count release (drop 496 b) (number + 1) n q) d
      ∙ ap (λ (r : List (List ℕ)). b ∷ r) (written_from (drop 496 b) (number + 1) n)

pub the_count_is_the_images : (p : List ℕ) → blocks_of (length p) ≡ blocks p
unfolding blocks_of
the_count_is_the_images p = refl

pub the_image_is_of_the_parts : (ed : Edition) (ek ck : BlockCipher) (release : ℕ) (p : List ℕ)
    → image ed ek ck release p ≡ sealed_parts ed ek ck (blocks p) release no_check 0 (blocks p) p
the_image_is_of_the_parts ed ek ck release p = written_from ed ek ck (blocks p) release p no_check 0 (blocks p)
