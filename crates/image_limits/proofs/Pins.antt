-- What request E10 (docs/REQUIREMENTS.md) says about bytes 14 and 15 in a sentence, stated of the definitions. Assumes nothing.
use mathlib.Core.Path.{◌≡◌, refl}
use Prim.Native.Nat.{ℕ}
use borrow.Author.Tests.{ne_eqb}
use Rattle.image_limits.specs.Marks.{selected, mark_of, tail_size}

-- value 2 selects the new cover, every other value the old one
pub two_alone_selects : (selected 2 ≡ 2) × ((v : ℕ) → (v ≡ 2 → ⊥) → selected v ≡ 1)
unfolding selected
two_alone_selects = (refl, λ v n. rw (ne_eqb v 2 n))

-- edition 1 has 0 there and covers nothing more; edition 2 has 2 and covers the 16 bytes of a check more
pub marks_and_covers : (mark_of 1 ≡ 0) × (mark_of 2 ≡ 2) × (tail_size 1 ≡ 0) × (tail_size 2 ≡ 16)
unfolding mark_of tail_size
marks_and_covers = (refl, refl, refl, refl)
