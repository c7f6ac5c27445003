-- The editions by their numbers are the two, and what the code covers is what they cover. Assumes nothing.
use mathlib.Core.Path.{◌≡◌, refl, ap, ◌∙◌}
use mathlib.Core.Bool.{Bool, true, false, cond}
use mathlib.Core.List.{List, []}
use Prim.Native.Nat.{ℕ, ◌≤◌}
use native.Mathlib.Omega.{arith}
use lib.Dec.{eqb}
use lib.ListN.{length, take}
use lib.Seq.{take_all}
use Rattle.octets.specs.Octets.{Bytes}
use Rattle.image_limits.specs.Marks.{mark_of, tail_size}
use Rattle.image_spec.specs.Edition.{one, two, tail_of, edition}

pub edition_one : edition 1 ≡ one
unfolding mark_of tail_of
edition_one = refl

pub edition_two : edition 2 ≡ two
unfolding mark_of tail_of
edition_two = refl

-- as many bytes of the check before as the edition covers are its tail
pub tail_taken : (n : ℕ) (last : List ℕ) → length last ≡ 16 → take (tail_size n) last ≡ tail_of n last
unfolding tail_size tail_of
tail_taken n last l = go (eqb n 2)
  where
    go : (t : Bool) → take (cond t 16 0) last ≡ cond t last []
    go true = take_all 16 last (omega arith)
    go false = refl

-- where they are lent as a part of it
pub tail_part : (n x : ℕ) (last : List ℕ) → length last ≡ 16 → x ≡ tail_size n → take x last ≡ tail_of n last
tail_part n x last l e = ap (λ (k : ℕ). take k last) e ∙ tail_taken n last l

pub tail_size_most : (n : ℕ) → tail_size n ≤ 16
unfolding tail_size
tail_size_most n = go (eqb n 2)
  where
    go : (t : Bool) → cond t 16 0 ≤ 16
    go true = omega arith
    go false = omega arith

-- and are bytes
pub tail_bytes : (n : ℕ) (last : List ℕ) → Bytes last → Bytes (tail_of n last)
unfolding tail_of
tail_bytes n last b = go (eqb n 2)
  where
    go : (t : Bool) → Bytes (cond t last [])
    go true = b
    go false = λ k. omega arith
