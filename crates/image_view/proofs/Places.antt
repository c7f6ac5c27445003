-- What a view holds and shows lies inside the image. Assumes nothing.
use mathlib.Core.Path.{◌≡◌, refl}
use mathlib.Core.Bool.{Bool, true, false, cond}
use Prim.Native.Nat.{ℕ, ◌+◌, ◌*◌, ◌/◌, ◌≤◌}
use native.Mathlib.Omega.{arith}
use borrow.Author.Tests.{ltb-true}
use Rattle.image_view.specs.Views.{whole, held_length, is_place, offset_of, size_of}

pub held_fits : (n : ℕ) → held_length n ≤ n
unfolding held_length
held_fits n = go (whole n)
  where
    go : (b : Bool) → cond b n 0 ≤ n
    go true = omega arith
    go false = omega arith

pub part_fits : (from size n place : ℕ) → from + size ≤ 512 → offset_of from n place + size_of size n place ≤ n
unfolding offset_of size_of
part_fits from size n place h = go (is_place n place) refl
  where
    go : (b : Bool) → is_place n place ≡ b → cond b (place * 512 + from) 0 + cond b size 0 ≤ n
    go true e = omega (arith, ltb-true place (n / 512) e, h)
    go false e = omega arith
