-- A run through pieces of z bytes that writes what it makes over the front of a list, a piece at a time. Assumes nothing.
use mathlib.Core.Path.{◌≡◌, sym, ap, ◌∙◌}
use mathlib.Core.List.{List, ◌++◌}
use Prim.Native.Nat.{ℕ, ◌+◌, ◌*◌, ◌/◌, ◌≤◌, ◌<◌}
use native.Mathlib.Nat.{suc-mul, le-div_iff_mul-le}
use native.Mathlib.Numerals.{add-one}
use native.Mathlib.Omega.{arith}
use lib.ListN.{length, take, drop, length-append}
use lib.Seq.{take_at, drop_at, drop-drop, paste}
use Rattle.modes_spec.specs.Pieces.{Machine, output_of, after, piece}
use Rattle.modes_spec.proofs.Pieces.{after_more, made_more}

pub one_more : (i z : ℕ) → i * z + z ≡ (i + 1) * z
one_more i z = rw (add-one i) (sym (suc-mul i z))

-- a piece that is counted is there
pub piece_room : (i n z : ℕ) → 0 < z → i < n / z → i * z + z ≤ n
piece_room i n z some h = rw (one_more i z) ((le-div_iff_mul-le some).0 (omega arith))

module _ (z : ℕ) (m : Machine) (st s out : List ℕ) (i : ℕ) where
  -- piece i comes out, and goes behind what was made before it
  pub write_more : (x y : List ℕ) → length (output_of z m st i s) ≡ i * z → take z y ≡ m.out (after z m st i s) (piece z s i)
      → x ≡ output_of z m st i s ++ drop (i * z) out
      → paste x (i * z) y z ≡ output_of z m st (i + 1) s ++ drop ((i + 1) * z) out
  write_more x y e l q =
      let a = output_of z m st i s in
      let f : take (i * z) x ≡ a = ap (take (i * z)) q ∙ take_at a (drop (i * z) out) (i * z) e in
      let g : drop (i * z + z) x ≡ drop ((i + 1) * z) out =
      ap (drop (i * z + z)) q ∙ sym (drop-drop z (i * z) (a ++ drop (i * z) out))
      ∙ ap (drop z) (drop_at a (drop (i * z) out) (i * z) e) ∙ drop-drop z (i * z) out
      ∙ ap (λ (k : ℕ). drop k out) (one_more i z) in
      let n : output_of z m st (i + 1) s ≡ a ++ m.out (after z m st i s) (piece z s i) = rw (add-one i) (made_more z m i st s) in
      rw (f, g, n, l)

  pub more_length : length (output_of z m st i s) ≡ i * z → length (m.out (after z m st i s) (piece z s i)) ≡ z
      → length (output_of z m st (i + 1) s) ≡ (i + 1) * z
  more_length e l =
      rw (add-one i)
      (ap length (made_more z m i st s) ∙ length-append (output_of z m st i s) (m.out (after z m st i s) (piece z s i)) ∙ omega (arith, suc-mul i z))

  pub more_after : after z m st (i + 1) s ≡ m.next (after z m st i s) (piece z s i)
  more_after = rw (add-one i) (after_more z m i st s)
