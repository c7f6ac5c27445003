-- A run that writes what it makes over the front of a list, a piece at a time. Assumes nothing.
use mathlib.Core.Path.{◌≡◌, sym, ap, ◌∙◌}
use mathlib.Core.List.{List, ◌++◌}
use Prim.Native.Nat.{ℕ, ◌+◌, ◌*◌, ◌≤◌}
use native.Mathlib.Numerals.{add-one}
use native.Mathlib.Omega.{arith}
use lib.ListN.{length, take, drop, length-append}
use lib.Seq.{take_at, drop_at, drop-drop, take_all, paste}
use Rattle.modes_spec.specs.Pieces.{Machine, output_of, after, piece}
use Rattle.modes_spec.proofs.Pieces.{after_more, made_more}

module _ (m : Machine) (st s out : List ℕ) (i : ℕ) where
  -- piece i comes out, and goes behind what was made before it
  pub write_more : (x : List ℕ) → length (output_of 16 m st i s) ≡ i * 16 → length (m.out (after 16 m st i s) (piece 16 s i)) ≡ 16 → i * 16 + 16 ≤ length out
      → x ≡ output_of 16 m st i s ++ drop (i * 16) out
      → paste x (i * 16) (m.out (after 16 m st i s) (piece 16 s i)) 16 ≡ output_of 16 m st (i + 1) s ++ drop ((i + 1) * 16) out
  write_more x e l h q =
      let a = output_of 16 m st i s in
      let b = m.out (after 16 m st i s) (piece 16 s i) in
      let k : i * 16 + 16 ≡ (i + 1) * 16 = omega arith in
      let f : take (i * 16) x ≡ a = ap (take (i * 16)) q ∙ take_at a (drop (i * 16) out) (i * 16) e in
      let g : drop (i * 16 + 16) x ≡ drop ((i + 1) * 16) out =
      ap (drop (i * 16 + 16)) q ∙ sym (drop-drop 16 (i * 16) (a ++ drop (i * 16) out))
      ∙ ap (drop 16) (drop_at a (drop (i * 16) out) (i * 16) e) ∙ drop-drop 16 (i * 16) out
      ∙ ap (λ (k : ℕ). drop k out) k in
      let n : output_of 16 m st (i + 1) s ≡ a ++ b = rw (add-one i) (made_more 16 m i st s) in
      rw (f, g, n, take_all 16 b (omega arith))

  pub more_length : length (output_of 16 m st i s) ≡ i * 16 → length (m.out (after 16 m st i s) (piece 16 s i)) ≡ 16
      → length (output_of 16 m st (i + 1) s) ≡ (i + 1) * 16
  more_length e l =
      rw (add-one i)
      (ap length (made_more 16 m i st s) ∙ length-append (output_of 16 m st i s) (m.out (after 16 m st i s) (piece 16 s i)) ∙ omega arith)

  pub more_after : after 16 m st (i + 1) s ≡ m.next (after 16 m st i s) (piece 16 s i)
  more_after = rw (add-one i) (after_more 16 m i st s)
