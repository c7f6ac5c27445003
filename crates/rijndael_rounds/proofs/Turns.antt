-- The rounds one after the other, on columns that stand twice, and the turns of both widths and ways. Assumes nothing.
use mathlib.Core.Path.{◌≡◌, refl, ap, ◌∙◌}
use mathlib.Core.List.{List, map}
use Prim.Native.Nat.{ℕ, zero, suc, ◌-◌, ◌*◌, ◌≤◌, ◌<◌}
use native.Mathlib.Nat.{mul-le-mul_left, not-suc-le-zero}
use native.Mathlib.Numerals.{sub-one}
use native.Mathlib.Omega.{arith}
use Rattle.aes_spec.specs.State.{Shape}
use Rattle.rijndael_spec.specs.Rijndael.{shape_of}
use Rattle.rijndael_spec.specs.declared.Width.{Width}
use Rattle.rijndael_spec.specs.declared.Width.TheVariants.{Six, Eight}
use Rattle.rijndael_spec.proofs.Laws.{Rounds}
use Rattle.rijndael_model.specs.Model.{way_shape, key_for, unmixed, key_added, gathered, looked_rounds, looked}
use Rattle.rijndael_model.specs.declared.Way.{Way}
use Rattle.rijndael_model.specs.declared.Way.TheVariants.{Forth, Back}
use Rattle.rijndael_rounds.specs.declared.Turn.{Turn}
use Rattle.rijndael_rounds.specs.Model.{turn_of, turn_shape, Fine, Inside, Doubled, Twice}
use Rattle.rijndael_rounds.proofs.States.{gathered_same}

pub inside_less : (u : Turn) (k n : ℕ) → k ≤ n → Inside u n → Inside u k
inside_less u k n h i = let m : u.columns * k ≤ u.columns * n = mul-le-mul_left u.columns h in omega arith

pub doubled_twice : {n : ℕ} {t : List ℕ} → Doubled n t → Twice n t t
doubled_twice d = record { here = λ k h. refl; there = d.again }

-- ---- one round more

module _ (z : Shape) (some : 0 < z.columns) (f : ℕ → ℕ) (w : List ℕ) (k : ℕ → ℕ) where
  pub rounds_none : (s : List ℕ) → looked_rounds z f w k 0 s ≡ s
  unfolding looked_rounds
  rounds_none s = refl

  pub rounds_next : (s : List ℕ) (n : ℕ) → 0 < n → key_added z w (k n) (gathered z f (looked_rounds z f w k (n - 1) s)) ≡ looked_rounds z f w k n s
  unfolding looked_rounds
  rounds_next s zero h = absurd (not-suc-le-zero h)
  rounds_next s (suc n) h = rw (sub-one (suc n))

  -- begun on columns that stand twice, they come to the same
  pub gathered_rounds : (s t : List ℕ) → Twice z.columns s t → (n : ℕ) → gathered z f (looked_rounds z f w k n t) ≡ gathered z f (looked_rounds z f w k n s)
  unfolding looked_rounds
  gathered_rounds s t e zero = gathered_same z some f s t e
  gathered_rounds s t e (suc n) = ap (λ (x : List ℕ). gathered z f (key_added z w (k (suc n)) x)) (gathered_rounds s t e n)

-- ---- two shapes that bring the same columns together

module _ (y z : Shape) (f : ℕ → ℕ) (w : List ℕ) (size : y.columns ≡ z.columns) (same : (s : List ℕ) → gathered y f s ≡ gathered z f s) where
  added_same : (n : ℕ) (s : List ℕ) → key_added y w n s ≡ key_added z w n s
  unfolding key_added
  added_same n s = rw size

  rounds_same : (k : ℕ → ℕ) (n : ℕ) (s : List ℕ) → looked_rounds y f w k n s ≡ looked_rounds z f w k n s
  unfolding looked_rounds
  rounds_same k zero s = refl
  rounds_same k (suc n) s = added_same (k (suc n)) _ ∙ ap (key_added z w (k (suc n))) (same _ ∙ ap (gathered z f) (rounds_same k n s))

  looked_same : (a : Way) (nr : ℕ) (s : List ℕ) → looked a y f w nr s ≡ looked a z f w nr s
  unfolding looked
  looked_same a nr s =
      added_same (key_for a nr nr) _
      ∙ ap (λ (x : List ℕ). key_added z w (key_for a nr nr) (map (unmixed a) x))
      (same _ ∙ ap (gathered z f) (rounds_same (key_for a nr) (nr - 1) _ ∙ ap (looked_rounds z f w (key_for a nr) (nr - 1)) (added_same (key_for a nr 0) s)))

-- ---- the four turns

turn_columns : (a : Way) (v : Width) → (turn_of a v).columns ≡ (shape_of v).columns
turn_columns Forth Six = refl
turn_columns Back Six = refl
turn_columns Forth Eight = refl
turn_columns Back Eight = refl

pub turned : (a : Way) (v : Width) (f : ℕ → ℕ) (w : List ℕ) (nr : ℕ) (s : List ℕ) → looked a (turn_shape (turn_of a v)) f w nr s ≡ looked a (way_shape a (shape_of v)) f w nr s
unfolding gathered
turned Forth Six f w = looked_same (turn_shape (turn_of Forth Six)) (shape_of Six) f w refl (λ s. refl) Forth
turned Back Six f w = looked_same (turn_shape (turn_of Back Six)) (way_shape Back (shape_of Six)) f w refl (λ s. refl) Back
turned Forth Eight f w = looked_same (turn_shape (turn_of Forth Eight)) (shape_of Eight) f w refl (λ s. refl) Forth
turned Back Eight f w = looked_same (turn_shape (turn_of Back Eight)) (way_shape Back (shape_of Eight)) f w refl (λ s. refl) Back

pub turn_fine : (a : Way) (v : Width) → Fine (turn_of a v)
turn_fine Forth Six = ((omega arith, omega arith), (omega arith, (omega arith, omega arith)))
turn_fine Back Six = ((omega arith, omega arith), (omega arith, (omega arith, omega arith)))
turn_fine Forth Eight = ((omega arith, omega arith), (omega arith, (omega arith, omega arith)))
turn_fine Back Eight = ((omega arith, omega arith), (omega arith, (omega arith, omega arith)))

pub turn_inside : (a : Way) (v : Width) (nr : ℕ) → Rounds v nr → Inside (turn_of a v) nr
turn_inside a v nr r = rw (turn_columns a v) r.2
