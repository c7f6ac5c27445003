-- A step by its parts, and a pass by its steps. Assumes nothing.
use mathlib.Core.Path.{◌≡◌, refl, ap, ap₂, ◌∙◌}
use mathlib.Core.List.{List, ◌++◌}
use Prim.Native.Nat.{ℕ, zero, suc, ◌+◌, ◌-◌, ◌*◌, ◌/◌, ◌≤◌, ◌<◌}
use native.Mathlib.Omega.{arith}
use lib.ListN.{length, take}
use lib.Seq.{take_at, drop_at, length-take-le}
use Rattle.octets.specs.Words.{bytes_of}
use Rattle.octets.specs.Blocks.{◌⊕◌, BlockCipher}
use Rattle.octets.proofs.Blocks.{⊕-length}
use Rattle.wrap_spec.specs.Wrap.{counter, register, replaced, msb, lsb, step, pass, passes, unstep, unpass, unpasses, unwrapped}

pub counter_size : (t : ℕ) → length (counter t) ≡ 8
unfolding counter bytes_of
counter_size t = refl

pub sum_size : (a : List ℕ) (t : ℕ) → length a ≡ 8 → length (a ⊕ counter t) ≡ 8
sum_size a t e = ⊕-length a (counter t) (omega (arith, counter_size t)) ∙ e

module _ (c : BlockCipher) (t i : ℕ) (w : List ℕ) where
  pub step_by : (made x : List ℕ) → made ≡ c.enc (register w 0 ++ register w i) → length made ≡ 16 → x ≡ (msb made ⊕ counter t) ++ lsb made → replaced w i (msb x) (lsb x) ≡ step c t i w
  unfolding step
  step_by made x em n ex =
      let l = sum_size (take 8 made) t (length-take-le 8 made (omega arith)) in
      ap (λ (y : List ℕ). replaced w i (msb y) (lsb y)) ex
      ∙ ap₂ (λ (a r : List ℕ). replaced w i a r) (take_at (msb made ⊕ counter t) (lsb made) 8 l) (drop_at (msb made ⊕ counter t) (lsb made) 8 l)
      ∙ ap (λ (y : List ℕ). replaced w i (msb y ⊕ counter t) (lsb y)) em

  pub unstep_by : (b x made : List ℕ) → 8 ≤ length w → b ≡ register w 0 ++ register w i → x ≡ (msb b ⊕ counter t) ++ lsb b → made ≡ c.dec x → replaced w i (msb made) (lsb made) ≡ unstep c t i w
  unfolding unstep
  unstep_by b x made h eb ex em =
      let l : length (register w 0) ≡ 8 = length-take-le 8 w h in
      let e : x ≡ (register w 0 ⊕ counter t) ++ register w i =
      ex ∙ ap (λ (y : List ℕ). (msb y ⊕ counter t) ++ lsb y) eb
      ∙ ap₂ (λ (a r : List ℕ). (a ⊕ counter t) ++ r) (take_at (register w 0) (register w i) 8 l) (drop_at (register w 0) (register w i) 8 l) in
      ap (λ (y : List ℕ). replaced w i (msb y) (lsb y)) (em ∙ ap c.dec e)

module _ (c : BlockCipher) (n j : ℕ) (w : List ℕ) where
  pub pass_none : w ≡ pass c n j 0 w
  unfolding pass
  pass_none = refl

  pub pass_more : (i : ℕ) → 0 < i → step c (n * j + i) i (pass c n j (i - 1) w) ≡ pass c n j i w
  unfolding pass
  pass_more zero h = absurd (omega arith)
  pass_more (suc m) h = let e : suc m - 1 ≡ m = omega arith in rw e

  pub unpass_more : (i : ℕ) → 0 < i → unpass c n j (i - 1) (unstep c (n * j + i) i w) ≡ unpass c n j i w
  unfolding unpass
  unpass_more zero h = absurd (omega arith)
  unpass_more (suc m) h = let e : suc m - 1 ≡ m = omega arith in rw e

  pub unpass_none : unpass c n j 0 w ≡ w
  unfolding unpass
  unpass_none = refl

module _ (c : BlockCipher) (n : ℕ) (w : List ℕ) where
  pub passes_none : w ≡ passes c n 0 w
  unfolding passes
  passes_none = refl

  pub passes_more : (k : ℕ) → passes c n (k + 1) w ≡ pass c n k n (passes c n k w)
  unfolding passes
  passes_more k = let e : k + 1 ≡ suc k = omega arith in rw e

  pub unpasses_more : (k : ℕ) → 0 < k → unpasses c n (k - 1) (unpass c n (k - 1) n w) ≡ unpasses c n k w
  unfolding unpasses
  unpasses_more zero h = absurd (omega arith)
  unpasses_more (suc k) h = let e : suc k - 1 ≡ k = omega arith in rw e

  pub unpasses_none : unpasses c n 0 w ≡ w
  unfolding unpasses
  unpasses_none = refl

pub unpasses_whole : (c : BlockCipher) (w : List ℕ) → unpasses c (length w / 8 - 1) 6 w ≡ unwrapped c w
unfolding unwrapped
unpasses_whole c w = refl
