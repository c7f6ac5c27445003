-- The words of an expansion put over others in groups of nk. Assumes nothing.
use mathlib.Core.Path.{◌≡◌, sym, subst, ap, ap₂, ◌∙◌}
use mathlib.Core.List.{List, []}
use Prim.Native.Nat.{ℕ, ◌+◌, ◌-◌, ◌*◌, ◌/◌, ◌%◌, ◌≤◌, ◌<◌}
use native.Mathlib.Nat.{mod_self, div_self, div-add-mod', add-mul-mod_self_right, mod-eq_of_lt, add-mod_right, add-div_right}
use native.Mathlib.Numerals.{add-one}
use native.Mathlib.Omega.{arith}
use lib.ListN.{length, get_or, set}
use lib.Seq.{get_or_at}
use Rattle.octets.specs.Octets.{xor, over}
use Rattle.field.specs.Field.{x_times, x_power}
use Rattle.field.proofs.Laws.{power_more}
use Rattle.aes_expand.specs.Expansion.{next_word, key_expansion, first_temp, later_temp}
use Rattle.aes_expand.proofs.Laws.{length_expansion, over_more, over_over, word_before, next_first, next_later, quotient_pos}

-- ---- places in a group

pub place_in_group : (i m nk : ℕ) → i % nk ≡ 0 → m < nk → (i + m) % nk ≡ m
place_in_group i m nk e h =
    let f : i + m ≡ m + i / nk * nk = omega (arith, div-add-mod' i nk) in
    ap (◌% nk) f ∙ add-mul-mod_self_right m (i / nk) nk ∙ mod-eq_of_lt h

pub next_group : (i nk : ℕ) → i % nk ≡ 0 → (i + nk) % nk ≡ 0
next_group i nk e = add-mod_right i nk ∙ e

pub next_constant : (i nk x y : ℕ) → 0 < nk → nk ≤ i → x ≡ x_power (i / nk - 1) → y ≡ x_times x → y ≡ x_power ((i + nk) / nk - 1)
next_constant i nk x y p h e f =
    let q = quotient_pos p h in
    let g : i / nk + 1 - 1 ≡ i / nk - 1 + 1 = omega arith in
    f ∙ ap x_times e ∙ sym (power_more (i / nk - 1)) ∙ ap x_power (sym g) ∙ ap (λ (k : ℕ). x_power (k - 1)) (sym (add-div_right i p))

-- a whole group further
pub after_group : (i nk size x y : ℕ) → 0 < nk → nk ≤ i → i % nk ≡ 0 → x ≡ x_power (i / nk - 1) → y ≡ x_times x → size ≡ nk
    → ((i + size) % nk ≡ 0) × (y ≡ x_power ((i + size) / nk - 1))
after_group i nk size x y p h z e f s = rw s (next_group i nk z, next_constant i nk x y p h e f)

pub first_group : (nk : ℕ) → 0 < nk → (nk % nk ≡ 0) × (1 ≡ x_power (nk / nk - 1))
unfolding x_power
first_group nk p = (mod_self nk, ap (λ (k : ℕ). x_power (k - 1)) (sym (div_self p)))

-- ---- W is w with the first i words of the expansion in it, of which t is the last

module _ (sub : ℕ → ℕ) (key : List ℕ) (nk : ℕ) where
  pub record Grown (w W : List ℕ) (i t : ℕ) : Type 0 where
    pub words : W ≡ over (key_expansion sub key nk i) w
    pub last : t ≡ get_or (key_expansion sub key nk i) (i - 1) 0

  pub grown_more : (w W : List ℕ) (i v : ℕ) → i < length w → W ≡ over (key_expansion sub key nk i) w
      → v ≡ next_word sub key nk (key_expansion sub key nk i) i → Grown w (set W i v) (i + 1) v
  unfolding key_expansion
  grown_more w W i v h e f = record {
    words = ap (λ (l : List ℕ). set l i v) e ∙ over_more sub key nk w i v h f;
    last = let z : i + 1 - 1 ≡ i = omega arith in rw (z, add-one i) (f ∙ sym (get_or_at (key_expansion sub key nk i) (next_word sub key nk (key_expansion sub key nk i) i) [] 0 i (length_expansion sub key nk i)));
  }

  -- over what was there before, and over itself
  pub grown_over : (w u W : List ℕ) (j i : ℕ) → j ≤ i → u ≡ over (key_expansion sub key nk j) w → W ≡ over (key_expansion sub key nk i) u
      → W ≡ over (key_expansion sub key nk i) w
  grown_over w u W j i h e f = f ∙ ap (λ (l : List ℕ). over (key_expansion sub key nk i) l) e ∙ over_over sub key nk w j i h

  pub over_self : (w W : List ℕ) (i : ℕ) → W ≡ over (key_expansion sub key nk i) w → W ≡ over (key_expansion sub key nk i) W
  over_self w W i e = e ∙ sym (over_over sub key nk w i i (omega arith)) ∙ ap (λ (l : List ℕ). over (key_expansion sub key nk i) l) (sym e)

  pub grown_self : (w W : List ℕ) (i t : ℕ) → Grown w W i t → Grown W W i t
  grown_self w W i t g = record { words = over_self w W i g.words; last = g.last }

  -- the first word of a group, and a later one
  pub first_of_group : (w W : List ℕ) (i x r : ℕ) → i < length w → 0 < nk → nk ≤ i → i % nk ≡ 0 → x ≡ x_power (i / nk - 1)
      → W ≡ over (key_expansion sub key nk i) w → r ≡ first_temp sub x (get_or W (i - 1) 0)
      → Grown w (set W i (xor (get_or W (i - nk) 0) r)) (i + 1) (xor (get_or W (i - nk) 0) r)
  first_of_group w W i x r h p l z ex e f =
      let a : get_or W (i - 1) 0 ≡ get_or (key_expansion sub key nk i) (i - 1) 0 = ap (λ (y : List ℕ). get_or y (i - 1) 0) e ∙ word_before sub key nk w i (i - 1) (omega arith) in
      let b : get_or W (i - nk) 0 ≡ get_or (key_expansion sub key nk i) (i - nk) 0 = ap (λ (y : List ℕ). get_or y (i - nk) 0) e ∙ word_before sub key nk w i (i - nk) (omega arith) in
      grown_more w W i _ h e (ap₂ xor b (f ∙ ap₂ (first_temp sub) ex a) ∙ sym (next_first sub key nk (key_expansion sub key nk i) i l z))

  pub later_in_group : (w W : List ℕ) (i m t r : ℕ) → i + m < length w → nk ≤ i → i % nk ≡ 0 → 0 < m → m < nk
      → Grown w W (i + m) t → r ≡ later_temp sub nk m t
      → Grown w (set W (i + m) (xor (get_or W (i + m - nk) 0) r)) (i + (m + 1)) (xor (get_or W (i + m - nk) 0) r)
  later_in_group w W i m t r h l z pm hm g f =
      let b : get_or W (i + m - nk) 0 ≡ get_or (key_expansion sub key nk (i + m)) (i + m - nk) 0 =
      ap (λ (y : List ℕ). get_or y (i + m - nk) 0) g.words ∙ word_before sub key nk w (i + m) (i + m - nk) (omega arith) in
      let a : i + m + 1 ≡ i + (m + 1) = omega arith in
      subst (λ (k : ℕ). Grown w (set W (i + m) (xor (get_or W (i + m - nk) 0) r)) k (xor (get_or W (i + m - nk) 0) r)) a (grown_more w W (i + m) _ h g.words
      (ap₂ xor b (f ∙ ap (later_temp sub nk m) g.last) ∙ sym (next_later sub key nk (key_expansion sub key nk (i + m)) (i + m) m (omega arith) (place_in_group i m nk z hm) pm)))
