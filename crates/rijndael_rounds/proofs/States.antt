-- Columns that stand twice in a row are filled two at a time, and read without a remainder. Assumes nothing.
use mathlib.Core.Path.{◌≡◌, refl, sym, ap, ◌∙◌}
use mathlib.Core.List.{List, [], ◌∷◌, ◌++◌, map}
use mathlib.Core.Logic.{⊎_elim}
use Prim.Native.Nat.{ℕ, zero, suc, ◌+◌, ◌-◌, ◌*◌, ◌%◌, ◌≤◌, ◌<◌}
use native.Mathlib.Nat.{add-zero, add-mod_right, mod-eq_of_lt, mod-lt, not-suc-le-zero}
use native.Mathlib.Numerals.{add-one}
use native.Mathlib.Omega.{arith}
use lib.ListN.{length, get_or, set, length-set}
use lib.Seq.{get_or-set_same, get_or-set_other}
use Rattle.octets.specs.Octets.{xor, tabulate, pad_to}
use Rattle.octets.proofs.Xor.{lt_or_le}
use Rattle.octets.proofs.Fill.{length_tabulate, get_d_tabulate, is_tabulate, pad_to_more}
use Rattle.aes_words.specs.Columns.{sub_mix_column}
use Rattle.aes_spec.specs.State.{Shape}
use Rattle.rijndael_model.specs.Model.{from, key_added, gathered}
use Rattle.rijndael_model.proofs.Columns.{get_d_map}
use Rattle.rijndael_model.proofs.Gathers.{gathered_length}
use Rattle.rijndael_rounds.specs.declared.Turn.{Turn}
use Rattle.rijndael_rounds.specs.Model.{turn_shape, Fine, Doubled, Twice}

-- ---- filled two at a time

-- u has sixteen words, of which the first c and as many from n on are f's
pub record Filling (n : ℕ) (f : ℕ → ℕ) (u : List ℕ) (c : ℕ) : Type 0 where
  pub size : length u ≡ 16
  pub low : (k : ℕ) → k < c → get_or u k 0 ≡ f k
  pub high : (k : ℕ) → k < c → get_or u (k + n) 0 ≡ f k

pub filling_none : (n : ℕ) (f : ℕ → ℕ) (u : List ℕ) → length u ≡ 16 → Filling n f u 0
filling_none n f u e = record { size = e; low = λ k h. absurd (not-suc-le-zero h); high = λ k h. absurd (not-suc-le-zero h) }

pub filling_more : {n : ℕ} {f : ℕ → ℕ} {u : List ℕ} {c : ℕ} → Filling n f u c → c < n → n < 9 → (x : ℕ) → x ≡ f c → Filling n f (set (set u c x) (c + n) x) (c + 1)
filling_more {n} {f} {u} {c} w h l x e = record {
  size = length-set (set u c x) (c + n) x ∙ length-set u c x ∙ w.size;
  low = λ k q. get_or-set_other (set u c x) (c + n) k x 0 (λ i. omega arith) ∙ ⊎_elim (λ p. lower k p) (λ p. let i : k ≡ c = omega arith in rw i here) (lt_or_le k c);
  high = λ k q. ⊎_elim (λ p. upper k p) (λ p. let i : k ≡ c = omega arith in rw i there) (lt_or_le k c);
}
  where
    here : get_or (set u c x) c 0 ≡ f c
    here = get_or-set_same u c x 0 (omega (arith, w.size)) ∙ e

    lower : (k : ℕ) → k < c → get_or (set u c x) k 0 ≡ f k
    lower k p = get_or-set_other u c k x 0 (λ i. omega arith) ∙ w.low k p

    there : get_or (set (set u c x) (c + n) x) (c + n) 0 ≡ f c
    there = get_or-set_same (set u c x) (c + n) x 0 (omega (arith, length-set u c x, w.size)) ∙ e

    upper : (k : ℕ) → k < c → get_or (set (set u c x) (c + n) x) (k + n) 0 ≡ f k
    upper k p = get_or-set_other (set u c x) (c + n) (k + n) x 0 (λ i. omega arith) ∙ get_or-set_other u c (k + n) x 0 (λ i. omega arith) ∙ w.high k p

pub filling_all : {n : ℕ} {f : ℕ → ℕ} {u : List ℕ} {c : ℕ} → Filling n f u c → n ≤ c → Twice n (tabulate n f) u
filling_all {n} {f} {u} {c} w h = record {
  here = λ k l. w.low k (omega arith) ∙ sym (get_d_tabulate n f k l);
  there = λ k l. w.high k (omega arith) ∙ sym (get_d_tabulate n f k l);
}

pub twice_doubled : {n : ℕ} {s t : List ℕ} → Twice n s t → Doubled n t
twice_doubled w = record { again = λ k h. w.there k h ∙ sym (w.here k h) }

-- ---- read without a remainder

pub turned_at : (n : ℕ) (t : List ℕ) (c k : ℕ) → Doubled n t → c < n → k ≤ n → get_or t (c + k) 0 ≡ get_or t ((c + k) % n) 0
turned_at n t c k d h l = ⊎_elim below past (lt_or_le (c + k) n)
  where
    below : c + k < n → get_or t (c + k) 0 ≡ get_or t ((c + k) % n) 0
    below q = ap (λ (i : ℕ). get_or t i 0) (sym (mod-eq_of_lt q))

    past : n ≤ c + k → get_or t (c + k) 0 ≡ get_or t ((c + k) % n) 0
    past q =
        let j = c + k - n in
        let e : c + k ≡ j + n = omega arith in
        let m : (c + k) % n ≡ j = ap (◌% n) e ∙ add-mod_right j n ∙ mod-eq_of_lt (let l : j < n = omega arith in l) in
        ap (λ (i : ℕ). get_or t i 0) e ∙ d.again j (omega arith) ∙ ap (λ (i : ℕ). get_or t i 0) (sym m)

-- the four columns that a column is looked up from
pub column_from : (u : Turn) (t : List ℕ) (f : ℕ → ℕ) (c : ℕ) → Fine u → Doubled u.columns t → c < u.columns
    → sub_mix_column f (get_or t c 0) (get_or t (c + u.second) 0) (get_or t (c + u.third) 0) (get_or t (c + u.fourth) 0)
    ≡ sub_mix_column f (from (turn_shape u) t 0 c) (from (turn_shape u) t 1 c) (from (turn_shape u) t 2 c) (from (turn_shape u) t 3 c)
column_from u t f c g d h =
    let n = u.columns in
    let e : get_or t c 0 ≡ get_or t ((c + 0) % n) 0 = ap (λ (i : ℕ). get_or t i 0) (sym (add-zero c)) ∙ turned_at n t c 0 d h (omega arith) in
    rw (e, turned_at n t c u.second d h g.1.0, turned_at n t c u.third d h g.1.1.0, turned_at n t c u.fourth d h g.1.1.1)

-- only the first columns count
pub gathered_same : (z : Shape) (some : 0 < z.columns) (f : ℕ → ℕ) (s t : List ℕ) → Twice z.columns s t → gathered z f t ≡ gathered z f s
unfolding gathered
gathered_same z some f s t w =
    let n = z.columns in
    let g : List ℕ → ℕ → ℕ = λ x c. sub_mix_column f (from z x 0 c) (from z x 1 c) (from z x 2 c) (from z x 3 c) in
    is_tabulate n (g s) (tabulate n (g t)) (length_tabulate n (g t))
    (λ k h. get_d_tabulate n (g t) k h
    ∙ rw (
      w.here ((k + z.shift 0) % n) (mod-lt (k + z.shift 0) some),
      w.here ((k + z.shift 1) % n) (mod-lt (k + z.shift 1) some),
      w.here ((k + z.shift 2) % n) (mod-lt (k + z.shift 2) some),
      w.here ((k + z.shift 3) % n) (mod-lt (k + z.shift 3) some),
    ))

-- ---- one at a time, in front of zeros

tabulate_more : (n : ℕ) (f : ℕ → ℕ) → tabulate (suc n) f ≡ tabulate n f ++ (f n ∷ [])
tabulate_more zero f = refl
tabulate_more (suc n) f = ap (f 0 ∷◌) (tabulate_more n (λ k. f (suc k)))

pub spread_more : (c : ℕ) (f : ℕ → ℕ) (u : List ℕ) (x : ℕ) → u ≡ pad_to 8 (tabulate c f) → c < 8 → x ≡ f c → set u c x ≡ pad_to 8 (tabulate (c + 1) f)
spread_more c f u x e h q =
    ap (λ (y : List ℕ). set y c x) e ∙ pad_to_more 8 c (tabulate c f) x (length_tabulate c f) h
    ∙ rw (q, add-one c) (ap (pad_to 8) (sym (tabulate_more c f)))

-- ---- a round key added to columns that are g's

pub keyed_law : (z : Shape) (w : List ℕ) (n : ℕ) (s : List ℕ) (g : ℕ → ℕ) → ((c : ℕ) → c < z.columns → get_or s c 0 ≡ g c)
    → tabulate z.columns (λ c. xor (g c) (get_or w (z.columns * n + c) 0)) ≡ key_added z w n s
unfolding key_added
keyed_law z w n s g e =
    let f : ℕ → ℕ = λ c. xor (g c) (get_or w (z.columns * n + c) 0) in
    is_tabulate z.columns (λ c. xor (get_or s c 0) (get_or w (z.columns * n + c) 0)) (tabulate z.columns f) (length_tabulate z.columns f)
    (λ k h. get_d_tabulate z.columns f k h ∙ ap (λ (x : ℕ). xor x (get_or w (z.columns * n + k) 0)) (sym (e k h)))

-- column c of what is looked up
abbrev pub looked_at : Turn → (ℕ → ℕ) → List ℕ → ℕ → ℕ
looked_at u f t c = sub_mix_column f (from (turn_shape u) t 0 c) (from (turn_shape u) t 1 c) (from (turn_shape u) t 2 c) (from (turn_shape u) t 3 c)

module _ (u : Turn) (f : ℕ → ℕ) (t : List ℕ) where
  gathered_at : (c : ℕ) → c < u.columns → get_or (gathered (turn_shape u) f t) c 0 ≡ looked_at u f t c
  unfolding gathered
  gathered_at c h = get_d_tabulate u.columns (looked_at u f t) c h

  pub round_keyed : (w : List ℕ) (key : ℕ)
      → tabulate u.columns (λ c. xor (looked_at u f t c) (get_or w (u.columns * key + c) 0)) ≡ key_added (turn_shape u) w key (gathered (turn_shape u) f t)
  round_keyed w key = keyed_law (turn_shape u) w key (gathered (turn_shape u) f t) (looked_at u f t) gathered_at

  pub last_keyed : (h : ℕ → ℕ) (w : List ℕ) (key : ℕ)
      → tabulate u.columns (λ c. xor (h (looked_at u f t c)) (get_or w (u.columns * key + c) 0)) ≡ key_added (turn_shape u) w key (map h (gathered (turn_shape u) f t))
  last_keyed h w key =
      keyed_law (turn_shape u) w key (map h (gathered (turn_shape u) f t)) (λ c. h (looked_at u f t c))
      (λ c l. get_d_map h (gathered (turn_shape u) f t) c (omega (arith, gathered_length (turn_shape u) f t)) ∙ ap h (gathered_at c l))
