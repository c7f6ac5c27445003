-- Lists by their elements, and an array that is filled from the front. Assumes nothing.
use mathlib.Core.Path.{◌≡◌, refl, sym, ap, ◌∙◌, subst}
use mathlib.Core.List.{List, [], ◌∷◌, ◌++◌}
use mathlib.Core.Logic.{⊎_elim}
use Prim.Native.Nat.{ℕ, zero, suc, ◌+◌, ◌-◌, ◌≤◌, ◌<◌}
use native.Mathlib.Nat.{eq-or-lt_of_le, le_of_suc-le-suc, not-suc-le-zero, sub-zero}
use native.Mathlib.Numerals.{add-one}
use native.Mathlib.Omega.{arith}
use lib.ListN.{length, get_or, set, replicate, length-set, length-append, length-replicate}
use lib.Seq.{ext_get_or, get_or-set_same, get_or-set_other, append_snoc, set_at}
use Rattle.octets.specs.Octets.{tabulate, pad_to}

pub length_tabulate : (n : ℕ) (f : ℕ → ℕ) → length (tabulate n f) ≡ n
length_tabulate zero f = refl
length_tabulate (suc n) f = ap suc (length_tabulate n (λ k. f (suc k)))

pub get_d_tabulate : (n : ℕ) (f : ℕ → ℕ) (k : ℕ) → k < n → get_or (tabulate n f) k 0 ≡ f k
get_d_tabulate zero f k h = absurd (not-suc-le-zero h)
get_d_tabulate (suc n) f zero h = refl
get_d_tabulate (suc n) f (suc k) h = get_d_tabulate n (λ k. f (suc k)) k (le_of_suc-le-suc h)

pub tabulate_lt : (n m : ℕ) (f : ℕ → ℕ) → 0 < m → ((k : ℕ) → f k < m) → (k : ℕ) → get_or (tabulate n f) k 0 < m
tabulate_lt zero m f p h k = p
tabulate_lt (suc n) m f p h zero = h 0
tabulate_lt (suc n) m f p h (suc k) = tabulate_lt n m (λ k. f (suc k)) p (λ k. h (suc k)) k

-- a list of n elements, by its elements
pub is_tabulate : (n : ℕ) (f : ℕ → ℕ) (s : List ℕ) → length s ≡ n → ((k : ℕ) → k < n → get_or s k 0 ≡ f k) → s ≡ tabulate n f
is_tabulate n f s e h =
    ext_get_or 0 s (tabulate n f) (e ∙ sym (length_tabulate n f))
    (λ k l. let l' : k < n = rw e at l in h k l' ∙ sym (get_d_tabulate n f k l'))

-- r has n elements, of which those below i are f's
pub record Filled (n : ℕ) (f : ℕ → ℕ) (r : List ℕ) (i : ℕ) : Type 0 where
  pub size : length r ≡ n
  pub got : (k : ℕ) → k < i → get_or r k 0 ≡ f k

pub filled_none : (n : ℕ) (f : ℕ → ℕ) (r : List ℕ) → length r ≡ n → Filled n f r 0
filled_none n f r e = record { size = e; got = λ k h. absurd (not-suc-le-zero h) }

pub filled_more : {n : ℕ} {f : ℕ → ℕ} {r : List ℕ} {i : ℕ} → Filled n f r i → i < n → (v : ℕ) → v ≡ f i → Filled n f (set r i v) (i + 1)
filled_more {n} {f} {r} {i} w h v e = record { size = length-set r i v ∙ w.size; got = at }
  where
    here : i < length r
    here = omega (arith, w.size)

    at : (k : ℕ) → k < i + 1 → get_or (set r i v) k 0 ≡ f k
    at k l =
        ⊎_elim
        (λ q. subst (λ (j : ℕ). get_or (set r i v) j 0 ≡ f j) (sym q) (get_or-set_same r i v 0 here ∙ e))
        (λ l'. get_or-set_other r i k v 0 (λ q. omega arith) ∙ w.got k l')
        (eq-or-lt_of_le (le_of_suc-le-suc (rw (add-one i) at l)))

pub filled_all : {n : ℕ} {f : ℕ → ℕ} {r : List ℕ} {i : ℕ} → Filled n f r i → n ≤ i → r ≡ tabulate n f
filled_all {n} {f} {r} {i} w e = is_tabulate n f r w.size (λ k h. w.got k (omega arith))

-- ---- a list that grows at its end, in an array with zeros past it

zeros : (n k : ℕ) → get_or {A = ℕ} (replicate n 0) k 0 ≡ 0
zeros zero k = refl
zeros (suc n) zero = refl
zeros (suc n) (suc k) = zeros n k

then_zeros : (s : List ℕ) (n k : ℕ) → get_or (s ++ replicate n 0) k 0 ≡ get_or s k 0
then_zeros [] n k = zeros n k
then_zeros (x ∷ s) n zero = refl
then_zeros (x ∷ s) n (suc k) = then_zeros s n k

pub get_d_pad_to : (n : ℕ) (s : List ℕ) (k : ℕ) → get_or (pad_to n s) k 0 ≡ get_or s k 0
unfolding pad_to
get_d_pad_to n s k = then_zeros s (n - length s) k

pub length_pad_to : (n : ℕ) (s : List ℕ) → length s ≤ n → length (pad_to n s) ≡ n
unfolding pad_to
length_pad_to n s h = length-append s (replicate (n - length s) 0) ∙ ap (length s +◌) (length-replicate (n - length s) 0) ∙ omega arith

pub pad_to_none : (n : ℕ) → replicate n 0 ≡ pad_to n []
unfolding pad_to
pad_to_none n = rw sub-zero

pub pad_to_more : (n i : ℕ) (s : List ℕ) (v : ℕ) → length s ≡ i → i < n → set (pad_to n s) i v ≡ pad_to n (s ++ (v ∷ []))
unfolding pad_to
pad_to_more n i s v e h =
    let one : n - length s ≡ suc (n - suc i) = omega arith in
    let less : n - suc i ≡ n - length (s ++ (v ∷ [])) = omega (arith, length-append s (v ∷ [])) in
    ap (λ (m : ℕ). set (s ++ replicate m 0) i v) one
    ∙ set_at s 0 (replicate (n - suc i) 0) v i e
    ∙ sym (append_snoc s v (replicate (n - suc i) 0))
    ∙ ap (λ (m : ℕ). (s ++ (v ∷ [])) ++ replicate m 0) less
