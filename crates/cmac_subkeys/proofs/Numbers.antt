-- Bytes as a number, its highest byte first, and what a shift of the number by one bit makes of them. Assumes nothing.
use mathlib.Core.Path.{◌≡◌, refl, sym, ap, ap₂, ◌∙◌}
use mathlib.Core.List.{List, [], ◌∷◌}
use Prim.Native.Nat.{ℕ, zero, suc, ◌+◌, ◌*◌, ◌/◌, ◌%◌, ◌^◌, ◌≤◌, ◌<◌}
use native.Mathlib.Omega.{arith}
use native.Mathlib.Nat as nat
use lib.ListN.{length, get_or, drop, length-drop}
use Rattle.std.proofs.Common.{drop-cons}
use Rattle.std.proofs.Math.Nat.{add-mul-div_right, mul-add-div_right, pow-suc, one-le-pow}
use Rattle.std.proofs.lemmas.Nat.{div_below}
use Rattle.std.proofs.lemmas.List.{drop_all}
use Rattle.std.specs.Int.{w128, byte_at, bytes_high_first, from_be_bytes, to_be_bytes}
use Rattle.octets.specs.Octets.{Bytes}
use Rattle.octets.proofs.Fill.{is_tabulate}
use Rattle.cmac_spec.specs.Cmac.{shifted}

abbrev number : List ℕ → ℕ
number [] = 0
number (x ∷ s) = x * 256 ^ length s + number s

-- each byte without its top bit, and with that of the byte after it
abbrev moved : List ℕ → List ℕ
moved [] = []
moved (x ∷ s) = (x % 128 * 2 + get_or s 0 0 / 128) ∷ moved s

length_moved : (s : List ℕ) → length (moved s) ≡ length s
length_moved [] = refl
length_moved (x ∷ s) = ap suc (length_moved s)

get_moved : (s : List ℕ) (k : ℕ) → k < length s → get_or (moved s) k 0 ≡ get_or s k 0 % 128 * 2 + get_or s (k + 1) 0 / 128
get_moved [] k h = absurd (omega arith)
get_moved (x ∷ s) zero h = refl
get_moved (x ∷ s) (suc k) h =
    let e : suc (k + 1) ≡ suc k + 1 = omega arith in
    get_moved s k (omega arith) ∙ ap (λ (j : ℕ). get_or s k 0 % 128 * 2 + get_or (x ∷ s) j 0 / 128) e

shifted_moved : (s : List ℕ) → length s ≡ 16 → moved s ≡ shifted s
unfolding shifted
shifted_moved s l =
    is_tabulate 16 (λ k. get_or s k 0 % 128 * 2 + get_or s (k + 1) 0 / 128) (moved s) (length_moved s ∙ l) (λ k h. get_moved s k (omega arith))

positive : (k : ℕ) → 0 < 256 ^ k
positive k = one-le-pow k 256 (omega arith)

number_lt : (s : List ℕ) → Bytes s → number s < 256 ^ length s
number_lt [] b = omega arith
number_lt (x ∷ s) b =
    let p = 256 ^ length s in
    let m : x * p ≤ 255 * p = nat.mul-le-mul_right p (let h = b 0 in omega arith) in
    omega (arith, pow-suc 256 (length s), m, number_lt s (λ k. b (suc k)))

-- what a doubled number carries out of its place
carried : (s : List ℕ) → Bytes s → 2 * number s / 256 ^ length s ≡ get_or s 0 0 / 128
carried [] b = refl
carried (x ∷ s) b =
    let p = 256 ^ length s in
    let c = 2 * number s / p in
    let e : 2 * (x * p + number s) ≡ 2 * x * p + 2 * number s = omega (arith, nat.mul_assoc 2 x p) in
    let low : c < 2 = div_below (2 * number s) p 2 (positive (length s)) (omega (arith, number_lt s (λ k. b (suc k)))) in
    let d : (2 * x * p + 2 * number s) / p ≡ 2 * x + c = mul-add-div_right (positive (length s)) (2 * x) (2 * number s) in
    ap₂ (λ (n m : ℕ). n / m) e (pow-suc 256 (length s))
    ∙ sym (nat.div-div-eq-div-mul (2 * x * p + 2 * number s) p 256)
    ∙ ap (λ (n : ℕ). n / 256) d ∙ omega arith

byte-at : (k n : ℕ) → byte_at k n ≡ n / 256 ^ k % 256
byte-at zero n = omega arith
byte-at (suc k) n = refl

-- the bytes of a number that is, but for what is past their places, such a number doubled
bytes_doubled : (s : List ℕ) (n p q : ℕ) → Bytes s → n + p * 256 ^ length s ≡ q * 256 ^ length s + 2 * number s → bytes_high_first (length s) n ≡ moved s
bytes_doubled [] n p q b e = refl
bytes_doubled (x ∷ s) n p q b e =
    let w = 256 ^ length s in
    let pos : 0 < w = positive (length s) in
    let t = λ (k : ℕ). b (suc k) in
    let z = pow-suc 256 (length s) in
    let l : p * 256 ^ suc (length s) ≡ p * 256 * w = omega (arith, ap (λ (m : ℕ). p * m) z) in
    let r : q * 256 ^ suc (length s) + 2 * (x * w + number s) ≡ (q * 256 + 2 * x) * w + 2 * number s = omega (arith, ap (λ (m : ℕ). q * m) z) in
    let f : n + p * 256 * w ≡ (q * 256 + 2 * x) * w + 2 * number s = omega arith in
    let c = 2 * number s / w in
    let g : n / w + p * 256 ≡ q * 256 + 2 * x + c = sym (add-mul-div_right n (p * 256) pos) ∙ ap (λ (m : ℕ). m / w) f ∙ mul-add-div_right pos (q * 256 + 2 * x) (2 * number s) in
    let top = carried s t in
    ap₂ (λ (y : ℕ) (u : List ℕ). y ∷ u) (byte-at (length s) n ∙ omega (arith, t 0)) (bytes_doubled s n (p * 256) (q * 256 + 2 * x) t f)

-- the number of a list from a place on
from_place : (s : List ℕ) (i k : ℕ) → i + suc k ≡ length s → number (drop i s) ≡ get_or s i 0 * 256 ^ k + number (drop (suc i) s)
from_place s i k e =
    let n : length (drop (suc i) s) ≡ k = omega (arith, length-drop (suc i) s) in
    ap number (drop-cons s i 0 (omega arith)) ∙ ap (λ (j : ℕ). get_or s i 0 * 256 ^ j + number (drop (suc i) s)) n

is_number : (s : List ℕ) → length s ≡ 16 → from_be_bytes w128 s ≡ number s
is_number s l =
    let at = λ (i k : ℕ) (e : i + suc k ≡ 16). from_place s i k (e ∙ sym l) in
    let none : number (drop 16 s) ≡ 0 = ap number (drop_all 16 s (omega arith)) in
    omega (
      arith,
      at 0 15 refl,
      at 1 14 refl,
      at 2 13 refl,
      at 3 12 refl,
      at 4 11 refl,
      at 5 10 refl,
      at 6 9 refl,
      at 7 8 refl,
      at 8 7 refl,
      at 9 6 refl,
      at 10 5 refl,
      at 11 4 refl,
      at 12 3 refl,
      at 13 2 refl,
      at 14 1 refl,
      at 15 0 refl,
      none,
    )

pub shifted_number : (s : List ℕ) (v : ℕ) → length s ≡ 16 → Bytes s → v ≡ from_be_bytes w128 s → to_be_bytes w128 (v * 2 % 2 ^ 128) ≡ shifted s
shifted_number s v l b e =
    let n = v * 2 % 2 ^ 128 in
    let p = v * 2 / 2 ^ 128 in
    let f : n + p * 2 ^ 128 ≡ 0 * 2 ^ 128 + 2 * number s = omega (arith, e, is_number s l) in
    ap (λ (k : ℕ). bytes_high_first k n) (sym l) ∙ bytes_doubled s n p 0 b (ap (λ (k : ℕ). n + p * 256 ^ k) l ∙ f ∙ ap (λ (k : ℕ). 0 * 256 ^ k + 2 * number s) (sym l)) ∙ shifted_moved s l
