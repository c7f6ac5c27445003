-- Laws on hex: digits, pairs of digits, and what decoding answers. Assumes nothing.
use Prim.Native.Nat.{ℕ, zero, suc, ◌+◌, ◌*◌, ◌/◌, ◌%◌, ◌≤◌, ◌<◌}
use mathlib.Core.Path.{◌≡◌, refl, ap, sym, ◌∙◌}
use mathlib.Core.Bool.{Bool, true, false, ◌&&◌}
use mathlib.Core.List.{List, [], ◌∷◌, ◌++◌}
use native.Mathlib.Omega.{arith}
use Rattle.std.proofs.lemmas.Bool.Decides.{nat_tests}
use Rattle.std.proofs.lemmas.List.{places, drop-drop, drop_at, length-drop, length-append}
use Rattle.std.specs.List.{list_all}
use lib.ListN.{length, drop, get_or, set}
use lib.Seq.{paste, paste-zero, drop-cons}
use lib.Dec.{eqb, ltb}
use borrow.Author.Tests.{eq-eqb, ne_eqb, eqb-true, lt-ltb, ltb-true}
use Rattle.text_hex.specs.Written.{char_of, hex_of, hex_word}
use Rattle.text_put.proofs.PlaceLaws.{put_more}
use Rattle.text_hex.proofs.WrittenLaws.{length_hex_of}
use Rattle.text_hex.specs.Hex.{digit_of, byte_of, unhex, all_hex, is_dash, is_bytes, bytes_of}

pub all_hex_is : (s : List ℕ) → all_hex s ≡ list_all (λ c. ltb (digit_of c) 16) s
unfolding all_hex
all_hex_is [] = refl
all_hex_is (c ∷ r) = ap (λ b. ltb (digit_of c) 16 && b) (all_hex_is r)

all_head : (c : ℕ) (t : List ℕ) → (b : Bool) → ltb (digit_of c) 16 ≡ b → (b && all_hex t) ≡ true → (digit_of c < 16) × (all_hex t ≡ true)
all_head c t true e h = (ltb-true (digit_of c) 16 e, h)
all_head c t false e h = let y : ◌≡◌ {A = ℕ} 0 1 = cc in (omega arith, cc)

-- in a list of digits each byte is one
all_at : (s : List ℕ) (i : ℕ) → all_hex s ≡ true → i < length s → digit_of (get_or s i 0) < 16
unfolding all_hex
all_at [] i a h = omega arith
all_at (c ∷ r) zero a h = (all_head c r (ltb (digit_of c) 16) refl a).0
all_at (c ∷ r) (suc i) a h = all_at r i (all_head c r (ltb (digit_of c) 16) refl a).1 (omega arith)

length_unhex : (s : List ℕ) → length (unhex s) ≡ length s / 2
unfolding unhex
length_unhex [] = refl
length_unhex (a ∷ []) = refl
length_unhex (a ∷ b ∷ r) = omega (arith, length_unhex r)

get_d_unhex : (s : List ℕ) (i : ℕ) → 2 * i + 1 < length s → get_or (unhex s) i 0 ≡ byte_of (get_or s (2 * i) 0) (get_or s (2 * i + 1) 0)
unfolding unhex
get_d_unhex [] i h = omega arith
get_d_unhex (a ∷ []) i h = omega arith
get_d_unhex (a ∷ b ∷ r) zero h = refl
get_d_unhex (a ∷ b ∷ r) (suc i) h =
    let e : 2 * suc i ≡ suc (suc (2 * i)) = omega arith in
    let f : 2 * suc i + 1 ≡ suc (suc (2 * i + 1)) = omega arith in
    rw (f, e) (get_d_unhex r i (omega arith))

-- one byte more of two digits
pub unhex_more : (d s : List ℕ) (at n i v : ℕ) → 2 * n ≤ length s → at + n ≤ length d → i < n → v ≡ byte_of (get_or s (2 * i) 0) (get_or s (2 * i + 1) 0)
    → set (paste d at (unhex s) i) (at + i) v ≡ paste d at (unhex s) (i + 1)
unhex_more d s at n i v hs hd hi e =
    let l = length_unhex s in
    put_more d at (unhex s) i v (omega arith) (omega arith) (e ∙ sym (get_d_unhex s i (omega arith)))

-- the next two digits of a word, and what is left after them
pub pair_taken : (s x t : List ℕ) (n : ℕ) → drop (2 * n) s ≡ x ++ t → length x ≡ 2
    → (get_or x 0 0 ≡ get_or s (2 * n) 0) × (get_or x 1 0 ≡ get_or s (2 * n + 1) 0) × (drop (2 * (n + 1)) s ≡ t) × (2 * (n + 1) ≤ length s)
pair_taken s x t n e l =
    let d = length-drop (2 * n) s in
    let a = length-append x t in
    let f : 2 * (n + 1) ≡ 2 * n + 2 = omega arith in
    let g : length (drop (2 * n) s) ≡ length (x ++ t) = ap length e in
    (grind (arith, places), grind (arith, places), rw (f, ← drop-drop 2 (2 * n) s, e) (drop_at x t 2 l), omega arith)

and_left : (p q : Bool) → (p && q) ≡ true → p ≡ true
and_left true q e = refl
and_left false q e = e

and_right : (p q : Bool) → (p && q) ≡ true → q ≡ true
and_right true q e = e
and_right false q e = cc

module _ (w : List ℕ) where
  dash_short : is_dash w ≡ true → length w ≡ 1
  unfolding is_dash
  dash_short d = eqb-true (length w) 1 (and_left (eqb (length w) 1) (eqb (get_or w 0 0) 45) d)

  pub bytes_not : is_bytes w ≡ false → bytes_of w ≡ []
  unfolding bytes_of
  bytes_not b = rw b

  pub bytes_yes : is_bytes w ≡ true → bytes_of w ≡ unhex w
  unfolding bytes_of
  bytes_yes b = rw b

  module _ (d : is_dash w ≡ false) where
    all_pairs : is_bytes w ≡ true → all_hex w ≡ true
    unfolding is_bytes
    all_pairs b = and_right (eqb (length w % 2) 0) (all_hex w) (and_right (ltb 0 (length w)) (eqb (length w % 2) 0 && all_hex w) (rw d at b))

  at_by : (n i : ℕ) → is_bytes w ≡ true → 2 * n ≤ length w → i < 2 * n → (t : Bool) → is_dash w ≡ t → digit_of (get_or w i 0) < 16
  at_by n i b l h true d = omega (arith, dash_short d)
  at_by n i b l h false d = all_at w i (all_pairs d b) (omega arith)

  -- each byte of the pairs of a word is a digit
  pub bytes_at : (n i : ℕ) → is_bytes w ≡ true → 2 * n ≤ length w → i < 2 * n → digit_of (get_or w i 0) < 16
  bytes_at n i b l h = at_by n i b l h (is_dash w) refl

-- what `decode` asks of a word: two digits stand for a byte, and a word that is bad for none
pub length_bytes : (w : List ℕ) → is_bytes w ≡ true → length (bytes_of w) ≡ length w / 2
length_bytes w b = rw (bytes_yes w b) (length_unhex w)

pub ruleset read = (length_bytes, bytes_yes, bytes_not, paste-zero)

digit_char : (n : ℕ) → n < 16 → digit_of (char_of n) ≡ n
unfolding char_of digit_of
digit_char n h = grind (arith, nat_tests)

-- what is written of bytes is digits, and read back
pub hex_back : (s : List ℕ) → ((k : ℕ) → get_or s k 0 < 256) → (unhex (hex_of s) ≡ s) × (all_hex (hex_of s) ≡ true)
unfolding hex_of unhex all_hex byte_of
hex_back [] o = (refl, refl)
hex_back (b ∷ r) o =
    let h : b < 256 = o 0 in
    let u = digit_char (b / 16) (omega arith) in
    let v = digit_char (b % 16) (omega arith) in
    let w = hex_back r (λ k. o (suc k)) in
    let e : b / 16 * 16 + b % 16 ≡ b = omega arith in
    (rw (u, v, e, w.0), rw (u, v, lt-ltb (b / 16) 16 (omega arith), lt-ltb (b % 16) 16 (omega arith)) w.1)

-- the word of bytes stands for these bytes
pub word_back : (s : List ℕ) → ((k : ℕ) → get_or s k 0 < 256) → (is_bytes (hex_word s) ≡ true) × (bytes_of (hex_word s) ≡ s)
unfolding hex_word is_bytes bytes_of is_dash unhex
word_back [] o = (refl, refl)
word_back (b ∷ r) o =
    let w = hex_back (b ∷ r) o in
    let l = length_hex_of (b ∷ r) in
    let n : length (hex_of (b ∷ r)) ≡ 2 * suc (length r) = l in
    let y : is_bytes (hex_of (b ∷ r)) ≡ true = simp (ne_eqb (length (hex_of (b ∷ r))) 1 (λ q. omega arith), lt-ltb 0 (length (hex_of (b ∷ r))) (omega arith), eq-eqb (length (hex_of (b ∷ r)) % 2) 0 (omega arith), w.1) in
    (y, bytes_yes (hex_of (b ∷ r)) y ∙ w.0)
