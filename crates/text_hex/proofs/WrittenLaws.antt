-- Laws on hex that is written: digits, and words put where they fit. Assumes nothing.
use Prim.Native.Nat.{ℕ, zero, suc, ◌+◌, ◌*◌, ◌/◌, ◌%◌, ◌≤◌, ◌<◌}
use mathlib.Core.Path.{◌≡◌, refl, sym, ◌∙◌}
use mathlib.Core.List.{List, [], ◌∷◌}
use native.Mathlib.Omega.{arith}
use lib.ListN.{length, get_or, set}
use lib.Seq.{paste}
use Rattle.text_hex.specs.Written.{char_of, hex_of, hex_word}
use Rattle.text_put.proofs.PlaceLaws.{put_more}

pub length_hex_of : (s : List ℕ) → length (hex_of s) ≡ 2 * length s
unfolding hex_of
length_hex_of [] = refl
length_hex_of (b ∷ r) = omega (arith, length_hex_of r)

pub hex_high : (s : List ℕ) (i : ℕ) → i < length s → get_or (hex_of s) (2 * i) 0 ≡ char_of (get_or s i 0 / 16)
unfolding hex_of
hex_high [] i h = omega arith
hex_high (b ∷ r) zero h = refl
hex_high (b ∷ r) (suc i) h =
    let e : 2 * suc i ≡ suc (suc (2 * i)) = omega arith in
    rw e (hex_high r i (omega arith))

pub hex_low : (s : List ℕ) (i : ℕ) → i < length s → get_or (hex_of s) (2 * i + 1) 0 ≡ char_of (get_or s i 0 % 16)
unfolding hex_of
hex_low [] i h = omega arith
hex_low (b ∷ r) zero h = refl
hex_low (b ∷ r) (suc i) h =
    let e : 2 * suc i + 1 ≡ suc (suc (2 * i + 1)) = omega arith in
    rw e (hex_low r i (omega arith))

-- two digits more of a byte
pub spell_more : (d : List ℕ) (at : ℕ) (s : List ℕ) (i u v : ℕ) → at + 2 * length s ≤ length d → i < length s → u ≡ char_of (get_or s i 0 / 16) → v ≡ char_of (get_or s i 0 % 16)
    → set (set (paste d at (hex_of s) (2 * i)) (at + 2 * i) u) (at + 2 * i + 1) v ≡ paste d at (hex_of s) (2 * (i + 1))
spell_more d at s i u v hd hi eu ev =
    let l = length_hex_of s in
    let a : set (paste d at (hex_of s) (2 * i)) (at + 2 * i) u ≡ paste d at (hex_of s) (2 * i + 1) = put_more d at (hex_of s) (2 * i) u (omega arith) (omega arith) (eu ∙ sym (hex_high s i hi)) in
    let b : set (paste d at (hex_of s) (2 * i + 1)) (at + (2 * i + 1)) v ≡ paste d at (hex_of s) (2 * i + 1 + 1) = put_more d at (hex_of s) (2 * i + 1) v (omega arith) (omega arith) (ev ∙ sym (hex_low s i hi)) in
    let e : at + 2 * i + 1 ≡ at + (2 * i + 1) = omega arith in
    let f : 2 * (i + 1) ≡ 2 * i + 1 + 1 = omega arith in
    rw (a, e, f) b

-- the word of no bytes, and of others
pub word_none : (s : List ℕ) → length s ≡ 0 → hex_word s ≡ 45 ∷ []
unfolding hex_word
word_none [] h = refl
word_none (b ∷ r) h = let y : ◌≡◌ {A = ℕ} 0 1 = omega arith in cc

pub word_some : (s : List ℕ) → (length s ≡ 0 → ⊥) → hex_word s ≡ hex_of s
unfolding hex_word
word_some [] h = let y : ⊥ = h refl in let z : ◌≡◌ {A = ℕ} 0 1 = omega arith in cc
word_some (b ∷ r) h = refl

pub ruleset written = (word_none, word_some, length_hex_of)
