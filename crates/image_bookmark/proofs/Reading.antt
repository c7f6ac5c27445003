-- What a bookmark says is what was written into it, and the other way round. Assumes nothing.
use mathlib.Core.Path.{◌≡◌, sym, ap, ap₂, ◌∙◌}
use mathlib.Core.List.{List, [], ◌∷◌, ◌++◌}
use Prim.Native.Nat.{ℕ, zero, suc, ◌+◌, ◌*◌, ◌/◌, ◌%◌, ◌≤◌, ◌<◌}
use native.Mathlib.Omega.{arith}
use lib.ListN.{length, get_or, take, drop, length-append, length-drop}
use lib.Seq.{get_or-take, length-take-le, take-add, take-append-le, take-length, drop-append-le, drop-length, get_or-drop}
use Rattle.octets.specs.Octets.{tabulate, Bytes, Octets}
use Rattle.octets.proofs.Fill.{is_tabulate}
use Rattle.octets.specs.Words.{word, word_at, bytes_of}
use Rattle.octets.proofs.Words.{byte_lt, byte0_word, byte1_word, byte2_word, byte3_word, word_bytes}
use Rattle.octets.proofs.Blocks.{append_bytes, take_octets, drop_bytes}
use Rattle.image_progress.specs.declared.Progress.{Progress}
use Rattle.image_bookmark.specs.Bookmark.{long_bytes, long_at, front_of_lem, progress_in, bytes_in}

-- the fields are as wide as their places
pub record Wide (s : Progress) : Type 0 where
  pub next_wide : s.next < 4294967296
  pub count_wide : s.count < 4294967296
  pub release_wide : s.release < 4294967296
  pub edition_wide : s.edition < 4294967296
  pub last_octets : Octets 16 s.last

-- ---- written, then read

module _ (s : Progress) (n : ℕ) (w : Wide s) (r : List ℕ) where
  behind : List ℕ
  behind = s.last ++ long_bytes n ++ r

  last_there : take 16 behind ≡ s.last
  unfolding behind
  last_there =
      let e = w.last_octets.size in
      take-append-le 16 (s.last ++ long_bytes n) r (omega (arith, length-append s.last (long_bytes n)))
      ∙ take-append-le 16 s.last (long_bytes n) (omega arith) ∙ ap (λ (k : ℕ). take k s.last) (sym e) ∙ take-length s.last

  rest_there : drop 16 behind ≡ long_bytes n ++ r
  unfolding behind
  rest_there =
      let e = w.last_octets.size in
      drop-append-le 16 (s.last ++ long_bytes n) r (omega (arith, length-append s.last (long_bytes n)))
      ∙ ap (λ (x : List ℕ). x ++ r) (drop-append-le 16 s.last (long_bytes n) (omega arith) ∙ ap (λ (x : List ℕ). x ++ long_bytes n) (ap (λ (k : ℕ). drop k s.last) (sym e) ∙ drop-length s.last))

  -- the bytes of the number
  number_there : (k : ℕ) → get_or behind (16 + k) 0 ≡ get_or (long_bytes n ++ r) k 0
  number_there k = sym (get_or-drop 16 behind k 0) ∙ ap (λ (x : List ℕ). get_or x k 0) rest_there

  pub progress_in_front : progress_in (front_of_lem s n ++ r) ≡ s
  unfolding progress_in front_of_lem bytes_of behind
  progress_in_front = rw (word_bytes s.next w.next_wide, word_bytes s.count w.count_wide, word_bytes s.release w.release_wide, word_bytes s.edition w.edition_wide, last_there)

  pub bytes_in_front : n < 18446744073709551616 → bytes_in (front_of_lem s n ++ r) ≡ n
  unfolding front_of_lem bytes_of behind
  bytes_in_front h =
      let high : n / 4294967296 < 4294967296 = omega arith in
      let low : n % 4294967296 < 4294967296 = omega arith in
      rw (number_there 0, number_there 1, number_there 2, number_there 3, number_there 4, number_there 5, number_there 6, number_there 7)
      (ap₂ (λ (x y : ℕ). x * 4294967296 + y) (word_bytes (n / 4294967296) high) (word_bytes (n % 4294967296) low) ∙ omega arith)

word_octets : (w : List ℕ) → Bytes (bytes_of w)
unfolding bytes_of
word_octets [] k = omega arith
word_octets (x ∷ w) zero = byte_lt 0 x
word_octets (x ∷ w) (suc zero) = byte_lt 1 x
word_octets (x ∷ w) (suc (suc zero)) = byte_lt 2 x
word_octets (x ∷ w) (suc (suc (suc zero))) = byte_lt 3 x
word_octets (x ∷ w) (suc (suc (suc (suc k)))) = word_octets w k

numbers : Progress → List ℕ
numbers s = bytes_of (s.next ∷ s.count ∷ s.release ∷ s.edition ∷ [])

front_size : (s : Progress) (n : ℕ) → Octets 16 s.last → length (front_of_lem s n) ≡ 40
unfolding front_of_lem bytes_of
front_size s n o = omega (arith, length-append s.last (long_bytes n), o.size)

pub front_octets : (s : Progress) (n : ℕ) → Octets 16 s.last → Octets 40 (front_of_lem s n)
unfolding front_of_lem numbers
front_octets s n o = record {
  size = front_size s n o;
  bytes = append_bytes (numbers s ++ s.last) (long_bytes n) (append_bytes (numbers s) s.last (word_octets (s.next ∷ s.count ∷ s.release ∷ s.edition ∷ [])) o.bytes) (word_octets (n / 4294967296 ∷ n % 4294967296 ∷ []));
}

-- ---- read, then written

-- a part is what stands at its places
part_tabulate : (n : ℕ) (s : List ℕ) (at : ℕ) → at + n ≤ length s → take n (drop at s) ≡ tabulate n (λ k. get_or s (at + k) 0)
part_tabulate n s at h =
    is_tabulate n (λ k. get_or s (at + k) 0) (take n (drop at s)) (length-take-le n (drop at s) (omega (arith, length-drop at s)))
    (λ k l. get_or-take n (drop at s) k 0 l ∙ get_or-drop at s k 0)

bytes_at : (a b c d : ℕ) → a < 256 → b < 256 → c < 256 → d < 256 → bytes_of (word a b c d ∷ []) ≡ a ∷ b ∷ c ∷ d ∷ []
unfolding bytes_of
bytes_at a b c d ha hb hc hd = rw (byte0_word a b c d ha hb hc hd, byte1_word a b c d ha hb hc hd, byte2_word a b c d ha hb hc hd, byte3_word a b c d ha hb hc hd)

word_small : (a b c d : ℕ) → a < 256 → b < 256 → c < 256 → d < 256 → word a b c d < 4294967296
unfolding word
word_small a b c d ha hb hc hd = omega arith

module _ (b : List ℕ) (o : Octets 56 b) where
  at : (k : ℕ) → bytes_of (word_at b k ∷ []) ≡ get_or b k 0 ∷ get_or b (k + 1) 0 ∷ get_or b (k + 2) 0 ∷ get_or b (k + 3) 0 ∷ []
  at k = bytes_at (get_or b k 0) (get_or b (k + 1) 0) (get_or b (k + 2) 0) (get_or b (k + 3) 0) (o.bytes k) (o.bytes (k + 1)) (o.bytes (k + 2)) (o.bytes (k + 3))

  small : (k : ℕ) → word_at b k < 4294967296
  small k = word_small (get_or b k 0) (get_or b (k + 1) 0) (get_or b (k + 2) 0) (get_or b (k + 3) 0) (o.bytes k) (o.bytes (k + 1)) (o.bytes (k + 2)) (o.bytes (k + 3))

  numbers_read : bytes_of (word_at b 0 ∷ word_at b 4 ∷ word_at b 8 ∷ word_at b 12 ∷ []) ≡ take 16 b
  unfolding bytes_of
  numbers_read = ap₂ ◌++◌ (at 0) (ap₂ ◌++◌ (at 4) (ap₂ ◌++◌ (at 8) (at 12))) ∙ sym (part_tabulate 16 b 0 (omega (arith, o.size)))

  long_read : long_bytes (long_at b 32) ≡ take 8 (drop 32 b)
  unfolding bytes_of
  long_read =
      let high : (word_at b 32 * 4294967296 + word_at b 36) / 4294967296 ≡ word_at b 32 = let l = small 36 in omega arith in
      let low : (word_at b 32 * 4294967296 + word_at b 36) % 4294967296 ≡ word_at b 36 = let l = small 36 in omega arith in
      ap₂ (λ (x y : ℕ). bytes_of (x ∷ y ∷ [])) high low ∙ ap₂ ◌++◌ (at 32) (at 36)
      ∙ sym (part_tabulate 8 b 32 (omega (arith, o.size)))

  pub front_read : front_of_lem (progress_in b) (bytes_in b) ≡ take 40 b
  unfolding front_of_lem progress_in
  front_read =
      ap₂ ◌++◌ (ap (λ (x : List ℕ). x ++ take 16 (drop 16 b)) numbers_read ∙ sym (take-add 16 16 b)) long_read ∙ sym (take-add 32 8 b)

  pub progress_wide : Wide (progress_in b)
  unfolding progress_in
  progress_wide = record {
    next_wide = small 0;
    count_wide = small 4;
    release_wide = small 8;
    edition_wide = small 12;
    last_octets = take_octets 16 (drop 16 b) (omega (arith, length-drop 16 b, o.size)) (drop_bytes 16 b o.bytes);
  }

  pub bytes_small : bytes_in b < 18446744073709551616
  bytes_small = let h = small 32 in let l = small 36 in omega arith
