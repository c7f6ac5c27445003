-- A line in an input, and that gathering goes on. Assumes nothing.
use Rattle.std.proofs.Common.{◌≡◌, ℕ, ◌+◌, ◌-◌, ◌≤◌, ◌<◌, Bool, true, false, cond, Some, Result, Ok, Err, List, [], ◌∷◌, length, take, drop, leb, refl, sym, arith}
use Rattle.std.proofs.Math.Seq.{paste, paste-zero}
use Rattle.octets_slice.specs.Slices.{copied}
use Rattle.std.proofs.lemmas.Bool.Decides.{nat_tests}
use Rattle.text_words.specs.Words.{end_of}
use Rattle.text_words.proofs.WordLaws.{take_before}
use Rattle.text_lines.specs.declared.TooLong.{TooLong}
use Rattle.text_lines.specs.Gathering.{line_in, len_of, with_len, extended, gathered}

-- the part of an input up to the end of a line is the line
pub part_is_line : (inp : List ℕ) (at e : ℕ) → e ≡ end_of 10 inp at → take (e - at) (drop at inp) ≡ line_in inp at
part_is_line inp at e p =
    let d : e - at ≡ length (line_in inp at) = omega arith in
    rw d (take_before 10 (drop at inp))

-- where another line begins, less is left of the input
pub goes_on : (line : Result ℕ TooLong) (inp : List ℕ) (at : ℕ) (memory : List ℕ) (n : ℕ) → (gathered line inp at memory).next ≡ Some n → (at < n) × (n ≤ length inp)
unfolding gathered
goes_on line inp at memory n h = grind (arith, nat_tests)

-- a line that was not marked and is now leaves the memory as it was
too_long : (n : ℕ) (e : TooLong) (s memory : List ℕ) → extended (Ok n) s memory ≡ Err e → copied s n memory ≡ memory
unfolding copied
too_long n e s memory h = by (leb (n + length s) (length memory)) h
  where
    by : (b : Bool) → (◌≡◌ {A = Result ℕ TooLong} (cond b (Ok (n + length s)) (Err (record { len = n }))) (Err e)) → cond b (paste memory n s (length s)) memory ≡ memory
    by true q = cc
    by false q = refl

pub too_long_keeps : (n : ℕ) (e : TooLong) (inp : List ℕ) (at : ℕ) (memory : List ℕ) → (gathered (Ok n) inp at memory).line ≡ Err e → copied (line_in inp at) n memory ≡ memory
unfolding gathered
too_long_keeps n e inp at memory h = too_long n e (line_in inp at) memory h

-- a line that is no longer than it was, marked or not, leaves the memory as it was
len_back : (line : Result ℕ TooLong) (n : ℕ) → len_of (with_len line n) ≡ n
len_back (Ok k) n = refl
len_back (Err e) n = refl

no_longer : (line : Result ℕ TooLong) (s memory : List ℕ) → len_of (extended line s memory) ≡ len_of line → copied s (len_of line) memory ≡ memory
unfolding copied
no_longer line s memory h = by s (leb (len_of line + length s) (length memory)) h
  where
    by : (t : List ℕ) (b : Bool) → len_of (cond b (with_len line (len_of line + length t)) (Err (record { len = len_of line }))) ≡ len_of line → cond b (paste memory (len_of line) t (length t)) memory ≡ memory
    by [] true q = sym (paste-zero memory (len_of line) [])
    by (x ∷ t) true q = absurd (omega (arith, len_back line (len_of line + length (x ∷ t))))
    by t false q = refl

pub no_longer_keeps : (line : Result ℕ TooLong) (inp : List ℕ) (at : ℕ) (memory : List ℕ) → len_of (gathered line inp at memory).line ≡ len_of line → copied (line_in inp at) (len_of line) memory ≡ memory
unfolding gathered
no_longer_keeps line inp at memory h = no_longer line (line_in inp at) memory h

-- behind the end of the memory nothing is put, so a line that is marked there leaves it as it was, whatever comes
full : (n : ℕ) (s memory : List ℕ) → length memory ≤ n → copied s n memory ≡ memory
unfolding copied
full n [] memory h = by (leb (n + 0) (length memory))
  where
    by : (b : Bool) → cond b (paste memory n [] 0) memory ≡ memory
    by true = sym (paste-zero memory n [])
    by false = refl
full n (x ∷ t) memory h = grind (arith, nat_tests)

pub full_keeps : (line : Result ℕ TooLong) (inp : List ℕ) (at : ℕ) (memory : List ℕ) → length memory ≤ len_of line → copied (line_in inp at) (len_of line) memory ≡ memory
full_keeps line inp at memory h = full (len_of line) (line_in inp at) memory h
