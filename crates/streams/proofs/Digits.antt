-- A row of up to 32 bytes, as it is put into memory for its digits. Assumes nothing.
use Rattle.std.proofs.Common.{◌≡◌, ℕ, ◌+◌, ◌*◌, ◌<◌, ◌≤◌, List, [], ◌∷◌, ◌++◌, length, take, min, refl, arith, ◌∙◌}
use borrow.Author.Tests.{le-leb}
use lib.Seq.{take_at}
use Rattle.octets_slice.specs.Slices.{copied}
use Rattle.octets_slice.proofs.Laws.{copied_fits, paste_front}
use Rattle.text_put.specs.Places.{fits, place_after}
use Rattle.text_hex.specs.Written.{hex_of, hex_word}
use Rattle.text_hex.proofs.WrittenLaws.{length_hex_of, word_some}

-- the digits of bytes, and then of others, are those of both
pub hex_of_append : (a b : List ℕ) → hex_of (a ++ b) ≡ hex_of a ++ hex_of b
unfolding hex_of
hex_of_append [] b = refl
hex_of_append (x ∷ a) b = rw (hex_of_append a b)

-- the word of a byte or more
row_word : (row : List ℕ) → 0 < length row → hex_word row ≡ hex_of row
row_word row some = word_some row (λ none. omega (arith, none, some))

-- the place behind them
row_end : (row old : List ℕ) → 0 < length row → length row ≤ 32 → length old ≡ 64 → place_after (hex_word row) old 0 ≡ 2 * length row
unfolding place_after fits
row_end row old some small size =
    let n = length_hex_of row in
    rw (row_word row some, le-leb (0 + length (hex_of row)) (length old) (omega (arith, n, small, size))) (omega (arith, n))

-- what stands before that place
row_digits : (row old : List ℕ) → 0 < length row → length row ≤ 32 → length old ≡ 64 → take (2 * length row) (copied (hex_word row) 0 old) ≡ hex_of row
row_digits row old some small size =
    let n = length_hex_of row in
    rw (row_word row some, copied_fits (hex_of row) 0 old (omega (arith, n, small, size)), paste_front old (hex_of row)) (take_at (hex_of row) _ _ n)

-- the same of the first of the rows that are left
pub row_put : (left row old new : List ℕ) (size n : ℕ) → size ≡ 32 → 0 < length left → length row ≡ min size (length left) → length old ≡ 64 → length new ≡ length old
    → (n ≡ place_after (hex_word row) old 0) × (new ≡ copied (hex_word row) 0 old) → (n ≤ length new) × (n ≡ length (take n new)) × (take n new ≡ hex_of row)
row_put left row old new size n whole some cut room same put =
    let l = length_hex_of row in
    let one : 0 < length row = omega (arith, whole, some, cut) in
    let small : length row ≤ 32 = omega (arith, whole, some, cut) in
    let end : n ≡ 2 * length row = put.0 ∙ row_end row old one small room in
    let digits : take n new ≡ hex_of row = rw (end, put.1) (row_digits row old one small room) in
    (omega (arith, end, small, same, room), rw digits (omega (arith, l, end)), digits)
