-- Lines gathered from an input that comes in parts. Assumes nothing: these are definitions.
-- A line so far is how many of its bytes stand at the front of the memory, marked once it was too long for that.
use Rattle.std.specs.Prelude.{ℕ, ◌+◌, Bool, true, cond, Some, None, Result, Ok, Err, List, leb, ltb, length, drop}
use Rattle.text_words.specs.Words.{before}
use Rattle.text_lines.specs.declared.TooLong.{TooLong}
use Rattle.text_lines.specs.declared.Gathered.{Gathered}

-- what an input has from a place up to its next line feed, or its end
abbrev pub line_in : List ℕ → ℕ → List ℕ
line_in inp at = before 10 (drop at inp)

abbrev pub no_line : Result ℕ TooLong
no_line = Ok 0

-- anything of a line has come
abbrev pub has_begun : Result ℕ TooLong → Bool
has_begun (Ok n) = ltb 0 n
has_begun (Err e) = true

-- how many bytes of a line stand in the memory
abbrev pub len_of : Result ℕ TooLong → ℕ
len_of (Ok n) = n
len_of (Err e) = e.len

-- as many bytes of a line, marked if it was
abbrev pub with_len : Result ℕ TooLong → ℕ → Result ℕ TooLong
with_len (Ok _) n = Ok n
with_len (Err _) n = Err (record { len = n })

-- the line with s appended, if the memory has room for it; else the line is too long, and stays so
abbrev pub extended : Result ℕ TooLong → (s memory : List ℕ) → Result ℕ TooLong
extended line s memory = cond (leb (len_of line + length s) (length memory)) (with_len line (len_of line + length s)) (Err (record { len = len_of line }))

-- the next line begins after the line feed that ends this one, if one does
unfoldable pub gathered : Result ℕ TooLong → (inp : List ℕ) (at : ℕ) (memory : List ℕ) → Gathered
gathered line inp at memory =
    let e = at + length (line_in inp at) in
    record { line = extended line (line_in inp at) memory; next = cond (ltb e (length inp)) (Some (e + 1)) None }
