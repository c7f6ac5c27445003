-- The wide cipher as the code goes through it, on a list of columns. Nobody needs to believe this: laws say that it is the submission's.
-- Assumes nothing: these are definitions.
use Rattle.std.specs.Prelude.{ℕ, zero, suc, ◌+◌, ◌-◌, ◌*◌, ◌%◌, cond, List, map, get_or, take, replicate}
use Rattle.octets.specs.Octets.{xor, tabulate}
use Rattle.octets.specs.Words.{bytes_of}
use Rattle.aes_sbox.specs.Sbox.{s_box, inv_s_box}
use Rattle.aes_words.specs.Columns.{sub_mix_column}
use Rattle.aes_mix.specs.Mixing.{mix_column, inv_mix_column, mixed_entry, inv_mixed_entry}
use Rattle.aes_spec.specs.State.{Shape}
use Rattle.rijndael_spec.specs.Rijndael.{shape_of, wide_round_count}
use Rattle.rijndael_spec.specs.declared.Width.{Width}
use Rattle.rijndael_model.specs.declared.Way.{Way}
use Rattle.rijndael_model.specs.declared.Way.TheVariants.{Forth, Back}

-- the shape whose shift of rows is the inverse of another's
abbrev pub back : Shape → Shape
back z = record { columns = z.columns; shift = λ r. z.columns - z.shift r }

abbrev pub way_shape : Way → Shape → Shape
way_shape Forth z = z
way_shape Back z = back z

-- the round key that is added after round n of nr: on the way back they come from the last to the first
abbrev pub key_for : Way → ℕ → ℕ → ℕ
key_for Forth nr n = n
key_for Back nr n = nr - n

-- what a byte adds to a column, substituted and mixed
abbrev pub entry_of : Way → ℕ → ℕ
entry_of Forth = mixed_entry s_box
entry_of Back = inv_mixed_entry inv_s_box

-- the mixing of a way taken off a column again
abbrev pub unmixed : Way → ℕ → ℕ
unmixed Forth = inv_mix_column
unmixed Back = mix_column

-- the block of the first columns of a list
abbrev pub block_of : Width → List ℕ → List ℕ
block_of v s = bytes_of (take (shape_of v).columns s)

-- round key n added to columns
unfoldable pub key_added : Shape → List ℕ → ℕ → List ℕ → List ℕ
key_added z w n s = tabulate z.columns (λ c. xor (get_or s c 0) (get_or w (z.columns * n + c) 0))

-- the column from which the shift brings row r of column c
abbrev pub from : Shape → List ℕ → ℕ → ℕ → ℕ
from z s r c = get_or s ((c + z.shift r) % z.columns) 0

-- each column looked up in the table t from the four that the shift of rows brings there
unfoldable pub gathered : Shape → (ℕ → ℕ) → List ℕ → List ℕ
gathered z t s = tabulate z.columns (λ c. sub_mix_column t (from z s 0 c) (from z s 1 c) (from z s 2 c) (from z s 3 c))

-- rounds 1 to n, where k says which round key each adds
unfoldable pub looked_rounds : Shape → (ℕ → ℕ) → List ℕ → (ℕ → ℕ) → ℕ → List ℕ → List ℕ
looked_rounds z t w k zero s = s
looked_rounds z t w k (suc n) s = key_added z w (k (suc n)) (gathered z t (looked_rounds z t w k n s))

-- all of them; the last takes the mixing off again
unfoldable pub looked : Way → Shape → (ℕ → ℕ) → List ℕ → ℕ → List ℕ → List ℕ
looked y z t w nr s =
    key_added z w (key_for y nr nr) (map (unmixed y) (gathered z t (looked_rounds z t w (key_for y nr) (nr - 1) (key_added z w (key_for y nr 0) s))))

-- zeros where the number of rounds is none that a key gives
unfoldable pub passed : Way → Width → (ℕ → ℕ) → List ℕ → ℕ → List ℕ → List ℕ
passed y v t w nr s = cond (wide_round_count v nr) (looked y (way_shape y (shape_of v)) t w nr s) (replicate (shape_of v).columns 0)
