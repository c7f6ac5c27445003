-- A word turned right by bytes. Assumes nothing: these are definitions.
use Rattle.std.specs.Prelude.{ℕ, zero, suc}
use Rattle.aes_words.specs.Columns.{rot_word, rot_two, rot_three}

-- by k bytes, for k below 4
abbrev pub turned : ℕ → ℕ → ℕ
turned zero x = x
turned (suc zero) x = rot_three x
turned (suc (suc zero)) x = rot_two x
turned (suc (suc (suc k))) x = rot_word x
