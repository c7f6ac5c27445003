-- What the steps share: a table for either direction, and the round keys as one value. Assumes nothing: these are definitions.
use Rattle.std.specs.Prelude.{ℕ}
use Rattle.saes_spec.specs.Saes.{word, key0, key1, key2}
use Rattle.saes_spec.specs.declared.Word.{Word}
use Rattle.saes.specs.declared.steps.RoundKeys.{RoundKeys}

-- each nibble of a word by a table
abbrev pub through : (ℕ → ℕ) → Word → Word
through f w = word (f w.high) (f w.low)

-- the three round keys
abbrev pub round_keys : ℕ → RoundKeys
round_keys key = record { first = key0 key; second = key1 key; third = key2 key }
