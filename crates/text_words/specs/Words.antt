-- The words of a line, separated by one space each. Assumes nothing: these are definitions.
use Rattle.std.specs.Prelude.{ℕ, zero, suc, ◌+◌, cond, List, [], ◌∷◌, length, drop, eqb}

-- what comes before the first byte `stop`, or all
unfoldable pub before : ℕ → List ℕ → List ℕ
before stop [] = []
before stop (c ∷ r) = cond (eqb c stop) [] (c ∷ before stop r)

-- what comes after it, or nothing
unfoldable pub after : ℕ → List ℕ → List ℕ
after stop s = drop (suc (length (before stop s))) s

-- the place of the first byte `stop` from a place on, or the end
abbrev pub end_of : ℕ → List ℕ → ℕ → ℕ
end_of stop s at = at + length (before stop (drop at s))

-- a line from its word k on, from 0
unfoldable pub rest_of : ℕ → List ℕ → List ℕ
rest_of zero s = s
rest_of (suc k) s = rest_of k (after 32 s)

-- word k of a line, and nothing past the last
unfoldable pub word_of : ℕ → List ℕ → List ℕ
word_of k s = before 32 (rest_of k s)

-- how many words a line has: one more than the spaces
unfoldable pub word_count : List ℕ → ℕ
word_count [] = 1
word_count (c ∷ r) = cond (eqb c 32) 1 0 + word_count r
