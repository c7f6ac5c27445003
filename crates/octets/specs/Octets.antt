-- Bytes and lists of bytes. A byte is a number below 256. Assumes nothing: these are definitions.
use Rattle.std.specs.Prelude.{ℕ, zero, suc, ◌-◌, ◌<◌, Bool, true, false, ◌&&◌, ◌≡◌, List, [], ◌∷◌, ◌++◌, eqb, length, get_or, drop, replicate}
use Rattle.std.specs.Int.Bits.{bit_xor}

-- the sum of two bytes, or of two words: exclusive or, digit by digit
unfoldable pub xor : ℕ → ℕ → ℕ
xor a b = bit_xor a b

-- f 0, f 1, .. up to f (n - 1)
abbrev pub tabulate : ℕ → (ℕ → ℕ) → List ℕ
tabulate zero f = []
tabulate (suc n) f = f 0 ∷ tabulate n (λ k. f (suc k))

-- s followed by zeros, up to n elements
unfoldable pub pad_to : ℕ → List ℕ → List ℕ
pad_to n s = s ++ replicate (n - length s) 0

-- what a table has in the place of a byte
abbrev pub entry : List ℕ → ℕ → ℕ
entry table x = get_or table x 0

-- a list in the place of the first elements of another
abbrev pub over : List ℕ → List ℕ → List ℕ
over s out = s ++ drop (length s) out

-- two lists are the same, element by element
abbrev pub same : List ℕ → List ℕ → Bool
same [] [] = true
same [] (y ∷ b) = false
same (x ∷ a) [] = false
same (x ∷ a) (y ∷ b) = eqb x y && same a b

-- lists one after the other
abbrev pub joined : List (List ℕ) → List ℕ
joined [] = []
joined (part ∷ parts) = part ++ joined parts

-- every element is a byte
abbrev pub Bytes : List ℕ → Type 0
Bytes s = (k : ℕ) → get_or s k 0 < 256

-- s is n bytes
pub record Octets (n : ℕ) (s : List ℕ) : Type 0 where
  pub size : length s ≡ n
  pub bytes : Bytes s
