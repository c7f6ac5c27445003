-- A run through pieces of z bytes, of which every operation is an instance. Assumes nothing: these are definitions.
use Rattle.std.specs.Prelude.{ℕ, zero, suc, ◌+◌, ◌-◌, ◌*◌, ◌/◌, List, [], ◌++◌, length, take, drop}

-- of a state and a piece: what comes out, and the next state
pub record Machine : Type 0 where
  pub out : List ℕ → List ℕ → List ℕ
  pub next : List ℕ → List ℕ → List ℕ

-- how many pieces a list has, the last of which may be short
abbrev pub piece_count : ℕ → List ℕ → ℕ
piece_count z s = (length s + (z - 1)) / z

-- what n pieces give, from a state
unfoldable pub output_of : ℕ → Machine → List ℕ → ℕ → List ℕ → List ℕ
output_of z m st zero s = []
output_of z m st (suc n) s = m.out st (take z s) ++ output_of z m (m.next st (take z s)) n (drop z s)

-- the state after them
unfoldable pub after : ℕ → Machine → List ℕ → ℕ → List ℕ → List ℕ
after z m st zero s = st
after z m st (suc n) s = after z m (m.next st (take z s)) n (drop z s)

-- both, where what is made goes over the front of another list
abbrev pub ran : ℕ → Machine → List ℕ → ℕ → (s out : List ℕ) → List ℕ × List ℕ
ran z m st n s out = (after z m st n s, output_of z m st n s ++ drop (n * z) out)

-- the same over a whole list, whose last piece may be short
abbrev pub ran_through : ℕ → Machine → List ℕ → (s out : List ℕ) → List ℕ × List ℕ
ran_through z m st s out = (after z m st (piece_count z s) s, output_of z m st (piece_count z s) s ++ drop (length s) out)

-- piece i, from 0
abbrev pub piece : ℕ → List ℕ → ℕ → List ℕ
piece z s i = take z (drop (i * z) s)
