-- The running check over any block cipher: what is fed goes into the chain piece by piece, except the last piece, which is held until more comes.
-- Assumes nothing: these are definitions.
use Rattle.std.specs.Prelude.{ℕ, ◌*◌, List, [], ◌++◌, length, take, drop, replicate}
use Rattle.octets.specs.Octets.{pad_to}
use Rattle.octets.specs.Blocks.{BlockCipher}
use Rattle.cmac_spec.specs.Cmac.{before_last, chained, ended, ended_by}
use Rattle.cmac_run.specs.declared.Run.{Run}

-- the bytes that a run holds; a count above 16, which no start makes, counts as 16
abbrev pub held_bytes : Run → List ℕ
held_bytes r = take r.count r.held

-- a run with this value of the chain that holds these bytes: there are zeros past them
abbrev pub holding : List ℕ → List ℕ → Run
holding st b = record { chain = st; held = pad_to 16 b; count = length b }

-- the run after the bytes s, from the value st of the chain with nothing held
unfoldable pub run_from : BlockCipher → List ℕ → List ℕ → Run
run_from c st s = holding (chained c st (before_last s) s) (drop (before_last s * 16) s)

-- a run that was fed nothing yet
unfoldable pub begun : Run
begun = holding (replicate 16 0) []

unfoldable pub fed : BlockCipher → Run → List ℕ → Run
fed c r part = run_from c r.chain (held_bytes r ++ part)

unfoldable pub closed : BlockCipher → Run → List ℕ
closed c r = ended c r.chain (held_bytes r)

-- the same with subkeys that were made before
unfoldable pub closed_by : BlockCipher → (k1 k2 : List ℕ) → Run → List ℕ
closed_by c k1 k2 r = ended_by c k1 k2 r.chain (held_bytes r)
