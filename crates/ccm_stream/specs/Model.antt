-- CCM's stream piece by piece, as the code makes it. Nobody has to trust these: laws say what they amount to. Assumes nothing: these are definitions.
use Rattle.std.specs.Prelude.{cond, ℕ, zero, suc, ◌+◌, ◌*◌, List, [], ◌++◌, leb, length, take, drop}
use Rattle.octets.specs.Octets.{pad_to}
use Rattle.octets.specs.Blocks.{◌⊕◌, BlockCipher}
use Rattle.modes_spec.specs.Pieces.{piece_count}
use Rattle.ccm_spec.specs.Ccm.{half}

-- a block with another number in its last two bytes
abbrev pub numbered_as : List ℕ → ℕ → List ℕ
numbered_as b n = take 14 b ++ half n

-- of Ctr_0 and a message: its first n pieces, each added to its S and then zeros
unfoldable pub pieces : BlockCipher → (ctr s : List ℕ) → ℕ → List ℕ
pieces c ctr s zero = []
pieces c ctr s (suc i) = pieces c ctr s i ++ pad_to 16 (drop (i * 16) s ⊕ c.enc (numbered_as ctr (suc i)))

-- a block from a place on, as far as the list goes
unfoldable pub put_leading : (w : List ℕ) (at : ℕ) (b : List ℕ) → List ℕ
put_leading w at b = take (length w) (take at w ++ (b ++ drop (at + 16) w))

-- all pieces, without the zeros
unfoldable pub streamed_into : BlockCipher → (ctr s : List ℕ) → List ℕ
streamed_into c ctr s = take (length s) (pieces c ctr s (piece_count 16 s))

-- in the first bytes of an output that has room
unfoldable pub streamed_over : BlockCipher → (ctr s out : List ℕ) → List ℕ
streamed_over c ctr s out = cond (leb (length s) (length out)) (streamed_into c ctr s ++ drop (length s) out) out
