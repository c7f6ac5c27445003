-- Yr in the parts that the code makes it of. Nobody has to trust these: laws say what they amount to. Assumes nothing: these are definitions.
use Rattle.std.specs.Prelude.{cond, ℕ, ◌/◌, List, leb, length, replicate}
use Rattle.octets.specs.Blocks.{BlockCipher}
use Rattle.cmac_spec.specs.Cmac.{chained}
use Rattle.modes_spec.specs.Pieces.{piece_count}
use Rattle.ccm_spec.specs.Ccm.{first, counter, whole, encoded}
use Rattle.ccm_stream.specs.Model.{pieces}

-- the chain after B0 and the associated data
unfoldable pub begun : BlockCipher → (nonce a : List ℕ) (len : ℕ) → List ℕ
begun c nonce a len = chained c (chained c (replicate 16 0) 1 (first nonce a len)) (length (encoded a) / 16) (encoded a)

-- and after so many pieces of a message of this length
abbrev pub chained_to : BlockCipher → (nonce a : List ℕ) (len n : ℕ) (w : List ℕ) → List ℕ
chained_to c nonce a len n w = cond (leb (length a) 64) (chained c (begun c nonce a len) n w) (replicate 16 0)

unfoldable pub mac_over : BlockCipher → (nonce a p : List ℕ) → List ℕ
mac_over c nonce a p = chained_to c nonce a (length p) (piece_count 16 p) (whole p)

-- the same of what a ciphertext opens to, piece by piece
unfoldable pub opened_mac_over : BlockCipher → (nonce a s : List ℕ) → List ℕ
opened_mac_over c nonce a s = chained_to c nonce a (length s) (piece_count 16 s) (pieces c (counter nonce 0) s (piece_count 16 s))
