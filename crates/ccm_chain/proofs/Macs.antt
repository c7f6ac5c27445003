-- The parts of the chain are Yr of SP 800-38C. Assumes nothing.
use mathlib.Core.Path.{◌≡◌, refl, sym, ap, ap₂, ◌∙◌}
use mathlib.Core.Bool.{Bool, true, false, cond}
use mathlib.Core.List.{List, [], ◌++◌}
use Prim.Native.Nat.{ℕ, ◌+◌, ◌*◌, ◌/◌, ◌≤◌}
use native.Mathlib.Nat.{zero-lt-suc}
use native.Mathlib.Omega.{arith}
use borrow.Author.Tests.{le-leb}
use lib.Dec.{eqb}
use lib.ListN.{length, replicate, length-append}
use Rattle.octets.specs.Octets.{Octets}
use Rattle.octets.specs.Blocks.{BlockCipher, Lawful}
use Rattle.octets.proofs.Fill.{length_pad_to}
use Rattle.cmac_spec.specs.Cmac.{chained}
use Rattle.modes_spec.specs.Pieces.{piece_count}
use Rattle.modes_spec.proofs.Pieces.{count_covers}
use Rattle.ccm_spec.specs.Ccm.{half, flagged, first, counter, whole, encoded, formatted, mac, streamed}
use Rattle.ccm_spec.proofs.Exactly.{streamed_length}
use Rattle.ccm_stream.specs.Model.{pieces}
use Rattle.ccm_stream.proofs.Written.{pieces_whole}
use Rattle.ccm_chain.specs.Model.{begun, mac_over, opened_mac_over}
use Rattle.ccm_chain.proofs.Chains.{chained_joined}

whole_length : (s : List ℕ) → length (whole s) ≡ piece_count 16 s * 16
unfolding whole
whole_length s = length_pad_to (piece_count 16 s * 16) s (count_covers 16 s (zero-lt-suc 15))

encoded_length : (a : List ℕ) → length (encoded a) ≡ length (encoded a) / 16 * 16
unfolding encoded
encoded_length a = go (eqb (length a) 0)
  where
    go : (t : Bool) → length (cond t [] (whole (half (length a) ++ a))) ≡ length (cond t [] (whole (half (length a) ++ a))) / 16 * 16
    go true = refl
    go false = let w = whole_length (half (length a) ++ a) in omega arith

module _ (c : BlockCipher) (nonce : List ℕ) (size : length nonce ≡ 13) (a : List ℕ) where
  first_length : (len : ℕ) → length (first nonce a len) ≡ 16
  unfolding flagged
  first_length len = omega (arith, length-append nonce (half len))

  chain_parts : (len n : ℕ) (w : List ℕ) → length w ≡ n * 16 → chained c (begun c nonce a len) n w ≡ mac c (first nonce a len ++ (encoded a ++ w))
  unfolding begun mac
  chain_parts len n w e =
      let b = first nonce a len in
      let d = encoded a in
      let m = length d / 16 in
      let k : length (b ++ (d ++ w)) / 16 ≡ 1 + (m + n) = omega (arith, length-append b (d ++ w), length-append d w, first_length len, encoded_length a) in
      sym (ap (λ (i : ℕ). chained c (replicate 16 0) i (b ++ (d ++ w))) k
      ∙ chained_joined c (replicate 16 0) 1 (m + n) b (d ++ w) (first_length len)
      ∙ chained_joined c (chained c (replicate 16 0) 1 b) m n d w (encoded_length a))

  module _ (h : length a ≤ 64) where
    pub mac_is : (p : List ℕ) → mac_over c nonce a p ≡ mac c (formatted nonce a p)
    unfolding mac_over formatted
    mac_is p = rw (le-leb (length a) 64 h) (chain_parts (length p) (piece_count 16 p) (whole p) (whole_length p))

    pub opened_mac_is : Octets 13 nonce → Lawful 16 c → (s : List ℕ) → opened_mac_over c nonce a s ≡ mac c (formatted nonce a (streamed c nonce s))
    unfolding opened_mac_over formatted
    opened_mac_is on l s =
        let t = streamed c nonce s in
        let w : pieces c (counter nonce 0) s (piece_count 16 s) ≡ whole t = pieces_whole nonce on c l s in
        let e : length s ≡ length t = sym (streamed_length nonce on c l s) in
        let k : piece_count 16 s ≡ piece_count 16 t = ap (λ (n : ℕ). (n + 15) / 16) e in
        rw (le-leb (length a) 64 h)
        (chain_parts (length s) (piece_count 16 s) (pieces c (counter nonce 0) s (piece_count 16 s)) (ap length w ∙ whole_length t ∙ ap (◌* 16) (sym k))
        ∙ ap₂ (λ (n : ℕ) (x : List ℕ). mac c (first nonce a n ++ (encoded a ++ x))) e w)
