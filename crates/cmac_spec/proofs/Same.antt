-- Ciphers that agree on blocks give the same check. Assumes nothing.
use mathlib.Core.Path.{◌≡◌, refl, ap, ◌∙◌}
use mathlib.Core.List.{List}
use Prim.Native.Nat.{ℕ, zero, suc, ◌*◌, ◌≤◌}
use native.Mathlib.Omega.{arith}
use lib.ListN.{length, take, drop, replicate, length-drop}
use Rattle.octets.specs.Octets.{Bytes, Octets}
use Rattle.octets.specs.Blocks.{◌⊕◌, BlockCipher}
use Rattle.octets.proofs.Blocks.{⊕-octets, drop_bytes, take_octets}
use Rattle.cmac_spec.specs.Cmac.{doubled, key1, key2, last, before_last, chained, ended, ended_by, cmac, cmac_by}
use Rattle.cmac_spec.proofs.OnePiece.{zeros_octets, last_octets, next_octets, chained_octets}

-- c and d agree on blocks, and blocks go to blocks
module _ (c d : BlockCipher) (same : (x : List ℕ) → Octets 16 x → c.enc x ≡ d.enc x) (enc_block : (x : List ℕ) → Octets 16 x → Octets 16 (d.enc x)) where
  key1_same : key1 c ≡ key1 d
  unfolding key1
  key1_same = ap doubled (same (replicate 16 0) zeros_octets)

  key2_same : key2 c ≡ key2 d
  unfolding key2
  key2_same = ap doubled key1_same

  last_same : (b : List ℕ) → last c b ≡ last d b
  unfolding last
  last_same b = rw (key1_same, key2_same)

  pub chained_same : (n : ℕ) (st s : List ℕ) → Octets 16 st → Bytes s → n * 16 ≤ length s → chained c st n s ≡ chained d st n s
  unfolding chained
  chained_same zero st s o b h = refl
  chained_same (suc n) st s o b h =
      ap (λ (x : List ℕ). chained c x n (drop 16 s)) (same (st ⊕ take 16 s) (⊕-octets o (take_octets 16 s (omega arith) b)))
      ∙ chained_same n (d.enc (st ⊕ take 16 s)) (drop 16 s) (next_octets d enc_block o s b (omega arith)) (drop_bytes 16 s b) (omega (arith, length-drop 16 s))

  pub ended_same : (st b : List ℕ) → Octets 16 st → length b ≤ 16 → Bytes b → ended c st b ≡ ended d st b
  unfolding ended
  ended_same st b o h k = ap (λ (x : List ℕ). c.enc (st ⊕ x)) (last_same b) ∙ same (st ⊕ last d b) (⊕-octets o (last_octets d enc_block b h k))

  pub cmac_same : (m : List ℕ) → Bytes m → cmac c m ≡ cmac d m
  unfolding cmac
  cmac_same m b =
      let n = before_last m in
      let h : n * 16 ≤ length m = omega arith in
      ap (λ (x : List ℕ). ended c x (drop (n * 16) m)) (chained_same n (replicate 16 0) m zeros_octets b h)
      ∙ ended_same (chained d (replicate 16 0) n m) (drop (n * 16) m) (chained_octets d enc_block n (replicate 16 0) m zeros_octets b h)
      (omega (arith, length-drop (n * 16) m)) (drop_bytes (n * 16) m b)

-- with the cipher's own subkeys made before, it is CMAC
pub cmac-by : (c : BlockCipher) (m : List ℕ) → cmac_by c (key1 c) (key2 c) m ≡ cmac c m
unfolding cmac_by cmac ended_by ended last
cmac-by c m = refl
