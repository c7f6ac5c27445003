-- What the code makes is CCM of SP 800-38C, under a lawful cipher. Assumes nothing.
use mathlib.Core.Path.{◌≡◌, sym, ap, ap₂, ◌∙◌}
use mathlib.Core.List.{List, ◌++◌}
use Prim.Native.Nat.{ℕ, ◌-◌, ◌≤◌}
use native.Mathlib.Omega.{arith}
use lib.ListN.{length, take, drop, replicate, length-drop}
use lib.Seq.{take_all, take_at}
use Rattle.octets.specs.Octets.{Octets, pad_to, same, over}
use Rattle.octets.specs.Blocks.{◌⊕◌, BlockCipher, Lawful}
use Rattle.octets.proofs.Blocks.{⊕-length}
use Rattle.ccm_spec.specs.Ccm.{counter, tag, mask, sealed, opened, genuine}
use Rattle.ccm_spec.proofs.Exactly.{counter_block}
use Rattle.ccm_spec.proofs.Sums.{take-⊕}
use Rattle.ccm_stream.specs.Model.{streamed_into}
use Rattle.ccm_stream.proofs.Written.{into_streamed}
use Rattle.ccm_chain.specs.Model.{mac_over}
use Rattle.ccm_chain.proofs.Macs.{mac_is, opened_mac_is}
use Rattle.ccm.specs.Model.{sealed_over, body, right}

module _ (c : BlockCipher) (l : Lawful 16 c) (nonce : List ℕ) (on : Octets 13 nonce) (a : List ℕ) (h : length a ≤ 64) where
  pub sealed-over : (p out : List ℕ) → sealed_over c nonce a p out ≡ over (sealed c nonce a p) out
  unfolding sealed_over sealed tag mask
  sealed-over p out =
      let s0 = c.enc (counter nonce 0) in
      ap (λ (x : List ℕ). over x out)
      (ap₂ ◌++◌ (into_streamed nonce on c l p) (take-⊕ 8 (mac_over c nonce a p) s0 ∙ ap (λ (x : List ℕ). take 8 x ⊕ take 8 s0) (mac_is c nonce on.size a h p)))

  pub opened_is : (s : List ℕ) → streamed_into c (counter nonce 0) (body s) ≡ opened c nonce s
  unfolding opened
  opened_is s = into_streamed nonce on c l (body s)

  pub right_genuine : (s : List ℕ) → 8 ≤ length s → right c nonce a s ≡ genuine c nonce a s
  unfolding right genuine tag mask opened pad_to
  right_genuine s e =
      let d = drop (length s - 8) s in
      let s0 = c.enc (counter nonce 0) in
      let x = d ⊕ s0 in
      let ld : length d ≡ 8 = omega (arith, length-drop (length s - 8) s) in
      let lx : length x ≡ 8 = ⊕-length d s0 (omega (arith, (counter_block nonce on c l 0).size)) ∙ ld in
      let found : take 8 (x ++ replicate (16 - length x) 0) ≡ d ⊕ take 8 s0 =
      take_at x (replicate (16 - length x) 0) 8 lx ∙ sym (take_all 8 x (omega arith)) ∙ take-⊕ 8 d s0 ∙ ap (◌⊕ take 8 s0) (take_all 8 d (omega arith)) in
      ap₂ same (ap (take 8) (opened_mac_is c nonce on.size a h on l (body s))) found
