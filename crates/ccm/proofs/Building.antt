-- What is written into the output, step by step. Assumes nothing.
use mathlib.Core.Path.{◌≡◌, sym, ap, ap₂, ◌∙◌}
use mathlib.Core.Bool.{Bool, true, false}
use mathlib.Core.List.{List, ◌++◌}
use Prim.Native.Nat.{ℕ, ◌+◌, ◌-◌, ◌≤◌}
use native.Mathlib.Omega.{arith}
use borrow.Author.Tests.{le-leb}
use lib.ListN.{length, take, drop, length-append, length-drop}
use lib.Seq.{length-take-le, take_all, take_at, drop-append-add, drop-drop}
use Rattle.octets.specs.Octets.{pad_to, same, over}
use Rattle.octets.specs.Blocks.{◌⊕◌, BlockCipher}
use Rattle.octets_slice.specs.Slices.{copied}
use Rattle.octets_slice.proofs.Laws.{copied_fits}
use Rattle.ccm_spec.specs.Ccm.{counter}
use Rattle.ccm_stream.specs.Model.{streamed_into, streamed_over}
use Rattle.ccm_chain.specs.Model.{mac_over, opened_mac_over}
use Rattle.ccm.specs.Model.{sealed_over, body, right, verdict, opened_over}
use Rattle.ccm_answer.specs.declared.CcmAnswer.TheVariants.{CcmDone, WrongTag}

stream_room : (c : BlockCipher) (ctr s out : List ℕ) → length s ≤ length out → streamed_over c ctr s out ≡ streamed_into c ctr s ++ drop (length s) out
unfolding streamed_over
stream_room c ctr s out h = rw (le-leb (length s) (length out) h)

-- ---- sealing: the ciphertext, and the tag behind it

module _ (c : BlockCipher) (nonce a p out : List ℕ) (room : length p + 8 ≤ length out) (t o1 o2 : List ℕ) (m : ℕ) (lt : length t ≡ 16) (et : t ≡ mac_over c nonce a p ⊕ c.enc (counter nonce 0))
    (e1 : o1 ≡ streamed_over c (counter nonce 0) p out) (l1 : length o1 ≡ length out) (em : m ≡ 8) (e2 : o2 ≡ copied (take m t) (length p) o1) where
  pub sealed_built : o2 ≡ sealed_over c nonce a p out
  unfolding sealed_over
  sealed_built =
      let x = streamed_into c (counter nonce 0) p in
      let g = take 8 t in
      let lg : length g ≡ 8 = length-take-le 8 t (omega arith) in
      let ox : o1 ≡ x ++ drop (length p) out = e1 ∙ stream_room c (counter nonce 0) p out (omega arith) in
      let lx : length x ≡ length p = omega (arith, ap length ox, length-append x (drop (length p) out), length-drop (length p) out) in
      let lxg : length (x ++ g) ≡ length p + 8 = length-append x g ∙ omega arith in
      let front : take (length p) o1 ≡ x = ap (take (length p)) ox ∙ take_at x (drop (length p) out) (length p) lx in
      let back : drop (length p + 8) o1 ≡ drop (length p + 8) out =
      ap₂ (λ (k : ℕ) (y : List ℕ). drop (k + 8) y) (sym lx) ox ∙ drop-append-add x (drop (length p) out) 8 ∙ drop-drop 8 (length p) out in
      e2 ∙ ap (λ (k : ℕ). copied (take k t) (length p) o1) em ∙ copied_fits g (length p) o1 (omega arith)
      ∙ ap (λ (k : ℕ). (take (length p) o1 ++ take k g) ++ drop (length p + k) o1) lg
      ∙ ap₂ (λ (u v : List ℕ). (u ++ take 8 g) ++ v) front back
      ∙ ap (λ (u : List ℕ). (x ++ u) ++ drop (length p + 8) out) (take_all 8 g (omega arith))
      ∙ ap (λ (k : ℕ). (x ++ g) ++ drop k out) (sym lxg)
      ∙ ap (λ (u : List ℕ). over (x ++ take 8 u) out) et

-- ---- opening: the tag made and the tag found, and then the message

module _ (c : BlockCipher) (nonce a s out made found : List ℕ) (m : ℕ) (em : m ≡ length s - 8) (pm : made ≡ opened_mac_over c nonce a (take m s))
    (pf : found ≡ pad_to 16 (drop (length s - 8) s ⊕ c.enc (counter nonce 0))) (t : Bool) (pt : t ≡ same (take 8 made) (take 8 found)) where
  right_is : right c nonce a s ≡ t
  unfolding right
  right_is = sym (pt ∙ ap₂ (λ (x y : List ℕ). same (take 8 x) (take 8 y)) (pm ∙ ap (λ (k : ℕ). opened_mac_over c nonce a (take k s)) em) pf)

  pub open_wrong : t ≡ false → (WrongTag ≡ verdict c nonce a s) × (out ≡ opened_over c nonce a s out)
  open_wrong f = let g : right c nonce a s ≡ false = right_is ∙ f in (rw g, rw g)

  pub open_right : t ≡ true → (o : List ℕ) → 8 ≤ length s → length s ≤ length out + 8 → o ≡ streamed_over c (counter nonce 0) (take m s) out
      → (CcmDone ≡ verdict c nonce a s) × (o ≡ opened_over c nonce a s out)
  open_right f o low room e =
      let g : right c nonce a s ≡ true = right_is ∙ f in
      let n = length s - 8 in
      let b : length (body s) ≡ n = length-take-le n s (omega arith) in
      let w : o ≡ streamed_into c (counter nonce 0) (body s) ++ drop n out =
      e ∙ ap (λ (k : ℕ). streamed_over c (counter nonce 0) (take k s) out) em ∙ stream_room c (counter nonce 0) (body s) out (omega arith)
      ∙ ap (λ (k : ℕ). streamed_into c (counter nonce 0) (body s) ++ drop k out) b in
      (rw g, rw g w)
