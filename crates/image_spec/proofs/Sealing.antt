-- The output that a block was written into, step by step, is the sealed block and the rest as it was. Assumes nothing.
use mathlib.Core.Path.{◌≡◌, sym, ap, ap₂, ◌∙◌}
use mathlib.Core.List.{List, ◌++◌, append_assoc}
use Prim.Native.Nat.{ℕ, ◌+◌, ◌≤◌, ◌<◌}
use native.Mathlib.Omega.{arith}
use borrow.Author.Tests.{le-leb, lt-leb}
use lib.ListN.{length, take, drop, length-append, length-drop}
use lib.Seq.{take_all, take_at, drop_at, drop-drop, length-take-le}
use Rattle.octets.specs.Octets.{pad_to, over}
use Rattle.octets.specs.Blocks.{BlockCipher}
use Rattle.octets_slice.specs.Slices.{copied}
use Rattle.octets_block.proofs.Laws.{block_put}
use Rattle.modes_spec.specs.Modes.{moded}
use Rattle.modes_spec.specs.declared.Operation.TheVariants.{CbcEncrypt}
use Rattle.image_layout.specs.Layout.{head_bytes_of}
use Rattle.image_layout.specs.declared.Head.{Head}
use Rattle.image_layout.proofs.Laws.{head_octets}
use Rattle.image_spec.specs.Sealed.{Mac, front, sealed}
use Rattle.image_spec.specs.Model.{sealed_over}

-- a block in the place of 16 bytes
put_is : (s : List ℕ) (at : ℕ) (b : List ℕ) → at + 16 ≤ length s → length b ≡ 16 → copied b at s ≡ take at s ++ (b ++ drop (at + 16) s)
put_is s at b h e =
    block_put s at h b e ∙ ap (λ (x : List ℕ). take at s ++ x ++ drop (at + 16) s) (take_all 16 b (omega arith)) ∙ append_assoc (take at s) b (drop (at + 16) s)

module _ (c : BlockCipher) (k : Mac) (tail : List ℕ) (h : Head) (payload out : List ℕ) where
  pub seal_long : 480 < length payload → out ≡ sealed_over c k tail h payload out
  unfolding sealed_over
  seal_long l = rw (lt-leb (length payload) 480 l)

  module _ (lp : length payload ≤ 480) where
    pub seal_short : length out < 512 → out ≡ sealed_over c k tail h payload out
    unfolding sealed_over
    seal_short l = rw (le-leb (length payload) 480 lp, lt-leb 512 (length out) l)

    module _ (lo : 512 ≤ length out) where
      pub seal_fits : (o : List ℕ) → o ≡ over (sealed c k tail h payload) out → o ≡ sealed_over c k tail h payload out
      unfolding sealed_over
      seal_fits o e = rw (le-leb (length payload) 480 lp, le-leb 512 (length out) lo) e

      module _ (first iv plain o1 body o2 made o3 : List ℕ) (e1 : first ≡ head_bytes_of h) (e2 : iv ≡ c.enc first) (e3 : plain ≡ pad_to 480 payload) (e4 : o1 ≡ copied first 0 out)
          (e5 : body ≡ moded 16 c CbcEncrypt iv plain) (l5 : length body ≡ 480)
          (e6 : o2 ≡ take 16 o1 ++ (body ++ drop 480 (drop 16 o1))) (e7 : made ≡ k (take 496 o2 ++ tail)) (l7 : length made ≡ 16) (e8 : o3 ≡ copied made 496 o2) where
        first_size : length first ≡ 16
        first_size = ap length e1 ∙ (head_octets h).size

        after_head : o1 ≡ first ++ drop 16 out
        after_head = e4 ∙ put_is out 0 first (omega arith) first_size

        front_is : first ++ body ≡ front c h payload
        unfolding front
        front_is = ap₂ ◌++◌ e1 (e5 ∙ ap₂ (λ (x y : List ℕ). moded 16 c CbcEncrypt x y) (e2 ∙ ap c.enc e1) e3)

        front_size : length (first ++ body) ≡ 496
        front_size = omega (arith, length-append first body, first_size, l5)

        after_body : o2 ≡ (first ++ body) ++ drop 496 out
        after_body =
            e6 ∙ ap₂ (λ (x y : List ℕ). x ++ (body ++ y)) (ap (take 16) after_head ∙ take_at first (drop 16 out) 16 first_size)
            (ap (λ (x : List ℕ). drop 480 (drop 16 x)) after_head ∙ ap (drop 480) (drop_at first (drop 16 out) 16 first_size) ∙ drop-drop 480 16 out)
            ∙ sym (append_assoc first body (drop 496 out))

        front_taken : take 496 o2 ≡ first ++ body
        front_taken = ap (take 496) after_body ∙ take_at (first ++ body) (drop 496 out) 496 front_size

        rest_left : drop 512 o2 ≡ drop 512 out
        rest_left =
            ap (drop 512) after_body ∙ sym (drop-drop 16 496 ((first ++ body) ++ drop 496 out)) ∙ ap (drop 16) (drop_at (first ++ body) (drop 496 out) 496 front_size) ∙ drop-drop 16 496 out

        sealed_is : (first ++ body) ++ made ≡ sealed c k tail h payload
        unfolding sealed
        sealed_is = ap₂ ◌++◌ front_is (e7 ∙ ap (λ (x : List ℕ). k (x ++ tail)) (front_taken ∙ front_is))

        sealed_size : length (sealed c k tail h payload) ≡ 512
        sealed_size = omega (arith, ap length sealed_is, length-append (first ++ body) made, front_size)

        pub seal_by : o3 ≡ over (sealed c k tail h payload) out
        seal_by =
            let room : 496 + 16 ≤ length o2 = omega (arith, ap length after_body, length-append (first ++ body) (drop 496 out), front_size, length-drop 496 out) in
            e8 ∙ put_is o2 496 made room l7
            ∙ ap₂ (λ (x y : List ℕ). x ++ (made ++ y)) front_taken rest_left
            ∙ sym (append_assoc (first ++ body) made (drop 512 out))
            ∙ ap₂ (λ (x : List ℕ) (n : ℕ). x ++ drop n out) sealed_is (sym sealed_size)

-- the part of the output that takes the body, where it is lent
pub middle_size : (h : Head) (out o1 : List ℕ) → 512 ≤ length out → o1 ≡ copied (head_bytes_of h) 0 out → length (take 480 (drop 16 o1)) ≡ 480
middle_size h out o1 lo e =
    let p = put_is out 0 (head_bytes_of h) (omega arith) (head_octets h).size in
    length-take-le 480 (drop 16 o1) (omega (arith, length-drop 16 o1, ap length (e ∙ p), length-append (head_bytes_of h) (drop 16 out), (head_octets h).size, length-drop 16 out))
