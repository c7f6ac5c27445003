-- The decrypted bytes of a block: written over the front of an output, and zero from a place on, piece by piece. Assumes nothing.
use mathlib.Core.Path.{◌≡◌, refl, sym, ap, ap₂, ◌∙◌}
use mathlib.Core.Bool.{Bool, true, false, ◌&&◌}
use mathlib.Core.List.{List, [], ◌∷◌, ◌++◌, append-nil}
use Prim.Native.Nat.{ℕ, zero, suc, ◌+◌, ◌-◌, ◌*◌, ◌/◌, ◌%◌, ◌≤◌, ◌<◌}
use native.Mathlib.Omega.{arith}
use borrow.Author.Tests.{eq-eqb, ne_eqb, le-leb, lt-leb}
use lib.Dec.{eqb}
use lib.ListN.{length, take, drop, length-drop, drop_of_length-le}
use lib.Seq.{take-add, take-take, drop_at, drop-drop, drop-append-le, length-take-le}
use Rattle.octets.specs.Blocks.{◌⊕◌, BlockCipher}
use Rattle.octets_block.specs.Blocks.{block_at}
use Rattle.octets_block.proofs.Laws.{block-at}
use Rattle.modes_spec.specs.Pieces.{output_of, after, piece}
use Rattle.modes_spec.specs.Modes.{machine, moded}
use Rattle.modes_spec.specs.Equations.{previous}
use Rattle.modes_spec.specs.declared.Operation.TheVariants.{CbcDecrypt}
use Rattle.modes_spec.proofs.Pieces.{after_more}
use Rattle.modes_spec.proofs.Joining.{made_split}
use Rattle.image_spec.specs.Sealed.{opened, all_zero, zero_after}
use Rattle.image_spec.specs.Model.{filled_out, opened_over}
use Rattle.image_spec.proofs.Sizes.{Sixteen, made_size, body_length, opened_made, opened_size}

-- ---- zeros from a place on

zero_end : (s : List ℕ) (i : ℕ) → length s ≤ i → true ≡ all_zero (drop i s)
zero_end s i h = rw (drop_of_length-le s {i = i} h)

zero_append : (a b : List ℕ) → all_zero (a ++ b) ≡ (all_zero a && all_zero b)
zero_append [] b = refl
zero_append (x ∷ a) b = go (eqb x 0) (zero_append a b)
  where
    go : (t : Bool) → all_zero (a ++ b) ≡ (all_zero a && all_zero b) → (t && all_zero (a ++ b)) ≡ ((t && all_zero a) && all_zero b)
    go true e = e
    go false e = refl

-- ---- what is no block, and what has no fill

module _ (c : BlockCipher) (len : ℕ) (b : List ℕ) where
  pub fill_of_none : (length b ≡ 512 → ⊥) → false ≡ filled_out c len b
  unfolding filled_out
  fill_of_none n = rw (ne_eqb (length b) 512 n)

  module _ (size : length b ≡ 512) where
    pub fill_of_block : (r : Bool) → r ≡ zero_after c len b → r ≡ filled_out c len b
    unfolding filled_out
    fill_of_block r e = rw (eq-eqb (length b) 512 size) e

    pub fill_past : Sixteen c.enc → Sixteen c.dec → 480 ≤ len → true ≡ filled_out c len b
    unfolding zero_after
    fill_past es ds h = fill_of_block true (zero_end (opened c b) len (omega (arith, opened_size b size c es ds)))

-- ---- the pieces of a block of 512 bytes

middle_of : (x : List ℕ) (k : ℕ) → k ≤ length x → drop k (take (k + 16) x) ≡ take 16 (drop k x)
middle_of x k h = ap (drop k) (take-add k 16 x) ∙ drop_at (take k x) (take 16 (drop k x)) k (length-take-le k x h)

-- what is left to decrypt of a block from piece i on, where that is chained to a value
unfoldable pub left : BlockCipher → List ℕ → ℕ → List ℕ → List ℕ
left c b i chain = output_of 16 (machine c CbcDecrypt) chain (30 - i) (drop (i * 16) (take 480 (drop 16 b)))

pub fill_end : (c : BlockCipher) (b : List ℕ) (i from : ℕ) (chain : List ℕ) → 30 ≤ i → true ≡ all_zero (drop from (left c b i chain))
unfolding left output_of
fill_end c b i from chain h =
    let n : 30 - i ≡ 0 = omega arith in
    rw n (zero_end [] from (omega arith))

module _ (b : List ℕ) (size : length b ≡ 512) where
  body_piece : (i : ℕ) → i < 30 → block_at b (16 + 16 * i) ≡ piece 16 (take 480 (drop 16 b)) i
  body_piece i h =
      let e : 16 + 16 * i ≡ 16 + i * 16 = omega arith in
      block-at b (16 + 16 * i) (omega arith) ∙ ap (λ (k : ℕ). take 16 (drop k b)) e ∙ ap (take 16) (sym (drop-drop (i * 16) 16 b))
      ∙ sym (middle_of (drop 16 b) (i * 16) (omega (arith, length-drop 16 b)))
      ∙ ap (drop (i * 16)) (sym (take-take (i * 16 + 16) 480 (drop 16 b) (omega arith)))
      ∙ middle_of (take 480 (drop 16 b)) (i * 16) (omega (arith, body_length b size))

  -- what a piece is chained to
  pub first_chain : (iv : List ℕ) (i : ℕ) → i ≡ 0 → iv ≡ previous 16 iv (take 480 (drop 16 b)) i
  first_chain iv i e = rw e

  pub later_chain : (iv : List ℕ) (i : ℕ) → (i ≡ 0 → ⊥) → i < 30 → block_at b (16 * i) ≡ previous 16 iv (take 480 (drop 16 b)) i
  later_chain iv zero n h = absurd (n refl)
  later_chain iv (suc i) n h = let e : 16 * suc i ≡ 16 + 16 * i = omega arith in ap (block_at b) e ∙ body_piece i (omega arith)

  module _ (c : BlockCipher) where
    chain_after : (st s : List ℕ) (i : ℕ) → previous 16 st s i ≡ after 16 (machine c CbcDecrypt) st i s
    unfolding after
    chain_after st s zero = refl
    chain_after st s (suc i) = sym (after_more 16 (machine c CbcDecrypt) i st s)

    -- the first piece with fill, and the place in it
    pub fill_start : Sixteen c.enc → Sixteen c.dec → (len : ℕ) → len < 480 → (chain : List ℕ) → chain ≡ previous 16 (c.enc (take 16 b)) (take 480 (drop 16 b)) (len / 16)
        → all_zero (drop (len % 16) (left c b (len / 16) chain)) ≡ zero_after c len b
    unfolding left zero_after
    fill_start es ds len h chain e =
        let m = machine c CbcDecrypt in
        let body = take 480 (drop 16 b) in
        let iv = c.enc (take 16 b) in
        let i = len / 16 in
        let n : i + (30 - i) ≡ 30 = omega arith in
        let k : i * 16 + len % 16 ≡ len = omega arith in
        let x = output_of 16 m iv i body in
        let y = output_of 16 m (after 16 m iv i body) (30 - i) (drop (i * 16) body) in
        let split : opened c b ≡ x ++ y = opened_made b size c ∙ ap (λ (j : ℕ). output_of 16 m iv j body) (sym n) ∙ made_split 16 m i (30 - i) iv body in
        let l : length x ≡ i * 16 = made_size c ds i iv body (es (take 16 b)) (omega (arith, body_length b size)) in
        let d : drop len (opened c b) ≡ drop (len % 16) y =
        ap₂ (λ (j : ℕ) (s : List ℕ). drop j s) (sym k) split ∙ sym (drop-drop (len % 16) (i * 16) (x ++ y)) ∙ ap (drop (len % 16)) (drop_at x y (i * 16) l) in
        ap (λ (s : List ℕ). all_zero (drop (len % 16) (output_of 16 m s (30 - i) (drop (i * 16) body)))) (e ∙ chain_after iv body i) ∙ sym (ap all_zero d)

    -- one piece more
    module _ (i from : ℕ) (chain p out next : List ℕ) (h : i < 30) (f : from < 16) (ep : p ≡ block_at b (16 + 16 * i)) (eo : out ≡ c.dec p ⊕ chain) (lo : length out ≡ 16) (en : next ≡ p) where
      left_step : left c b i chain ≡ out ++ left c b (i + 1) next
      unfolding left output_of
      left_step =
          let body = take 480 (drop 16 b) in
          let n : 30 - i ≡ suc (30 - (i + 1)) = omega arith in
          let j : (i + 1) * 16 ≡ i * 16 + 16 = omega arith in
          let d : drop ((i + 1) * 16) body ≡ drop 16 (drop (i * 16) body) = ap (λ (k : ℕ). drop k body) j ∙ sym (drop-drop 16 (i * 16) body) in
          let q : take 16 (drop (i * 16) body) ≡ p = sym (ep ∙ body_piece i h) in
          rw (n, d, eo, en, q)

      first_zero : all_zero (drop from (left c b i chain)) ≡ (all_zero (drop from out) && all_zero (left c b (i + 1) next))
      first_zero = ap (λ (s : List ℕ). all_zero (drop from s)) left_step ∙ ap all_zero (drop-append-le from out (left c b (i + 1) next) (omega arith)) ∙ zero_append (drop from out) (left c b (i + 1) next)

      pub fill_not : all_zero (drop from out) ≡ false → false ≡ all_zero (drop from (left c b i chain))
      fill_not e = sym (first_zero ∙ ap (λ (t : Bool). t && all_zero (left c b (i + 1) next)) e)

      pub fill_on : all_zero (drop from out) ≡ true → all_zero (drop 0 (left c b (i + 1) next)) ≡ all_zero (drop from (left c b i chain))
      fill_on e = sym (first_zero ∙ ap (λ (t : Bool). t && all_zero (left c b (i + 1) next)) e)

-- ---- opening

module _ (c : BlockCipher) (b out : List ℕ) where
  pub open_none : (length b ≡ 512 → ⊥) → out ≡ opened_over c b out
  unfolding opened_over
  open_none n = rw (ne_eqb (length b) 512 n)

  pub open_short : length b ≡ 512 → length out < 480 → out ≡ opened_over c b out
  unfolding opened_over
  open_short e h = rw (eq-eqb (length b) 512 e, lt-leb 480 (length out) h)

  pub open_by : length b ≡ 512 → 480 ≤ length out → Sixteen c.enc → Sixteen c.dec
      → (first iv part o : List ℕ) → first ≡ block_at b 0 → iv ≡ c.enc first → part ≡ moded 16 c CbcDecrypt iv (take 480 (drop 16 b)) → o ≡ part ++ drop 480 out
      → o ≡ opened_over c b out
  unfolding opened_over opened
  open_by size room es ds first iv part o ef ei ep eo =
      let e : iv ≡ c.enc (take 16 b) = ei ∙ ap c.enc (ef ∙ block-at b 0 (omega arith)) in
      let p : part ≡ opened c b = ep ∙ ap (λ (x : List ℕ). moded 16 c CbcDecrypt x (take 480 (drop 16 b))) e in
      rw (eq-eqb (length b) 512 size, le-leb 480 (length out) room)
      (eo ∙ ap₂ (λ (x : List ℕ) (n : ℕ). x ++ drop n out) p (sym (opened_size b size c es ds)))

  -- a part of just 480 bytes is then the decrypted bytes
  pub open_part : length b ≡ 512 → length out ≡ 480 → Sixteen c.enc → Sixteen c.dec → (o : List ℕ) → o ≡ opened_over c b out → o ≡ opened c b
  unfolding opened_over
  open_part size room es ds o e =
      let none : drop (length (opened c b)) out ≡ [] = drop_of_length-le out {i = length (opened c b)} (omega (arith, opened_size b size c es ds)) in
      e ∙ rw (eq-eqb (length b) 512 size, le-leb 480 (length out) (omega arith), none) (append-nil (opened c b))
