-- Piece i of what an operation gives is as the standard's equation says, and what it hands on as the standard chains. Assumes nothing.
use mathlib.Core.Path.{◌≡◌, refl, sym, ap, ◌∙◌}
use mathlib.Core.List.{List}
use Prim.Native.Nat.{ℕ, zero, suc, ◌*◌, ◌<◌}
use native.Mathlib.Nat.{not-suc-le-zero, le_of_suc-le-suc, suc-mul}
use native.Mathlib.Omega.{arith}
use lib.ListN.{length, take, drop, length-take, length-drop}
use Rattle.octets.specs.Octets.{Bytes}
use Rattle.octets.specs.Blocks.{◌⊕◌, BlockCipher, Lawful}
use Rattle.modes_spec.specs.Pieces.{Machine, output_of, after, piece, piece_count}
use Rattle.modes_spec.specs.Modes.{machine, any_length, Unless, moded, handed_on}
use Rattle.modes_spec.specs.Equations.{previous, output_block, Equation, Handed}
use Rattle.modes_spec.specs.declared.Operation.{Operation}
use Rattle.modes_spec.specs.declared.Operation.TheVariants.{EcbEncrypt, EcbDecrypt, CbcEncrypt, CbcDecrypt, CfbEncrypt, CfbDecrypt, Ofb}
use Rattle.modes_spec.proofs.Pieces.{piece_suc, piece_zero, after_more, Each, Keeps, made_length, below_count, last_begins}
use Rattle.modes_spec.proofs.Undo.{ChainOf, PieceOf, first_of, keeps, whole}

-- piece i comes out of the state after the pieces before it
module _ (z : ℕ) (m : Machine) (G P : List ℕ → Type 0) (k : Keeps m G P) where
  -- what comes out of the first piece, and what comes out of the others
  first_made : (n : ℕ) (st s : List ℕ) → G st → Each z P (suc n) s
      → (take z (output_of z m st (suc n) s) ≡ m.out st (take z s)) × (drop z (output_of z m st (suc n) s) ≡ output_of z m (m.next st (take z s)) n (drop z s))
  unfolding output_of
  first_made n st s g e =
      let p = take z s in
      let lq = k.size st p g e.0 in
      let lt = made_length z m G P k n (m.next st p) (drop z s) (k.state st p g e.0) e.1 in
      first_of z (m.out st p) (output_of z m (m.next st p) n (drop z s))
      (omega (arith, lq, length-take z s)) (λ l. omega (arith, lq, lt, length-take z s, length-drop z s))

  piece_made : (n i : ℕ) (st s : List ℕ) → G st → Each z P n s → i < n → piece z (output_of z m st n s) i ≡ m.out (after z m st i s) (piece z s i)
  unfolding after
  piece_made zero i st s g e h = absurd (not-suc-le-zero h)
  piece_made (suc n) zero st s g e h =
      piece_zero z m (output_of z m st (suc n) s) ∙ (first_made n st s g e).0 ∙ ap (m.out st) (sym (piece_zero z m s))
  piece_made (suc n) (suc i) st s g e h =
      let st' = m.next st (take z s) in
      piece_suc z m (output_of z m st (suc n) s) i ∙ ap (λ (x : List ℕ). piece z x i) (first_made n st s g e).1
      ∙ piece_made n i st' (drop z s) (k.state st (take z s) g e.0) e.1 (le_of_suc-le-suc h)
      ∙ ap (m.out (after z m st' i (drop z s))) (sym (piece_suc z m s i))

module _ (z : ℕ) (c : BlockCipher) (l : Lawful z c) (n : ℕ) (some : 0 < z) (iv inp : List ℕ) (b : Bytes inp) where
  -- the piece before piece i is there
  abbrev Begun : ℕ → Type 0
  Begun zero = Unit {0}
  Begun (suc i) = i * z < length inp

  begun : (i : ℕ) → i * z < length inp → Begun i
  begun zero k = tt
  begun (suc i) k = omega (arith, suc-mul i z)

  begun_all : (k : ℕ) → piece_count z inp ≡ k → Begun k
  begun_all zero e = tt
  begun_all (suc i) e = last_begins z inp some i e

  module _ (o : Operation) (g : ChainOf z o iv) (e : Unless (any_length o) (length inp ≡ n * z)) where
    -- what the operation makes
    result : List ℕ
    result = moded z c o iv inp

    came_out : (i : ℕ) → i * z < length inp → piece z result i ≡ (machine c o).out (after z (machine c o) iv i inp) (piece z inp i)
    unfolding result
    came_out i k =
        piece_made z (machine c o) (ChainOf z o) (PieceOf z o) (keeps z c l o) (piece_count z inp) i iv inp g
        (whole z c l o n iv inp some g b e) (below_count z inp some i k)

    -- the chaining value before piece i, where it is what came out, or what went in
    chained_out : ((st p : List ℕ) → (machine c o).next st p ≡ (machine c o).out st p)
        → (i : ℕ) → Begun i → after z (machine c o) iv i inp ≡ previous z iv result i
    unfolding after
    chained_out q zero k = refl
    chained_out q (suc i) k = after_more z (machine c o) i iv inp ∙ q _ _ ∙ sym (came_out i k)

    chained_in : ((st p : List ℕ) → (machine c o).next st p ≡ p) → (i : ℕ) → after z (machine c o) iv i inp ≡ previous z iv inp i
    unfolding after
    chained_in q zero = refl
    chained_in q (suc i) = after_more z (machine c o) i iv inp ∙ q _ _

    enciphered : ((st p : List ℕ) → (machine c o).next st p ≡ c.enc st) → (i : ℕ) → after z (machine c o) iv i inp ≡ output_block c iv i
    unfolding after output_block
    enciphered q zero = refl
    enciphered q (suc i) = after_more z (machine c o) i iv inp ∙ q _ _ ∙ ap c.enc (enciphered q i)

  pub equation : (o : Operation) → ChainOf z o iv → Unless (any_length o) (length inp ≡ n * z) → (i : ℕ) → i * z < length inp → Equation z c o iv inp (moded z c o iv inp) i
  unfolding result output_block
  equation EcbEncrypt g e i k = came_out EcbEncrypt g e i k
  equation EcbDecrypt g e i k = came_out EcbDecrypt g e i k
  equation CbcEncrypt g e i k = came_out CbcEncrypt g e i k ∙ ap (λ (x : List ℕ). c.enc (piece z inp i ⊕ x)) (chained_out CbcEncrypt g e (λ st p. refl) i (begun i k))
  equation CbcDecrypt g e i k = came_out CbcDecrypt g e i k ∙ ap (λ (x : List ℕ). c.dec (piece z inp i) ⊕ x) (chained_in CbcDecrypt g e (λ st p. refl) i)
  equation CfbEncrypt g e i k = came_out CfbEncrypt g e i k ∙ ap (λ (x : List ℕ). piece z inp i ⊕ c.enc x) (chained_out CfbEncrypt g e (λ st p. refl) i (begun i k))
  equation CfbDecrypt g e i k = came_out CfbDecrypt g e i k ∙ ap (λ (x : List ℕ). piece z inp i ⊕ c.enc x) (chained_in CfbDecrypt g e (λ st p. refl) i)
  equation Ofb g e i k = came_out Ofb g e i k ∙ ap (λ (x : List ℕ). piece z inp i ⊕ c.enc x) (enciphered Ofb g e (λ st p. refl) i)

  pub handed-on : (o : Operation) → ChainOf z o iv → Unless (any_length o) (length inp ≡ n * z) → Handed z c o iv inp (moded z c o iv inp) (handed_on z c o iv inp)
  unfolding result
  handed-on EcbEncrypt g e = tt
  handed-on EcbDecrypt g e = tt
  handed-on CbcEncrypt g e = chained_out CbcEncrypt g e (λ st p. refl) (piece_count z inp) (begun_all (piece_count z inp) refl)
  handed-on CbcDecrypt g e = chained_in CbcDecrypt g e (λ st p. refl) (piece_count z inp)
  handed-on CfbEncrypt g e = chained_out CfbEncrypt g e (λ st p. refl) (piece_count z inp) (begun_all (piece_count z inp) refl)
  handed-on CfbDecrypt g e = chained_in CfbDecrypt g e (λ st p. refl) (piece_count z inp)
  handed-on Ofb g e = enciphered Ofb g e (λ st p. refl) (piece_count z inp)
