-- What an operation makes is undone by the other way of its mode, in OFB by itself. Assumes nothing.
use mathlib.Core.Path.{◌≡◌, refl, sym, ◌∙◌}
use mathlib.Core.List.{List, [], ◌++◌, append-nil}
use mathlib.Core.Logic.{⊎_elim}
use Prim.Native.Nat.{ℕ, zero, suc, ◌≤◌, ◌<◌, ◌*◌}
use native.Mathlib.Nat.{eq-or-lt_of_le}
use native.Mathlib.Omega.{arith}
use lib.ListN.{length, take, drop, length-take, length-drop, take-append-drop, drop_of_length-le}
use lib.Seq.{take_at, drop_at, take_all}
use Rattle.octets.specs.Octets.{Bytes, Octets}
use Rattle.octets.specs.Blocks.{◌⊕◌, BlockCipher, Lawful}
use Rattle.octets.proofs.Blocks.{⊕-undo, ⊕-length, ⊕-bytes, ⊕-octets, length_nil}
use Rattle.modes_spec.specs.Pieces.{Machine, output_of, piece_count}
use Rattle.modes_spec.specs.Modes.{machine, other, any_length, Unless, moded}
use Rattle.modes_spec.specs.declared.Operation.{Operation}
use Rattle.modes_spec.specs.declared.Operation.TheVariants.{EcbEncrypt, EcbDecrypt, CbcEncrypt, CbcDecrypt, CfbEncrypt, CfbDecrypt, Ofb}
use Rattle.modes_spec.proofs.Pieces.{Each, each_whole, Part, each_part, Keeps, made_length, count_whole, count_covers}

-- m' undoes m, piece by piece
pub record Undoes (m m' : Machine) (G P : List ℕ → Type 0) : Type 0 where
  pub back : (st p : List ℕ) → G st → P p → m'.out st (m.out st p) ≡ p
  pub along : (st p : List ℕ) → G st → P p → m'.next st (m.out st p) ≡ m.next st p

-- a piece of at most z bytes and the rest, which is none where the piece is short
pub first_of : (z : ℕ) (q r : List ℕ) → length q ≤ z → (length q < z → length r ≡ 0) → (take z (q ++ r) ≡ q) × (drop z (q ++ r) ≡ r)
first_of z q r h k = ⊎_elim full short (eq-or-lt_of_le h)
  where
    full : length q ≡ z → (take z (q ++ r) ≡ q) × (drop z (q ++ r) ≡ r)
    full e = (take_at q r z e, drop_at q r z e)

    short : length q < z → (take z (q ++ r) ≡ q) × (drop z (q ++ r) ≡ r)
    short l =
        let e : r ≡ [] = length_nil r (k l) in
        rw (e, append-nil q) (take_all z q (omega arith), drop_of_length-le q {i = z} (omega arith))

pub undone : (z : ℕ) (m m' : Machine) (G P : List ℕ → Type 0) → Keeps m G P → Undoes m m' G P
    → (n : ℕ) (st s : List ℕ) → G st → Each z P n s → output_of z m' st n (output_of z m st n s) ≡ s
unfolding output_of
undone z m m' G P k u zero st s g e = sym (length_nil s e)
undone z m m' G P k u (suc n) st s g e =
    let p = take z s in
    let r = drop z s in
    let g' = k.state st p g e.0 in
    let q = m.out st p in
    let lq = k.size st p g e.0 in
    let t = output_of z m (m.next st p) n r in
    let lt = made_length z m G P k n (m.next st p) r g' e.1 in
    let f = first_of z q t (omega (arith, lq, length-take z s)) (λ l. omega (arith, lq, lt, length-take z s, length-drop z s)) in
    let ih = undone z m m' G P k u n (m.next st p) r g' e.1 in
    rw (f.0, f.1, u.back st p g e.0, u.along st p g e.0, ih) (take-append-drop z s)

-- ---- the operations

-- the chaining values of an operation: ECB has none, the others a block
abbrev pub ChainOf : ℕ → Operation → List ℕ → Type 0
ChainOf z EcbEncrypt = λ st. Unit {0}
ChainOf z EcbDecrypt = λ st. Unit {0}
ChainOf z CbcEncrypt = Octets z
ChainOf z CbcDecrypt = Octets z
ChainOf z CfbEncrypt = Octets z
ChainOf z CfbDecrypt = Octets z
ChainOf z Ofb = Octets z

-- the pieces of an operation: whole ones, and short ones too where any length goes
abbrev pub PieceOf : ℕ → Operation → List ℕ → Type 0
PieceOf z EcbEncrypt = Octets z
PieceOf z EcbDecrypt = Octets z
PieceOf z CbcEncrypt = Octets z
PieceOf z CbcDecrypt = Octets z
PieceOf z CfbEncrypt = Octets z
PieceOf z CfbDecrypt = Octets z
PieceOf z Ofb = Part z

-- so is an input cut: n whole pieces, or any number of bytes where any length goes
pub cut : (z : ℕ) (o : Operation) (n : ℕ) (s : List ℕ) → 0 < z → Bytes s → Unless (any_length o) (length s ≡ n * z) → Each z (PieceOf z o) (piece_count z s) s
cut z EcbEncrypt n s some b e = rw (count_whole z n s some e) (each_whole z n s e b)
cut z EcbDecrypt n s some b e = rw (count_whole z n s some e) (each_whole z n s e b)
cut z CbcEncrypt n s some b e = rw (count_whole z n s some e) (each_whole z n s e b)
cut z CbcDecrypt n s some b e = rw (count_whole z n s some e) (each_whole z n s e b)
cut z CfbEncrypt n s some b e = rw (count_whole z n s some e) (each_whole z n s e b)
cut z CfbDecrypt n s some b e = rw (count_whole z n s some e) (each_whole z n s e b)
cut z Ofb n s some b e = each_part z (piece_count z s) s (count_covers z s some) b

module _ (z : ℕ) (c : BlockCipher) (l : Lawful z c) where
  -- a piece and the cipher of a chaining value
  stream : (st p : List ℕ) → Octets z st → Octets z p → Octets z (p ⊕ c.enc st)
  stream st p g h = ⊕-octets h (l.enc_block st g)

  added : {x y : List ℕ} → Octets z x → Octets z y → (x ⊕ y) ⊕ y ≡ x
  added {x} {y} a b = ⊕-undo x y (omega (arith, a.size, b.size))

  unstream : (st p : List ℕ) → Octets z st → length p ≤ z → (p ⊕ c.enc st) ⊕ c.enc st ≡ p
  unstream st p g h = ⊕-undo p (c.enc st) (omega (arith, (l.enc_block st g).size))

  -- what comes out of a piece is bytes, as many as the piece has
  Came : List ℕ → List ℕ → Type 0
  Came p x = (length x ≡ length p) × Bytes x

  came_whole : {p x : List ℕ} → Octets z p → Octets z x → Came p x
  unfolding Came
  came_whole h k = (k.size ∙ sym h.size, k.bytes)

  came_part : (st p : List ℕ) → Octets z st → Part z p → Came p (p ⊕ c.enc st)
  unfolding Came
  came_part st p g h =
      let k = l.enc_block st g in
      let room = h.size in
      (⊕-length p (c.enc st) (omega (arith, k.size)), ⊕-bytes p (c.enc st) h.bytes k.bytes)

  came : (o : Operation) (st p : List ℕ) → ChainOf z o st → PieceOf z o p → Came p ((machine c o).out st p)
  came EcbEncrypt st p g h = came_whole h (l.enc_block p h)
  came EcbDecrypt st p g h = came_whole h (l.dec_block p h)
  came CbcEncrypt st p g h = came_whole h (l.enc_block (p ⊕ st) (⊕-octets h g))
  came CbcDecrypt st p g h = came_whole h (⊕-octets (l.dec_block p h) g)
  came CfbEncrypt st p g h = came_whole h (stream st p g h)
  came CfbDecrypt st p g h = came_whole h (stream st p g h)
  came Ofb st p g h = came_part st p g h

  chain : (o : Operation) (st p : List ℕ) → ChainOf z o st → PieceOf z o p → ChainOf z o ((machine c o).next st p)
  chain EcbEncrypt st p g h = g
  chain EcbDecrypt st p g h = g
  chain CbcEncrypt st p g h = l.enc_block (p ⊕ st) (⊕-octets h g)
  chain CbcDecrypt st p g h = h
  chain CfbEncrypt st p g h = stream st p g h
  chain CfbDecrypt st p g h = h
  chain Ofb st p g h = l.enc_block st g

  pub keeps : (o : Operation) → Keeps (machine c o) (ChainOf z o) (PieceOf z o)
  unfolding Came
  keeps o = record { state = chain o; size = λ st p g h. (came o st p g h).0; bytes = λ st p g h. (came o st p g h).1 }

  back : (o : Operation) (st p : List ℕ) → ChainOf z o st → PieceOf z o p → (machine c (other o)).out st ((machine c o).out st p) ≡ p
  back EcbEncrypt st p g h = l.dec_enc p h
  back EcbDecrypt st p g h = l.enc_dec p h
  back CbcEncrypt st p g h = rw (l.dec_enc (p ⊕ st) (⊕-octets h g)) (added h g)
  back CbcDecrypt st p g h = rw (added (l.dec_block p h) g) (l.enc_dec p h)
  back CfbEncrypt st p g h = unstream st p g (omega (arith, h.size))
  back CfbDecrypt st p g h = unstream st p g (omega (arith, h.size))
  back Ofb st p g h = unstream st p g h.size

  along : (o : Operation) (st p : List ℕ) → ChainOf z o st → PieceOf z o p → (machine c (other o)).next st ((machine c o).out st p) ≡ (machine c o).next st p
  along EcbEncrypt st p g h = refl
  along EcbDecrypt st p g h = refl
  along CbcEncrypt st p g h = refl
  along CbcDecrypt st p g h = rw (added (l.dec_block p h) g) (l.enc_dec p h)
  along CfbEncrypt st p g h = refl
  along CfbDecrypt st p g h = unstream st p g (omega (arith, h.size))
  along Ofb st p g h = refl

  pub undoes : (o : Operation) → Undoes (machine c o) (machine c (other o)) (ChainOf z o) (PieceOf z o)
  undoes o = record { back = back o; along = along o }

  -- on n whole pieces, or on any length: as long as the input, and undone
  module _ (o : Operation) (n : ℕ) (iv s : List ℕ) (some : 0 < z) (g : ChainOf z o iv) (b : Bytes s) (e : Unless (any_length o) (length s ≡ n * z)) where
    pub whole : Each z (PieceOf z o) (piece_count z s) s
    whole = cut z o n s some b e

    pub moded_length : length (moded z c o iv s) ≡ length s
    moded_length = made_length z (machine c o) (ChainOf z o) (PieceOf z o) (keeps o) (piece_count z s) iv s g whole

    pub moded_undone : moded z c (other o) iv (moded z c o iv s) ≡ s
    moded_undone =
        rw moded_length
        (undone z (machine c o) (machine c (other o)) (ChainOf z o) (PieceOf z o) (keeps o) (undoes o) (piece_count z s) iv s g whole)
