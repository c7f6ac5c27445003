-- What is sealed is opened again, and a block with a right check that is a sealed one outside one piece is that one. Assumes nothing.
use mathlib.Core.Path.{◌≡◌, refl, sym, ap, ap₂, ◌∙◌}
use mathlib.Core.Bool.{Bool, true, false, ◌&&◌}
use mathlib.Core.Logic.{⊎_elim}
use mathlib.Core.List.{List, [], ◌∷◌, ◌++◌, append_assoc}
use Prim.Native.Nat.{ℕ, zero, suc, ◌+◌, ◌-◌, ◌%◌, ◌≤◌, ◌<◌}
use native.Mathlib.Omega.{arith}
use borrow.Author.Tests.{eqb-true}
use lib.Dec.{eqb}
use lib.ListN.{length, get_or, take, drop, replicate, length-take, length-drop, length-append, take-append-drop, get_or-append}
use lib.Seq.{take_at, drop_at, length-take-le, ext_get_or, get_or-take, get_or-drop, get_or-append-add}
use Rattle.octets.specs.Octets.{pad_to, Bytes, Octets}
use Rattle.octets.specs.Blocks.{BlockCipher, Lawful}
use Rattle.octets.proofs.Xor.{lt_or_le}
use Rattle.octets.proofs.Fill.{get_d_pad_to, length_pad_to}
use Rattle.octets.proofs.Blocks.{take_bytes, append_bytes}
use Rattle.octets.proofs.Same.{same_true, same_refl}
use Rattle.modes_spec.specs.Modes.{moded}
use Rattle.modes_spec.specs.declared.Operation.TheVariants.{CbcEncrypt, CbcDecrypt}
use Rattle.modes_spec.proofs.Sixteen.{length_16, undone_16, bytes_16}
use Rattle.cmac_spec.specs.Cmac.{cmac, SameOutside}
use Rattle.cmac_spec.proofs.OnePiece.{cmac_octets, one_piece}
use Rattle.image_layout.specs.Layout.{head_of_lem, head_bytes_of}
use Rattle.image_layout.specs.declared.Head.{Head}
use Rattle.image_layout.proofs.Laws.{Wide, head_of, head_octets}
use Rattle.image_spec.specs.Sealed.{filled, front, covered, sealed, opened, checks, all_zero, zero_after, fill_zero}

-- ---- zeros

zeros_zero : (n : ℕ) → all_zero (replicate n 0) ≡ true
zeros_zero zero = refl
zeros_zero (suc n) = zeros_zero n

zero_all : (s : List ℕ) → all_zero s ≡ true → s ≡ replicate (length s) 0
zero_all [] e = refl
zero_all (x ∷ s) e = go (eqb x 0) refl e (zero_all s)
  where
    go : (t : Bool) → eqb x 0 ≡ t → (t && all_zero s) ≡ true → (all_zero s ≡ true → s ≡ replicate (length s) 0) → x ∷ s ≡ replicate (length (x ∷ s)) 0
    go true f g r = ap₂ ◌∷◌ (eqb-true x 0 f) (r g)
    go false f g r = let z : ◌≡◌ {A = ℕ} 0 1 = cc in absurd (omega arith)

-- ---- payload and fill

filled_length : (p : List ℕ) → length p ≤ 480 → length (filled p) ≡ 480
filled_length p h = length_pad_to 480 p h

filled_bytes : (p : List ℕ) → Bytes p → Bytes (filled p)
filled_bytes p b k = rw (get_d_pad_to 480 p k) (b k)

pub filled_payload : (p : List ℕ) (n : ℕ) → length p ≡ n → take n (filled p) ≡ p
unfolding pad_to
filled_payload p n e = take_at p (replicate (480 - length p) 0) n e

filled_zero : (p : List ℕ) (n : ℕ) → length p ≡ n → all_zero (drop n (filled p)) ≡ true
unfolding pad_to
filled_zero p n e = ap all_zero (drop_at p (replicate (480 - length p) 0) n e) ∙ zeros_zero (480 - length p)

-- a list of 480 that is zero from n on is its first n and fill
pub fill_of : (s : List ℕ) (n : ℕ) → length s ≡ 480 → n ≤ 480 → all_zero (drop n s) ≡ true → filled (take n s) ≡ s
unfolding pad_to
fill_of s n e h z =
    let k : 480 - length (take n s) ≡ length (drop n s) = omega (arith, length-take-le n s (omega arith), length-drop n s) in
    ap (λ (x : ℕ). take n s ++ replicate x 0) k ∙ ap (take n s ++◌) (sym (zero_all (drop n s) z)) ∙ take-append-drop n s

-- ---- a sealed block

module _ (ek ck : BlockCipher) (le : Lawful 16 ek) (lc : Lawful 16 ck) (h : Head) (p : List ℕ) (lp : length p ≤ 480) (bp : Bytes p) where
  iv : List ℕ
  iv = ek.enc (head_bytes_of h)

  iv_octets : Octets 16 iv
  unfolding iv
  iv_octets = le.enc_block (head_bytes_of h) (head_octets h)

  whole_pieces : length (filled p) % 16 ≡ 0
  whole_pieces = omega (arith, filled_length p lp)

  body : List ℕ
  body = moded 16 ek CbcEncrypt iv (filled p)

  body_length : length body ≡ 480
  unfolding body
  body_length = length_16 ek le CbcEncrypt iv (filled p) iv_octets (filled_bytes p bp) whole_pieces ∙ filled_length p lp

  front_size : length (front ek h p) ≡ 496
  unfolding front body iv
  front_size = length-append (head_bytes_of h) body ∙ omega (arith, (head_octets h).size, body_length)

  front_bytes : Bytes (front ek h p)
  unfolding front body iv
  front_bytes = append_bytes (head_bytes_of h) body (head_octets h).bytes (bytes_16 ek le CbcEncrypt iv (filled p) iv_octets (filled_bytes p bp) whole_pieces)

  module _ (tail : List ℕ) (bt : Bytes tail) where
    check_octets : Octets 16 (cmac ck (covered (front ek h p) tail))
    check_octets = cmac_octets ck lc.enc_block (front ek h p ++ tail) (append_bytes (front ek h p) tail front_bytes bt)

    sealed_front : take 496 (sealed ek (cmac ck) tail h p) ≡ front ek h p
    unfolding sealed
    sealed_front = take_at (front ek h p) (cmac ck (front ek h p ++ tail)) 496 front_size

    sealed_check : drop 496 (sealed ek (cmac ck) tail h p) ≡ cmac ck (covered (front ek h p) tail)
    unfolding sealed
    sealed_check = drop_at (front ek h p) (cmac ck (front ek h p ++ tail)) 496 front_size

    pub sealed_size : length (sealed ek (cmac ck) tail h p) ≡ 512
    unfolding sealed
    sealed_size = length-append (front ek h p) (cmac ck (front ek h p ++ tail)) ∙ omega (arith, front_size, check_octets.size)

    pub sealed_bytes : Bytes (sealed ek (cmac ck) tail h p)
    unfolding sealed
    sealed_bytes = append_bytes (front ek h p) (cmac ck (front ek h p ++ tail)) front_bytes check_octets.bytes

    sealed_mac : cmac ck (covered (take 496 (sealed ek (cmac ck) tail h p)) tail) ≡ drop 496 (sealed ek (cmac ck) tail h p)
    sealed_mac = ap (λ (x : List ℕ). cmac ck (x ++ tail)) sealed_front ∙ sym sealed_check

    -- its check is right
    pub sealed_checks : checks (cmac ck) tail (sealed ek (cmac ck) tail h p) ≡ true
    unfolding checks
    sealed_checks = rw sealed_mac (same_refl (drop 496 (sealed ek (cmac ck) tail h p)))

    -- its 480 decrypted bytes are payload and fill
    pub sealed_opened : opened ek (sealed ek (cmac ck) tail h p) ≡ filled p
    unfolding opened sealed front body iv
    sealed_opened =
        let z = sealed ek (cmac ck) tail h p in
        let c = cmac ck (front ek h p ++ tail) in
        let e : z ≡ head_bytes_of h ++ (body ++ c) = append_assoc (head_bytes_of h) body c in
        let t : take 16 z ≡ head_bytes_of h = ap (take 16) e ∙ take_at (head_bytes_of h) (body ++ c) 16 (head_octets h).size in
        let d : take 480 (drop 16 z) ≡ body = ap (λ (x : List ℕ). take 480 (drop 16 x)) e ∙ ap (take 480) (drop_at (head_bytes_of h) (body ++ c) 16 (head_octets h).size) ∙ take_at body c 480 body_length in
        ap₂ (λ (x y : List ℕ). moded 16 ek CbcDecrypt (ek.enc x) y) t d ∙ undone_16 ek le CbcEncrypt iv (filled p) iv_octets (filled_bytes p bp) whole_pieces

    -- its header reads back
    pub sealed_head : Wide h → head_of_lem (sealed ek (cmac ck) tail h p) ≡ h
    unfolding sealed front
    sealed_head w =
        ap head_of_lem (append_assoc (head_bytes_of h) (moded 16 ek CbcEncrypt (ek.enc (head_bytes_of h)) (filled p)) (cmac ck (front ek h p ++ tail)))
        ∙ head_of h (moded 16 ek CbcEncrypt (ek.enc (head_bytes_of h)) (filled p) ++ cmac ck (front ek h p ++ tail)) w

    -- and what follows the payload is zero
    pub sealed_fill : Wide h → length p ≡ h.len → fill_zero ek (sealed ek (cmac ck) tail h p) ≡ true
    unfolding zero_after
    sealed_fill w e =
        ap₂ (λ (n : ℕ) (x : List ℕ). all_zero (drop n x)) (ap (λ (x : Head). x.len) (sealed_head w)) sealed_opened
        ∙ filled_zero p h.len e

-- ---- damage inside one piece

split_at : (n : ℕ) (a b : List ℕ) → take n a ≡ take n b → drop n a ≡ drop n b → a ≡ b
split_at n a b e f = sym (take-append-drop n a) ∙ ap₂ ◌++◌ e f ∙ take-append-drop n b

module _ (i : ℕ) (a b tail : List ℕ) (la : length a ≡ 512) (lb : length b ≡ 512) (o : SameOutside i a b) where
  front_same : 31 ≤ i → take 496 a ≡ take 496 b
  front_same h =
      ext_get_or 0 (take 496 a) (take 496 b) (omega (arith, length-take 496 a, length-take 496 b))
      (λ k l. let m : k < 496 = omega (arith, length-take 496 a) in get_or-take 496 a k 0 m ∙ o k (λ q. omega arith) ∙ sym (get_or-take 496 b k 0 m))

  check_same : i < 31 → drop 496 a ≡ drop 496 b
  check_same h =
      ext_get_or 0 (drop 496 a) (drop 496 b) (omega (arith, length-drop 496 a, length-drop 496 b))
      (λ k l. get_or-drop 496 a k 0 ∙ o (496 + k) (λ q. omega arith) ∙ sym (get_or-drop 496 b k 0))

  front_length : (x : List ℕ) → length x ≡ 512 → length (take 496 x) ≡ 496
  front_length x h = length-take-le 496 x (omega arith)

  low : (x : List ℕ) (k : ℕ) → length x ≡ 512 → k < 496 → get_or (take 496 x ++ tail) k 0 ≡ get_or x k 0
  low x k lx h = get_or-append (take 496 x) tail 0 k (omega (arith, front_length x lx)) ∙ get_or-take 496 x k 0 h

  high : (x : List ℕ) (k : ℕ) → length x ≡ 512 → 496 ≤ k → get_or (take 496 x ++ tail) k 0 ≡ get_or tail (k - 496) 0
  high x k lx h =
      let e : k ≡ length (take 496 x) + (k - 496) = omega (arith, front_length x lx) in
      ap (λ (j : ℕ). get_or (take 496 x ++ tail) j 0) e ∙ get_or-append-add (take 496 x) tail (k - 496) 0

  cover_same : SameOutside i (covered (take 496 a) tail) (covered (take 496 b) tail)
  cover_same k n =
      ⊎_elim (λ h. low a k la h ∙ o k n ∙ sym (low b k lb h)) (λ h. high a k la h ∙ sym (high b k lb h)) (lt_or_le k 496)

  -- two blocks with right checks that are the same outside one piece are the same; the check is piece 31
  pub same_block : (ck : BlockCipher) → Lawful 16 ck → Bytes a → Bytes b → Bytes tail → checks (cmac ck) tail a ≡ true → checks (cmac ck) tail b ≡ true → a ≡ b
  unfolding checks
  same_block ck l ba bb bt ca cb = ⊎_elim inside outside (lt_or_le i 31)
    where
      ea : cmac ck (take 496 a ++ tail) ≡ drop 496 a
      ea = same_true (cmac ck (take 496 a ++ tail)) (drop 496 a) ca

      eb : cmac ck (take 496 b ++ tail) ≡ drop 496 b
      eb = same_true (cmac ck (take 496 b ++ tail)) (drop 496 b) cb

      inside : i < 31 → a ≡ b
      inside h =
          let d = check_same h in
          let n : length (take 496 a ++ tail) ≡ length (take 496 b ++ tail) = omega (arith, length-append (take 496 a) tail, length-append (take 496 b) tail, front_length a la, front_length b lb) in
          let e = one_piece ck l i (take 496 a ++ tail) (take 496 b ++ tail)
          (append_bytes (take 496 a) tail (take_bytes 496 a ba) bt) (append_bytes (take 496 b) tail (take_bytes 496 b bb) bt) n cover_same (ea ∙ d ∙ sym eb) in
          split_at 496 a b (sym (take_at (take 496 a) tail 496 (front_length a la)) ∙ ap (take 496) e ∙ take_at (take 496 b) tail 496 (front_length b lb)) d

      outside : 31 ≤ i → a ≡ b
      outside h = let t = front_same h in split_at 496 a b t (sym ea ∙ ap (λ (x : List ℕ). cmac ck (x ++ tail)) t ∙ eb)
