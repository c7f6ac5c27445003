-- What is sealed opens, and nothing else does. Assumes nothing.
use mathlib.Core.Path.{◌≡◌, refl, sym, ap, ap₂, ◌∙◌}
use mathlib.Core.Bool.{Bool, true, false, cond}
use mathlib.Core.List.{List, [], ◌∷◌, ◌++◌}
use Prim.Native.Nat.{ℕ, zero, suc, ◌+◌, ◌-◌, ◌*◌, ◌/◌, ◌≤◌, ◌<◌}
use native.Mathlib.Nat.{zero-lt-suc}
use native.Mathlib.Omega.{arith}
use lib.Dec.{eqb}
use lib.ListN.{length, get_or, take, drop, replicate, length-append, length-drop, take-append-drop}
use lib.Seq.{take_at, drop_at, length-take-le}
use Rattle.octets.specs.Octets.{Bytes, Octets, pad_to, same}
use Rattle.octets.specs.Blocks.{◌⊕◌, BlockCipher, Lawful}
use Rattle.octets.proofs.Blocks.{⊕-undo, ⊕-length, ⊕-bytes, append_bytes, zeros_bytes}
use Rattle.octets.proofs.Same.{same_true, same_refl}
use Rattle.modes_spec.specs.Pieces.{piece_count}
use Rattle.modes_spec.proofs.Pieces.{count_covers}
use Rattle.cmac_spec.proofs.OnePiece.{zeros_octets, chained_octets}
use Rattle.ccm_spec.specs.Ccm.{half, flagged, first_flags, first, counter, whole, encoded, formatted, mac, tag, stream, streamed, mask, sealed, opened, genuine}

half_bytes : (n : ℕ) → Bytes (half n)
half_bytes n zero = omega arith
half_bytes n (suc zero) = omega arith
half_bytes n (suc (suc k)) = omega arith

whole_bytes : (s : List ℕ) → Bytes s → Bytes (whole s)
unfolding whole pad_to
whole_bytes s b = append_bytes s (replicate (piece_count 16 s * 16 - length s) 0) b (zeros_bytes (piece_count 16 s * 16 - length s))

module _ (nonce : List ℕ) (on : Octets 13 nonce) where
  pub flagged_octets : (flags n : ℕ) → flags < 256 → Octets 16 (flagged flags nonce n)
  unfolding flagged
  flagged_octets flags n h = record { size = omega (arith, length-append nonce (half n), on.size); bytes = λ k. at k }
    where
      at : (k : ℕ) → get_or (flags ∷ (nonce ++ half n)) k 0 < 256
      at zero = h
      at (suc k) = append_bytes nonce (half n) on.bytes (half_bytes n) k

  encoded_bytes : (a : List ℕ) → Bytes a → Bytes (encoded a)
  unfolding encoded
  encoded_bytes a b = go (eqb (length a) 0)
    where
      go : (t : Bool) → Bytes (cond t [] (whole (half (length a) ++ a)))
      go true = λ k. omega arith
      go false = whole_bytes (half (length a) ++ a) (append_bytes (half (length a)) a (half_bytes (length a)) b)

  flags_small : (t : Bool) → first_flags t < 256
  flags_small true = omega arith
  flags_small false = omega arith

  pub formatted_bytes : (a p : List ℕ) → Bytes a → Bytes p → Bytes (formatted nonce a p)
  unfolding formatted
  formatted_bytes a p ba bp =
      append_bytes (first nonce a (length p)) (encoded a ++ whole p) (flagged_octets (first_flags (eqb (length a) 0)) (length p) (flags_small (eqb (length a) 0))).bytes
      (append_bytes (encoded a) (whole p) (encoded_bytes a ba) (whole_bytes p bp))

  module _ (c : BlockCipher) (l : Lawful 16 c) where
    pub counter_block : (i : ℕ) → Octets 16 (c.enc (counter nonce i))
    counter_block i = l.enc_block (counter nonce i) (flagged_octets 1 i (omega arith))

    pub stream_length : (i n : ℕ) → length (stream c nonce i n) ≡ n * 16
    unfolding stream
    stream_length i zero = refl
    stream_length i (suc n) =
        let k = (counter_block i).size in
        length-append (c.enc (counter nonce i)) (stream c nonce (suc i) n) ∙ omega (arith, k, stream_length (suc i) n)

    covers : (i : ℕ) (p : List ℕ) → length p ≤ length (stream c nonce i (piece_count 16 p))
    covers i p = omega (arith, stream_length i (piece_count 16 p), count_covers 16 p (zero-lt-suc 15))

    module _ (p : List ℕ) where
      pub streamed_length : length (streamed c nonce p) ≡ length p
      unfolding streamed
      streamed_length = ⊕-length p _ (covers _ p)

      -- CTR undoes itself, at every length
      pub streamed_undone : streamed c nonce (streamed c nonce p) ≡ p
      unfolding streamed
      streamed_undone = rw streamed_length (⊕-undo p _ (covers _ p))

    stream_bytes : (i n : ℕ) → Bytes (stream c nonce i n)
    unfolding stream
    stream_bytes i zero = λ k. omega arith
    stream_bytes i (suc n) = append_bytes (c.enc (counter nonce i)) (stream c nonce (suc i) n) (counter_block i).bytes (stream_bytes (suc i) n)

    pub streamed_bytes : (p : List ℕ) → Bytes p → Bytes (streamed c nonce p)
    unfolding streamed
    streamed_bytes p b = ⊕-bytes p _ b (stream_bytes _ (piece_count 16 p))

    pub mac_octets : (b : List ℕ) → Bytes b → Octets 16 (mac c b)
    unfolding mac
    mac_octets b w = chained_octets c l.enc_block (length b / 16) (replicate 16 0) b zeros_octets w (omega arith)

    pub tag_length : (a p : List ℕ) → Bytes a → Bytes p → length (tag c nonce a p) ≡ 8
    unfolding tag
    tag_length a p ba bp = length-take-le 8 (mac c (formatted nonce a p)) (omega (arith, (mac_octets (formatted nonce a p) (formatted_bytes a p ba bp)).size))

    pub mask_length : length (mask c nonce) ≡ 8
    unfolding mask
    mask_length = length-take-le 8 (c.enc (counter nonce 0)) (omega (arith, (counter_block 0).size))

    module _ (a : List ℕ) (ba : Bytes a) where
      -- 8 bytes longer than the message
      pub sealed_length : (p : List ℕ) → Bytes p → length (sealed c nonce a p) ≡ length p + 8
      unfolding sealed
      sealed_length p bp =
          length-append (streamed c nonce p) (tag c nonce a p ⊕ mask c nonce)
          ∙ ap₂ ◌+◌ (streamed_length p) (⊕-length (tag c nonce a p) (mask c nonce) (omega (arith, tag_length a p ba bp, mask_length)) ∙ tag_length a p ba bp)

      front : (p : List ℕ) → take (length (streamed c nonce p)) (sealed c nonce a p) ≡ streamed c nonce p
      unfolding sealed
      front p = take_at (streamed c nonce p) (tag c nonce a p ⊕ mask c nonce) (length (streamed c nonce p)) refl

      behind : (p : List ℕ) → drop (length (streamed c nonce p)) (sealed c nonce a p) ≡ tag c nonce a p ⊕ mask c nonce
      unfolding sealed
      behind p = drop_at (streamed c nonce p) (tag c nonce a p ⊕ mask c nonce) (length (streamed c nonce p)) refl

      -- what is sealed opens to the message, and its tag is right
      pub sealed_opens : (p : List ℕ) → Bytes p → opened c nonce (sealed c nonce a p) ≡ p
      unfolding opened
      sealed_opens p bp =
          let e : length (sealed c nonce a p) - 8 ≡ length (streamed c nonce p) = omega (arith, sealed_length p bp, streamed_length p) in
          ap (streamed c nonce) (ap (λ (n : ℕ). take n (sealed c nonce a p)) e ∙ front p) ∙ streamed_undone p

      pub sealed_genuine : (p : List ℕ) → Bytes p → genuine c nonce a (sealed c nonce a p) ≡ true
      unfolding genuine
      sealed_genuine p bp =
          let e : length (sealed c nonce a p) - 8 ≡ length (streamed c nonce p) = omega (arith, sealed_length p bp, streamed_length p) in
          let d : drop (length (sealed c nonce a p) - 8) (sealed c nonce a p) ≡ tag c nonce a p ⊕ mask c nonce = ap (λ (n : ℕ). drop n (sealed c nonce a p)) e ∙ behind p in
          let t : drop (length (sealed c nonce a p) - 8) (sealed c nonce a p) ⊕ mask c nonce ≡ tag c nonce a p = ap (◌⊕ mask c nonce) d ∙ ⊕-undo (tag c nonce a p) (mask c nonce) (omega (arith, tag_length a p ba bp, mask_length)) in
          ap₂ (λ (x y : List ℕ). same (tag c nonce a x) y) (sealed_opens p bp) t ∙ same_refl (tag c nonce a p)

      -- what has a right tag is the sealing of what it opens to
      pub genuine_sealed : (s : List ℕ) → Bytes s → 8 ≤ length s → genuine c nonce a s ≡ true → s ≡ sealed c nonce a (opened c nonce s)
      unfolding genuine opened sealed
      genuine_sealed s bs h e =
          let n = length s - 8 in
          let p = streamed c nonce (take n s) in
          let q = same_true (tag c nonce a p) (drop n s ⊕ mask c nonce) e in
          let ld : length (drop n s) ≡ 8 = omega (arith, length-drop n s) in
          let t : tag c nonce a p ⊕ mask c nonce ≡ drop n s = ap (◌⊕ mask c nonce) q ∙ ⊕-undo (drop n s) (mask c nonce) (omega (arith, mask_length)) in
          sym (take-append-drop n s) ∙ ap₂ ◌++◌ (sym (streamed_undone (take n s))) (sym t)

      -- so one message alone is sealed so, whatever the associated data
      pub sealed_of_one : (p q : List ℕ) → Bytes p → Bytes q → sealed c nonce a p ≡ sealed c nonce a q → p ≡ q
      sealed_of_one p q bp bq e = sym (sealed_opens p bp) ∙ ap (opened c nonce) e ∙ sealed_opens q bq
