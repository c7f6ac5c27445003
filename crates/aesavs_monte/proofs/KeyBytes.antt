-- Two blocks joined, and the next key byte by byte. Assumes nothing.
use mathlib.Core.Path.{◌≡◌, refl, sym, ap, ◌∙◌}
use mathlib.Core.List.{List, ◌++◌}
use mathlib.Core.Logic.{⊎_elim}
use Prim.Native.Nat.{ℕ, ◌+◌, ◌-◌, ◌≤◌, ◌<◌, min}
use native.Mathlib.Omega.{arith}
use borrow.Author.Tests.{le-leb, lt-leb}
use lib.ListN.{length, get_or, take, drop, length-append, length-take, length-drop, get_or-append}
use lib.Seq.{get_or-append-add, get_or-take, get_or-drop}
use Rattle.octets.specs.Octets.{xor, tabulate, over}
use Rattle.octets.specs.Blocks.{◌⊕◌}
use Rattle.octets.proofs.Fill.{is_tabulate, get_d_tabulate}
use Rattle.octets.proofs.Blocks.{⊕-length}
use Rattle.octets.proofs.Xor.{lt_or_le}
use Rattle.octets_block.proofs.Laws.{sum_tabulate}
use Rattle.aesavs_monte.specs.Chain.{next_key}
use Rattle.aesavs_monte.specs.Model.{key_byte}

-- what stands behind the first list, by its place in the two joined
behind : (s t : List ℕ) (k : ℕ) → length s ≤ k → get_or (s ++ t) k 0 ≡ get_or t (k - length s) 0
behind s t k h =
    let e : k ≡ length s + (k - length s) = omega arith in
    ap (λ (i : ℕ). get_or (s ++ t) i 0) e ∙ get_or-append-add s t (k - length s) 0

module _ (a b : List ℕ) (ea : length a ≡ 16) where
  pub joined_left : (i : ℕ) → i < 16 → get_or a i 0 ≡ get_or (a ++ b) i 0
  joined_left i h = sym (get_or-append a b 0 i (rw ea h))

  pub joined_right : (i : ℕ) → 16 ≤ i → get_or b (i - 16) 0 ≡ get_or (a ++ b) i 0
  joined_right i h = sym (behind a b i (rw ea h) ∙ rw ea)

module _ (key : List ℕ) (size : ℕ) (both : List ℕ) (ek : length key ≡ 32) (eb : length both ≡ 32) where
  front : List ℕ
  front = take size key

  n : ℕ
  n = length (take size key)

  n_is : n ≡ min size 32
  unfolding n
  n_is = length-take size key ∙ rw ek

  n_most : n ≤ 32
  n_most = omega (arith, n_is)

  back : length (drop (32 - n) both) ≡ n
  back = omega (arith, length-drop (32 - n) both, n_most, eb)

  mixed : List ℕ
  mixed = take size key ⊕ drop (32 - n) both

  mixed_size : length mixed ≡ n
  unfolding mixed n
  mixed_size = ⊕-length (take size key) (drop (32 - n) both) (omega (arith, back))

  inside : (k : ℕ) → k < n → get_or (over mixed key) k 0 ≡ key_byte key n both k
  unfolding mixed n
  inside k h =
      let b = drop (32 - n) both in
      let least : n ≤ size = omega (arith, n_is) in
      get_or-append mixed (drop (length mixed) key) 0 k (rw mixed_size h)
      ∙ ap (λ (s : List ℕ). get_or s k 0) (sum_tabulate n (take size key) b refl (omega (arith, back)))
      ∙ get_d_tabulate n (λ i. xor (get_or (take size key) i 0) (get_or b i 0)) k h
      ∙ rw (lt-leb n k h, get_or-take size key k 0 (omega arith), get_or-drop (32 - n) both k 0)

  outside : (k : ℕ) → n ≤ k → get_or (over mixed key) k 0 ≡ key_byte key n both k
  outside k h =
      let e : length mixed + (k - length mixed) ≡ k = omega (arith, mixed_size) in
      behind mixed (drop (length mixed) key) k (rw mixed_size h) ∙ get_or-drop (length mixed) key (k - length mixed) 0 ∙ rw (e, le-leb n k h)

  whole : length (over mixed key) ≡ 32
  whole = length-append mixed (drop (length mixed) key) ∙ omega (arith, mixed_size, length-drop (length mixed) key, n_most, ek)

  pub key_bytes : tabulate 32 (key_byte key (min size 32) both) ≡ over (take size key ⊕ drop (32 - length (take size key)) both) key
  unfolding mixed n
  key_bytes =
      let e : over mixed key ≡ tabulate 32 (key_byte key n both) =
      is_tabulate 32 (key_byte key n both) (over mixed key) whole (λ k h. ⊎_elim (inside k) (outside k) (lt_or_le k n)) in
      rw (sym n_is) (sym e)

pub next_key_bytes : (key : List ℕ) (size : ℕ) (before last : List ℕ) → length key ≡ 32 → length before ≡ 16 → length last ≡ 16
    → tabulate 32 (key_byte key (min size 32) (before ++ last)) ≡ over (next_key (take size key) before last) key
unfolding next_key
next_key_bytes key size before last ek ea eb = key_bytes key size (before ++ last) ek (length-append before last ∙ omega arith)
