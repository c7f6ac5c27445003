-- Laws of bits in a map. Assumes nothing.
use mathlib.Core.Path.{◌≡◌, refl, sym, ap, ap₂, ◌∙◌}
use mathlib.Core.Bool.{Bool, true, false, cond, not}
use mathlib.Core.List.{List, [], ◌∷◌, ◌++◌}
use mathlib.Core.Logic.{⊎_elim}
use Prim.Native.Nat.{ℕ, zero, suc, ◌+◌, ◌/◌, ◌%◌, ◌≤◌, ◌<◌, min}
use native.Mathlib.Nat.{eq-or-lt_of_le, zero-div}
use native.Mathlib.Omega.{arith}
use Rattle.std.specs.Int.Bits.{bit_and, bit_or}
use borrow.Author.Tests.{eqb-true, eqb-false, eq-eqb, ne_eqb, le-ltb}
use lib.Dec.{T, eqb, ltb, eqb→eq, ltb→lt}
use lib.ListN.{length, get_or, set, drop, replicate, length-replicate, get_or-replicate, get_or-append, get_or-eq_default}
use lib.Seq.{get_or-set_same, get_or-set_other, set_out}
use Rattle.octets.specs.Octets.{Bytes}
use Rattle.octets.proofs.Arms.{NoneFrom}
use Rattle.octets.proofs.Tests.{all, below}
use Rattle.image_receiver_map.specs.Map.{map_size, worth, bit_of, with_bit, bit, bit_at, bit_put, cleared, bits_below}

-- ---- one byte: computed once for every byte and every two bits

with_test : ℕ → ℕ → ℕ → Bool
with_test b k j = eqb (bit_of (with_bit b k) j) (cond (eqb j k) 1 (bit_of b j))

with_all : T (all 256 (λ b. all 8 (λ k. all 8 (with_test b k))))
unfolding with_test bit_of with_bit
with_all = tt

pub bit_with : (b k j : ℕ) → b < 256 → k < 8 → j < 8 → bit_of (with_bit b k) j ≡ cond (eqb j k) 1 (bit_of b j)
unfolding with_test
bit_with b k j hb hk hj = eqb→eq _ _ (below 8 (with_test b k) (below 8 (λ k. all 8 (with_test b k)) (below 256 (λ b. all 8 (λ k. all 8 (with_test b k))) with_all b hb) k hk) j hj)

twice_test : ℕ → ℕ → ℕ → Bool
twice_test b k j = eqb (with_bit (with_bit b k) j) (with_bit (with_bit b j) k)

twice_all : T (all 256 (λ b. all 8 (λ k. all 8 (twice_test b k))))
unfolding twice_test bit_of with_bit
twice_all = tt

pub with_twice : (b k j : ℕ) → b < 256 → k < 8 → j < 8 → with_bit (with_bit b k) j ≡ with_bit (with_bit b j) k
unfolding twice_test
with_twice b k j hb hk hj = eqb→eq _ _ (below 8 (twice_test b k) (below 8 (λ k. all 8 (twice_test b k)) (below 256 (λ b. all 8 (λ k. all 8 (twice_test b k))) twice_all b hb) k hk) j hj)

pub bit_most : (m : List ℕ) (n : ℕ) → bit m n ≤ 1
unfolding bit bit_of
bit_most m n = omega arith

-- ---- a map

-- a bit that is set is set, and every other one stays
pub bit-put : (m : List ℕ) (n j : ℕ) → Bytes m → n / 8 < length m → bit (bit_put m n) j ≡ cond (eqb j n) 1 (bit m j)
unfolding bit bit_put
bit-put m n j b h = go (eqb (j / 8) (n / 8)) refl
  where
    same_bit : eqb (j / 8) (n / 8) ≡ true → eqb (j % 8) (n % 8) ≡ eqb j n
    same_bit e = let q = eqb-true (j / 8) (n / 8) e in by (eqb j n) refl q
      where
        by : (t : Bool) → eqb j n ≡ t → j / 8 ≡ n / 8 → eqb (j % 8) (n % 8) ≡ t
        by true e q = eq-eqb _ _ (ap (λ (x : ℕ). x % 8) (eqb-true j n e))
        by false e q = ne_eqb (j % 8) (n % 8) (λ (r : j % 8 ≡ n % 8). eqb-false j n e (omega arith))

    go : (t : Bool) → eqb (j / 8) (n / 8) ≡ t → bit_of (get_or (set m (n / 8) (with_bit (get_or m (n / 8) 0) (n % 8))) (j / 8) 0) (j % 8) ≡ cond (eqb j n) 1 (bit_of (get_or m (j / 8) 0) (j % 8))
    go true e =
        let q = eqb-true (j / 8) (n / 8) e in
        rw (q, get_or-set_same m (n / 8) (with_bit (get_or m (n / 8) 0) (n % 8)) 0 h, ← same_bit e) (bit_with (get_or m (n / 8) 0) (n % 8) (j % 8) (b (n / 8)) (omega arith) (omega arith))
    go false e =
        let q : j / 8 ≡ n / 8 → ⊥ = eqb-false (j / 8) (n / 8) e in
        let o : eqb j n ≡ false = ne_eqb j n (λ r. q (ap (λ (x : ℕ). x / 8) r)) in
        rw (get_or-set_other m (n / 8) (j / 8) (with_bit (get_or m (n / 8) 0) (n % 8)) 0 q, o)

-- the order in which two bits are set says nothing
put_order : (m : List ℕ) (at to k l : ℕ) → Bytes m → k < 8 → l < 8
    → set (set m at (with_bit (get_or m at 0) k)) to (with_bit (get_or (set m at (with_bit (get_or m at 0) k)) to 0) l)
    ≡ set (set m to (with_bit (get_or m to 0) l)) at (with_bit (get_or (set m to (with_bit (get_or m to 0) l)) at 0) k)
put_order [] at to k l b hk hl = refl
put_order (x ∷ m) zero zero k l b hk hl = ap (λ (y : ℕ). y ∷ m) (with_twice x k l (b 0) hk hl)
put_order (x ∷ m) zero (suc to) k l b hk hl = refl
put_order (x ∷ m) (suc at) zero k l b hk hl = refl
put_order (x ∷ m) (suc at) (suc to) k l b hk hl = ap (x ∷◌) (put_order m at to k l (λ i. b (suc i)) hk hl)

pub bit_put_order : (m : List ℕ) (i j : ℕ) → Bytes m → bit_put (bit_put m i) j ≡ bit_put (bit_put m j) i
unfolding bit_put
bit_put_order m i j b = put_order m (i / 8) (j / 8) (i % 8) (j % 8) b (omega arith) (omega arith)

small_test : ℕ → ℕ → Bool
small_test b k = ltb (with_bit b k) 256

small_all : T (all 256 (λ b. all 8 (small_test b)))
unfolding small_test bit_of with_bit
small_all = tt

with_small : (b k : ℕ) → b < 256 → k < 8 → with_bit b k < 256
unfolding small_test
with_small b k hb hk = ltb→lt _ _ (below 8 (small_test b) (below 256 (λ b. all 8 (small_test b)) small_all b hb) k hk)

set_bytes : (m : List ℕ) (i v : ℕ) → v < 256 → Bytes m → Bytes (set m i v)
set_bytes [] i v h b k = b k
set_bytes (x ∷ m) zero v h b zero = h
set_bytes (x ∷ m) zero v h b (suc k) = b (suc k)
set_bytes (x ∷ m) (suc i) v h b zero = b zero
set_bytes (x ∷ m) (suc i) v h b (suc k) = set_bytes m i v h (λ j. b (suc j)) k

pub bit_put_bytes : (m : List ℕ) (n : ℕ) → Bytes m → Bytes (bit_put m n)
unfolding bit_put
bit_put_bytes m n b = set_bytes m (n / 8) (with_bit (get_or m (n / 8) 0) (n % 8)) (with_small (get_or m (n / 8) 0) (n % 8) (b (n / 8)) (omega arith)) b

-- ---- how many are set

before : (m : List ℕ) (n c : ℕ) → Bytes m → n / 8 < length m → c ≤ n → bits_below (bit_put m n) c ≡ bits_below m c
unfolding bits_below
before m n zero b h l = refl
before m n (suc c) b h l =
    let o : eqb c n ≡ false = ne_eqb c n (λ e. omega arith) in
    ap₂ ◌+◌ (before m n c b h (omega arith)) (bit-put m n c b h ∙ rw o)

-- one more bit is one more
pub bits_put : (m : List ℕ) (n c : ℕ) → Bytes m → n / 8 < length m → n < c → bit m n ≡ 0 → bits_below (bit_put m n) c ≡ bits_below m c + 1
unfolding bits_below
bits_put m n zero b h l z = absurd (omega arith)
bits_put m n (suc c) b h l z =
    ⊎_elim
    (λ e.
    let o : eqb c n ≡ true = eq-eqb c n (sym e) in
    let q : bit (bit_put m n) c ≡ 1 = bit-put m n c b h ∙ rw o in
    let y : bit m c ≡ 0 = ap (bit m) (sym e) ∙ z in
    omega (arith, before m n c b h (omega arith), q, y))
    (λ k.
    let o : eqb c n ≡ false = ne_eqb c n (λ e. omega arith) in
    let q : bit (bit_put m n) c ≡ bit m c = bit-put m n c b h ∙ rw o in
    omega (arith, bits_put m n c b h k z, q))
    (eq-or-lt_of_le {n = n} {m = c} (omega arith))

pub bits_most : (m : List ℕ) (c : ℕ) → bits_below m c ≤ c
unfolding bits_below
bits_most m zero = omega arith
bits_most m (suc c) = omega (arith, bits_most m c, bit_most m c)

-- all are set exactly where they are as many as there are
pub bits_full : (m : List ℕ) (c : ℕ) → bits_below m c ≡ c → (n : ℕ) → n < c → bit m n ≡ 1
unfolding bits_below
bits_full m zero e n h = absurd (omega arith)
bits_full m (suc c) e n h =
    let a : bits_below m c ≡ c = omega (arith, bits_most m c, bit_most m c) in
    ⊎_elim (λ q. ap (bit m) q ∙ omega (arith, bit_most m c)) (λ l. bits_full m c a n l) (eq-or-lt_of_le {n = n} {m = c} (omega arith))

pub full_bits : (m : List ℕ) (c : ℕ) → ((n : ℕ) → n < c → bit m n ≡ 1) → bits_below m c ≡ c
unfolding bits_below
full_bits m zero f = refl
full_bits m (suc c) f = omega (arith, full_bits m c (λ n h. f n (omega arith)), f c (omega arith))

zero_bit : (j : ℕ) → bit_of 0 j ≡ 0
unfolding bit_of
zero_bit j = rw (zero-div (worth j))

none : (m : List ℕ) (c k : ℕ) → k < c → map_size c ≤ length m → bit (cleared (map_size c) m) k ≡ 0
unfolding bit cleared
none m c k l h =
    let e : min ((c + 7) / 8) (length m) ≡ (c + 7) / 8 = omega arith in
    let g : get_or (replicate ((c + 7) / 8) 0 ++ drop ((c + 7) / 8) m) (k / 8) 0 ≡ 0 =
    get_or-append (replicate ((c + 7) / 8) 0) (drop ((c + 7) / 8) m) 0 (k / 8) (omega (arith, length-replicate {A = ℕ} ((c + 7) / 8) 0)) ∙ get_or-replicate ((c + 7) / 8) (k / 8) 0 0 (omega arith) in
    rw (e, g) (zero_bit (k % 8))

-- a map whose bytes are cleared has none
pub bits_none : (m : List ℕ) (c k : ℕ) → k ≤ c → map_size c ≤ length m → bits_below (cleared (map_size c) m) k ≡ 0
unfolding bits_below
bits_none m c zero l h = refl
bits_none m c (suc k) l h = omega (arith, bits_none m c k (omega arith) h, none m c k (omega arith) h)

-- ---- from bit 7 on a bit is worth 128

pub worth_high : (k : ℕ) → 7 ≤ k → worth k ≡ 128
worth_high zero h = absurd (omega arith)
worth_high (suc zero) h = absurd (omega arith)
worth_high (suc (suc zero)) h = absurd (omega arith)
worth_high (suc (suc (suc zero))) h = absurd (omega arith)
worth_high (suc (suc (suc (suc zero)))) h = absurd (omega arith)
worth_high (suc (suc (suc (suc (suc zero))))) h = absurd (omega arith)
worth_high (suc (suc (suc (suc (suc (suc zero)))))) h = absurd (omega arith)
worth_high (suc (suc (suc (suc (suc (suc (suc k))))))) h = refl

past : (k x : ℕ) → NoneFrom 0 k x → k ≤ x
past zero x h = omega arith
past (suc k) x h = omega (arith, past k x h.0, h.1)

pub worth_last : (k : ℕ) → NoneFrom 0 7 k → worth k ≡ 128
worth_last k h = worth_high k (past 7 k h)

-- ---- for the code: a bit is looked at and set by a byte that has it alone

and_test : ℕ → ℕ → Bool
and_test b k = eqb (cond (eqb (bit_and b (worth k)) 0) 0 1) (bit_of b k)

and_all : T (all 256 (λ b. all 8 (and_test b)))
unfolding and_test bit_of
and_all = tt

or_test : ℕ → ℕ → Bool
or_test b k = eqb (bit_or b (worth k)) (with_bit b k)

or_all : T (all 256 (λ b. all 8 (or_test b)))
unfolding or_test bit_of with_bit
or_all = tt

bit_and_is : (b k : ℕ) → b < 256 → k < 8 → cond (eqb (bit_and b (worth k)) 0) 0 1 ≡ bit_of b k
unfolding and_test
bit_and_is b k hb hk = eqb→eq _ _ (below 8 (and_test b) (below 256 (λ b. all 8 (and_test b)) and_all b hb) k hk)

pub is_set : (m : List ℕ) (n w : ℕ) → Bytes m → w ≡ worth (n % 8) → not (eqb (bit_and (get_or m (n / 8) 0) w) 0) ≡ bit_at m n
unfolding bit
is_set m n w b e =
    rw (e, ← bit_and_is (get_or m (n / 8) 0) (n % 8) (b (n / 8)) (omega arith)) (either (eqb (bit_and (get_or m (n / 8) 0) (worth (n % 8))) 0))
  where
    either : (t : Bool) → not t ≡ eqb (cond t 0 1) 1
    either true = refl
    either false = refl

pub is_put : (m : List ℕ) (n w : ℕ) → Bytes m → w ≡ worth (n % 8) → set m (n / 8) (bit_or (get_or m (n / 8) 0) w) ≡ bit_put m n
unfolding bit_put or_test
is_put m n w b e = rw e (ap (set m (n / 8)) (eqb→eq _ _ (below 8 (or_test (get_or m (n / 8) 0)) (below 256 (λ b. all 8 (or_test b)) or_all (get_or m (n / 8) 0) (b (n / 8))) (n % 8) (omega arith))))

pub past_set : (m : List ℕ) (n : ℕ) → length m ≤ n / 8 → ltb (n / 8) (length m) ≡ bit_at m n
unfolding bit
past_set m n h = rw (le-ltb (n / 8) (length m) h, get_or-eq_default m 0 {n = n / 8} h, zero_bit (n % 8))

pub past_put : (m : List ℕ) (n : ℕ) → length m ≤ n / 8 → m ≡ bit_put m n
unfolding bit_put
past_put m n h = sym (set_out m (n / 8) (with_bit (get_or m (n / 8) 0) (n % 8)) h)
