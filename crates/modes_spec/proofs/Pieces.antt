-- A run through pieces, one piece more and by its pieces; for every machine. Assumes nothing.
use mathlib.Core.Path.{◌≡◌, refl, sym, ap, ap₂, ◌∙◌}
use mathlib.Core.List.{List, ◌++◌, append_assoc, append-nil}
use Prim.Native.Nat.{ℕ, zero, suc, ◌+◌, ◌-◌, ◌*◌, ◌/◌, ◌%◌, ◌≤◌, ◌<◌}
use native.Mathlib.Nat.{zero-mul, suc-mul, add_comm, zero-add, add-mul-div_right, div-eq_of_lt, div-add-mod', mod-lt, lt_of_mul-lt-mul_right}
use native.Mathlib.Omega.{arith}
use lib.ListN.{length, take, drop, length-append, length-take, length-drop}
use lib.Seq.{drop-drop}
use Rattle.octets.specs.Octets.{Octets, Bytes}
use Rattle.octets.proofs.Blocks.{take_octets, take_bytes, drop_bytes, append_bytes}
use Rattle.modes_spec.specs.Pieces.{Machine, output_of, after, piece, piece_count}

module _ (z : ℕ) (m : Machine) where
  -- piece i + 1 is piece i of the rest
  pub piece_suc : (s : List ℕ) (i : ℕ) → piece z s (suc i) ≡ piece z (drop z s) i
  piece_suc s i = ap (take z) (ap (λ (k : ℕ). drop k s) (suc-mul i z ∙ add_comm (i * z) z) ∙ sym (drop-drop (i * z) z s))

  pub piece_zero : (s : List ℕ) → piece z s 0 ≡ take z s
  piece_zero s = rw (zero-mul z)

  -- one piece more, at the end
  pub after_more : (n : ℕ) (st s : List ℕ) → after z m st (suc n) s ≡ m.next (after z m st n s) (piece z s n)
  unfolding after
  after_more zero st s = ap (m.next st) (sym (piece_zero s))
  after_more (suc n) st s =
      after_more n (m.next st (take z s)) (drop z s)
      ∙ ap (m.next (after z m (m.next st (take z s)) n (drop z s))) (sym (piece_suc s n))

  pub made_more : (n : ℕ) (st s : List ℕ) → output_of z m st (suc n) s ≡ output_of z m st n s ++ m.out (after z m st n s) (piece z s n)
  unfolding output_of after
  made_more zero st s = append-nil (m.out st (take z s)) ∙ ap (m.out st) (sym (piece_zero s))
  made_more (suc n) st s =
      let st' = m.next st (take z s) in
      ap (m.out st (take z s) ++◌) (made_more n st' (drop z s) ∙ ap (λ (p : List ℕ). output_of z m st' n (drop z s) ++ m.out (after z m st' n (drop z s)) p) (sym (piece_suc s n)))
      ∙ sym (append_assoc (m.out st (take z s)) (output_of z m st' n (drop z s)) (m.out (after z m st' n (drop z s)) (piece z s (suc n))))

-- all n pieces have P, and nothing is left
abbrev pub Each : ℕ → (List ℕ → Type 0) → ℕ → List ℕ → Type 0
Each z P zero s = length s ≡ 0
Each z P (suc n) s = P (take z s) × Each z P n (drop z s)

pub each_whole : (z n : ℕ) (s : List ℕ) → length s ≡ n * z → Bytes s → Each z (Octets z) n s
each_whole z zero s e b = e ∙ zero-mul z
each_whole z (suc n) s e b =
    let w : length s ≡ n * z + z = e ∙ suc-mul n z in
    (take_octets z s (omega arith) b, each_whole z n (drop z s) (omega (arith, length-drop z s)) (drop_bytes z s b))

-- a piece that may be short
pub record Part (z : ℕ) (p : List ℕ) : Type 0 where
  pub size : length p ≤ z
  pub bytes : Bytes p

pub each_part : (z n : ℕ) (s : List ℕ) → length s ≤ n * z → Bytes s → Each z (Part z) n s
each_part z zero s h b = omega (arith, zero-mul z)
each_part z (suc n) s h b =
    let w : suc n * z ≡ n * z + z = suc-mul n z in (
      record { size = omega (arith, length-take z s); bytes = take_bytes z s b },
      each_part z n (drop z s) (omega (arith, length-drop z s)) (drop_bytes z s b),
    )

-- what a machine keeps: G of every state, and lengths and bytes of pieces with P
pub record Keeps (m : Machine) (G P : List ℕ → Type 0) : Type 0 where
  pub state : (st p : List ℕ) → G st → P p → G (m.next st p)
  pub size : (st p : List ℕ) → G st → P p → length (m.out st p) ≡ length p
  pub bytes : (st p : List ℕ) → G st → P p → Bytes (m.out st p)

module _ (z : ℕ) (m : Machine) (G P : List ℕ → Type 0) (k : Keeps m G P) where
  pub made_length : (n : ℕ) (st s : List ℕ) → G st → Each z P n s → length (output_of z m st n s) ≡ length s
  unfolding output_of
  made_length zero st s g e = sym e
  made_length (suc n) st s g e =
      let ih = made_length n (m.next st (take z s)) (drop z s) (k.state st (take z s) g e.0) e.1 in
      length-append (m.out st (take z s)) (output_of z m (m.next st (take z s)) n (drop z s))
      ∙ omega (arith, ih, k.size st (take z s) g e.0, length-take z s, length-drop z s)

  pub made_bytes : (n : ℕ) (st s : List ℕ) → G st → Each z P n s → Bytes (output_of z m st n s)
  unfolding output_of
  made_bytes zero st s g e = λ i. omega arith
  made_bytes (suc n) st s g e =
      append_bytes (m.out st (take z s)) (output_of z m (m.next st (take z s)) n (drop z s)) (k.bytes st (take z s) g e.0)
      (made_bytes n (m.next st (take z s)) (drop z s) (k.state st (take z s) g e.0) e.1)

  -- another machine that does the same to such states and pieces
  pub made_same : (m' : Machine) → ((st p : List ℕ) → G st → P p → m'.out st p ≡ m.out st p) → ((st p : List ℕ) → G st → P p → m'.next st p ≡ m.next st p)
      → (n : ℕ) (st s : List ℕ) → G st → Each z P n s → output_of z m' st n s ≡ output_of z m st n s
  unfolding output_of
  made_same m' o x zero st s g e = refl
  made_same m' o x (suc n) st s g e =
      ap₂ ◌++◌ (o st (take z s) g e.0)
      (ap (λ (t : List ℕ). output_of z m' t n (drop z s)) (x st (take z s) g e.0)
      ∙ made_same m' o x n (m.next st (take z s)) (drop z s) (k.state st (take z s) g e.0) e.1)

  pub after_same : (m' : Machine) → ((st p : List ℕ) → G st → P p → m'.next st p ≡ m.next st p)
      → (n : ℕ) (st s : List ℕ) → G st → Each z P n s → after z m' st n s ≡ after z m st n s
  unfolding after
  after_same m' x zero st s g e = refl
  after_same m' x (suc n) st s g e =
      ap (λ (t : List ℕ). after z m' t n (drop z s)) (x st (take z s) g e.0)
      ∙ after_same m' x n (m.next st (take z s)) (drop z s) (k.state st (take z s) g e.0) e.1

  pub after_kept : (n : ℕ) (st s : List ℕ) → G st → Each z P n s → G (after z m st n s)
  unfolding after
  after_kept zero st s g e = g
  after_kept (suc n) st s g e = after_kept n (m.next st (take z s)) (drop z s) (k.state st (take z s) g e.0) e.1

-- whole pieces are counted by their length
pub count_whole : (z n : ℕ) (s : List ℕ) → 0 < z → length s ≡ n * z → piece_count z s ≡ n
count_whole z n s h e =
    let f : length s + (z - 1) ≡ z - 1 + n * z = ap (◌+ (z - 1)) e ∙ add_comm (n * z) (z - 1) in
    let l : z - 1 < z = omega arith in
    ap (◌/ z) f ∙ add-mul-div_right (z - 1) n h ∙ ap (◌+ n) (div-eq_of_lt l) ∙ zero-add n

-- counted pieces reach to the end, and no piece before the last does
module _ (z : ℕ) (s : List ℕ) (some : 0 < z) where
  count_parts : piece_count z s * z + (length s + (z - 1)) % z ≡ length s + (z - 1)
  count_parts = div-add-mod' (length s + (z - 1)) z

  pub count_covers : length s ≤ piece_count z s * z
  count_covers = let r = mod-lt (length s + (z - 1)) some in omega (arith, count_parts)

  pub last_begins : (i : ℕ) → piece_count z s ≡ suc i → i * z < length s
  last_begins i e = let w : piece_count z s * z ≡ i * z + z = ap (◌* z) e ∙ suc-mul i z in omega (arith, count_parts)

  pub below_count : (i : ℕ) → i * z < length s → i < piece_count z s
  below_count i h = lt_of_mul-lt-mul_right z (omega (arith, count_covers))
