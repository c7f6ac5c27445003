-- A header and its bytes. Assumes nothing.
use mathlib.Core.Path.{◌≡◌, refl, ap₂, sym, ◌∙◌}
use mathlib.Core.List.{List, [], ◌∷◌, ◌++◌}
use Prim.Native.Nat.{ℕ, zero, suc, ◌+◌, ◌*◌, ◌/◌, ◌%◌, ◌≤◌, ◌<◌}
use native.Mathlib.Omega.{arith}
use lib.ListN.{length, get_or, take, drop}
use lib.Seq.{drop-cons, get_or-take}
use Rattle.octets.specs.Octets.{Bytes, Octets}
use Rattle.octets.specs.Words.{word, word_at, bytes_of}
use Rattle.octets.proofs.Words.{byte_lt, byte0_word, byte1_word, byte2_word, byte3_word, word_bytes}
use Rattle.octets.proofs.Blocks.{append_bytes}
use Rattle.image_layout.specs.Layout.{half_at, half_bytes, head_of_lem, head_bytes_of}
use Rattle.image_layout.specs.declared.Head.{Head}

-- a header by its fields
pub head_by : (b : List ℕ) (n c r l v : ℕ) → n ≡ word_at b 0 → c ≡ word_at b 4 → r ≡ word_at b 8 → l ≡ half_at b 12 → v ≡ half_at b 14
    → ◌≡◌ {A = Head} (record { number = n; count = c; release = r; len = l; reserved = v }) (head_of_lem b)
unfolding head_of_lem
head_by b n c r l v en ec er el ev = rw (en, ec, er, el, ev)

-- the header is in the first 16 bytes
pub head_of_first : (b : List ℕ) → head_of_lem (take 16 b) ≡ head_of_lem b
unfolding head_of_lem
head_of_first b =
    let g : (k : ℕ) → k < 16 → get_or (take 16 b) k 0 ≡ get_or b k 0 = λ k h. get_or-take 16 b k 0 h in
    rw (
      g 0 (omega arith),
      g 1 (omega arith),
      g 2 (omega arith),
      g 3 (omega arith),
      g 4 (omega arith),
      g 5 (omega arith),
      g 6 (omega arith),
      g 7 (omega arith),
      g 8 (omega arith),
      g 9 (omega arith),
      g 10 (omega arith),
      g 11 (omega arith),
      g 12 (omega arith),
      g 13 (omega arith),
      g 14 (omega arith),
      g 15 (omega arith),
    )

firsts : ℕ → ℕ → List ℕ → List ℕ
firsts zero k b = []
firsts (suc n) k b = get_or b k 0 ∷ firsts n (suc k) b

take_firsts : (n k : ℕ) (b : List ℕ) → k + n ≤ length b → take n (drop k b) ≡ firsts n k b
unfolding firsts
take_firsts zero k b h = refl
take_firsts (suc n) k b h = rw (drop-cons b k 0 (omega arith)) (mathlib.Core.Path.ap (λ (l : List ℕ). get_or b k 0 ∷ l) (take_firsts n (suc k) b (omega arith)))

bytes_at : (a b c d : ℕ) → a < 256 → b < 256 → c < 256 → d < 256 → bytes_of (word a b c d ∷ []) ≡ a ∷ b ∷ c ∷ d ∷ []
unfolding bytes_of
bytes_at a b c d ha hb hc hd = rw (byte0_word a b c d ha hb hc hd, byte1_word a b c d ha hb hc hd, byte2_word a b c d ha hb hc hd, byte3_word a b c d ha hb hc hd)

half_bytes_at : (a b : ℕ) → a < 256 → b < 256 → half_bytes (a * 256 + b) ≡ a ∷ b ∷ []
half_bytes_at a b ha hb =
    let e : (a * 256 + b) / 256 % 256 ≡ a = omega arith in
    let f : (a * 256 + b) % 256 ≡ b = omega arith in
    rw (e, f)

-- the bytes of the header that a block has are its first 16
pub head_bytes : (b : List ℕ) → Bytes b → 16 ≤ length b → head_bytes_of (head_of_lem b) ≡ take 16 b
unfolding head_bytes_of head_of_lem bytes_of firsts
head_bytes b h l =
    ap₂ ◌++◌ (bytes_at (get_or b 0 0) (get_or b 1 0) (get_or b 2 0) (get_or b 3 0) (h 0) (h 1) (h 2) (h 3))
    (ap₂ ◌++◌ (bytes_at (get_or b 4 0) (get_or b 5 0) (get_or b 6 0) (get_or b 7 0) (h 4) (h 5) (h 6) (h 7))
    (ap₂ ◌++◌ (bytes_at (get_or b 8 0) (get_or b 9 0) (get_or b 10 0) (get_or b 11 0) (h 8) (h 9) (h 10) (h 11))
    (ap₂ ◌++◌ (half_bytes_at (get_or b 12 0) (get_or b 13 0) (h 12) (h 13)) (half_bytes_at (get_or b 14 0) (get_or b 15 0) (h 14) (h 15)))))
    ∙ sym (take_firsts 16 0 b (omega arith))

-- the fields are as wide as their places
pub record Wide (h : Head) : Type 0 where
  pub number_wide : h.number < 4294967296
  pub count_wide : h.count < 4294967296
  pub release_wide : h.release < 4294967296
  pub len_wide : h.len < 65536
  pub reserved_wide : h.reserved < 65536

half_of : (n : ℕ) → n < 65536 → n / 256 % 256 * 256 + n % 256 ≡ n
half_of n h = omega arith

pub head_of : (h : Head) (r : List ℕ) → Wide h → head_of_lem (head_bytes_of h ++ r) ≡ h
unfolding head_of_lem head_bytes_of bytes_of
head_of h r w =
    sym (head_by (head_bytes_of h ++ r) h.number h.count h.release h.len h.reserved
    (sym (word_bytes h.number w.number_wide)) (sym (word_bytes h.count w.count_wide)) (sym (word_bytes h.release w.release_wide))
    (sym (half_of h.len w.len_wide)) (sym (half_of h.reserved w.reserved_wide)))

pub head_octets : (h : Head) → Octets 16 (head_bytes_of h)
unfolding head_bytes_of bytes_of
head_octets h = record {
  size = refl;
  bytes = append_bytes (bytes_of (h.number ∷ h.count ∷ h.release ∷ [])) (half_bytes h.len ++ half_bytes h.reserved) twelve
      (append_bytes (half_bytes h.len) (half_bytes h.reserved) (pair h.len) (pair h.reserved));
}
  where
    pair : (n : ℕ) → Bytes (half_bytes n)
    pair n zero = omega arith
    pair n (suc zero) = omega arith
    pair n (suc (suc k)) = omega arith

    four : (n : ℕ) (w : List ℕ) → Bytes (bytes_of w) → Bytes (bytes_of (n ∷ w))
    four n w b zero = byte_lt 0 n
    four n w b (suc zero) = byte_lt 1 n
    four n w b (suc (suc zero)) = byte_lt 2 n
    four n w b (suc (suc (suc zero))) = byte_lt 3 n
    four n w b (suc (suc (suc (suc k)))) = b k

    twelve : Bytes (bytes_of (h.number ∷ h.count ∷ h.release ∷ []))
    twelve = four h.number (h.count ∷ h.release ∷ []) (four h.count (h.release ∷ []) (four h.release [] (λ k. omega arith)))
