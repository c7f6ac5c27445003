-- The key wrap's registers, and that each way undoes the other, step by step, pass by pass. Assumes nothing.
use mathlib.Core.Path.{◌≡◌, refl, sym, ap, ap₂, subst, ◌∙◌}
use mathlib.Core.Bool.{Bool, true, false, cond}
use mathlib.Core.List.{List, [], ◌∷◌, ◌++◌, append_assoc}
use Prim.Native.Nat.{ℕ, zero, suc, ◌+◌, ◌-◌, ◌*◌, ◌/◌, ◌%◌, ◌≤◌, ◌<◌}
use native.Mathlib.Omega.{arith}
use borrow.Author.Tests.{eqb-true, eqb-false, eq-eqb, ltb-true, ltb-false, le-ltb}
use lib.Dec.{eqb, ltb}
use lib.ListN.{length, take, drop, replicate, length-append, length-drop, take-append-drop}
use lib.Seq.{length-take-le, take_at, drop_at, take-take, drop-drop, take-append-add, drop-append-add}
use Rattle.octets.specs.Octets.{Bytes, Octets, same, over}
use Rattle.octets.specs.Words.{byte, bytes_of}
use Rattle.octets.specs.Blocks.{◌⊕◌, BlockCipher, Lawful}
use Rattle.octets.proofs.Blocks.{⊕-undo, ⊕-octets, take_bytes, drop_bytes, append_bytes, take_octets}
use Rattle.octets.proofs.Words.{byte_lt}
use Rattle.aes_sbox.specs.Sbox.{s_box}
use Rattle.aes_schedule.specs.Schedule.{schedule_of, key_number}
use Rattle.aes_spec.specs.Cipher.{aes_of}
use Rattle.octets.proofs.Same.{same_true, same_refl}
use Rattle.wrap_spec.specs.Wrap.{initial, counter, register, replaced, msb, lsb, step, pass, passes, wrapped, unstep, unpass, unpasses, unwrapped}
use Rattle.wrap_answer.proofs.Sizes.{size_parts, size_right, wrapped_size_parts, wrapped_size_right}
use Rattle.wrap_answer.specs.Answers.{wrapped_size_fits, wrap_number, size_fits_of, wrap_ruled}
use Rattle.wrap.specs.Calls.{wrap_answer, wrap_output, opening, unwrap_answer, unwrap_output}
use Rattle.wrap_answer.specs.declared.WrapAnswer.{WrapAnswer}
use Rattle.wrap_answer.specs.declared.WrapAnswer.TheVariants.{WrapDone, WrapKey, WrapSize, WrapRoom, WrongInitial}
use Rattle.promises.proofs.Wrap.Words.{WrapFit, WrapSays, UnwrapFit, UnwrapSays}

-- ---- lists of bytes

pub octets_append : {n m : ℕ} {a b : List ℕ} → Octets n a → Octets m b → Octets (n + m) (a ++ b)
octets_append {n} {m} {a} {b} ha hb = record {
  size = length-append a b ∙ ap₂ (λ (x y : ℕ). x + y) ha.size hb.size;
  bytes = append_bytes a b ha.bytes hb.bytes;
}

pub octets_is : {n m : ℕ} {a : List ℕ} → n ≡ m → Octets n a → Octets m a
octets_is {n} {m} {a} e h = subst (λ (k : ℕ). Octets k a) e h

-- the halves of a block
pub msb_octets : (b : List ℕ) → Octets 16 b → Octets 8 (msb b)
msb_octets b h = take_octets 8 b (omega (arith, h.size)) h.bytes

pub lsb_octets : (b : List ℕ) → Octets 16 b → Octets 8 (lsb b)
lsb_octets b h = record { size = omega (arith, length-drop 8 b, h.size); bytes = drop_bytes 8 b h.bytes }

-- a number as 64 bits is eight bytes
pub counter_octets : (t : ℕ) → Octets 8 (counter t)
unfolding counter bytes_of
counter_octets t = record { size = refl; bytes = at }
  where
    x : ℕ
    x = t / 4294967296

    y : ℕ
    y = t % 4294967296

    four : (z : ℕ) (s : List ℕ) → Bytes s → Bytes (byte 0 z ∷ byte 1 z ∷ byte 2 z ∷ byte 3 z ∷ s)
    four z s h zero = byte_lt 0 z
    four z s h (suc zero) = byte_lt 1 z
    four z s h (suc (suc zero)) = byte_lt 2 z
    four z s h (suc (suc (suc zero))) = byte_lt 3 z
    four z s h (suc (suc (suc (suc k)))) = h k

    none : Bytes []
    none k = omega arith

    at : Bytes (byte 0 x ∷ byte 1 x ∷ byte 2 x ∷ byte 3 x ∷ byte 0 y ∷ byte 1 y ∷ byte 2 y ∷ byte 3 y ∷ [])
    at = four x (byte 0 y ∷ byte 1 y ∷ byte 2 y ∷ byte 3 y ∷ []) (four y [] none)

pub counted_twice : (a : List ℕ) (t : ℕ) → Octets 8 a → (a ⊕ counter t) ⊕ counter t ≡ a
counted_twice a t h = ⊕-undo a (counter t) (omega (arith, h.size, (counter_octets t).size))

-- ---- registers one after another

module _ (i : ℕ) (a f r b : List ℕ) (low : 1 ≤ i) (la : length a ≡ 8) (lf : length f ≡ 8 * i - 8) (lr : length r ≡ 8) where
  from : (k : ℕ) → drop (8 * i + k) (a ++ (f ++ (r ++ b))) ≡ drop k (r ++ b)
  from k =
      let e : 8 * i + k ≡ length a + (length f + k) = omega arith in
      ap (λ (n : ℕ). drop n (a ++ (f ++ (r ++ b)))) e ∙ drop-append-add a (f ++ (r ++ b)) (length f + k) ∙ drop-append-add f (r ++ b) k

  up_to : take (8 * i) (a ++ (f ++ (r ++ b))) ≡ a ++ f
  up_to =
      let e : 8 * i ≡ length a + length f = omega arith in
      ap (λ (n : ℕ). take n (a ++ (f ++ (r ++ b)))) e ∙ take-append-add a (f ++ (r ++ b)) (length f) ∙ ap (λ (x : List ℕ). a ++ x) (take_at f (r ++ b) (length f) refl)

  parts_first : register (a ++ (f ++ (r ++ b))) 0 ≡ a
  parts_first = take_at a (f ++ (r ++ b)) 8 la

  parts_register : register (a ++ (f ++ (r ++ b))) i ≡ r
  parts_register =
      let e : 8 * i ≡ 8 * i + 0 = omega arith in
      ap (λ (n : ℕ). take 8 (drop n (a ++ (f ++ (r ++ b))))) e ∙ ap (take 8) (from 0) ∙ take_at r b 8 lr

  parts_replaced : (a' r' : List ℕ) → replaced (a ++ (f ++ (r ++ b))) i a' r' ≡ a' ++ (f ++ (r' ++ b))
  unfolding replaced
  parts_replaced a' r' =
      ap₂ (λ (x y : List ℕ). a' ++ (x ++ (r' ++ y))) (ap (drop 8) up_to ∙ drop_at a f 8 la) (from 8 ∙ drop_at r b 8 lr)

module _ (n i : ℕ) (low : 1 ≤ i) (high : i ≤ n) (w : List ℕ) (o : Octets (8 * (n + 1)) w) where
  room : 8 * i + 8 ≤ length w
  room = omega (arith, o.size)

  pub register_first : Octets 8 (register w 0)
  register_first = take_octets 8 w (omega (arith, o.size)) o.bytes

  pub register_octets : Octets 8 (register w i)
  register_octets = take_octets 8 (drop (8 * i) w) (omega (arith, length-drop (8 * i) w, room)) (drop_bytes (8 * i) w o.bytes)

  between : length (drop 8 (take (8 * i) w)) ≡ 8 * i - 8
  between = length-drop 8 (take (8 * i) w) ∙ ap (λ (k : ℕ). k - 8) (length-take-le (8 * i) w (omega (arith, room)))

  pub replaced_octets : (a r : List ℕ) → Octets 8 a → Octets 8 r → Octets (8 * (n + 1)) (replaced w i a r)
  unfolding replaced
  replaced_octets a r ha hr =
      let f : Octets (8 * i - 8) (drop 8 (take (8 * i) w)) = record { size = between; bytes = drop_bytes 8 (take (8 * i) w) (take_bytes (8 * i) w o.bytes) } in
      let b : Octets (8 * (n + 1) - (8 * i + 8)) (drop (8 * i + 8) w) = record { size = length-drop (8 * i + 8) w ∙ ap (λ (k : ℕ). k - (8 * i + 8)) o.size; bytes = drop_bytes (8 * i + 8) w o.bytes } in
      octets_is (omega arith) (octets_append ha (octets_append f (octets_append hr b)))

  pub first_replaced : (a r : List ℕ) → length a ≡ 8 → length r ≡ 8 → register (replaced w i a r) 0 ≡ a
  unfolding replaced
  first_replaced a r la lr = parts_first i a (drop 8 (take (8 * i) w)) r (drop (8 * i + 8) w) low la between lr

  pub register_replaced : (a r : List ℕ) → length a ≡ 8 → length r ≡ 8 → register (replaced w i a r) i ≡ r
  unfolding replaced
  register_replaced a r la lr = parts_register i a (drop 8 (take (8 * i) w)) r (drop (8 * i + 8) w) low la between lr

  pub replaced_twice : (a r a' r' : List ℕ) → length a ≡ 8 → length r ≡ 8 → replaced (replaced w i a r) i a' r' ≡ replaced w i a' r'
  unfolding replaced
  replaced_twice a r a' r' la lr = parts_replaced i a (drop 8 (take (8 * i) w)) r (drop (8 * i + 8) w) low la between lr a' r'

  pub replaced_same : replaced w i (register w 0) (register w i) ≡ w
  unfolding replaced
  replaced_same =
      let f = drop 8 (take (8 * i) w) in
      let t : take 8 w ++ f ≡ take (8 * i) w = ap (λ (x : List ℕ). x ++ f) (sym (take-take 8 (8 * i) w (omega arith))) ∙ take-append-drop 8 (take (8 * i) w) in
      let d : take 8 (drop (8 * i) w) ++ drop (8 * i + 8) w ≡ drop (8 * i) w = ap (λ (x : List ℕ). take 8 (drop (8 * i) w) ++ x) (sym (drop-drop 8 (8 * i) w)) ∙ take-append-drop 8 (drop (8 * i) w) in
      sym (append_assoc (take 8 w) f (take 8 (drop (8 * i) w) ++ drop (8 * i + 8) w)) ∙ ap₂ ◌++◌ t d ∙ take-append-drop (8 * i) w

-- ---- over a lawful cipher

module _ (c : BlockCipher) (l : Lawful 16 c) where
  module _ (n t i : ℕ) (low : 1 ≤ i) (high : i ≤ n) (w : List ℕ) (o : Octets (8 * (n + 1)) w) where
    abbrev A : List ℕ
    A = register w 0

    abbrev R : List ℕ
    R = register w i

    ha : Octets 8 A
    ha = register_first n i low high w o

    hr : Octets 8 R
    hr = register_octets n i low high w o

    -- wrapping: the block that goes in, and the one that comes out
    abbrev B : List ℕ
    B = c.enc (A ++ R)

    joined : Octets 16 (A ++ R)
    joined = octets_append ha hr

    hb : Octets 16 B
    hb = l.enc_block (A ++ R) joined

    hc : Octets 8 (msb B ⊕ counter t)
    hc = ⊕-octets (msb_octets B hb) (counter_octets t)

    pub step_octets : Octets (8 * (n + 1)) (step c t i w)
    unfolding step
    step_octets = replaced_octets n i low high w o (msb B ⊕ counter t) (lsb B) hc (lsb_octets B hb)

    pub unstep_step : unstep c t i (step c t i w) ≡ w
    unfolding step unstep
    unstep_step =
        let w' = replaced w i (msb B ⊕ counter t) (lsb B) in
        let e : c.dec ((register w' 0 ⊕ counter t) ++ register w' i) ≡ A ++ R =
        ap₂ (λ (x y : List ℕ). c.dec ((x ⊕ counter t) ++ y))
        (first_replaced n i low high w o (msb B ⊕ counter t) (lsb B) hc.size (lsb_octets B hb).size)
        (register_replaced n i low high w o (msb B ⊕ counter t) (lsb B) hc.size (lsb_octets B hb).size)
        ∙ ap (λ (x : List ℕ). c.dec (x ++ lsb B)) (counted_twice (msb B) t (msb_octets B hb))
        ∙ ap c.dec (take-append-drop 8 B) ∙ l.dec_enc (A ++ R) joined in
        ap (λ (x : List ℕ). replaced w' i (msb x) (lsb x)) e
        ∙ ap₂ (λ (x y : List ℕ). replaced w' i x y) (take_at A R 8 ha.size) (drop_at A R 8 ha.size)
        ∙ replaced_twice n i low high w o (msb B ⊕ counter t) (lsb B) A R hc.size (lsb_octets B hb).size
        ∙ replaced_same n i low high w o

    -- unwrapping: the same
    abbrev D : List ℕ
    D = c.dec ((A ⊕ counter t) ++ R)

    counted : Octets 8 (A ⊕ counter t)
    counted = ⊕-octets ha (counter_octets t)

    together : Octets 16 ((A ⊕ counter t) ++ R)
    together = octets_append counted hr

    hd : Octets 16 D
    hd = l.dec_block ((A ⊕ counter t) ++ R) together

    pub unstep_octets : Octets (8 * (n + 1)) (unstep c t i w)
    unfolding unstep
    unstep_octets = replaced_octets n i low high w o (msb D) (lsb D) (msb_octets D hd) (lsb_octets D hd)

    pub step_unstep : step c t i (unstep c t i w) ≡ w
    unfolding step unstep
    step_unstep =
        let w' = replaced w i (msb D) (lsb D) in
        let e : c.enc (register w' 0 ++ register w' i) ≡ (A ⊕ counter t) ++ R =
        ap₂ (λ (x y : List ℕ). c.enc (x ++ y))
        (first_replaced n i low high w o (msb D) (lsb D) (msb_octets D hd).size (lsb_octets D hd).size)
        (register_replaced n i low high w o (msb D) (lsb D) (msb_octets D hd).size (lsb_octets D hd).size)
        ∙ ap c.enc (take-append-drop 8 D) ∙ l.enc_dec ((A ⊕ counter t) ++ R) together in
        ap (λ (x : List ℕ). replaced w' i (msb x ⊕ counter t) (lsb x)) e
        ∙ ap₂ (λ (x y : List ℕ). replaced w' i (x ⊕ counter t) y) (take_at (A ⊕ counter t) R 8 counted.size) (drop_at (A ⊕ counter t) R 8 counted.size)
        ∙ ap (λ (x : List ℕ). replaced w' i x R) (counted_twice A t ha)
        ∙ replaced_twice n i low high w o (msb D) (lsb D) A R (msb_octets D hd).size (lsb_octets D hd).size
        ∙ replaced_same n i low high w o

  -- ---- passes

  pub pass_octets : (n j m : ℕ) → m ≤ n → (w : List ℕ) → Octets (8 * (n + 1)) w → Octets (8 * (n + 1)) (pass c n j m w)
  unfolding pass
  pass_octets n j zero h w o = o
  pass_octets n j (suc m) h w o = step_octets n (n * j + suc m) (suc m) (omega arith) h (pass c n j m w) (pass_octets n j m (omega arith) w o)

  pub unpass_octets : (n j m : ℕ) → m ≤ n → (w : List ℕ) → Octets (8 * (n + 1)) w → Octets (8 * (n + 1)) (unpass c n j m w)
  unfolding unpass
  unpass_octets n j zero h w o = o
  unpass_octets n j (suc m) h w o =
      unpass_octets n j m (omega arith) (unstep c (n * j + suc m) (suc m) w) (unstep_octets n (n * j + suc m) (suc m) (omega arith) h w o)

  pub unpass_pass : (n j m : ℕ) → m ≤ n → (w : List ℕ) → Octets (8 * (n + 1)) w → unpass c n j m (pass c n j m w) ≡ w
  unfolding pass unpass
  unpass_pass n j zero h w o = refl
  unpass_pass n j (suc m) h w o =
      ap (unpass c n j m) (unstep_step n (n * j + suc m) (suc m) (omega arith) h (pass c n j m w) (pass_octets n j m (omega arith) w o))
      ∙ unpass_pass n j m (omega arith) w o

  pub pass_unpass : (n j m : ℕ) → m ≤ n → (w : List ℕ) → Octets (8 * (n + 1)) w → pass c n j m (unpass c n j m w) ≡ w
  unfolding pass unpass
  pass_unpass n j zero h w o = refl
  pass_unpass n j (suc m) h w o =
      ap (step c (n * j + suc m) (suc m)) (pass_unpass n j m (omega arith) (unstep c (n * j + suc m) (suc m) w) (unstep_octets n (n * j + suc m) (suc m) (omega arith) h w o))
      ∙ step_unstep n (n * j + suc m) (suc m) (omega arith) h w o

  pub passes_octets : (n k : ℕ) (w : List ℕ) → Octets (8 * (n + 1)) w → Octets (8 * (n + 1)) (passes c n k w)
  unfolding passes
  passes_octets n zero w o = o
  passes_octets n (suc k) w o = pass_octets n k n (omega arith) (passes c n k w) (passes_octets n k w o)

  pub unpasses_octets : (n k : ℕ) (w : List ℕ) → Octets (8 * (n + 1)) w → Octets (8 * (n + 1)) (unpasses c n k w)
  unfolding unpasses
  unpasses_octets n zero w o = o
  unpasses_octets n (suc k) w o = unpasses_octets n k (unpass c n k n w) (unpass_octets n k n (omega arith) w o)

  pub unpasses_passes : (n k : ℕ) (w : List ℕ) → Octets (8 * (n + 1)) w → unpasses c n k (passes c n k w) ≡ w
  unfolding passes unpasses
  unpasses_passes n zero w o = refl
  unpasses_passes n (suc k) w o =
      ap (unpasses c n k) (unpass_pass n k n (omega arith) (passes c n k w) (passes_octets n k w o)) ∙ unpasses_passes n k w o

  pub passes_unpasses : (n k : ℕ) (w : List ℕ) → Octets (8 * (n + 1)) w → passes c n k (unpasses c n k w) ≡ w
  unfolding passes unpasses
  passes_unpasses n zero w o = refl
  passes_unpasses n (suc k) w o =
      ap (pass c n k n) (passes_unpasses n k (unpass c n k n w) (unpass_octets n k n (omega arith) w o)) ∙ pass_unpass n k n (omega arith) w o

  -- ---- wrapping and unwrapping

  -- the initial value and key data, as registers
  start_octets : (p : List ℕ) → Bytes p → length p % 8 ≡ 0 → Octets (8 * (length p / 8 + 1)) (initial ++ p)
  start_octets p b e =
      let ip : Octets 8 initial = record { size = refl; bytes = initial_bytes } in
      let hp : Octets (length p) p = record { size = refl; bytes = b } in
      octets_is (omega arith) (octets_append ip hp)
    where
      sames : (n x : ℕ) → x < 256 → Bytes (replicate n x)
      sames zero x h k = omega arith
      sames (suc n) x h zero = h
      sames (suc n) x h (suc k) = sames n x h k

      initial_bytes : Bytes initial
      initial_bytes = sames 8 166 (omega arith)

  pub wrapped_octets : (p : List ℕ) → Bytes p → length p % 8 ≡ 0 → Octets (length p + 8) (wrapped c p)
  unfolding wrapped
  wrapped_octets p b e = octets_is (omega arith) (passes_octets (length p / 8) 6 (initial ++ p) (start_octets p b e))

  pub unwrapped_wrapped : (p : List ℕ) → Bytes p → length p % 8 ≡ 0 → unwrapped c (wrapped c p) ≡ initial ++ p
  unfolding wrapped unwrapped
  unwrapped_wrapped p b e =
      let n = length p / 8 in
      let o : Octets (8 * (n + 1)) (passes c n 6 (initial ++ p)) = passes_octets n 6 (initial ++ p) (start_octets p b e) in
      let m : length (passes c n 6 (initial ++ p)) / 8 - 1 ≡ n = omega (arith, o.size) in
      ap (λ (k : ℕ). unpasses c k 6 (passes c n 6 (initial ++ p))) m ∙ unpasses_passes n 6 (initial ++ p) (start_octets p b e)

  -- data of whole registers, at least one
  module _ (d : List ℕ) (b : Bytes d) (e : length d % 8 ≡ 0) (h : 8 ≤ length d) where
    registers : Octets (8 * (length d / 8 - 1 + 1)) d
    registers = record { size = omega arith; bytes = b }

    pub unwrapped_octets : Octets (length d) (unwrapped c d)
    unfolding unwrapped
    unwrapped_octets = octets_is (omega arith) (unpasses_octets (length d / 8 - 1) 6 d registers)

    pub opened_octets : Octets (length d - 8) (drop 8 (unwrapped c d))
    opened_octets = record {
      size = length-drop 8 (unwrapped c d) ∙ ap (λ (k : ℕ). k - 8) unwrapped_octets.size;
      bytes = drop_bytes 8 (unwrapped c d) unwrapped_octets.bytes;
    }

    pub wrapped_unwrapped : register (unwrapped c d) 0 ≡ initial → wrapped c (drop 8 (unwrapped c d)) ≡ d
    unfolding wrapped unwrapped
    wrapped_unwrapped q =
        let u = unpasses c (length d / 8 - 1) 6 d in
        let m : length (drop 8 u) / 8 ≡ length d / 8 - 1 = omega (arith, opened_octets.size) in
        ap₂ (λ (k : ℕ) (x : List ℕ). passes c k 6 (x ++ drop 8 u)) m (sym q)
        ∙ ap (passes c (length d / 8 - 1) 6) (take-append-drop 8 u)
        ∙ passes_unpasses (length d / 8 - 1) 6 d registers

-- ---- sizes

pub size_wraps : (n : ℕ) → size_fits_of n ≡ true → wrapped_size_fits (n + 8) ≡ true
size_wraps n e = let r = size_parts n e in wrapped_size_right (n + 8) (omega (arith, r.0)) (omega (arith, r.1)) (omega (arith, r.2))

pub size_unwraps : (n : ℕ) → wrapped_size_fits n ≡ true → size_fits_of (n - 8) ≡ true
size_unwraps n e = let r = wrapped_size_parts n e in size_right (n - 8) (omega (arith, r.0)) (omega (arith, r.1)) (omega (arith, r.0, r.2))

-- ---- the tests of a call

module _ (key : ℕ) (size : Bool) (result out : ℕ) (x : WrapAnswer) where
  -- the first test that fails, or what comes after them
  pub ruled_says : (P : WrapAnswer → Type 0) → ((key ≡ 0 → ⊥) → P WrapKey) → (key ≡ 0 → size ≡ false → P WrapSize) → (key ≡ 0 → size ≡ true → out < result → P WrapRoom)
      → (key ≡ 0 → size ≡ true → result ≤ out → P x) → P (wrap_ruled key size result out x)
  unfolding wrap_ruled
  ruled_says P k s r d = go (eqb key 0) size (ltb out result) refl refl refl
    where
      go : (a b c : Bool) → eqb key 0 ≡ a → size ≡ b → ltb out result ≡ c → P (cond a (cond b (cond c WrapRoom x) WrapSize) WrapKey)
      go false b c ea eb ec = k (eqb-false key 0 ea)
      go true false c ea eb ec = s (eqb-true key 0 ea) eb
      go true true true ea eb ec = r (eqb-true key 0 ea) eb (ltb-true out result ec)
      go true true false ea eb ec = d (eqb-true key 0 ea) eb (ltb-false out result ec)

  pub ruled_through : key ≡ 0 → size ≡ true → result ≤ out → wrap_ruled key size result out x ≡ x
  unfolding wrap_ruled
  ruled_through k s r = rw (eq-eqb key 0 k, s, le-ltb out result r)

pub wrap_says : (key dat out : List ℕ) → WrapSays key (length dat) (length out) (wrap_answer key dat out)
unfolding wrap_answer
wrap_says key dat out =
    ruled_says (key_number (schedule_of s_box key).answer) (size_fits_of (length dat)) (length dat + 8) (length out) WrapDone (WrapSays key (length dat) (length out))
    (λ k. k) (λ k s. (k, s)) (λ k s r. (k, s, r)) (λ k s r. record { key_taken = k; size_fits = s; roomy = r })

pub opening_says : (c : BlockCipher) (dat : List ℕ) (P : WrapAnswer → Type 0)
    → (register (unwrapped c dat) 0 ≡ initial → P WrapDone) → ((register (unwrapped c dat) 0 ≡ initial → ⊥) → P WrongInitial) → P (opening c dat)
opening_says c dat P right wrong = go (same (register (unwrapped c dat) 0) initial) refl
  where
    go : (t : Bool) → same (register (unwrapped c dat) 0) initial ≡ t → P (cond t WrapDone WrongInitial)
    go true e = right (same_true (register (unwrapped c dat) 0) initial e)
    go false e =
        wrong (λ q.
        let z : true ≡ false = sym (ap (λ (x : List ℕ). same x initial) q ∙ same_refl initial) ∙ e in
        let y : ◌≡◌ {A = ℕ} 0 1 = cc in omega arith)

pub opening_done : (c : BlockCipher) (dat : List ℕ) → register (unwrapped c dat) 0 ≡ initial → opening c dat ≡ WrapDone
opening_done c dat q = ap (λ (x : List ℕ). cond (same x initial) WrapDone WrongInitial) q

pub unwrap_says : (key dat out : List ℕ) → UnwrapSays key dat (length out) (unwrap_answer key dat out)
unfolding unwrap_answer
unwrap_says key dat out =
    ruled_says (key_number (schedule_of s_box key).answer) (wrapped_size_fits (length dat)) (length dat - 8) (length out) (opening (aes_of key) dat) (UnwrapSays key dat (length out))
    (λ k. k) (λ k s. (k, s)) (λ k s r. (k, s, omega arith))
    (λ k s r.
    let h : length dat ≤ length out + 8 = omega arith in
    opening_says (aes_of key) dat (UnwrapSays key dat (length out))
    (λ i. record { key_taken = k; size_fits = s; roomy = h; initial_right = i }) (λ i. (k, s, h, i)))

pub wrap_fits : (key dat out : List ℕ) → WrapFit key (length dat) (length out) → wrap_answer key dat out ≡ WrapDone
unfolding wrap_answer
wrap_fits key dat out f =
    ruled_through (key_number (schedule_of s_box key).answer) (size_fits_of (length dat)) (length dat + 8) (length out) WrapDone f.key_taken f.size_fits f.roomy

pub unwrap_fits : (key dat out : List ℕ) → UnwrapFit key dat (length out) → unwrap_answer key dat out ≡ WrapDone
unfolding unwrap_answer
unwrap_fits key dat out f =
    ruled_through (key_number (schedule_of s_box key).answer) (wrapped_size_fits (length dat)) (length dat - 8) (length out) (opening (aes_of key) dat)
    f.key_taken f.size_fits (omega (arith, f.roomy))
    ∙ opening_done (aes_of key) dat f.initial_right

pub done_fits : (key dat out : List ℕ) → unwrap_answer key dat out ≡ WrapDone → UnwrapFit key dat (length out)
done_fits key dat out e = subst (UnwrapSays key dat (length out)) e (unwrap_says key dat out)

-- a refusal keeps the output
pub wrap_keeps : (r : WrapAnswer) (key dat out : List ℕ) → (wrap_number r ≡ 0 → ⊥) → wrap_output r key dat out ≡ out
wrap_keeps WrapDone key dat out h = absurd (h refl)
wrap_keeps WrapKey key dat out h = refl
wrap_keeps WrapSize key dat out h = refl
wrap_keeps WrapRoom key dat out h = refl
wrap_keeps WrongInitial key dat out h = refl

pub unwrap_keeps : (r : WrapAnswer) (key dat out : List ℕ) → (wrap_number r ≡ 0 → ⊥) → unwrap_output r key dat out ≡ out
unwrap_keeps WrapDone key dat out h = absurd (h refl)
unwrap_keeps WrapKey key dat out h = refl
unwrap_keeps WrapSize key dat out h = refl
unwrap_keeps WrapRoom key dat out h = refl
unwrap_keeps WrongInitial key dat out h = refl

-- the first bytes of an output that a list was put over, and the rest
pub over_first : (n : ℕ) (s out : List ℕ) → length s ≡ n → (take n (over s out) ≡ s) × (drop n (over s out) ≡ drop n out)
over_first n s out e = (
  take_at s (drop (length s) out) n e,
  drop_at s (drop (length s) out) n e ∙ ap (λ (k : ℕ). drop k out) e,
)
