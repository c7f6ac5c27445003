-- Ciphers that agree on blocks wrap alike, and those that agree on the way back unwrap alike. Assumes nothing.
use mathlib.Core.Path.{◌≡◌, refl, ap, ◌∙◌}
use mathlib.Core.List.{List, [], ◌∷◌, ◌++◌}
use Prim.Native.Nat.{ℕ, zero, suc, ◌+◌, ◌-◌, ◌*◌, ◌/◌, ◌%◌, ◌≤◌, ◌<◌}
use native.Mathlib.Omega.{arith}
use lib.ListN.{length, take, drop, replicate, length-append, length-drop}
use lib.Seq.{length-take-le}
use Rattle.octets.specs.Octets.{Bytes, Octets}
use Rattle.octets.specs.Words.{bytes_of}
use Rattle.octets.specs.Blocks.{◌⊕◌, BlockCipher, Lawful}
use Rattle.octets.proofs.Words.{byte_lt}
use Rattle.octets.proofs.Blocks.{take_bytes, drop_bytes, append_bytes, take_octets, ⊕-octets}
use Rattle.wrap_spec.specs.Wrap.{initial, counter, register, replaced, msb, lsb, step, pass, passes, wrapped, unstep, unpass, unpasses, unwrapped}
use Rattle.wrap_spec.proofs.Passing.{counter_size}

-- ---- bytes stay bytes

words_bytes : (w : List ℕ) → Bytes (bytes_of w)
unfolding bytes_of
words_bytes [] k = omega arith
words_bytes (x ∷ w) zero = byte_lt 0 x
words_bytes (x ∷ w) (suc zero) = byte_lt 1 x
words_bytes (x ∷ w) (suc (suc zero)) = byte_lt 2 x
words_bytes (x ∷ w) (suc (suc (suc zero))) = byte_lt 3 x
words_bytes (x ∷ w) (suc (suc (suc (suc k)))) = words_bytes w k

counter_bytes : (t : ℕ) → Bytes (counter t)
unfolding counter
counter_bytes t = words_bytes (t / 4294967296 ∷ t % 4294967296 ∷ [])

counter_octets : (t : ℕ) → Octets 8 (counter t)
counter_octets t = record { size = counter_size t; bytes = counter_bytes t }

both_octets : (n m : ℕ) (a b : List ℕ) → Octets n a → Octets m b → Octets (n + m) (a ++ b)
both_octets n m a b x y = record { size = omega (arith, length-append a b, x.size, y.size); bytes = append_bytes a b x.bytes y.bytes }

register_octets : (w : List ℕ) (i : ℕ) → 8 * i + 8 ≤ length w → Bytes w → Octets 8 (register w i)
register_octets w i h b = take_octets 8 (drop (8 * i) w) (omega (arith, length-drop (8 * i) w)) (drop_bytes (8 * i) w b)

msb_octets : (b : List ℕ) → Octets 16 b → Octets 8 (msb b)
msb_octets b o = take_octets 8 b (omega (arith, o.size)) o.bytes

lsb_octets : (b : List ℕ) → Octets 16 b → Octets 8 (lsb b)
lsb_octets b o = record { size = omega (arith, length-drop 8 b, o.size); bytes = drop_bytes 8 b o.bytes }

replaced_octets : (n : ℕ) (w : List ℕ) (i : ℕ) (a r : List ℕ) → Octets n w → 1 ≤ i → 8 * i + 8 ≤ n → Octets 8 a → Octets 8 r → Octets n (replaced w i a r)
unfolding replaced
replaced_octets n w i a r o hi h oa or =
    let mid = drop 8 (take (8 * i) w) in
    let end = drop (8 * i + 8) w in
    let lt : length (take (8 * i) w) ≡ 8 * i = length-take-le (8 * i) w (omega (arith, o.size)) in
    record {
      size = omega (arith, o.size, oa.size, or.size, lt, length-drop 8 (take (8 * i) w), length-drop (8 * i + 8) w, length-append r end, length-append mid (r ++ end), length-append a (mid ++ (r ++ end)));
      bytes = append_bytes a (mid ++ (r ++ end)) oa.bytes
          (append_bytes mid (r ++ end) (drop_bytes 8 (take (8 * i) w) (take_bytes (8 * i) w o.bytes))
          (append_bytes r end or.bytes (drop_bytes (8 * i + 8) w o.bytes)));
    }

same_bytes : (n x : ℕ) → x < 256 → Bytes (replicate n x)
same_bytes zero x h k = omega arith
same_bytes (suc n) x h zero = h
same_bytes (suc n) x h (suc k) = same_bytes n x h k

-- ---- ciphers that agree on blocks

-- the same registers, and they are bytes
record Same (n : ℕ) (x y : List ℕ) : Type 0 where
  equal : x ≡ y
  octets : Octets n y

module _ (n i : ℕ) (w : List ℕ) (o : Octets n w) (h : 8 * i + 8 ≤ n) where
  first : Octets 8 (register w 0)
  first = register_octets w 0 (omega (arith, o.size)) o.bytes

  other : Octets 8 (register w i)
  other = register_octets w i (omega (arith, o.size)) o.bytes

module _ (c d : BlockCipher) (same : (x : List ℕ) → Octets 16 x → c.enc x ≡ d.enc x) (l : Lawful 16 d) where
  step_same : (n t i : ℕ) (w : List ℕ) → Octets n w → 1 ≤ i → 8 * i + 8 ≤ n → Same n (step c t i w) (step d t i w)
  unfolding step
  step_same n t i w o hi h =
      let given = register w 0 ++ register w i in
      let og : Octets 16 given = both_octets 8 8 (register w 0) (register w i) (first n i w o h) (other n i w o h) in
      let ob = l.enc_block given og in
      record {
        equal = ap (λ (b : List ℕ). replaced w i (msb b ⊕ counter t) (lsb b)) (same given og);
        octets = replaced_octets n w i _ _ o hi h (⊕-octets (msb_octets (d.enc given) ob) (counter_octets t)) (lsb_octets (d.enc given) ob);
      }

  pass_same : (n j m : ℕ) (w : List ℕ) → m ≤ n → Octets (8 * n + 8) w → Same (8 * n + 8) (pass c n j m w) (pass d n j m w)
  unfolding pass
  pass_same n j zero w h o = record { equal = refl; octets = o }
  pass_same n j (suc m) w h o =
      let p = pass_same n j m w (omega arith) o in
      let s = step_same (8 * n + 8) (n * j + suc m) (suc m) (pass d n j m w) p.octets (omega arith) (omega arith) in
      record { equal = ap (step c (n * j + suc m) (suc m)) p.equal ∙ s.equal; octets = s.octets }

  passes_same : (n k : ℕ) (w : List ℕ) → Octets (8 * n + 8) w → Same (8 * n + 8) (passes c n k w) (passes d n k w)
  unfolding passes
  passes_same n zero w o = record { equal = refl; octets = o }
  passes_same n (suc k) w o =
      let p = passes_same n k w o in
      let s = pass_same n k n (passes d n k w) (omega arith) p.octets in
      record { equal = ap (pass c n k n) p.equal ∙ s.equal; octets = s.octets }

  pub wrapped_same : (p : List ℕ) → length p % 8 ≡ 0 → Bytes p → wrapped c p ≡ wrapped d p
  unfolding wrapped
  wrapped_same p e b =
      let o : Octets (8 * (length p / 8) + 8) (initial ++ p) = record { size = omega (arith, length-append initial p); bytes = append_bytes initial p (same_bytes 8 0xa6 (omega arith)) b } in
      (passes_same (length p / 8) 6 (initial ++ p) o).equal

module _ (c d : BlockCipher) (same : (x : List ℕ) → Octets 16 x → c.dec x ≡ d.dec x) (l : Lawful 16 d) where
  unstep_same : (n t i : ℕ) (w : List ℕ) → Octets n w → 1 ≤ i → 8 * i + 8 ≤ n → Same n (unstep c t i w) (unstep d t i w)
  unfolding unstep
  unstep_same n t i w o hi h =
      let given = (register w 0 ⊕ counter t) ++ register w i in
      let og : Octets 16 given = both_octets 8 8 (register w 0 ⊕ counter t) (register w i) (⊕-octets (first n i w o h) (counter_octets t)) (other n i w o h) in
      let ob = l.dec_block given og in
      record {
        equal = ap (λ (b : List ℕ). replaced w i (msb b) (lsb b)) (same given og);
        octets = replaced_octets n w i _ _ o hi h (msb_octets (d.dec given) ob) (lsb_octets (d.dec given) ob);
      }

  unpass_same : (n j m : ℕ) (w : List ℕ) → m ≤ n → Octets (8 * n + 8) w → Same (8 * n + 8) (unpass c n j m w) (unpass d n j m w)
  unfolding unpass
  unpass_same n j zero w h o = record { equal = refl; octets = o }
  unpass_same n j (suc m) w h o =
      let s = unstep_same (8 * n + 8) (n * j + suc m) (suc m) w o (omega arith) (omega arith) in
      let p = unpass_same n j m (unstep d (n * j + suc m) (suc m) w) (omega arith) s.octets in
      record { equal = ap (unpass c n j m) s.equal ∙ p.equal; octets = p.octets }

  unpasses_same : (n k : ℕ) (w : List ℕ) → Octets (8 * n + 8) w → Same (8 * n + 8) (unpasses c n k w) (unpasses d n k w)
  unfolding unpasses
  unpasses_same n zero w o = record { equal = refl; octets = o }
  unpasses_same n (suc k) w o =
      let s = unpass_same n k n w (omega arith) o in
      let p = unpasses_same n k (unpass d n k n w) s.octets in
      record { equal = ap (unpasses c n k) s.equal ∙ p.equal; octets = p.octets }

  pub unwrapped_same : (w : List ℕ) → 8 ≤ length w → length w % 8 ≡ 0 → Bytes w → unwrapped c w ≡ unwrapped d w
  unfolding unwrapped
  unwrapped_same w h e b =
      let o : Octets (8 * (length w / 8 - 1) + 8) w = record { size = omega arith; bytes = b } in
      (unpasses_same (length w / 8 - 1) 6 w o).equal
