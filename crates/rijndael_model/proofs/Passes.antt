-- Over the right tables, and on the way back over the schedule for it, the cipher by lookups is the submission's. Assumes nothing.
use mathlib.Core.Path.{◌≡◌, refl, sym, ap, ◌∙◌}
use mathlib.Core.Bool.{Bool, true, false, cond}
use mathlib.Core.List.{List, map}
use Prim.Native.Nat.{ℕ, zero, suc, ◌-◌, ◌*◌, ◌≤◌, ◌<◌}
use native.Mathlib.Omega.{arith}
use lib.ListN.{length, take, replicate}
use lib.Seq.{length-take-le}
use Rattle.octets.specs.Words.{bytes_of}
use Rattle.aes_sbox.specs.Sbox.{s_box, inv_s_box}
use Rattle.aes_sbox.proofs.Laws.{s_box_lt, inv_s_box_lt}
use Rattle.aes_mix.specs.Mixing.{mix_column, inv_mix_column}
use Rattle.aes_spec.specs.State.{Shape, sub_bytes, shift_rows, inv_shift_rows, mix_columns, inv_mix_columns, add_round_key}
use Rattle.aes_spec.specs.Cipher.{one_round, rounds, cipher, inv_cipher}
use Rattle.aes_spec.specs.Model.{equivalent_words, eq_round, eq_rounds, eq_inv_cipher}
use Rattle.aes_spec.proofs.State.{Block, shift_block, inv_shift_block, sub_block}
use Rattle.aes_spec.proofs.Undo.{unmix, remix}
use Rattle.aes_spec.proofs.Equivalent.{eq-inv-cipher, words_back_of}
use Rattle.rijndael_spec.specs.Rijndael.{shape_of, wide_round_count, wide_encrypt, wide_decrypt}
use Rattle.rijndael_spec.specs.Model.{wide_inverse}
use Rattle.rijndael_spec.specs.declared.Width.{Width}
use Rattle.rijndael_spec.specs.declared.Width.TheVariants.{Six, Eight}
use Rattle.rijndael_spec.proofs.Laws.{regular, wide-round-count}
use Rattle.rijndael_model.specs.Model.{back, entry_of, block_of, key_added, gathered, looked_rounds, looked, passed}
use Rattle.rijndael_model.specs.declared.Way.TheVariants.{Forth, Back}
use Rattle.rijndael_model.proofs.Columns.{words_octets, added_length, key-added, key_front, mixed_columns, mixed_columns_back}
use Rattle.rijndael_model.proofs.Gathers.{gathered_length, gathered_forth, gathered_back}

rounds_length : (z : Shape) (t : ℕ → ℕ) (w : List ℕ) (k : ℕ → ℕ) (n : ℕ) (s : List ℕ) → length s ≡ z.columns → length (looked_rounds z t w k n s) ≡ z.columns
unfolding looked_rounds
rounds_length z t w k zero s e = e
rounds_length z t w k (suc n) s e = added_length z w (k (suc n)) (gathered z t (looked_rounds z t w k n s))

module _ (z : Shape) (some : 0 < z.columns) (t : ℕ → ℕ) (w : List ℕ) where
  -- ---- forth

  module _ (agrees : (k : ℕ) → k < 256 → t k ≡ entry_of Forth k) where
    forth_rounds : (nr n : ℕ) (s : List ℕ) → length s ≡ z.columns → bytes_of (looked_rounds z t w (λ k. k) n s) ≡ rounds z s_box w n (bytes_of s)
    unfolding looked_rounds rounds one_round
    forth_rounds nr zero s e = refl
    forth_rounds nr (suc n) s e =
        let x = looked_rounds z t w (λ k. k) n s in
        key-added z w (suc n) (gathered z t x)
        ∙ ap (add_round_key z w (suc n)) (gathered_forth z some s_box s_box_lt t x (rounds_length z t w (λ k. k) n s e) agrees
        ∙ ap (λ (y : List ℕ). mix_columns z (shift_rows z (sub_bytes s_box y))) (forth_rounds nr n s e))

    pub looked_forth : (nr : ℕ) (s : List ℕ) → bytes_of (looked Forth z t w nr s) ≡ cipher z s_box w nr (bytes_of (take z.columns s))
    unfolding looked cipher
    looked_forth nr s =
        let a = key_added z w 0 s in
        let x = looked_rounds z t w (λ k. k) (nr - 1) a in
        let lx = rounds_length z t w (λ k. k) (nr - 1) a (added_length z w 0 s) in
        let g = gathered z t x in
        let y = shift_rows z (sub_bytes s_box (bytes_of x)) in
        let b : Block z y = shift_block z (sub_block s_box s_box_lt (words_octets z.columns x lx)) in
        key-added z w nr (map inv_mix_column g)
        ∙ ap (add_round_key z w nr)
        (mixed_columns_back z g (gathered_length z t x) ∙ ap (inv_mix_columns z) (gathered_forth z some s_box s_box_lt t x lx agrees) ∙ unmix z y b
        ∙ ap (λ (u : List ℕ). shift_rows z (sub_bytes s_box u))
        (forth_rounds nr (nr - 1) a (added_length z w 0 s)
        ∙ ap (rounds z s_box w (nr - 1)) (ap bytes_of (key_front z w 0 s) ∙ key-added z w 0 (take z.columns s))))

  -- ---- back, over a schedule w for it

  -- the shift of rows is no part of adding a key
  back_added : (n : ℕ) (s : List ℕ) → bytes_of (key_added (back z) w n s) ≡ add_round_key z w n (bytes_of s)
  unfolding key_added add_round_key
  back_added n s = key-added z w n s

  back_front : (n : ℕ) (s : List ℕ) → key_added (back z) w n s ≡ key_added (back z) w n (take z.columns s)
  back_front n s = key_front (back z) w n s

  module _ (agrees : (k : ℕ) → k < 256 → t k ≡ entry_of Back k) where
    -- the rounds come from the last to the first: those that are left to do after n of them
    back_rounds : (nr n : ℕ) (s : List ℕ) → length s ≡ z.columns → n < nr
        → eq_rounds z inv_s_box w (nr - 1 - n) (bytes_of (looked_rounds (back z) t w (λ k. nr - k) n s)) ≡ eq_rounds z inv_s_box w (nr - 1) (bytes_of s)
    unfolding looked_rounds eq_rounds eq_round
    back_rounds nr zero s e h = let i : nr - 1 - 0 ≡ nr - 1 = omega arith in rw i
    back_rounds nr (suc n) s e h =
        let x = looked_rounds (back z) t w (λ k. nr - k) n s in
        let lx = rounds_length (back z) t w (λ k. nr - k) n s e in
        let i : nr - 1 - n ≡ suc (nr - 1 - suc n) = omega arith in
        let j : nr - suc n ≡ suc (nr - 1 - suc n) = omega arith in
        ap (eq_rounds z inv_s_box w (nr - 1 - suc n))
        (back_added (nr - suc n) (gathered (back z) t x)
        ∙ rw j (ap (add_round_key z w (suc (nr - 1 - suc n))) (gathered_back z some inv_s_box inv_s_box_lt t x lx agrees)))
        ∙ sym (ap (λ (m : ℕ). eq_rounds z inv_s_box w m (bytes_of x)) i)
        ∙ back_rounds nr n s e (omega arith)

    pub looked_back : (nr : ℕ) (s : List ℕ) → 0 < nr → bytes_of (looked Back (back z) t w nr s) ≡ eq_inv_cipher z inv_s_box w nr (bytes_of (take z.columns s))
    unfolding looked eq_inv_cipher eq_rounds
    looked_back nr s h =
        let a = key_added (back z) w (nr - 0) s in
        let x = looked_rounds (back z) t w (λ k. nr - k) (nr - 1) a in
        let lx = rounds_length (back z) t w (λ k. nr - k) (nr - 1) a (added_length (back z) w (nr - 0) s) in
        let g = gathered (back z) t x in
        let y = sub_bytes inv_s_box (inv_shift_rows z (bytes_of x)) in
        let b : Block z y = sub_block inv_s_box inv_s_box_lt (inv_shift_block z (words_octets z.columns x lx)) in
        let i : nr - nr ≡ 0 = omega arith in
        let j : nr - 0 ≡ nr = omega arith in
        let k : nr - 1 - (nr - 1) ≡ 0 = omega arith in
        back_added (nr - nr) (map mix_column g)
        ∙ rw i (ap (add_round_key z w 0)
        (mixed_columns z g (gathered_length (back z) t x) ∙ ap (mix_columns z) (gathered_back z some inv_s_box inv_s_box_lt t x lx agrees) ∙ remix z y b
        ∙ ap (λ (u : List ℕ). sub_bytes inv_s_box (inv_shift_rows z u))
        ((rw k at (back_rounds nr (nr - 1) a (added_length (back z) w (nr - 0) s) (omega arith)))
        ∙ ap (eq_rounds z inv_s_box w (nr - 1)) (rw j (ap bytes_of (back_front nr s) ∙ back_added nr (take z.columns s))))))

-- ---- six and eight columns

pub zeros_block : (v : Width) → bytes_of (replicate (shape_of v).columns 0) ≡ replicate (4 * (shape_of v).columns) 0
unfolding bytes_of
zeros_block Six = refl
zeros_block Eight = refl

module _ (v : Width) (t : ℕ → ℕ) (w : List ℕ) (nr : ℕ) (s : List ℕ) where
  pub passed_forth : ((k : ℕ) → k < 256 → t k ≡ entry_of Forth k) → bytes_of (passed Forth v t w nr s) ≡ wide_encrypt v w nr (block_of v s)
  unfolding passed wide_encrypt
  passed_forth e = on (wide_round_count v nr)
    where
      on : (k : Bool) → bytes_of (cond k (looked Forth (shape_of v) t w nr s) (replicate (shape_of v).columns 0))
          ≡ cond k (cipher (shape_of v) s_box w nr (block_of v s)) (replicate (4 * (shape_of v).columns) 0)
      on true = looked_forth (shape_of v) (regular v).some t w e nr s
      on false = zeros_block v

  pub passed_back : ((k : ℕ) → k < 256 → t k ≡ entry_of Back k) → length w ≡ 120 → length s ≡ 8
      → bytes_of (passed Back v t (wide_inverse v w nr) nr s) ≡ wide_decrypt v w nr (block_of v s)
  unfolding passed wide_decrypt wide_inverse
  passed_back e lw ls = on (wide_round_count v nr) refl
    where
      room : (v : Width) → (shape_of v).columns ≤ 8
      room Six = omega arith
      room Eight = omega arith

      on : (k : Bool) → wide_round_count v nr ≡ k
          → bytes_of (cond k (looked Back (back (shape_of v)) t (cond k (equivalent_words (shape_of v) w nr) w) nr s) (replicate (shape_of v).columns 0))
          ≡ cond k (inv_cipher (shape_of v) inv_s_box w nr (block_of v s)) (replicate (4 * (shape_of v).columns) 0)
      on true known =
          let z = shape_of v in
          let r = wide-round-count v nr known in
          let dw = equivalent_words z w nr in
          looked_back z (regular v).some t dw e nr s r.0
          ∙ eq-inv-cipher z inv_s_box inv_s_box_lt w dw nr (words_back_of z w nr r.0 (rw lw r.2)) r.0
          (words_octets z.columns (take z.columns s) (length-take-le z.columns s (rw ls (room v))))
      on false known = zeros_block v
