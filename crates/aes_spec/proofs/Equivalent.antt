-- Over round keys that are mixed back, the equivalent inverse cipher is the inverse cipher: for any shape, any substitution of bytes,
-- any schedule and any number of rounds from 1 on. Assumes nothing.
use mathlib.Core.Path.{◌≡◌, refl, sym, ap, ap₂, ◌∙◌}
use mathlib.Core.Bool.{Bool, true, false, ◌&&◌, cond}
use mathlib.Core.List.{List}
use mathlib.Core.Logic.{◌⊎◌, inl, inr, ⊎_elim}
use Prim.Native.Nat.{ℕ, zero, suc, ◌+◌, ◌-◌, ◌*◌, ◌%◌, ◌≤◌, ◌<◌, min}
use native.Mathlib.Nat.{le-mul_of_pos_right, mul-le-mul_left, mul-suc}
use native.Mathlib.Omega.{arith}
use borrow.Author.Tests.{lt-ltb, le-ltb, le-leb, lt-leb}
use lib.Dec.{leb, ltb}
use lib.ListN.{length, get_or, set, replicate, length-set}
use lib.Seq.{get_or-set_same, get_or-set_other}
use Rattle.octets.specs.Octets.{xor, Octets}
use Rattle.octets.specs.Words.{byte}
use Rattle.octets.specs.Blocks.{BlockCipher}
use Rattle.octets.proofs.Xor.{lt_or_le}
use Rattle.octets.proofs.Fill.{length_tabulate, get_d_tabulate, is_tabulate}
use Rattle.octets.proofs.Words.{byte_lt, byte0_word, byte1_word, byte2_word, byte3_word}
use Rattle.aes_mix.specs.Mixing.{inv_mix_row, column, inv_mix_column}
use Rattle.aes_mix.proofs.Mix.{row_lt}
use Rattle.aes_mix.proofs.Spin.{row_xor}
use Rattle.aes_sbox.specs.Sbox.{inv_s_box}
use Rattle.aes_sbox.proofs.Laws.{inv_s_box_lt}
use Rattle.aes_schedule.specs.Schedule.{round_count}
use Rattle.aes_spec.specs.State.{Shape, aes, at, state, mix_at, sub_bytes, inv_shift_rows, inv_mix_columns, add_round_key}
use Rattle.aes_spec.specs.Cipher.{inv_round, inv_rounds, inv_cipher, decrypt_block, standard}
use Rattle.aes_spec.specs.Model.{mixed_back_at, mixed_back, equivalent_words, eq_round, eq_rounds, eq_inv_cipher, eq_decrypt_block, inverse_words, equivalent_cipher}
use Rattle.aes_spec.proofs.State.{Block, at_state, is_state, add_at, add_block, inv_shift_block, inv_mix_block, sub_block}
use Rattle.aes_spec.proofs.Undo.{by_row, inv_round_block, inv_rounds_block}
use Rattle.aes_spec.proofs.Rounds.{round-count}

-- ---- words mixed back from a place to another

module _ (a b : ℕ) (w : List ℕ) (i : ℕ) where
  pub mixed_within : a ≤ i → i < b → mixed_back_at a b w i ≡ inv_mix_column (get_or w i 0)
  mixed_within h l = rw (le-leb a i h, lt-ltb i b l)

  pub mixed_before : i < a → mixed_back_at a b w i ≡ get_or w i 0
  mixed_before h = rw (lt-leb a i h)

  pub mixed_after : b ≤ i → mixed_back_at a b w i ≡ get_or w i 0
  mixed_after h = by (leb a i)
    where
      by : (t : Bool) → cond (t && ltb i b) (inv_mix_column (get_or w i 0)) (get_or w i 0) ≡ get_or w i 0
      by true = rw (le-ltb i b h)
      by false = refl

module _ (a : ℕ) (w : List ℕ) where
  pub length_mixed : (b : ℕ) → length (mixed_back a b w) ≡ length w
  unfolding mixed_back
  length_mixed b = length_tabulate (length w) (mixed_back_at a b w)

  pub mixed_at : (b i : ℕ) → i < length w → get_or (mixed_back a b w) i 0 ≡ mixed_back_at a b w i
  unfolding mixed_back
  mixed_at b i h = get_d_tabulate (length w) (mixed_back_at a b w) i h

  -- a place past the last word is as good as another
  pub mixed_past : (b c : ℕ) → length w ≤ b → length w ≤ c → mixed_back a b w ≡ mixed_back a c w
  unfolding mixed_back
  mixed_past b c h k = is_tabulate (length w) (mixed_back_at a c w) (mixed_back a b w) (length_mixed b) (λ i l. mixed_at b i l ∙ same i l)
    where
      same : (i : ℕ) → i < length w → mixed_back_at a b w i ≡ mixed_back_at a c w i
      same i l = rw (lt-ltb i b (omega arith), lt-ltb i c (omega arith))

  -- none, and one more
  pub mixed_none : (b : ℕ) → b ≤ a → w ≡ mixed_back a b w
  unfolding mixed_back
  mixed_none b h = is_tabulate (length w) (mixed_back_at a b w) w refl
      (λ k l. ⊎_elim (λ q. sym (mixed_before a b w k q)) (λ q. sym (mixed_after a b w k (omega arith))) (lt_or_le k a))

  pub mixed_more : (i v : ℕ) → a ≤ i → i < length w → v ≡ inv_mix_column (get_or (mixed_back a i w) i 0) → set (mixed_back a i w) i v ≡ mixed_back a (i + 1) w
  unfolding mixed_back
  mixed_more i v h l e =
      is_tabulate (length w) (mixed_back_at a (i + 1) w) (set (mixed_back a i w) i v) (length-set (mixed_back a i w) i v ∙ length_mixed i) each
    where
      others : (k : ℕ) → (k < i) ⊎ (i ≤ k) → (k ≡ i → ⊥) → mixed_back_at a i w k ≡ mixed_back_at a (i + 1) w k
      others k (inr q) f = mixed_after a i w k q ∙ sym (mixed_after a (i + 1) w k (omega arith))
      others k (inl q) f =
          ⊎_elim (λ p. mixed_before a i w k p ∙ sym (mixed_before a (i + 1) w k p)) (λ p. mixed_within a i w k p q ∙ sym (mixed_within a (i + 1) w k p (omega arith))) (lt_or_le k a)

      here : get_or (set (mixed_back a i w) i v) i 0 ≡ mixed_back_at a (i + 1) w i
      here =
          get_or-set_same (mixed_back a i w) i v 0 (omega (arith, length_mixed i))
          ∙ e ∙ ap inv_mix_column (mixed_at i i l ∙ mixed_after a i w i (omega arith)) ∙ sym (mixed_within a (i + 1) w i h (omega arith))

      there : (k : ℕ) → k < length w → (k ≡ i → ⊥) → get_or (set (mixed_back a i w) i v) k 0 ≡ mixed_back_at a (i + 1) w k
      there k q f = get_or-set_other (mixed_back a i w) i k v 0 f ∙ mixed_at i k q ∙ others k (lt_or_le k i) f

      each : (k : ℕ) → k < length w → get_or (set (mixed_back a i w) i v) k 0 ≡ mixed_back_at a (i + 1) w k
      each k q =
          ⊎_elim (λ p. there k q (λ z. omega arith))
          (λ p. ⊎_elim (λ m. there k q (λ z. omega arith)) (λ m. let z : k ≡ i = omega arith in rw z here) (lt_or_le i k)) (lt_or_le k i)

  -- up to past the end, and up to the end
  pub mixed_all : (b : ℕ) → mixed_back a (min b (length w)) w ≡ mixed_back a b w
  unfolding mixed_back
  mixed_all b = is_tabulate (length w) (mixed_back_at a b w) (mixed_back a (min b (length w)) w) (length_mixed (min b (length w)))
      (λ k l. mixed_at (min b (length w)) k l ∙ same k l (lt_or_le k a) (lt_or_le k b))
    where
      same : (k : ℕ) → k < length w → (k < a) ⊎ (a ≤ k) → (k < b) ⊎ (b ≤ k) → mixed_back_at a (min b (length w)) w k ≡ mixed_back_at a b w k
      same k l (inl p) q = mixed_before a (min b (length w)) w k p ∙ sym (mixed_before a b w k p)
      same k l (inr p) (inl q) = mixed_within a (min b (length w)) w k p (omega arith) ∙ sym (mixed_within a b w k p q)
      same k l (inr p) (inr q) = mixed_after a (min b (length w)) w k (omega arith) ∙ sym (mixed_after a b w k q)

-- ---- mixing back is linear

byte_mixed : (x : ℕ) → (r : ℕ) → r < 4 → byte r (inv_mix_column x) ≡ inv_mix_row (byte r x) (byte ((r + 1) % 4) x) (byte ((r + 2) % 4) x) (byte ((r + 3) % 4) x)
unfolding inv_mix_column column
byte_mixed x =
    let a = byte_lt 0 x in
    let b = byte_lt 1 x in
    let c = byte_lt 2 x in
    let d = byte_lt 3 x in
    let p = row_lt 14 11 13 9 a b c d in
    let q = row_lt 14 11 13 9 b c d a in
    let u = row_lt 14 11 13 9 c d a b in
    let v = row_lt 14 11 13 9 d a b c in
    by_row (λ r. byte r (inv_mix_column x) ≡ inv_mix_row (byte r x) (byte ((r + 1) % 4) x) (byte ((r + 2) % 4) x) (byte ((r + 3) % 4) x))
    (byte0_word _ _ _ _ p q u v) (byte1_word _ _ _ _ p q u v) (byte2_word _ _ _ _ p q u v) (byte3_word _ _ _ _ p q u v)

module _ (z : Shape) (w dw : List ℕ) (n : ℕ) (keys : (c : ℕ) → c < z.columns → get_or dw (z.columns * n + c) 0 ≡ inv_mix_column (get_or w (z.columns * n + c) 0)) where
  -- a round key added and the sum mixed back, or all mixed back and added
  pub mix_sum : {s : List ℕ} → Block z s → inv_mix_columns z (add_round_key z w n s) ≡ add_round_key z dw n (inv_mix_columns z s)
  unfolding add_round_key inv_mix_columns
  mix_sum {s} b = is_state z _ (add_at z dw n (state z (mix_at inv_mix_row s))) (inv_mix_block z (add_block z w n b)) each
    where
      each : (r c : ℕ) → r < 4 → c < z.columns → at (state z (mix_at inv_mix_row (state z (add_at z w n s)))) r c ≡ add_at z dw n (state z (mix_at inv_mix_row s)) r c
      each r c hr hc =
          let k = get_or w (z.columns * n + c) 0 in
          let lt : (r : ℕ) → at s r c < 256 = λ r. b.bytes (r + 4 * c) in
          at_state z (mix_at inv_mix_row (state z (add_at z w n s))) r c hr hc
          ∙ rw (at_state z (add_at z w n s) r c, at_state z (add_at z w n s) ((r + 1) % 4) c (omega arith), at_state z (add_at z w n s) ((r + 2) % 4) c (omega arith), at_state z (add_at z w n s) ((r + 3) % 4) c (omega arith))
          (row_xor 14 11 13 9 (lt r) (lt ((r + 1) % 4)) (lt ((r + 2) % 4)) (lt ((r + 3) % 4)) (byte_lt r k) (byte_lt ((r + 1) % 4) k) (byte_lt ((r + 2) % 4) k) (byte_lt ((r + 3) % 4) k)
          ∙ ap₂ xor (sym (at_state z (mix_at inv_mix_row s) r c hr hc)) (sym (byte_mixed k r hr) ∙ ap (byte r) (sym (keys c hc))))

-- a round key that is as it was
same_key : (z : Shape) (w dw : List ℕ) (n : ℕ) → ((c : ℕ) → c < z.columns → get_or dw (z.columns * n + c) 0 ≡ get_or w (z.columns * n + c) 0)
    → {s : List ℕ} → Block z s → add_round_key z dw n s ≡ add_round_key z w n s
unfolding add_round_key
same_key z w dw n keys {s} b =
    is_state z _ (add_at z w n s) (add_block z dw n b)
    (λ r c hr hc. at_state z (add_at z dw n s) r c hr hc ∙ ap (λ (x : ℕ). xor (at s r c) (byte r x)) (keys c hc))

-- ---- the cipher

-- dw is a schedule for the way back of w: round keys 0 and nr are as they were, those between mixed back
pub record BackOf (z : Shape) (w dw : List ℕ) (nr : ℕ) : Type 0 where
  pub first : (c : ℕ) → c < z.columns → get_or dw (z.columns * 0 + c) 0 ≡ get_or w (z.columns * 0 + c) 0
  pub last : (c : ℕ) → c < z.columns → get_or dw (z.columns * nr + c) 0 ≡ get_or w (z.columns * nr + c) 0
  pub between : (n c : ℕ) → 0 < n → n < nr → c < z.columns → get_or dw (z.columns * n + c) 0 ≡ inv_mix_column (get_or w (z.columns * n + c) 0)

module _ (z : Shape) (inv : ℕ → ℕ) (lt : (k : ℕ) → k < 256 → inv k < 256) (w dw : List ℕ) (nr : ℕ) (d : BackOf z w dw nr) where
  eq-round : (n : ℕ) → 0 < n → n < nr → {s : List ℕ} → Block z s → eq_round z inv dw n s ≡ inv_round z inv w n s
  unfolding eq_round inv_round
  eq-round n p h b = sym (mix_sum z w dw n (λ c. d.between n c p h) (sub_block inv lt (inv_shift_block z b)))

  eq-rounds : (n : ℕ) → n < nr → {s : List ℕ} → Block z s → eq_rounds z inv dw n s ≡ inv_rounds z inv w n s
  unfolding eq_rounds inv_rounds
  eq-rounds zero h b = refl
  eq-rounds (suc n) h b =
      ap (eq_rounds z inv dw n) (eq-round (suc n) (omega arith) h b)
      ∙ eq-rounds n (omega arith) (inv_round_block z inv lt w (suc n) b)

  pub eq-inv-cipher : 0 < nr → {s : List ℕ} → Block z s → eq_inv_cipher z inv dw nr s ≡ inv_cipher z inv w nr s
  unfolding eq_inv_cipher inv_cipher
  eq-inv-cipher p {s} b =
      let k = add_block z w nr b in
      let m = inv_rounds_block z inv lt w (nr - 1) k in
      ap (λ (x : List ℕ). add_round_key z dw 0 (sub_bytes inv (inv_shift_rows z (eq_rounds z inv dw (nr - 1) x)))) (same_key z w dw nr d.last b)
      ∙ ap (λ (x : List ℕ). add_round_key z dw 0 (sub_bytes inv (inv_shift_rows z x))) (eq-rounds (nr - 1) (omega arith) k)
      ∙ same_key z w dw 0 d.first (sub_block inv lt (inv_shift_block z m))

-- the words of KEYEXPANSIONEIC are such a schedule, where w has the words
pub words_back_of : (z : Shape) (w : List ℕ) (nr : ℕ) → 0 < nr → z.columns * nr + z.columns ≤ length w → BackOf z w (equivalent_words z w nr) nr
words_back_of z w nr p h = record {
  first = λ c l.
      let k : z.columns * 0 + c < z.columns = omega arith in
      let m : z.columns ≤ z.columns * nr = le-mul_of_pos_right z.columns p in
      mixed_at _ w _ (z.columns * 0 + c) (omega arith) ∙ mixed_before _ _ w (z.columns * 0 + c) k;
  last = λ c l. mixed_at _ w _ (z.columns * nr + c) (omega arith) ∙ mixed_after _ _ w (z.columns * nr + c) (omega arith);
  between = λ n c q u l.
      let a : z.columns ≤ z.columns * n = le-mul_of_pos_right z.columns q in
      let b : z.columns * n + z.columns ≤ z.columns * nr = rw (← mul-suc z.columns n) (mul-le-mul_left z.columns u) in
      mixed_at _ w _ (z.columns * n + c) (omega arith) ∙ mixed_within _ _ w (z.columns * n + c) (omega arith) (omega arith);
}

-- AES: decrypting over the words mixed back is decrypting
pub eq_decrypt : (inv : ℕ → ℕ) → ((k : ℕ) → k < 256 → inv k < 256) → (w : List ℕ) → length w ≡ 60 → (nr : ℕ) {b : List ℕ} → Octets 16 b
    → eq_decrypt_block inv (inverse_words w nr) nr b ≡ decrypt_block inv w nr b
unfolding eq_decrypt_block decrypt_block inverse_words
eq_decrypt inv lt w e nr {b} o = on (round_count nr) refl
  where
    on : (k : Bool) → round_count nr ≡ k
        → cond k (eq_inv_cipher aes inv (cond k (equivalent_words aes w nr) w) nr b) (replicate 16 0) ≡ cond k (inv_cipher aes inv w nr b) (replicate 16 0)
    on true known =
        let r = round-count nr known in
        eq-inv-cipher aes inv lt w (equivalent_words aes w nr) nr (words_back_of aes w nr r.0 (omega arith)) r.0 o
    on false known = refl

-- ---- two block ciphers that agree on blocks

pub record Agree (c d : BlockCipher) : Type 0 where
  pub enc_same : (x : List ℕ) → Octets 16 x → c.enc x ≡ d.enc x
  pub dec_same : (x : List ℕ) → Octets 16 x → c.dec x ≡ d.dec x

-- over a schedule and the one that it makes for the way back, the two ways are AES
pub equivalent_agrees : (w : List ℕ) → length w ≡ 60 → (nr : ℕ) → Agree (equivalent_cipher w (inverse_words w nr) nr) (standard w nr)
equivalent_agrees w e nr = record { enc_same = λ x o. refl; dec_same = λ x o. eq_decrypt inv_s_box inv_s_box_lt w e nr o }
