-- Over any schedule, of whatever length, and the one that it makes for the way back, the two ways are AES. Assumes nothing.
use mathlib.Core.Path.{◌≡◌, refl, sym, ap, ◌∙◌}
use mathlib.Core.Bool.{Bool, true, false, ◌&&◌, cond}
use mathlib.Core.List.{List}
use mathlib.Core.Logic.{⊎_elim}
use Prim.Native.Nat.{ℕ, ◌+◌, ◌*◌, ◌≤◌, ◌<◌}
use native.Mathlib.Omega.{arith}
use lib.Dec.{leb, ltb}
use lib.ListN.{length, get_or, replicate, drop_of_length-le}
use lib.Seq.{get_or-drop}
use Rattle.octets.specs.Octets.{xor, Octets}
use Rattle.octets.specs.Words.{word}
use Rattle.octets.proofs.Xor.{lt_or_le}
use Rattle.field.specs.Field.{x_times, product_within, ◌•◌}
use Rattle.aes_sbox.specs.Sbox.{inv_s_box}
use Rattle.aes_sbox.proofs.Laws.{inv_s_box_lt}
use Rattle.aes_mix.specs.Mixing.{row, column, inv_mix_column}
use Rattle.aes_schedule.specs.Schedule.{round_count}
use Rattle.aes_spec.specs.State.{aes}
use Rattle.aes_spec.specs.Cipher.{inv_cipher, decrypt_block, standard}
use Rattle.aes_spec.specs.Model.{mixed_back_at, mixed_back, equivalent_words, inverse_words, eq_inv_cipher, eq_decrypt_block, equivalent_cipher}
use Rattle.aes_spec.proofs.Rounds.{round-count}
use Rattle.aes_spec.proofs.Equivalent.{Agree, BackOf, length_mixed, mixed_at, mixed_within, mixed_before, mixed_after, eq-inv-cipher}

-- past its end a list has zeros, and those are mixed back as they are
past : (s : List ℕ) (i : ℕ) → length s ≤ i → get_or s i 0 ≡ 0
past s i h =
    let e : i ≡ i + 0 = omega arith in
    ap (λ (k : ℕ). get_or s k 0) e ∙ sym (get_or-drop i s 0 0) ∙ ap (λ (t : List ℕ). get_or t 0 0) (drop_of_length-le s {i = i} h)

zero_back : (k : Bool) → cond k (inv_mix_column 0) 0 ≡ 0
unfolding inv_mix_column column row word xor ◌•◌ product_within x_times
zero_back true = refl
zero_back false = refl

module _ (w : List ℕ) (nr : ℕ) where
  word_back : (i : ℕ) → get_or (equivalent_words aes w nr) i 0 ≡ mixed_back_at 4 (4 * nr) w i
  word_back i = ⊎_elim (mixed_at 4 w (4 * nr) i) none (lt_or_le i (length w))
    where
      none : length w ≤ i → get_or (mixed_back 4 (4 * nr) w) i 0 ≡ mixed_back_at 4 (4 * nr) w i
      none h = past (mixed_back 4 (4 * nr) w) i (omega (arith, length_mixed 4 w (4 * nr))) ∙ rw (past w i h) (sym (zero_back (leb 4 i && ltb i (4 * nr))))

  back_of : 0 < nr → BackOf aes w (equivalent_words aes w nr) nr
  back_of p = record {
    first = λ c l. word_back (4 * 0 + c) ∙ mixed_before 4 (4 * nr) w (4 * 0 + c) (omega arith);
    last = λ c l. word_back (4 * nr + c) ∙ mixed_after 4 (4 * nr) w (4 * nr + c) (omega arith);
    between = λ n c q u l. word_back (4 * n + c) ∙ mixed_within 4 (4 * nr) w (4 * n + c) (omega arith) (omega arith);
  }

  decrypts : (b : List ℕ) → Octets 16 b → eq_decrypt_block inv_s_box (inverse_words w nr) nr b ≡ decrypt_block inv_s_box w nr b
  unfolding eq_decrypt_block decrypt_block inverse_words
  decrypts b o = on (round_count nr) refl
    where
      on : (k : Bool) → round_count nr ≡ k
          → cond k (eq_inv_cipher aes inv_s_box (cond k (equivalent_words aes w nr) w) nr b) (replicate 16 0) ≡ cond k (inv_cipher aes inv_s_box w nr b) (replicate 16 0)
      on true known = let p = (round-count nr known).0 in eq-inv-cipher aes inv_s_box inv_s_box_lt w (equivalent_words aes w nr) nr (back_of p) p o
      on false known = refl

  pub both_ways : Agree (equivalent_cipher w (inverse_words w nr) nr) (standard w nr)
  both_ways = record { enc_same = λ x o. refl; dec_same = decrypts }
