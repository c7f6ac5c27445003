-- Decryption undoes encryption, and the reverse, step by step and for every key and block. Assumes nothing.
use mathlib.Core.Path.{◌≡◌, refl, sym, ap, ◌∙◌}
use mathlib.Core.Bool.{true, false, cond}
use Prim.Native.Nat.{ℕ, ◌+◌, ◌*◌, ◌/◌, ◌%◌, ◌<◌}
use native.Mathlib.Omega.{arith}
use Rattle.octets.specs.Octets.{xor}
use Rattle.octets.proofs.Xor.{xor_undo}
use Rattle.saes_spec.specs.Nibbles.{◌•₄◌}
use Rattle.saes_spec.specs.Sbox.{s_box, inv_s_box}
use Rattle.saes_spec.specs.Saes.{word, state, ◌⊕◌, state_of, number_of, rot_nib, sub_nib, g, next_key, key0, key1, key2, add_round_key, sub_nibbles, shift_rows, mix_column, mix_columns, round, encrypted, inv_sub_nib, inv_sub_nibbles, inv_round, decrypted}
use Rattle.saes_spec.specs.declared.Word.{Word}
use Rattle.saes_spec.specs.declared.State.{State}
use Rattle.saes_spec.proofs.Nibbles.{xor_nibble, product_nibble, s_nibble, inv_s_nibble, inv_s_undoes_s, s_undoes_inv_s, unmixed, remixed}

-- ---- words and states of nibbles

pub record NibbleWord (w : Word) : Type 0 where
  pub high_lt : w.high < 16
  pub low_lt : w.low < 16

pub record Nibbles (s : State) : Type 0 where
  pub left_nibbles : NibbleWord s.left
  pub right_nibbles : NibbleWord s.right

sum_nibbles : (w v : Word) → NibbleWord w → NibbleWord v → NibbleWord (w ⊕ v)
sum_nibbles w v a b = record { high_lt = xor_nibble w.high v.high a.high_lt b.high_lt; low_lt = xor_nibble w.low v.low a.low_lt b.low_lt }

sub-nibbles : (w : Word) → NibbleWord w → NibbleWord (sub_nib w)
sub-nibbles w a = record { high_lt = s_nibble w.high a.high_lt; low_lt = s_nibble w.low a.low_lt }

inv-sub-nibbles : (w : Word) → NibbleWord w → NibbleWord (inv_sub_nib w)
inv-sub-nibbles w a = record { high_lt = inv_s_nibble w.high a.high_lt; low_lt = inv_s_nibble w.low a.low_lt }

column_nibbles : (p q : ℕ) → p < 16 → q < 16 → (w : Word) → NibbleWord w → NibbleWord (mix_column p q w)
column_nibbles p q hp hq w a =
    let x = w.high in
    let y = w.low in
    record {
      high_lt = xor_nibble (p •₄ x) (q •₄ y) (product_nibble p x hp a.high_lt) (product_nibble q y hq a.low_lt);
      low_lt = xor_nibble (q •₄ x) (p •₄ y) (product_nibble q x hq a.high_lt) (product_nibble p y hp a.low_lt);
    }

pub state_nibbles : (n : ℕ) → Nibbles (state_of n)
state_nibbles n = record { left_nibbles = record { high_lt = omega arith; low_lt = omega arith }; right_nibbles = record { high_lt = omega arith; low_lt = omega arith } }

added_nibbles : (k s : State) → Nibbles k → Nibbles s → Nibbles (add_round_key k s)
added_nibbles k s a b = record {
  left_nibbles = sum_nibbles s.left k.left b.left_nibbles a.left_nibbles;
  right_nibbles = sum_nibbles s.right k.right b.right_nibbles a.right_nibbles;
}

substituted_nibbles : (s : State) → Nibbles s → Nibbles (sub_nibbles s)
substituted_nibbles s a = record { left_nibbles = sub-nibbles s.left a.left_nibbles; right_nibbles = sub-nibbles s.right a.right_nibbles }

inv_substituted_nibbles : (s : State) → Nibbles s → Nibbles (inv_sub_nibbles s)
inv_substituted_nibbles s a = record { left_nibbles = inv-sub-nibbles s.left a.left_nibbles; right_nibbles = inv-sub-nibbles s.right a.right_nibbles }

shifted_nibbles : (s : State) → Nibbles s → Nibbles (shift_rows s)
shifted_nibbles s a = record {
  left_nibbles = record { high_lt = a.left_nibbles.high_lt; low_lt = a.right_nibbles.low_lt };
  right_nibbles = record { high_lt = a.right_nibbles.high_lt; low_lt = a.left_nibbles.low_lt };
}

mixed_nibbles : (p q : ℕ) → p < 16 → q < 16 → (s : State) → Nibbles s → Nibbles (mix_columns p q s)
mixed_nibbles p q hp hq s a = record { left_nibbles = column_nibbles p q hp hq s.left a.left_nibbles; right_nibbles = column_nibbles p q hp hq s.right a.right_nibbles }

next_nibbles : (rcon : Word) (k : State) → NibbleWord rcon → Nibbles k → Nibbles (next_key rcon k)
next_nibbles rcon k c a =
    let w = k.left in
    let v = k.right in
    let r = word v.low v.high in
    let t = rcon ⊕ sub_nib r in
    let nt = sum_nibbles rcon (sub_nib r) c (sub-nibbles r (record { high_lt = a.right_nibbles.low_lt; low_lt = a.right_nibbles.high_lt })) in
    let n = sum_nibbles w t a.left_nibbles nt in
    record { left_nibbles = n; right_nibbles = sum_nibbles (w ⊕ t) v n a.right_nibbles }

pub key0_nibbles : (key : ℕ) → Nibbles (key0 key)
key0_nibbles key = state_nibbles key

pub key1_nibbles : (key : ℕ) → Nibbles (key1 key)
key1_nibbles key = next_nibbles (word 0x8 0x0) (key0 key) (record { high_lt = omega arith; low_lt = omega arith }) (key0_nibbles key)

pub key2_nibbles : (key : ℕ) → Nibbles (key2 key)
key2_nibbles key = next_nibbles (word 0x3 0x0) (key1 key) (record { high_lt = omega arith; low_lt = omega arith }) (key1_nibbles key)

-- ---- each step undone

pub state_of_number : (s : State) → Nibbles s → state_of (number_of s) ≡ s
state_of_number s a =
    let x = s.left.high in
    let y = s.left.low in
    let z = s.right.high in
    let t = s.right.low in
    let n = x % 16 * 4096 + y % 16 * 256 + z % 16 * 16 + t % 16 in
    let l = a.left_nibbles in
    let r = a.right_nibbles in
    let ex : n / 4096 % 16 ≡ x = omega (arith, l.high_lt) in
    let ey : n / 256 % 16 ≡ y = omega (arith, l.low_lt) in
    let ez : n / 16 % 16 ≡ z = omega (arith, r.high_lt) in
    let et : n % 16 ≡ t = omega (arith, r.low_lt) in
    rw (ex, ey, ez, et)

pub number_of_state : (n : ℕ) → n < 65536 → number_of (state_of n) ≡ n
number_of_state n h =
    let a : n / 4096 % 16 % 16 * 16 + n / 256 % 16 % 16 ≡ n / 256 = omega arith in
    let b : n / 256 * 16 + n / 16 % 16 % 16 ≡ n / 16 = omega arith in
    let c : n / 16 * 16 + n % 16 % 16 ≡ n = omega arith in
    joined (n / 4096 % 16 % 16) (n / 256 % 16 % 16) (n / 16 % 16 % 16) (n % 16 % 16) (n / 256) (n / 16) n a b c
  where
    joined : (x y z t u v n : ℕ) → x * 16 + y ≡ u → u * 16 + z ≡ v → v * 16 + t ≡ n → x * 4096 + y * 256 + z * 16 + t ≡ n
    joined x y z t u v n a b c = omega arith

pub add_undone : (k s : State) → add_round_key k (add_round_key k s) ≡ s
add_undone k s =
    rw (xor_undo s.left.high k.left.high, xor_undo s.left.low k.left.low, xor_undo s.right.high k.right.high, xor_undo s.right.low k.right.low)

pub shift_undone : (s : State) → shift_rows (shift_rows s) ≡ s
shift_undone s = refl

pub inv_sub_undoes_sub : (s : State) → Nibbles s → inv_sub_nibbles (sub_nibbles s) ≡ s
inv_sub_undoes_sub s a =
    let l = a.left_nibbles in
    let r = a.right_nibbles in
    rw (inv_s_undoes_s s.left.high l.high_lt, inv_s_undoes_s s.left.low l.low_lt, inv_s_undoes_s s.right.high r.high_lt, inv_s_undoes_s s.right.low r.low_lt)

pub sub_undoes_inv_sub : (s : State) → Nibbles s → sub_nibbles (inv_sub_nibbles s) ≡ s
sub_undoes_inv_sub s a =
    let l = a.left_nibbles in
    let r = a.right_nibbles in
    rw (s_undoes_inv_s s.left.high l.high_lt, s_undoes_inv_s s.left.low l.low_lt, s_undoes_inv_s s.right.high r.high_lt, s_undoes_inv_s s.right.low r.low_lt)

pub unmix_undoes_mix : (s : State) → Nibbles s → mix_columns 9 2 (mix_columns 1 4 s) ≡ s
unmix_undoes_mix s a =
    let l = unmixed s.left.high s.left.low a.left_nibbles.high_lt a.left_nibbles.low_lt in
    let r = unmixed s.right.high s.right.low a.right_nibbles.high_lt a.right_nibbles.low_lt in
    rw (l.0, l.1, r.0, r.1)

pub mix_undoes_unmix : (s : State) → Nibbles s → mix_columns 1 4 (mix_columns 9 2 s) ≡ s
mix_undoes_unmix s a =
    let l = remixed s.left.high s.left.low a.left_nibbles.high_lt a.left_nibbles.low_lt in
    let r = remixed s.right.high s.right.low a.right_nibbles.high_lt a.right_nibbles.low_lt in
    rw (l.0, l.1, r.0, r.1)

-- ---- rounds undone

-- what a round does before it mixes, and that undone
there : State → State
there s = shift_rows (sub_nibbles s)

back : State → State
back s = inv_sub_nibbles (shift_rows s)

there_nibbles : (s : State) → Nibbles s → Nibbles (there s)
unfolding there
there_nibbles s a = shifted_nibbles (sub_nibbles s) (substituted_nibbles s a)

back_nibbles : (s : State) → Nibbles s → Nibbles (back s)
unfolding back
back_nibbles s a = inv_substituted_nibbles (shift_rows s) (shifted_nibbles s a)

back_there : (s : State) → Nibbles s → back (there s) ≡ s
unfolding back there
back_there s a = ap inv_sub_nibbles (shift_undone (sub_nibbles s)) ∙ inv_sub_undoes_sub s a

there_back : (s : State) → Nibbles s → there (back s) ≡ s
unfolding back there
there_back s a = ap shift_rows (sub_undoes_inv_sub (shift_rows s) (shifted_nibbles s a)) ∙ shift_undone s

-- two rounds under any three round keys, and back
abbrev pub forward : (k0 k1 k2 s : State) → State
forward k0 k1 k2 s = round false k2 (round true k1 (add_round_key k0 s))

abbrev pub backward : (k0 k1 k2 s : State) → State
backward k0 k1 k2 s = inv_round true k0 (inv_round false k1 (add_round_key k2 s))

module _ (k0 k1 k2 s : State) (n0 : Nibbles k0) (n1 : Nibbles k1) (n2 : Nibbles k2) (n : Nibbles s) where
  pub forward_nibbles : Nibbles (forward k0 k1 k2 s)
  unfolding there
  forward_nibbles =
      let a = add_round_key k0 s in
      let m = mix_columns 1 4 (there a) in
      let nm = mixed_nibbles 1 4 (omega arith) (omega arith) (there a) (there_nibbles a (added_nibbles k0 s n0 n)) in
      let b = add_round_key k1 m in
      added_nibbles k2 (there b) n2 (there_nibbles b (added_nibbles k1 m n1 nm))

  pub backward_nibbles : Nibbles (backward k0 k1 k2 s)
  unfolding back
  backward_nibbles =
      let a = add_round_key k2 s in
      let b = add_round_key k1 (back a) in
      let nb = added_nibbles k1 (back a) n1 (back_nibbles a (added_nibbles k2 s n2 n)) in
      let m = mix_columns 9 2 b in
      added_nibbles k0 (back m) n0 (back_nibbles m (mixed_nibbles 9 2 (omega arith) (omega arith) b nb))

  pub backward_forward : backward k0 k1 k2 (forward k0 k1 k2 s) ≡ s
  unfolding there back
  backward_forward =
      let a = add_round_key k0 s in
      let na = added_nibbles k0 s n0 n in
      let nt = there_nibbles a na in
      let m = mix_columns 1 4 (there a) in
      let b = add_round_key k1 m in
      let nb = added_nibbles k1 m n1 (mixed_nibbles 1 4 (omega arith) (omega arith) (there a) nt) in
      ap (λ (x : State). add_round_key k0 (back (mix_columns 9 2 (add_round_key k1 (back x))))) (add_undone k2 (there b))
      ∙ ap (λ (x : State). add_round_key k0 (back (mix_columns 9 2 (add_round_key k1 x)))) (back_there b nb)
      ∙ ap (λ (x : State). add_round_key k0 (back (mix_columns 9 2 x))) (add_undone k1 m)
      ∙ ap (λ (x : State). add_round_key k0 (back x)) (unmix_undoes_mix (there a) nt)
      ∙ ap (add_round_key k0) (back_there a na)
      ∙ add_undone k0 s

  pub forward_backward : forward k0 k1 k2 (backward k0 k1 k2 s) ≡ s
  unfolding there back
  forward_backward =
      let a = add_round_key k2 s in
      let na = added_nibbles k2 s n2 n in
      let b = add_round_key k1 (back a) in
      let nb = added_nibbles k1 (back a) n1 (back_nibbles a na) in
      let m = mix_columns 9 2 b in
      let nm = mixed_nibbles 9 2 (omega arith) (omega arith) b nb in
      ap (λ (x : State). add_round_key k2 (there (add_round_key k1 (mix_columns 1 4 (there x))))) (add_undone k0 (back m))
      ∙ ap (λ (x : State). add_round_key k2 (there (add_round_key k1 (mix_columns 1 4 x)))) (there_back m nm)
      ∙ ap (λ (x : State). add_round_key k2 (there (add_round_key k1 x))) (mix_undoes_unmix b nb)
      ∙ ap (λ (x : State). add_round_key k2 (there x)) (add_undone k1 (back a))
      ∙ ap (add_round_key k2) (there_back a na)
      ∙ add_undone k2 s

-- ---- every key and every block

module _ (key block : ℕ) (h : block < 65536) where
  pub decrypt_undoes_encrypt : (decrypted key (encrypted key block).third).third ≡ block
  decrypt_undoes_encrypt =
      let p = state_of block in
      let c = forward (key0 key) (key1 key) (key2 key) p in
      let n = forward_nibbles (key0 key) (key1 key) (key2 key) p (key0_nibbles key) (key1_nibbles key) (key2_nibbles key) (state_nibbles block) in
      ap (λ (x : State). number_of (backward (key0 key) (key1 key) (key2 key) x)) (state_of_number c n)
      ∙ ap number_of (backward_forward (key0 key) (key1 key) (key2 key) p (key0_nibbles key) (key1_nibbles key) (key2_nibbles key) (state_nibbles block))
      ∙ number_of_state block h

  pub encrypt_undoes_decrypt : (encrypted key (decrypted key block).third).third ≡ block
  encrypt_undoes_decrypt =
      let p = state_of block in
      let c = backward (key0 key) (key1 key) (key2 key) p in
      let n = backward_nibbles (key0 key) (key1 key) (key2 key) p (key0_nibbles key) (key1_nibbles key) (key2_nibbles key) (state_nibbles block) in
      ap (λ (x : State). number_of (forward (key0 key) (key1 key) (key2 key) x)) (state_of_number c n)
      ∙ ap number_of (forward_backward (key0 key) (key1 key) (key2 key) p (key0_nibbles key) (key1_nibbles key) (key2_nibbles key) (state_nibbles block))
      ∙ number_of_state block h
