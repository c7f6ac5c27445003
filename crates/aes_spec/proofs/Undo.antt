-- Each step of a round undoes its inverse and is undone by it, and so the cipher and its inverse undo each other:
-- for any regular shape, any two substitutions that undo each other, any schedule and any number of rounds. Assumes nothing.
use mathlib.Core.Path.{◌≡◌, refl, sym, ap, ap₂, ◌∙◌}
use mathlib.Core.List.{List}
use Prim.Native.Nat.{ℕ, zero, suc, ◌+◌, ◌-◌, ◌*◌, ◌%◌, ◌<◌}
use native.Mathlib.Nat.{add_assoc, mod-add-mod, add-mod_right, mod-eq_of_lt, mod-lt}
use native.Mathlib.Omega.{arith}
use lib.ListN.{get_or}
use Rattle.octets.specs.Octets.{xor}
use Rattle.octets.specs.Words.{byte}
use Rattle.octets.proofs.Xor.{xor_assoc, xor_comm, xor_left_comm, xor_zero, zero_xor, xor_lt, xor_undo}
use Rattle.octets.proofs.Tests.{on_bytes}
use Rattle.field.specs.Field.{x_times, product_within, ◌•◌}
use Rattle.field.proofs.Laws.{product_lt, product_xor}
use Rattle.aes_mix.specs.Mixing.{row, mix_row, inv_mix_row}
use Rattle.aes_spec.specs.State.{Shape, at, state, mix_at, sub_bytes, shift_rows, inv_shift_rows, mix_columns, inv_mix_columns, add_round_key}
use Rattle.aes_spec.specs.Cipher.{one_round, rounds, cipher, inv_round, inv_rounds, inv_cipher}
use Rattle.aes_spec.proofs.State.{Block, Regular, at_state, is_state, add_at, shift_at, inv_shift_at, add_block, shift_block, inv_shift_block, mix_block, inv_mix_block, sub_block, sub_undone}

-- ---- adding a round key twice

pub unadd : (z : Shape) (w : List ℕ) (n : ℕ) (s : List ℕ) → Block z s → add_round_key z w n (add_round_key z w n s) ≡ s
unfolding add_round_key
unadd z w n s b = sym (is_state z s (add_at z w n (state z (add_at z w n s))) b each)
  where
    each : (r c : ℕ) → r < 4 → c < z.columns → at s r c ≡ add_at z w n (state z (add_at z w n s)) r c
    each r c hr hc =
        let k = byte r (get_or w (z.columns * n + c) 0) in
        sym (ap (λ (x : ℕ). xor x k) (at_state z (add_at z w n s) r c hr hc) ∙ xor_undo (at s r c) k)

-- ---- shifting: s columns on and u more, n in all, come back round

round_again : (n s u c : ℕ) → s + u ≡ n → c < n → ((c + s) % n + u) % n ≡ c
round_again n s u c e h =
    mod-add-mod (c + s) n u ∙ ap (λ (x : ℕ). x % n) (add_assoc c s u ∙ ap (c +◌) e) ∙ add-mod_right c n ∙ mod-eq_of_lt h

module _ (z : Shape) (g : Regular z) where
  pub unshift : (s : List ℕ) → Block z s → inv_shift_rows z (shift_rows z s) ≡ s
  unfolding shift_rows inv_shift_rows
  unshift s b =
      sym (is_state z s (inv_shift_at z (state z (shift_at z s))) b (λ r c hr hc.
      let l = g.within r hr in
      sym (at_state z (shift_at z s) r ((c + (z.columns - z.shift r)) % z.columns) hr (mod-lt _ g.some)
      ∙ ap (at s r) (round_again z.columns (z.columns - z.shift r) (z.shift r) c (omega arith) hc))))

  pub reshift : (s : List ℕ) → Block z s → shift_rows z (inv_shift_rows z s) ≡ s
  unfolding shift_rows inv_shift_rows
  reshift s b =
      sym (is_state z s (shift_at z (state z (inv_shift_at z s))) b (λ r c hr hc.
      let l = g.within r hr in
      sym (at_state z (inv_shift_at z s) r ((c + z.shift r) % z.columns) hr (mod-lt _ g.some)
      ∙ ap (at s r) (round_again z.columns (z.shift r) (z.columns - z.shift r) c (omega arith) hc))))

-- ---- mixing: a matrix times its inverse, where four sums of products are 1, 0, 0, 0 times a byte

-- sixteen terms, by rows and by columns
turn : (a₁ b₁ c₁ d₁ b₂ c₂ d₂ a₂ c₃ d₃ a₃ b₃ d₄ a₄ b₄ c₄ : ℕ)
    → xor (xor (xor (xor a₁ b₁) (xor c₁ d₁)) (xor (xor b₂ c₂) (xor d₂ a₂))) (xor (xor (xor c₃ d₃) (xor a₃ b₃)) (xor (xor d₄ a₄) (xor b₄ c₄)))
    ≡ xor (xor (xor (xor a₁ a₂) (xor a₃ a₄)) (xor (xor b₁ b₂) (xor b₃ b₄))) (xor (xor (xor c₁ c₂) (xor c₃ c₄)) (xor (xor d₁ d₂) (xor d₃ d₄)))
turn a₁ b₁ c₁ d₁ b₂ c₂ d₂ a₂ c₃ d₃ a₃ b₃ d₄ a₄ b₄ c₄ = simp (xor_assoc, xor_comm, xor_left_comm)

-- the sum of the products of x with four pairs of factors
sums : ℕ → ℕ → ℕ → ℕ → ℕ → ℕ → ℕ → ℕ → ℕ → ℕ
sums p p' q q' u u' v v' x = xor (xor (x • p • p') (x • q • q')) (xor (x • u • u') (x • v • v'))

module _ (p q u v p' q' u' v' : ℕ)
    (one : (x : ℕ) → x < 256 → sums p p' v q' u u' q v' x ≡ x)
    (two : (x : ℕ) → x < 256 → sums q p' p q' v u' u v' x ≡ 0)
    (three : (x : ℕ) → x < 256 → sums u p' q q' p u' v v' x ≡ 0)
    (four : (x : ℕ) → x < 256 → sums v p' u q' q u' p v' x ≡ 0) where
  spread : (n a b c d : ℕ) → a < 256 → b < 256 → c < 256 → d < 256
      → row p q u v a b c d • n ≡ xor (xor (a • p • n) (b • q • n)) (xor (c • u • n) (d • v • n))
  unfolding row
  spread n a b c d ha hb hc hd =
      product_xor (xor (a • p) (b • q)) (xor (c • u) (d • v)) n (xor_lt (product_lt p ha) (product_lt q hb)) (xor_lt (product_lt u hc) (product_lt v hd))
      ∙ ap₂ xor (product_xor (a • p) (b • q) n (product_lt p ha) (product_lt q hb)) (product_xor (c • u) (d • v) n (product_lt u hc) (product_lt v hd))

  unrow : (a b c d : ℕ) → a < 256 → b < 256 → c < 256 → d < 256
      → row p' q' u' v' (row p q u v a b c d) (row p q u v b c d a) (row p q u v c d a b) (row p q u v d a b c) ≡ a
  unfolding row sums
  unrow a b c d ha hb hc hd =
      ap₂ xor
      (ap₂ xor (spread p' a b c d ha hb hc hd) (spread q' b c d a hb hc hd ha))
      (ap₂ xor (spread u' c d a b hc hd ha hb) (spread v' d a b c hd ha hb hc))
      ∙ turn _ _ _ _ _ _ _ _ _ _ _ _ _ _ _ _
      ∙ ap₂ xor (ap₂ xor (one a ha) (two b hb)) (ap₂ xor (three c hc) (four d hd))
      ∙ ap (xor (xor a 0)) (zero_xor 0) ∙ xor_zero (xor a 0) ∙ xor_zero a

Undoes : (first second : ℕ → ℕ → ℕ → ℕ → ℕ) → Type 0
Undoes first second = (a b c d : ℕ) → a < 256 → b < 256 → c < 256 → d < 256
    → second (first a b c d) (first b c d a) (first c d a b) (first d a b c) ≡ a

unmix_row : Undoes mix_row inv_mix_row
unfolding Undoes sums ◌•◌ product_within x_times xor
unmix_row = unrow 2 3 1 1 14 11 13 9 (on_bytes (sums 2 14 1 11 1 13 3 9) (λ x. x) tt) (on_bytes (sums 3 14 2 11 1 13 1 9) (λ x. 0) tt)
    (on_bytes (sums 1 14 3 11 2 13 1 9) (λ x. 0) tt) (on_bytes (sums 1 14 1 11 3 13 2 9) (λ x. 0) tt)

remix_row : Undoes inv_mix_row mix_row
unfolding Undoes sums ◌•◌ product_within x_times xor
remix_row = unrow 14 11 13 9 2 3 1 1 (on_bytes (sums 14 2 9 3 13 1 11 1) (λ x. x) tt) (on_bytes (sums 11 2 14 3 9 1 13 1) (λ x. 0) tt)
    (on_bytes (sums 13 2 11 3 14 1 9 1) (λ x. 0) tt) (on_bytes (sums 9 2 13 3 11 1 14 1) (λ x. 0) tt)

pub by_row : (P : ℕ → Type 0) → P 0 → P 1 → P 2 → P 3 → (r : ℕ) → r < 4 → P r
by_row P p q u v zero h = p
by_row P p q u v (suc zero) h = q
by_row P p q u v (suc (suc zero)) h = u
by_row P p q u v (suc (suc (suc zero))) h = v
by_row P p q u v (suc (suc (suc (suc r)))) h = absurd (omega arith)

module _ (z : Shape) (first second : ℕ → ℕ → ℕ → ℕ → ℕ) (undoes : Undoes first second) where
  unmixed : (s : List ℕ) → Block z s → state z (mix_at second (state z (mix_at first s))) ≡ s
  unfolding Undoes
  unmixed s b = sym (is_state z s (mix_at second (state z (mix_at first s))) b (λ r c hr hc. sym (each c hc r hr)))
    where
      each : (c : ℕ) → c < z.columns → (r : ℕ) → r < 4 → mix_at second (state z (mix_at first s)) r c ≡ at s r c
      each c hc =
          let lt : (r : ℕ) → at s r c < 256 = λ r. b.bytes (r + 4 * c) in
          let e0 = at_state z (mix_at first s) 0 c (omega arith) hc in
          let e1 = at_state z (mix_at first s) 1 c (omega arith) hc in
          let e2 = at_state z (mix_at first s) 2 c (omega arith) hc in
          let e3 = at_state z (mix_at first s) 3 c (omega arith) hc in
          by_row (λ r. mix_at second (state z (mix_at first s)) r c ≡ at s r c)
          (rw (e0, e1, e2, e3) (undoes (at s 0 c) (at s 1 c) (at s 2 c) (at s 3 c) (lt 0) (lt 1) (lt 2) (lt 3)))
          (rw (e0, e1, e2, e3) (undoes (at s 1 c) (at s 2 c) (at s 3 c) (at s 0 c) (lt 1) (lt 2) (lt 3) (lt 0)))
          (rw (e0, e1, e2, e3) (undoes (at s 2 c) (at s 3 c) (at s 0 c) (at s 1 c) (lt 2) (lt 3) (lt 0) (lt 1)))
          (rw (e0, e1, e2, e3) (undoes (at s 3 c) (at s 0 c) (at s 1 c) (at s 2 c) (lt 3) (lt 0) (lt 1) (lt 2)))

pub unmix : (z : Shape) (s : List ℕ) → Block z s → inv_mix_columns z (mix_columns z s) ≡ s
unfolding mix_columns inv_mix_columns
unmix z = unmixed z mix_row inv_mix_row unmix_row

pub remix : (z : Shape) (s : List ℕ) → Block z s → mix_columns z (inv_mix_columns z s) ≡ s
unfolding mix_columns inv_mix_columns
remix z = unmixed z inv_mix_row mix_row remix_row

-- ---- the cipher

-- two substitutions of bytes that undo each other
pub record Inverse (sub inv : ℕ → ℕ) : Type 0 where
  pub sub_lt : (k : ℕ) → k < 256 → sub k < 256
  pub inv_lt : (k : ℕ) → k < 256 → inv k < 256
  pub inv_sub : (k : ℕ) → k < 256 → inv (sub k) ≡ k
  pub sub_inv : (k : ℕ) → k < 256 → sub (inv k) ≡ k

module _ (z : Shape) (sub : ℕ → ℕ) (lt : (k : ℕ) → k < 256 → sub k < 256) (w : List ℕ) where
  pub rounds_block : (n : ℕ) {s : List ℕ} → Block z s → Block z (rounds z sub w n s)
  unfolding rounds one_round
  rounds_block zero b = b
  rounds_block (suc n) b = add_block z w (suc n) (mix_block z (shift_block z (sub_block sub lt (rounds_block n b))))

  pub cipher_block : (nr : ℕ) {s : List ℕ} → Block z s → Block z (cipher z sub w nr s)
  unfolding cipher
  cipher_block nr b = add_block z w nr (shift_block z (sub_block sub lt (rounds_block (nr - 1) (add_block z w 0 b))))

  pub inv_round_block : (n : ℕ) {s : List ℕ} → Block z s → Block z (inv_round z sub w n s)
  unfolding inv_round
  inv_round_block n b = inv_mix_block z (add_block z w n (sub_block sub lt (inv_shift_block z b)))

  pub inv_rounds_block : (n : ℕ) {s : List ℕ} → Block z s → Block z (inv_rounds z sub w n s)
  unfolding inv_rounds
  inv_rounds_block zero b = b
  inv_rounds_block (suc n) b = inv_rounds_block n (inv_round_block (suc n) b)

  pub inv_cipher_block : (nr : ℕ) {s : List ℕ} → Block z s → Block z (inv_cipher z sub w nr s)
  unfolding inv_cipher
  inv_cipher_block nr b = add_block z w 0 (sub_block sub lt (inv_shift_block z (inv_rounds_block (nr - 1) (add_block z w nr b))))

module _ (z : Shape) (g : Regular z) (sub inv : ℕ → ℕ) (i : Inverse sub inv) (w : List ℕ) where
  -- substituted and shifted, and back
  there : List ℕ → List ℕ
  there s = shift_rows z (sub_bytes sub s)

  back : List ℕ → List ℕ
  back s = sub_bytes inv (inv_shift_rows z s)

  there_block : {s : List ℕ} → Block z s → Block z (there s)
  unfolding there
  there_block b = shift_block z (sub_block sub i.sub_lt b)

  back_block : {s : List ℕ} → Block z s → Block z (back s)
  unfolding back
  back_block b = sub_block inv i.inv_lt (inv_shift_block z b)

  back_there : {s : List ℕ} → Block z s → back (there s) ≡ s
  unfolding there back
  back_there {s} b =
      ap (sub_bytes inv) (unshift z g (sub_bytes sub s) (sub_block sub i.sub_lt b)) ∙ sub_undone sub inv i.inv_sub s b.bytes

  there_back : {s : List ℕ} → Block z s → there (back s) ≡ s
  unfolding there back
  there_back {s} b =
      ap (shift_rows z) (sub_undone inv sub i.sub_inv (inv_shift_rows z s) (inv_shift_block z b).bytes) ∙ reshift z g s b

  -- one round, and then all, taken back
  round_back : (n : ℕ) {s : List ℕ} → Block z s → inv_round z inv w n (there (one_round z sub w n s)) ≡ there s
  unfolding there back one_round inv_round
  round_back n {s} b =
      let m = mix_block z (there_block b) in
      ap (λ (x : List ℕ). inv_mix_columns z (add_round_key z w n x)) (back_there (add_block z w n m))
      ∙ ap (inv_mix_columns z) (unadd z w n (mix_columns z (there s)) m)
      ∙ unmix z (there s) (there_block b)

  rounds_back : (n : ℕ) {s : List ℕ} → Block z s → inv_rounds z inv w n (there (rounds z sub w n s)) ≡ there s
  unfolding rounds inv_rounds
  rounds_back zero b = refl
  rounds_back (suc n) b = ap (inv_rounds z inv w n) (round_back (suc n) (rounds_block z sub i.sub_lt w n b)) ∙ rounds_back n b

  pub decipher_cipher : (nr : ℕ) {s : List ℕ} → Block z s → inv_cipher z inv w nr (cipher z sub w nr s) ≡ s
  unfolding cipher inv_cipher there back
  decipher_cipher nr {s} b =
      ap (λ (x : List ℕ). add_round_key z w 0 (back (inv_rounds z inv w (nr - 1) x)))
      (unadd z w nr (there (rounds z sub w (nr - 1) (add_round_key z w 0 s))) (there_block (rounds_block z sub i.sub_lt w (nr - 1) (add_block z w 0 b))))
      ∙ ap (λ (x : List ℕ). add_round_key z w 0 (back x)) (rounds_back (nr - 1) (add_block z w 0 b))
      ∙ ap (add_round_key z w 0) (back_there (add_block z w 0 b))
      ∙ unadd z w 0 s b

  -- one round taken back and done again, and then all
  round_redone : (n : ℕ) {s : List ℕ} → Block z s → one_round z sub w n (back (inv_round z inv w n s)) ≡ back s
  unfolding there back one_round inv_round
  round_redone n {s} b =
      ap (λ (x : List ℕ). add_round_key z w n (mix_columns z x)) (there_back (inv_round_block z inv i.inv_lt w n b))
      ∙ ap (add_round_key z w n) (remix z (add_round_key z w n (back s)) (add_block z w n (back_block b)))
      ∙ unadd z w n (back s) (back_block b)

  rounds_again : (n : ℕ) {s : List ℕ} → Block z s → rounds z sub w n (back (inv_rounds z inv w n s)) ≡ back s
  unfolding rounds inv_rounds
  rounds_again zero b = refl
  rounds_again (suc n) b =
      ap (one_round z sub w (suc n)) (rounds_again n (inv_round_block z inv i.inv_lt w (suc n) b)) ∙ round_redone (suc n) b

  pub cipher_decipher : (nr : ℕ) {s : List ℕ} → Block z s → cipher z sub w nr (inv_cipher z inv w nr s) ≡ s
  unfolding cipher inv_cipher there back
  cipher_decipher nr {s} b =
      ap (λ (x : List ℕ). add_round_key z w nr (there (rounds z sub w (nr - 1) x)))
      (unadd z w 0 (back (inv_rounds z inv w (nr - 1) (add_round_key z w nr s))) (back_block (inv_rounds_block z inv i.inv_lt w (nr - 1) (add_block z w nr b))))
      ∙ ap (λ (x : List ℕ). add_round_key z w nr (there x)) (rounds_again (nr - 1) (add_block z w nr b))
      ∙ ap (add_round_key z w nr) (there_back (add_block z w nr b))
      ∙ unadd z w nr s b
