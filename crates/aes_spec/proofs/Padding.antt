-- Zeros past a schedule's last word change nothing. Assumes nothing.
use mathlib.Core.Path.{◌≡◌, refl, ap, ◌∙◌}
use mathlib.Core.List.{List}
use Prim.Native.Nat.{ℕ, zero, suc, ◌-◌}
use Rattle.octets.specs.Octets.{pad_to}
use Rattle.octets.proofs.Fill.{get_d_pad_to}
use Rattle.aes_spec.specs.State.{Shape, add_round_key, sub_bytes, shift_rows, inv_shift_rows, mix_columns, inv_mix_columns}
use Rattle.aes_spec.specs.Cipher.{one_round, rounds, cipher, inv_round, inv_rounds, inv_cipher}

module _ (z : Shape) (sub : ℕ → ℕ) (m : ℕ) (w : List ℕ) where
  add_padded : (n : ℕ) (s : List ℕ) → add_round_key z (pad_to m w) n s ≡ add_round_key z w n s
  unfolding add_round_key
  add_padded n s = simp (get_d_pad_to m w)

  rounds_padded : (n : ℕ) (s : List ℕ) → rounds z sub (pad_to m w) n s ≡ rounds z sub w n s
  unfolding rounds one_round
  rounds_padded zero s = refl
  rounds_padded (suc n) s = add_padded (suc n) _ ∙ ap (λ (x : List ℕ). add_round_key z w (suc n) (mix_columns z (shift_rows z (sub_bytes sub x)))) (rounds_padded n s)

  pub cipher_padded : (nr : ℕ) (s : List ℕ) → cipher z sub (pad_to m w) nr s ≡ cipher z sub w nr s
  unfolding cipher
  cipher_padded nr s =
      add_padded nr _
      ∙ ap (λ (x : List ℕ). add_round_key z w nr (shift_rows z (sub_bytes sub x)))
      (rounds_padded (nr - 1) _ ∙ ap (rounds z sub w (nr - 1)) (add_padded 0 s))

  inv_rounds_padded : (n : ℕ) (s : List ℕ) → inv_rounds z sub (pad_to m w) n s ≡ inv_rounds z sub w n s
  unfolding inv_rounds inv_round
  inv_rounds_padded zero s = refl
  inv_rounds_padded (suc n) s =
      inv_rounds_padded n _ ∙ ap (λ (x : List ℕ). inv_rounds z sub w n (inv_mix_columns z x)) (add_padded (suc n) (sub_bytes sub (inv_shift_rows z s)))

  pub inv_cipher_padded : (nr : ℕ) (s : List ℕ) → inv_cipher z sub (pad_to m w) nr s ≡ inv_cipher z sub w nr s
  unfolding inv_cipher
  inv_cipher_padded nr s =
      add_padded 0 _
      ∙ ap (λ (x : List ℕ). add_round_key z w 0 (sub_bytes sub (inv_shift_rows z x)))
      (inv_rounds_padded (nr - 1) _ ∙ ap (inv_rounds z sub w (nr - 1)) (add_padded nr s))
