-- What is written into the output, and into the memory of an unwrapping, step by step. Assumes nothing.
use mathlib.Core.Path.{◌≡◌, refl, sym, ap, ap₂, ◌∙◌}
use mathlib.Core.Bool.{Bool, true, false}
use mathlib.Core.List.{List, ◌++◌}
use Prim.Native.Nat.{ℕ, ◌+◌, ◌-◌, ◌/◌, ◌%◌, ◌≤◌}
use native.Mathlib.Omega.{arith}
use lib.ListN.{length, take, drop, replicate, length-append, length-drop}
use lib.Seq.{paste, take_at, drop_at, drop-drop, take-append-le, drop-append-le, take-length}
use Rattle.octets_slice.proofs.Laws.{paste_front, drop_zeros}
use Rattle.octets.specs.Octets.{pad_to, same, over}
use Rattle.octets.specs.Blocks.{BlockCipher}
use Rattle.wrap_spec.specs.Wrap.{initial, register, passes, wrapped, unwrapped}
use Rattle.wrap_registers.specs.Model.{passed_over, unpassed_over}
use Rattle.wrap_registers.proofs.Places.{drop_past}
use Rattle.wrap_registers.proofs.Sizes.{passed_is, unpassed_is}
use Rattle.wrap.specs.Model.{opened_over}
use Rattle.wrap.specs.Calls.{opening}
use Rattle.wrap_answer.specs.declared.WrapAnswer.TheVariants.{WrapDone, WrongInitial}

-- ---- wrapping

module _ (c : BlockCipher) (p out : List ℕ) (low : 16 ≤ length p) (high : length p ≤ 64) (eights : length p % 8 ≡ 0) (m : ℕ) (em : m ≡ length p + 8) (o1 o2 mid o3 : List ℕ) (e1 : o1 ≡ paste out 0 initial 8) (e2 : o2 ≡ paste o1 8 p (length p))
    (e3 : mid ≡ passed_over c (take m o2)) (l3 : length mid ≡ length (take m o2)) (e4 : o3 ≡ mid ++ drop m o2) where
  len : length p + 8 ≡ 8 + length p
  len = omega arith

  laid : o2 ≡ (initial ++ p) ++ drop (length p + 8) out
  laid =
      e2 ∙ ap (λ (x : List ℕ). paste x 8 p (length p)) e1
      ∙ ap₂ (λ (x y : List ℕ). (initial ++ x) ++ y) (take-length p) (drop_past initial (drop 8 out) 8 (length p) refl ∙ drop-drop (length p) 8 out ∙ ap (λ (x : ℕ). drop x out) (sym len))

  size : length (initial ++ p) ≡ length p + 8
  size = length-append initial p ∙ sym len

  part : take m o2 ≡ initial ++ p
  part = ap₂ (λ (x : ℕ) (y : List ℕ). take x y) em laid ∙ take_at (initial ++ p) (drop (length p + 8) out) (length p + 8) size

  rest : drop m o2 ≡ drop (length p + 8) out
  rest = ap₂ (λ (x : ℕ) (y : List ℕ). drop x y) em laid ∙ drop_at (initial ++ p) (drop (length p + 8) out) (length p + 8) size

  through : passed_over c (initial ++ p) ≡ wrapped c p
  unfolding wrapped
  through =
      let k : length (initial ++ p) / 8 - 1 ≡ length p / 8 = omega (arith, size) in
      sym (passed_is c (initial ++ p) (omega (arith, size)) (omega (arith, size)) (omega (arith, size))) ∙ ap (λ (x : ℕ). passes c x 6 (initial ++ p)) k

  pub wrapped_over : o3 ≡ over (wrapped c p) out
  wrapped_over =
      let n : length p + 8 ≡ length mid = sym (l3 ∙ ap length part ∙ size) in
      e4 ∙ ap (mid ++◌) (rest ∙ ap (λ (x : ℕ). drop x out) n) ∙ ap (λ (x : List ℕ). over x out) (e3 ∙ ap (passed_over c) part ∙ through)

-- ---- unwrapping

module _ (c : BlockCipher) (d : List ℕ) (low : 24 ≤ length d) (high : length d ≤ 72) (eights : length d % 8 ≡ 0) (m : ℕ) (em : m ≡ length d) (w1 mid w2 : List ℕ) (e1 : w1 ≡ paste (replicate 72 0) 0 d (length d))
    (e2 : mid ≡ unpassed_over c (take m w1)) (l2 : length mid ≡ length (take m w1)) (e3 : w2 ≡ mid ++ drop m w1) where
  filled : w1 ≡ over d (replicate 72 0)
  filled = e1 ∙ paste_front (replicate 72 0) d

  whole : take m w1 ≡ d
  whole = ap₂ (λ (x : ℕ) (y : List ℕ). take x y) em filled ∙ take_at d (drop (length d) (replicate 72 0)) (length d) refl

  past : drop m w1 ≡ replicate (72 - length d) 0
  past = ap₂ (λ (x : ℕ) (y : List ℕ). drop x y) em filled ∙ drop_at d (drop (length d) (replicate 72 0)) (length d) refl ∙ drop_zeros (length d) 72

  mid_is : mid ≡ unwrapped c d
  mid_is = e2 ∙ ap (unpassed_over c) whole ∙ sym (unpassed_is c d low high eights)

  pub opened_size : length (unwrapped c d) ≡ length d
  opened_size = ap length (sym mid_is) ∙ l2 ∙ ap length whole

  pub opened_by : w2 ≡ pad_to 72 (unwrapped c d)
  unfolding pad_to
  opened_by = e3 ∙ ap (mid ++◌) past ∙ ap₂ (λ (x : List ℕ) (n : ℕ). x ++ replicate (72 - n) 0) mid_is (sym opened_size)

module _ (c : BlockCipher) (d out w : List ℕ) (h8 : 8 ≤ length d) (e : w ≡ pad_to 72 (unwrapped c d)) (n : length (unwrapped c d) ≡ length d) where
  pub first_register : register w 0 ≡ register (unwrapped c d) 0
  unfolding pad_to
  first_register = ap (take 8) e ∙ take-append-le 8 (unwrapped c d) (replicate (72 - length (unwrapped c d)) 0) (omega arith)

  key_data : take (length d - 8) (drop 8 w) ≡ drop 8 (unwrapped c d)
  unfolding pad_to
  key_data =
      ap (λ (x : List ℕ). take (length d - 8) (drop 8 x)) e
      ∙ ap (take (length d - 8)) (drop-append-le 8 (unwrapped c d) (replicate (72 - length (unwrapped c d)) 0) (omega arith))
      ∙ take_at (drop 8 (unwrapped c d)) (replicate (72 - length (unwrapped c d)) 0) (length d - 8) (length-drop 8 (unwrapped c d) ∙ ap (◌- 8) n)

  module _ (t : Bool) (et : t ≡ same (register w 0) initial) where
    found : same (register (unwrapped c d) 0) initial ≡ t
    found = sym (et ∙ ap (λ (x : List ℕ). same x initial) first_register)

    pub opened_wrong : t ≡ false → (WrongInitial ≡ opening c d) × (out ≡ opened_over c d out)
    opened_wrong f = let g : same (register (unwrapped c d) 0) initial ≡ false = found ∙ f in (rw g, rw g)

    pub opened_right : t ≡ true → (o : List ℕ) → o ≡ paste out 0 (take (length d - 8) (drop 8 w)) (length (take (length d - 8) (drop 8 w))) → (WrapDone ≡ opening c d) × (o ≡ opened_over c d out)
    opened_right f o eo =
        let g : same (register (unwrapped c d) 0) initial ≡ true = found ∙ f in
        (rw g, rw g (eo ∙ ap (λ (x : List ℕ). paste out 0 x (length x)) key_data ∙ paste_front out (drop 8 (unwrapped c d))))
