-- The bytes that a run takes: whole pieces, and what is left behind them. Assumes nothing.
use mathlib.Core.Path.{◌≡◌, sym, ap, ◌∙◌}
use mathlib.Core.List.{List, [], ◌++◌, append_assoc, append-nil}
use mathlib.Core.Bool.{true, false}
use Prim.Native.Nat.{ℕ, ◌+◌, ◌-◌, ◌*◌, ◌/◌, ◌≤◌, ◌<◌, min}
use native.Mathlib.Nat.{zero-lt-suc}
use native.Mathlib.Omega.{arith}
use lib.ListN.{length, take, drop, length-append, length-take, length-drop, take-append-drop, drop_of_length-le}
use lib.Seq.{take_at, drop_at, drop-drop, take_all, take-add, length-take-le}
use Rattle.octets.specs.Blocks.{BlockCipher}
use Rattle.octets.proofs.Blocks.{length_nil}
use Rattle.modes_spec.specs.Pieces.{Machine, output_of, after, piece_count, ran, ran_through}
use Rattle.modes_spec.proofs.Pieces.{count_whole}
use Rattle.modes_spec.proofs.Joining.{made_joined, after_joined, front}
use Rattle.modes_spec.specs.Modes.{machine, any_length}
use Rattle.modes_spec.specs.declared.Operation.{Operation}
use Rattle.modes_spec.specs.declared.Operation.TheVariants.{Ofb}
use Rattle.modes_whole.specs.Model.{ran_whole}
use Rattle.modes_run.specs.Model.{reach, run_over}
use Rattle.modes_run.proofs.Agree.{any_length_ofb}

-- n whole pieces are a run through as many bytes
pub whole_pieces : (m : Machine) (st s out : List ℕ) (n : ℕ) → n * 16 ≤ length s → ran 16 m st n s out ≡ ran_through 16 m st (take (n * 16) s) out
whole_pieces m st s out n h =
    let t = take (n * 16) s in
    let e : length t ≡ n * 16 = length-take-le (n * 16) s h in
    let f = front 16 m n st t (drop (n * 16) s) e in
    let g : t ++ drop (n * 16) s ≡ s = take-append-drop (n * 16) s in
    rw (count_whole 16 n t (zero-lt-suc 15) e, e, ← f.0, ← f.1, g)

-- whole pieces, and then what is left up to an end, into as much of the list behind them
module _ (m : Machine) (st s out : List ℕ) (n end : ℕ) (lo : n * 16 ≤ end) (hi : end ≤ length s) (room : end ≤ length out) (ch x : List ℕ)
    (q : (ch, x) ≡ ran 16 m st n s out) (size : length x ≡ length out) where
  pub run_rest : (st' y : List ℕ) → (st', y) ≡ ran_through 16 m ch (take (end - n * 16) (drop (n * 16) s)) (take (end - n * 16) (drop (n * 16) x))
      → (st', take (n * 16) x ++ (y ++ drop (end - n * 16) (drop (n * 16) x))) ≡ ran_through 16 m st (take end s) out
  run_rest st' y p =
      let at = n * 16 in
      let t = take end s in
      let r = take (end - at) (drop at s) in
      let k = piece_count 16 r in
      let a = output_of 16 m st n s in
      let lt : length t ≡ end = length-take-le end s hi in
      let lr : length r ≡ end - at = length-take-le (end - at) (drop at s) (omega (arith, length-drop at s)) in
      let c : ch ≡ after 16 m st n s = ap (λ (v : List ℕ × List ℕ). v.0) q in
      let w : x ≡ a ++ drop at out = ap (λ (v : List ℕ × List ℕ). v.1) q in
      let la : length a ≡ at = omega (arith, ap length w, length-append a (drop at out), length-drop at out) in
      let b = output_of 16 m ch k r in
      let join : t ≡ take at s ++ r = ap (λ (i : ℕ). take i s) (let i : end ≡ at + (end - at) = omega arith in i) ∙ take-add at (end - at) s in
      let lf : length (take at s) ≡ at = length-take-le at s (omega arith) in
      let f = front 16 m n st (take at s) (drop at s) lf in
      let fm : output_of 16 m st n (take at s) ≡ a = sym f.0 ∙ ap (output_of 16 m st n) (take-append-drop at s) in
      let fa : after 16 m st n (take at s) ≡ ch = sym f.1 ∙ ap (after 16 m st n) (take-append-drop at s) ∙ sym c in
      let count : piece_count 16 t ≡ n + k = omega arith in
      let es : st' ≡ after 16 m st (piece_count 16 t) t =
      ap (λ (v : List ℕ × List ℕ). v.0) p ∙ rw (count, join, after_joined 16 m n k st (take at s) r lf, fa) in
      let em : output_of 16 m st (piece_count 16 t) t ≡ a ++ b = rw (count, join, made_joined 16 m n k st (take at s) r lf, fm, fa) in
      let none : drop (length r) (take (end - at) (drop at x)) ≡ [] =
      drop_of_length-le (take (end - at) (drop at x)) {i = length r} (omega (arith, length-take (end - at) (drop at x))) in
      let ey : y ≡ b = ap (λ (v : List ℕ × List ℕ). v.1) p ∙ rw none (append-nil b) in
      let past : drop (end - at) (drop at x) ≡ drop end out =
      ap (drop (end - at)) (ap (drop at) w ∙ drop_at a (drop at out) at la) ∙ drop-drop (end - at) at out
      ∙ ap (λ (i : ℕ). drop i out) (let i : at + (end - at) ≡ end = omega arith in i) in
      let fx : take at x ≡ a = ap (take at) w ∙ take_at a (drop at out) at la in
      rw (es, ey, past, fx, em, lt, append_assoc a b (drop end out))

-- what is left is nothing, or one piece
module _ (m : Machine) (st s out : List ℕ) where
  pub rest_none : length s ≡ 0 → (st, out) ≡ ran_through 16 m st s out
  unfolding output_of after
  rest_none e = rw (length_nil s e)

  pub rest_one : 0 < length s → length s ≤ 16 → length out ≡ length s → (m.next st s, m.out st s) ≡ ran_through 16 m st s out
  unfolding output_of after
  rest_one h k e =
      let one : piece_count 16 s ≡ 1 = omega arith in
      let none : drop (length s) out ≡ [] = drop_of_length-le out {i = length s} (omega arith) in
      let on : after 16 m st 1 s ≡ m.next st s = ap (m.next st) (take_all 16 s k) in
      rw (one, none, on, take_all 16 s k, append-nil (m.out st s), append-nil (m.out st s))

-- a run through the whole pieces that input and output both have is all of it where any length does not go; in OFB what is left follows
module _ (c : BlockCipher) (o : Operation) (iv inp out : List ℕ) (ch x : List ℕ) (q : (ch, x) ≡ ran_whole (machine c o) iv inp out) where
  pub run_whole : any_length o ≡ false → (ch, x) ≡ run_over c o iv inp out
  unfolding run_over reach
  run_whole k = q ∙ whole_pieces (machine c o) iv inp out (min (length inp) (length out) / 16) (omega arith) ∙ rw k

  pub run_all : any_length o ≡ true → (end : ℕ) → end ≡ min (length inp) (length out) → length x ≡ length out
      → (st' y : List ℕ) → (st', y) ≡ ran_through 16 (machine c Ofb) ch (take (end - end / 16 * 16) (drop (end / 16 * 16) inp)) (take (end - end / 16 * 16) (drop (end / 16 * 16) x))
      → (st', take (end / 16 * 16) x ++ (y ++ drop (end - end / 16 * 16) (drop (end / 16 * 16) x))) ≡ run_over c o iv inp out
  unfolding run_over reach
  run_all k end e size st' y p =
      let m = machine c o in
      let at = end / 16 * 16 in
      let front : (ch, x) ≡ ran 16 m iv (end / 16) inp out = q ∙ ap (λ (i : ℕ). ran 16 m iv (i / 16) inp out) (sym e) in
      let rest : (st', y) ≡ ran_through 16 m ch (take (end - at) (drop at inp)) (take (end - at) (drop at x)) =
      p ∙ ap (λ (v : Operation). ran_through 16 (machine c v) ch (take (end - at) (drop at inp)) (take (end - at) (drop at x))) (sym (any_length_ofb o k)) in
      run_rest m iv inp out (end / 16) end (omega arith) (omega arith) (omega arith) ch x front size st' y rest ∙ rw (k, ← e)
