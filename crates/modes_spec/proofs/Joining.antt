-- A run through the pieces of two lists is a run through those of the first and then, from the state handed on, through those of
-- the second; for every machine. Assumes nothing.
use mathlib.Core.Path.{◌≡◌, refl, sym, ap, ◌∙◌}
use mathlib.Core.List.{List, ◌++◌, append_assoc}
use Prim.Native.Nat.{ℕ, zero, suc, ◌+◌, ◌*◌}
use native.Mathlib.Nat.{zero-add, suc-add, zero-mul, suc-mul, add_comm}
use lib.ListN.{length, take, drop, length-drop}
use lib.Seq.{drop-drop, take-append-le, drop-append-le, drop_at}
use native.Mathlib.Omega.{arith}
use Rattle.modes_spec.specs.Pieces.{Machine, output_of, after}

module _ (z : ℕ) (m : Machine) where
  -- n pieces and then k more of one list
  rest_of : (n : ℕ) (s : List ℕ) → drop (n * z) (drop z s) ≡ drop (suc n * z) s
  rest_of n s = drop-drop (n * z) z s ∙ ap (λ (i : ℕ). drop i s) (add_comm z (n * z) ∙ sym (suc-mul n z))

  pub made_split : (n k : ℕ) (st s : List ℕ) → output_of z m st (n + k) s ≡ output_of z m st n s ++ output_of z m (after z m st n s) k (drop (n * z) s)
  unfolding output_of after
  made_split zero k st s = rw (zero-add k, zero-mul z)
  made_split (suc n) k st s =
      let st' = m.next st (take z s) in
      rw (suc-add n k)
      (ap (m.out st (take z s) ++◌)
      (made_split n k st' (drop z s) ∙ ap (λ (r : List ℕ). output_of z m st' n (drop z s) ++ output_of z m (after z m st' n (drop z s)) k r) (rest_of n s))
      ∙ sym (append_assoc (m.out st (take z s)) (output_of z m st' n (drop z s)) (output_of z m (after z m st' n (drop z s)) k (drop (suc n * z) s))))

  pub after_split : (n k : ℕ) (st s : List ℕ) → after z m st (n + k) s ≡ after z m (after z m st n s) k (drop (n * z) s)
  unfolding after
  after_split zero k st s = rw (zero-add k, zero-mul z)
  after_split (suc n) k st s =
      let st' = m.next st (take z s) in
      rw (suc-add n k)
      (after_split n k st' (drop z s) ∙ ap (λ (r : List ℕ). after z m (after z m st' n (drop z s)) k r) (rest_of n s))

  -- n whole pieces are those of the first list, whatever follows it
  pub front : (n : ℕ) (st a b : List ℕ) → length a ≡ n * z → (output_of z m st n (a ++ b) ≡ output_of z m st n a) × (after z m st n (a ++ b) ≡ after z m st n a)
  unfolding output_of after
  front zero st a b e = (refl, refl)
  front (suc n) st a b e =
      let w : length a ≡ n * z + z = e ∙ suc-mul n z in
      let t : take z (a ++ b) ≡ take z a = take-append-le z a b (omega arith) in
      let d : drop z (a ++ b) ≡ drop z a ++ b = drop-append-le z a b (omega arith) in
      let st' = m.next st (take z a) in
      let ih = front n st' (drop z a) b (omega (arith, length-drop z a)) in
      (rw (t, d) (ap (m.out st (take z a) ++◌) ih.0), rw (t, d) ih.1)

  pub made_joined : (n k : ℕ) (st a b : List ℕ) → length a ≡ n * z → output_of z m st (n + k) (a ++ b) ≡ output_of z m st n a ++ output_of z m (after z m st n a) k b
  made_joined n k st a b e =
      made_split n k st (a ++ b)
      ∙ rw ((front n st a b e).0, (front n st a b e).1, drop_at a b (n * z) e)

  pub after_joined : (n k : ℕ) (st a b : List ℕ) → length a ≡ n * z → after z m st (n + k) (a ++ b) ≡ after z m (after z m st n a) k b
  after_joined n k st a b e = after_split n k st (a ++ b) ∙ rw ((front n st a b e).1, drop_at a b (n * z) e)
