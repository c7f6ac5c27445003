-- The progress that a start and accepted blocks make: never past the count. Assumes nothing.
use mathlib.Core.Path.{◌≡◌, refl}
use mathlib.Core.Bool.{Bool, true, false, ◌&&◌}
use mathlib.Core.List.{List, [], ◌∷◌}
use Prim.Native.Nat.{ℕ, ◌<◌}
use native.Mathlib.Omega.{arith}
use borrow.Author.Tests.{eqb-true, eqb-false, ltb-true, le-leb, lt-leb}
use lib.Dec.{eqb, ltb, leb}
use Rattle.image_layout.specs.Layout.{head_of_lem}
use Rattle.image_progress.specs.Progress.{done, closed}
use Rattle.image_progress.specs.declared.Progress.{Progress}
use Rattle.image_reasons.specs.declared.Verdict.TheVariants.{Accepted}
use Rattle.image_spec.specs.Judge.{Keys, Rule, by_rule, fresh, taken}
use Rattle.image_reader_turn.specs.Turn.{Reading, read_blocks}
use Rattle.promises.proofs.Image.Words.{Sound}
use Rattle.promises.proofs.Lemmas.ImageJudge.{accepted_met, right_below}
use Rattle.promises.proofs.Lemmas.ImageTurn.{by_verdict}

pub fresh_sound : Sound fresh
fresh_sound = record { within = λ e. absurd (omega arith) }

module _ (k : Keys) (rule : Rule) where
  taken_sound : (s : Progress) (b : List ℕ) → (by_rule k rule).verdict s b ≡ Accepted → Sound (taken s b)
  taken_sound s b e =
      let m = (accepted_met k (rule s (head_of_lem b).reserved) s b e).head_right in
      record { within = λ f. (omega (arith, m.expected, right_below (rule s (head_of_lem b).reserved).mark s (head_of_lem b) m), m.count_high) }

  -- what a run leaves is sound
  pub ran_sound : (s : Progress) (bs : List (List ℕ)) → Sound s → Sound (read_blocks (by_rule k rule) s bs).progress
  unfolding read_blocks
  ran_sound s [] w = w
  ran_sound s (b ∷ bs) w =
      by_verdict (by_rule k rule) s b bs (λ (t : Reading). Sound t.progress) (λ e. ran_sound (taken s b) bs (taken_sound s b e)) (λ y e. w)

-- in a sound state no block may follow exactly where the last has been accepted
pub sound_end : (s : Progress) → Sound s → closed s ≡ done s
unfolding closed done
sound_end s w = go (ltb 0 s.next) refl
  where
    at : 0 < s.next → (t : Bool) → eqb s.next s.count ≡ t → leb s.count s.next ≡ t
    at l true e = le-leb s.count s.next (omega (arith, eqb-true s.next s.count e))
    at l false e = lt-leb s.count s.next (omega (arith, (w.within l).0, eqb-false s.next s.count e))

    go : (t : Bool) → ltb 0 s.next ≡ t → (t && leb s.count s.next) ≡ (t && eqb s.next s.count)
    go true e = at (ltb-true 0 s.next e) (eqb s.next s.count) refl
    go false e = refl
