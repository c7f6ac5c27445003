-- The reader's rules as they were before request E8, with a flag for what is fixed and with 11, over numbers and values; that 11 came from no
-- start, that its test holds in no state today, and that today's reader answers as the old one did. Assumes nothing.
use mathlib.Core.Path.{◌≡◌, refl, sym, ap, ◌∙◌}
use mathlib.Core.Bool.{Bool, true, false, ◌&&◌, not, cond}
use mathlib.Core.List.{List, [], ◌∷◌, ◌++◌}
use Prim.Native.Nat.{ℕ, suc, ◌+◌, ◌≤◌}
use native.Mathlib.Omega.{arith}
use borrow.Author.Tests.{eqb-true, eqb-false, not-false, le-leb, lt-leb, lt-ltb}
use lib.Dec.{eqb, ltb, leb}
use lib.ListN.{drop}
use Rattle.image_layout.specs.Layout.{check_at, head_of_lem}
use Rattle.image_limits.specs.Fits.{count_fits_of, length_fits}
use Rattle.image_limits.specs.Marks.{selected}
use Rattle.image_reasons.specs.Reasons.{first_of, reason_number, reason_value}
use Rattle.image_progress.specs.Progress.{done, closed}
use Rattle.image_rules.specs.Rules.{head_tests}
use Rattle.image_layout.specs.declared.Head.{Head}
use Rattle.image_progress.specs.declared.Progress.{Progress}
use Rattle.image_reasons.specs.declared.Reason.{Reason}
use Rattle.image_reasons.specs.declared.Reason.TheVariants.{AfterLast, CheckWrong, Count, Number, OtherCount, OtherRelease, Length, Reserved, FillNotZero}
use Rattle.image_reasons.specs.declared.Verdict.{Verdict}
use Rattle.image_reasons.specs.declared.Verdict.TheVariants.{Accepted, Refused}
use Rattle.image_rules.proofs.Laws.{number_below}
use Rattle.image_spec.specs.Edition.{Edition, no_check}
use Rattle.image_spec.specs.Sealed.{checks, fill_zero}
use Rattle.image_spec.specs.Judge.{Keys, tests, judge, taken, of_edition}
use Rattle.image_reader_turn.specs.Turn.{Reading, read_blocks, later, onward}
use Rattle.image_reader_tally.specs.declared.Stop.{Stop}
use Rattle.image_reader_tally.specs.declared.Stop.TheVariants.{End, Asked, Lent, Room, At}
use Rattle.promises.proofs.Lemmas.ImageJudge.{accepted_met, right_below}

-- ---- answers as numbers and values

-- the number of an answer, 0 where a block is accepted, and the value that it holds
abbrev pub Answer : Type 0
Answer = ℕ × List ℕ

abbrev pub told : Verdict → Answer
told Accepted = (0, [])
told (Refused r) = (reason_number r, reason_value r)

-- tests, each with its answer: the first that holds refuses
abbrev pub first_told : List (Bool × Answer) → Answer
first_told [] = (0, [])
first_told (t ∷ ts) = cond t.0 t.1 (first_told ts)

-- ---- the old rules

-- the old progress: `fixed` says whether count and release are fixed
pub record OldProgress : Type 0 where
  pub next : ℕ
  pub fixed : Bool
  pub count : ℕ
  pub release : ℕ

-- and what stands beside it today: the edition of the last accepted block and its check. No old rule asks for the edition
pub record OldStanding : Type 0 where
  pub progress : OldProgress
  pub edition : ℕ
  pub last : List ℕ

-- the tests of a block: 16, 14, 7, 8, 9, 10, then 11, then 12, 13, 15; whether 16 holds and whether count and release are fixed are given
abbrev pub up_to10 : (over fixed : Bool) → Keys → Edition → Progress → List ℕ → List (Bool × Answer)
up_to10 over fixed k ed s b =
    let h = head_of_lem b in
    (over, (16, []))
    ∷ (not (k.usable && checks k.mac (ed.tail s.last) b), (14, []))
    ∷ (not (count_fits_of h.count), (7, h.count ∷ []))
    ∷ (not (eqb h.number s.next), (8, h.number ∷ []))
    ∷ (fixed && not (eqb h.count s.count), (9, h.count ∷ []))
    ∷ (fixed && not (eqb h.release s.release), (10, h.release ∷ []))
    ∷ []

abbrev pub eleven : List ℕ → Bool × Answer
eleven b = (not (ltb (head_of_lem b).number (head_of_lem b).count), (11, (head_of_lem b).number ∷ []))

abbrev pub from12 : Keys → Edition → List ℕ → List (Bool × Answer)
from12 k ed b =
    let h = head_of_lem b in
    (not (length_fits h.number h.count h.len), (12, h.len ∷ []))
    ∷ (not (eqb h.reserved ed.mark), (13, h.reserved ∷ []))
    ∷ (not (fill_zero k.enc b), (15, []))
    ∷ []

-- an old state without its flag
abbrev pub today : OldStanding → Progress
today o = record { next = o.progress.next; count = o.progress.count; release = o.progress.release; edition = o.edition; last = o.last }

abbrev pub old_done : OldProgress → Bool
old_done s = s.fixed && eqb s.next s.count

abbrev pub old_tests : Keys → Edition → OldStanding → List ℕ → List (Bool × Answer)
old_tests k ed o b = up_to10 (old_done o.progress) o.progress.fixed k ed (today o) b ++ (eleven b ∷ from12 k ed b)

abbrev pub old_answer : Keys → Edition → OldStanding → List ℕ → Answer
old_answer k ed o b = first_told (old_tests k ed o b)

abbrev pub old_fresh : OldStanding
old_fresh = record { progress = record { next = 0; fixed = false; count = 0; release = 0 }; edition = 0; last = no_check }

abbrev pub old_taken : OldStanding → List ℕ → OldStanding
old_taken o b = record {
  progress = record { next = o.progress.next + 1; fixed = true; count = (head_of_lem b).count; release = (head_of_lem b).release };
  edition = selected (head_of_lem b).reserved;
  last = drop check_at b;
}

-- where a reader stands after a block was offered
abbrev pub old_after : Keys → Edition → OldStanding → List ℕ → OldStanding
old_after k ed o b = cond (eqb (old_answer k ed o b).0 0) (old_taken o b) o

-- how far blocks were taken: where the reader stands after them, how many were accepted, and the answer of the one that was refused, if any
pub record OldReading : Type 0 where
  pub progress : OldStanding
  pub accepted : ℕ
  pub answer : Answer

abbrev pub old_read : Keys → Edition → OldStanding → List (List ℕ) → OldReading
old_read k ed o [] = record { progress = o; accepted = 0; answer = (0, []) }
old_read k ed o (b ∷ bs) =
    let t = old_read k ed (old_taken o b) bs in
    cond (eqb (old_answer k ed o b).0 0) (record { progress = t.progress; accepted = suc t.accepted; answer = t.answer })
    (record { progress = o; accepted = 0; answer = old_answer k ed o b })

-- the readers that a start and turns made: a turn that is refused as a whole takes no block
pub data OldFromStart (k : Keys) (ed : Edition) : OldStanding → Type 0 where
  started : OldFromStart k ed old_fresh
  turn : {o : OldStanding} → OldFromStart k ed o → (bs : List (List ℕ)) → OldFromStart k ed (old_read k ed o bs).progress

-- the same by today's rules: after one block, and what stopped a run of blocks
abbrev pub after_one : Keys → Edition → Progress → List ℕ → Progress
after_one k ed s b = cond (eqb (told (judge k ed s b)).0 0) (taken s b) s

abbrev pub told_stop : Stop → Answer
told_stop (At place reason) = (reason_number reason, reason_value reason)
told_stop End = (0, [])
told_stop Asked = (5, [])
told_stop Lent = (6, [])
told_stop Room = (4, [])

-- the old states that can come up: `fixed` says that a block has been accepted, and the number expected is not above the count
pub record CameUp (o : OldStanding) : Type 0 where
  pub fixed_after_one : o.progress.fixed ≡ ltb 0 o.progress.next
  pub within : o.progress.next ≤ o.progress.count

-- ---- tests in a row

-- none of them holds
abbrev NoneHolds : List (Bool × Answer) → Type 0
NoneHolds [] = Unit {0}
NoneHolds (t ∷ ts) = (t.0 ≡ false) × NoneHolds ts

-- a test that fails where none before it holds says nothing
without : (ts : List (Bool × Answer)) (t : Bool × Answer) (us : List (Bool × Answer)) → (NoneHolds ts → t.0 ≡ false) → first_told (ts ++ (t ∷ us)) ≡ first_told (ts ++ us)
without [] t us f = rw (f tt)
without (x ∷ ts) t us f = go x.0 refl (without ts t us)
  where
    go : (q : Bool) → x.0 ≡ q → ((NoneHolds ts → t.0 ≡ false) → first_told (ts ++ (t ∷ us)) ≡ first_told (ts ++ us))
        → cond q x.1 (first_told (ts ++ (t ∷ us))) ≡ cond q x.1 (first_told (ts ++ us))
    go true e rest = refl
    go false e rest = rest (λ n. f (e, n))

-- the answer of tests with reasons is that of their numbers and values
abbrev told_tests : List (Bool × Reason) → List (Bool × Answer)
told_tests [] = []
told_tests (t ∷ ts) = (t.0, (reason_number t.1, reason_value t.1)) ∷ told_tests ts

told_first : (ts : List (Bool × Reason)) → told (first_of ts) ≡ first_told (told_tests ts)
unfolding first_of
told_first [] = refl
told_first (t ∷ ts) = go t.0 (told_first ts)
  where
    go : (q : Bool) → told (first_of ts) ≡ first_told (told_tests ts) → told (cond q (Refused t.1) (first_of ts)) ≡ cond q (reason_number t.1, reason_value t.1) (first_told (told_tests ts))
    go true e = refl
    go false e = e

-- ---- 11 holds nowhere

-- in any state, of a start or not, and of any block: where neither 16 nor 7, 8 or 9 holds, the number is below the count
pub eleven_holds_nowhere : (s : Progress) (h : Head) → closed s ≡ false → count_fits_of h.count ≡ true → h.number ≡ s.next
    → (ltb 0 s.next && not (eqb h.count s.count)) ≡ false → ltb h.number h.count ≡ true
eleven_holds_nowhere s h e16 e7 e8 e9 = lt-ltb h.number h.count (number_below s h e16 e7 e8 e9)

module _ (k : Keys) (ed : Edition) where
  -- so today's tests with that for 11 in its old place give what they give without it
  pub eleven_says_nothing : (s : Progress) (b : List ℕ)
      → first_told (up_to10 (closed s) (ltb 0 s.next) k ed s b ++ (eleven b ∷ from12 k ed b)) ≡ told (judge k ed s b)
  unfolding judge head_tests
  eleven_says_nothing s b =
      let h = head_of_lem b in
      let p = s in
      without (up_to10 (closed p) (ltb 0 p.next) k ed s b) (eleven b) (from12 k ed b)
      (λ n. ap not (eleven_holds_nowhere p h n.0 (not-false (count_fits_of h.count) n.1.1.0) (eqb-true h.number p.next (not-false (eqb h.number p.next) n.1.1.1.0)) n.1.1.1.1.0))
      ∙ sym (told_first (tests k ed s b))

  -- ---- the reader answers as before

  -- the old 16 is today's in the states that can come up
  same_end : (o : OldStanding) → CameUp o → old_done o.progress ≡ closed (today o)
  unfolding closed
  same_end o w = end_at o.progress.next o.progress.count o.progress.fixed w.fixed_after_one w.within
    where
      end_at : (n c : ℕ) (f : Bool) → f ≡ ltb 0 n → n ≤ c → (f && eqb n c) ≡ (ltb 0 n && leb c n)
      end_at n c true q h = rw (sym q) (at (eqb n c) refl)
        where
          at : (t : Bool) → eqb n c ≡ t → t ≡ leb c n
          at true g = sym (le-leb c n (omega (arith, eqb-true n c g)))
          at false g = sym (lt-leb c n (omega (arith, h, eqb-false n c g)))
      end_at n c false q h = rw (sym q) refl

  -- the same number and value,
  pub answers_as_before : (o : OldStanding) (b : List ℕ) → CameUp o → old_answer k ed o b ≡ told (judge k ed (today o) b)
  answers_as_before o b w =
      ap (λ (x : Bool). first_told (up_to10 x o.progress.fixed k ed (today o) b ++ (eleven b ∷ from12 k ed b))) (same_end o w)
      ∙ ap (λ (x : Bool). first_told (up_to10 (closed (today o)) x k ed (today o) b ++ (eleven b ∷ from12 k ed b))) w.fixed_after_one
      ∙ eleven_says_nothing (today o) b

  -- the same next state,
  pub moves_as_before : (o : OldStanding) (b : List ℕ) → CameUp o → today (old_after k ed o b) ≡ after_one k ed (today o) b
  moves_as_before o b w = go (eqb (old_answer k ed o b).0 0) ∙ ap (λ (x : Answer). cond (eqb x.0 0) (taken (today o) b) (today o)) (answers_as_before o b w)
    where
      go : (q : Bool) → today (cond q (old_taken o b) o) ≡ cond q (taken (today o) b) (today o)
      go true = refl
      go false = refl

  -- and is complete as before
  pub complete_as_before : (o : OldStanding) → CameUp o → old_done o.progress ≡ done (today o)
  unfolding done
  complete_as_before o w = ap (λ (x : Bool). x && eqb o.progress.next o.progress.count) w.fixed_after_one

  -- the state after an accepted block can come up
  taken_came_up : (o : OldStanding) (b : List ℕ) → judge k ed (today o) b ≡ Accepted → CameUp (old_taken o b)
  taken_came_up o b e =
      let r = (accepted_met k ed (today o) b e).head_right in
      record {
        fixed_after_one = sym (lt-ltb 0 (o.progress.next + 1) (omega arith));
        within = omega (arith, r.expected, right_below ed.mark (today o) (head_of_lem b) r);
      }

  -- what a run of old and of today's rules have in common
  abbrev Same : OldReading → Reading → Type 0
  Same t r = (today t.progress ≡ r.progress) × (t.accepted ≡ r.accepted) × (t.answer ≡ told_stop r.stop)

  later_told : (y : Stop) → told_stop (later y) ≡ told_stop y
  later_told (At place reason) = refl
  later_told End = refl
  later_told Asked = refl
  later_told Lent = refl
  later_told Room = refl

  refused_not_0 : (r : Reason) → eqb (reason_number r) 0 ≡ false
  refused_not_0 AfterLast = refl
  refused_not_0 CheckWrong = refl
  refused_not_0 (Count v) = refl
  refused_not_0 (Number v) = refl
  refused_not_0 (OtherCount v) = refl
  refused_not_0 (OtherRelease v) = refl
  refused_not_0 (Length v) = refl
  refused_not_0 (Reserved v) = refl
  refused_not_0 FillNotZero = refl

  -- so a run of blocks leaves the same state, accepts as many, and stops by the same number and value, in a state that can come up
  run : (o : OldStanding) (bs : List (List ℕ)) → CameUp o → Same (old_read k ed o bs) (read_blocks (of_edition k ed) (today o) bs) × CameUp (old_read k ed o bs).progress
  unfolding read_blocks
  run o [] w = ((refl, refl, refl), w)
  run o (b ∷ bs) w = go (judge k ed (today o) b) refl (run (old_taken o b) bs)
    where
      rest : OldReading
      rest = old_read k ed (old_taken o b) bs

      next : Reading
      next = read_blocks (of_edition k ed) (taken (today o) b) bs

      by : Answer → OldReading
      by a = cond (eqb a.0 0) (record { progress = rest.progress; accepted = suc rest.accepted; answer = rest.answer }) (record { progress = o; accepted = 0; answer = a })

      go : (v : Verdict) → judge k ed (today o) b ≡ v → (CameUp (old_taken o b) → Same rest next × CameUp rest.progress)
          → Same (by (old_answer k ed o b)) (onward (judge k ed (today o) b) (today o) (head_of_lem b).len ((of_edition k ed).plain b) next) × CameUp (by (old_answer k ed o b)).progress
      go Accepted e run_on =
          let i = run_on (taken_came_up o b e) in
          rw (answers_as_before o b w, e) ((i.0.0, ap suc i.0.1, i.0.2 ∙ sym (later_told next.stop)), i.1)
      go (Refused r) e run_on = rw (answers_as_before o b w, e, refused_not_0 r) ((refl, refl, refl), w)

  pub reads_as_before : (o : OldStanding) (bs : List (List ℕ)) → CameUp o
      → (today (old_read k ed o bs).progress ≡ (read_blocks (of_edition k ed) (today o) bs).progress)
      × ((old_read k ed o bs).accepted ≡ (read_blocks (of_edition k ed) (today o) bs).accepted)
      × ((old_read k ed o bs).answer ≡ told_stop (read_blocks (of_edition k ed) (today o) bs).stop)
  reads_as_before o bs w = (run o bs w).0

  -- ---- 11 came from no start

  pub from_start_came_up : (o : OldStanding) → OldFromStart k ed o → CameUp o
  from_start_came_up o started = record { fixed_after_one = refl; within = omega arith }
  from_start_came_up o (turn {o = q} f bs) = (run q bs (from_start_came_up q f)).1

  not_11 : (y : Stop) → (told_stop y).0 ≡ 11 → ⊥
  not_11 (At place AfterLast) e = omega arith
  not_11 (At place CheckWrong) e = omega arith
  not_11 (At place (Count v)) e = omega arith
  not_11 (At place (Number v)) e = omega arith
  not_11 (At place (OtherCount v)) e = omega arith
  not_11 (At place (OtherRelease v)) e = omega arith
  not_11 (At place (Length v)) e = omega arith
  not_11 (At place (Reserved v)) e = omega arith
  not_11 (At place FillNotZero) e = omega arith
  not_11 End e = omega arith
  not_11 Asked e = omega arith
  not_11 Lent e = omega arith
  not_11 Room e = omega arith

  pub from_start_never_11 : (o : OldStanding) → OldFromStart k ed o → (bs : List (List ℕ)) → (old_read k ed o bs).answer.0 ≡ 11 → ⊥
  from_start_never_11 o f bs e =
      let s = (reads_as_before o bs (from_start_came_up o f)).2 in
      not_11 (read_blocks (of_edition k ed) (today o) bs).stop (sym (ap (λ (x : Answer). x.0) s) ∙ e)
