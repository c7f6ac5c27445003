-- What the code finds of a block, test after test, is what the list of tests says. Assumes nothing.
use mathlib.Core.Path.{◌≡◌, refl, sym, ap, ap₂, ◌∙◌}
use mathlib.Core.Bool.{Bool, true, false, ◌&&◌, not}
use mathlib.Core.List.{List, [], ◌∷◌, ◌++◌}
use Prim.Native.Nat.{ℕ, ◌+◌, ◌<◌, ◌≤◌}
use native.Mathlib.Omega.{arith}
use borrow.Author.Tests.{eqb-true, eqb-false, eq-eqb, leb-true, not-false}
use lib.Dec.{eqb, ltb, leb}
use lib.ListN.{length, take, drop, length-drop}
use lib.Seq.{take_all}
use Rattle.octets.proofs.Both.{and_true}
use Rattle.octets.specs.Octets.{same}
use Rattle.octets_block.proofs.Laws.{block-at}
use Rattle.image_layout.specs.Layout.{head_of_lem}
use Rattle.image_limits.specs.Fits.{count_fits_of}
use Rattle.image_limits.specs.Marks.{selected}
use Rattle.image_reasons.specs.Reasons.{first_of}
use Rattle.image_progress.specs.Progress.{closed, mark_for}
use Rattle.image_rules.specs.Rules.{head_tests}
use Rattle.image_layout.specs.declared.Head.{Head}
use Rattle.image_reasons.specs.declared.Reason.{Reason}
use Rattle.image_reasons.specs.declared.Reason.TheVariants.{AfterLast, CheckWrong, FillNotZero}
use Rattle.image_reasons.specs.declared.Verdict.{Verdict}
use Rattle.image_reasons.specs.declared.Verdict.TheVariants.{Accepted, Refused}
use Rattle.image_reasons.proofs.Order.{hit, miss, through, unless, after_tests, all_false}
use Rattle.image_layout.proofs.Laws.{head_of_first}
use Rattle.image_rules.proofs.Laws.{number_below}
use Rattle.image_spec.specs.Edition.{Edition, tail_of}
use Rattle.image_spec.specs.Sealed.{Mac, checks, zero_after, fill_zero}
use Rattle.image_spec.specs.Judge.{Keys, tests, judge, either, of_both}
use Rattle.image_spec.specs.Model.{filled_out, head_read_of, judged}
use Rattle.image_spec.specs.declared.Judged.{Judged}
use Rattle.image_progress.specs.declared.Progress.{Progress}
use Rattle.image_spec.proofs.Sizes.{Sixteen, checks_block}

pub flip : (t : Bool) {u : Bool} → not t ≡ u → t ≡ not u
flip true e = ap not e
flip false e = ap not e

-- ---- the check

module _ (c : Mac) (tail b : List ℕ) where
  pub checks_by : (made : List ℕ) (n : ℕ) → made ≡ c (take 496 b ++ tail) → length b ≤ 496 + n → same made (take n (drop 496 b)) ≡ checks c tail b
  unfolding checks
  checks_by made n em room = ap₂ same em (take_all n (drop 496 b) (omega (arith, length-drop 496 b, room)))

  -- no check is right but a block's
  pub checks_none : Sixteen c → (length b ≡ 512 → ⊥) → (u : Bool) → false ≡ (u && checks c tail b)
  checks_none es n u = go u (checks c tail b) refl
    where
      go : (u t : Bool) → checks c tail b ≡ t → false ≡ (u && t)
      go u true e = absurd (n (checks_block c es tail b e))
      go true false e = refl
      go false false e = refl

-- ---- the header

-- of a block, the header read is its own
pub head_of_block : (b : List ℕ) → length b ≡ 512 → head_read_of b ≡ head_of_lem b
head_of_block b size = ap head_of_lem (block-at b 0 (omega arith)) ∙ head_of_first b

-- so the cover that it selects is the block's, and where there is no block, no cover is right
pub cover_read : (c : Mac) → Sixteen c → (last b : List ℕ) (h : Head) → h ≡ head_read_of b → (u : Bool)
    → (u && checks c (tail_of (selected h.reserved) last) b) ≡ (u && checks c (tail_of (selected (head_of_lem b).reserved) last) b)
cover_read c es last b h eh u = go (eqb (length b) 512) refl
  where
    go : (t : Bool) → eqb (length b) 512 ≡ t → (u && checks c (tail_of (selected h.reserved) last) b) ≡ (u && checks c (tail_of (selected (head_of_lem b).reserved) last) b)
    go true e = ap (λ (x : Head). u && checks c (tail_of (selected x.reserved) last) b) (eh ∙ head_of_block b (eqb-true (length b) 512 e))
    go false e =
        let n = eqb-false (length b) 512 e in
        sym (checks_none c (tail_of (selected h.reserved) last) b es n u) ∙ checks_none c (tail_of (selected (head_of_lem b).reserved) last) b es n u

-- ---- the tests in their order

module _ (k : Keys) (ed : Edition) (s : Progress) (b : List ℕ) where
  fill : List (Bool × Reason)
  fill = (not (fill_zero k.enc b), FillNotZero) ∷ []

  rest : List (Bool × Reason)
  rest = head_tests ed.mark s (head_of_lem b) ++ fill

  checked : Bool
  checked = k.usable && checks k.mac (ed.tail s.last) b

  pub judged_last : closed s ≡ true → Refused AfterLast ≡ judge k ed s b
  unfolding judge
  judged_last e = hit (closed s) AfterLast _ e

  module _ (e1 : closed s ≡ false) where
    pub judged_check : (k.usable && checks k.mac (ed.tail s.last) b) ≡ false → Refused CheckWrong ≡ judge k ed s b
    unfolding judge
    judged_check e2 = miss (closed s) AfterLast _ (Refused CheckWrong) e1 (hit (not (k.usable && checks k.mac (ed.tail s.last) b)) CheckWrong _ (ap not e2))

    module _ (e2 : (k.usable && checks k.mac (ed.tail s.last) b) ≡ true) where
      -- the header's tests, and then the fill's
      judged_rest : judge k ed s b ≡ unless (first_of (head_tests ed.mark s (head_of_lem b))) (first_of fill)
      unfolding judge rest fill checked
      judged_rest =
          sym (miss (closed s) AfterLast _ (first_of rest) e1 (miss (not checked) CheckWrong rest (first_of rest) (ap not e2) refl))
          ∙ after_tests (head_tests ed.mark s (head_of_lem b)) fill

      -- a right check is a block's, so the header read is the block's own, and the fill's test is the one asked
      pub block_size : Sixteen k.mac → length b ≡ 512
      block_size es = checks_block k.mac es (ed.tail s.last) b (and_true k.usable (checks k.mac (ed.tail s.last) b) e2).1

      module _ (es : Sixteen k.mac) (h : Head) (eh : h ≡ head_read_of b) (mark : ℕ) (em : h ≡ head_of_lem b → mark ≡ ed.mark) where
        head_is : h ≡ head_of_lem b
        head_is = eh ∙ head_of_block b (block_size es)

        tests_are : head_tests mark s h ≡ head_tests ed.mark s (head_of_lem b)
        tests_are = ap₂ (λ (m : ℕ) (x : Head). head_tests m s x) (em head_is) head_is

        pub judged_head : (v : Verdict) (r : Reason) → v ≡ first_of (head_tests mark s h) → v ≡ Refused r → v ≡ judge k ed s b
        judged_head v r ev er = sym (judged_rest ∙ ap (λ (x : Verdict). unless x (first_of fill)) (sym (ev ∙ ap first_of tests_are) ∙ er) ∙ sym er)

        module _ (e3 : Accepted ≡ first_of (head_tests mark s h)) where
          fill_test : judge k ed s b ≡ first_of fill
          fill_test = judged_rest ∙ ap (λ (x : Verdict). unless x (first_of fill)) (sym (e3 ∙ ap first_of tests_are))

          fill_asked : filled_out k.enc h.len b ≡ fill_zero k.enc b
          unfolding filled_out
          fill_asked = rw (eq-eqb (length b) 512 (block_size es)) (ap (λ (x : Head). zero_after k.enc x.len b) head_is)

          pub judged_fill : filled_out k.enc h.len b ≡ false → Refused FillNotZero ≡ judge k ed s b
          unfolding fill
          judged_fill e4 = hit (not (fill_zero k.enc b)) FillNotZero [] (ap not (sym fill_asked ∙ e4)) ∙ sym fill_test

          pub judged_passed : filled_out k.enc h.len b ≡ true → Accepted ≡ judge k ed s b
          unfolding fill
          judged_passed e4 = miss (not (fill_zero k.enc b)) FillNotZero [] Accepted (ap not (sym fill_asked ∙ e4)) through ∙ sym fill_test

  -- an accepted block's number is below 65,535, so the next one fits
  pub accepted_next : judge k ed s b ≡ Accepted → s.next < 65535
  unfolding judge head_tests count_fits_of
  accepted_next e =
      let a = all_false (tests k ed s b) e in
      let h = head_of_lem b in
      let fits = not-false (count_fits_of h.count) a.1.1.0 in
      let n = eqb-true h.number s.next (not-false (eqb h.number s.next) a.1.1.1.0) in
      omega (arith, n, number_below s h a.0 fits n a.1.1.1.1.0, leb-true h.count 65535 (and_true (ltb 0 h.count) (leb h.count 65535) fits).1)

-- ---- the reader of both editions: cover and mark are chosen by the header read

module _ (k : Keys) (es : Sixteen k.mac) (s : Progress) (b : List ℕ) (h : Head) (eh : h ≡ head_read_of b) where
  abbrev held : Edition
  held = either s (head_of_lem b).reserved

  pub both_last : closed s ≡ true → Refused AfterLast ≡ (of_both k).verdict s b
  both_last e1 = judged_last k held s b e1

  module _ (e1 : closed s ≡ false) (tail : List ℕ) (et : tail ≡ tail_of (selected h.reserved) s.last) where
    cover_is : (k.usable && checks k.mac tail b) ≡ (k.usable && checks k.mac (held.tail s.last) b)
    cover_is = ap (λ (x : List ℕ). k.usable && checks k.mac x b) et ∙ cover_read k.mac es s.last b h eh k.usable

    pub both_check : (k.usable && checks k.mac tail b) ≡ false → Refused CheckWrong ≡ (of_both k).verdict s b
    both_check e2 = judged_check k held s b e1 (sym cover_is ∙ e2)

    module _ (e2 : (k.usable && checks k.mac tail b) ≡ true) (mark : ℕ) (em : mark ≡ mark_for s h.reserved) where
      mark_is : h ≡ head_of_lem b → mark ≡ held.mark
      mark_is e = em ∙ ap (λ (x : Head). mark_for s x.reserved) e

      pub both_head : (v : Verdict) (r : Reason) → v ≡ first_of (head_tests mark s h) → v ≡ Refused r → v ≡ (of_both k).verdict s b
      both_head = judged_head k held s b e1 (sym cover_is ∙ e2) es h eh mark mark_is

      module _ (e3 : Accepted ≡ first_of (head_tests mark s h)) where
        pub both_fill : filled_out k.enc h.len b ≡ false → Refused FillNotZero ≡ (of_both k).verdict s b
        both_fill = judged_fill k held s b e1 (sym cover_is ∙ e2) es h eh mark mark_is e3

        pub both_passed : filled_out k.enc h.len b ≡ true → Accepted ≡ (of_both k).verdict s b
        both_passed = judged_passed k held s b e1 (sym cover_is ∙ e2) es h eh mark mark_is e3

-- ---- a block as the code reads it

module _ (k : Keys) (s : Progress) (b : List ℕ) (r : Judged) (e : r ≡ judged k s b) where
  pub verdict_read : r.verdict ≡ (of_both k).verdict s b
  unfolding judged
  verdict_read = ap (λ (x : Judged). x.verdict) e

  pub head_read : length b ≡ 512 → r.head ≡ head_of_lem b
  unfolding judged
  head_read size = ap (λ (x : Judged). x.head) e ∙ head_of_block b size
