-- What a reader asks of a block: a sealed block in the right state is accepted, a damaged one never, and an accepted one was sealed. Assumes nothing.
use mathlib.Core.Path.{◌≡◌, refl, sym, ap, ap₂, subst, ◌∙◌}
use mathlib.Core.Logic.{⊎_elim}
use mathlib.Core.Bool.{Bool, true, false, ◌&&◌, ◌||◌, not, cond}
use mathlib.Core.List.{List, [], ◌∷◌, ◌++◌}
use Prim.Native.Nat.{ℕ, zero, suc, ◌+◌, ◌-◌, ◌%◌, ◌≤◌, ◌<◌}
use native.Mathlib.Nat.{eq-or-lt_of_le}
use native.Mathlib.Omega.{arith}
use borrow.Author.Tests.{eqb-true, eqb-false, eq-eqb, ne_eqb, ltb-true, ltb-false, lt-ltb, leb-true, leb-false, le-leb, not-true, not-false}
use lib.Dec.{eqb, ltb, leb}
use lib.ListN.{length, take, drop, length-drop, take-append-drop}
use lib.Seq.{length-take-le, take-add}
use Rattle.octets.specs.Octets.{Bytes, Octets}
use Rattle.octets.specs.Blocks.{BlockCipher, Lawful}
use Rattle.octets.proofs.Blocks.{take_bytes, drop_bytes, take_octets}
use Rattle.modes_spec.specs.Modes.{moded}
use Rattle.modes_spec.specs.declared.Operation.TheVariants.{CbcEncrypt, CbcDecrypt}
use Rattle.modes_spec.proofs.Sixteen.{length_16, undone_16, bytes_16}
use Rattle.cmac_spec.specs.Cmac.{cmac, SameOutside}
use Rattle.image_layout.specs.Layout.{head_of_lem}
use Rattle.image_limits.specs.Fits.{count_fits_of, length_fits}
use Rattle.image_reasons.specs.Reasons.{first_of}
use Rattle.image_progress.specs.Progress.{closed}
use Rattle.image_rules.specs.Rules.{head_tests}
use Rattle.image_layout.specs.declared.Head.{Head}
use Rattle.image_progress.specs.declared.Progress.{Progress}
use Rattle.image_reasons.specs.declared.Reason.{Reason}
use Rattle.image_reasons.specs.declared.Reason.TheVariants.{AfterLast, CheckWrong, Count, Number, OtherCount, OtherRelease, Length, Reserved, FillNotZero}
use Rattle.image_reasons.specs.declared.Verdict.{Verdict}
use Rattle.image_reasons.specs.declared.Verdict.TheVariants.{Accepted, Refused}
use Rattle.image_layout.proofs.Laws.{Wide, head_bytes}
use Rattle.image_reasons.proofs.Order.{AllFalse, all_false, all_accepted}
use Rattle.octets.proofs.Same.{same_true}
use Rattle.octets.proofs.Both.{and_true}
use Rattle.image_spec.specs.Sealed.{filled, front, sealed, opened, checks, zero_after, fill_zero}
use Rattle.image_spec.specs.Edition.{Edition}
use Rattle.image_spec.specs.Judge.{Keys, tests, judge}
use Rattle.promises.proofs.Image.Words.{Right, Met, HeadRow, Row, rank, HeadSays, Says, unchecked, payload}
use Rattle.promises.proofs.Lemmas.ImageSealed.{fill_of, sealed_size, sealed_bytes, sealed_checks, sealed_head, sealed_fill, same_block}

-- ---- tests

either : (t : Bool) → (t ≡ true → ⊥) → t ≡ false
either true n = absurd (n refl)
either false n = refl

and_imp : (a b : Bool) → (a && not b) ≡ false → a ≡ true → b ≡ true
and_imp true true e f = refl
and_imp true false e f = sym e
and_imp false b e f = let z : ◌≡◌ {A = ℕ} 0 1 = cc in absurd (omega arith)

imp_and : (a b : Bool) → (a ≡ true → b ≡ true) → (a && not b) ≡ false
imp_and true b f = ap not (f refl)
imp_and false b f = refl

pub count_fits : (n : ℕ) → count_fits_of n ≡ true → (0 < n) × (n ≤ 65535)
unfolding count_fits_of
count_fits n e = let a = and_true (ltb 0 n) (leb n 65535) e in (ltb-true 0 n a.0, leb-true n 65535 a.1)

pub fits_count : (n : ℕ) → 0 < n → n ≤ 65535 → count_fits_of n ≡ true
unfolding count_fits_of
fits_count n l h = rw (lt-ltb 0 n l) (le-leb n 65535 h)

-- ---- what the tests ask of a header

-- 16 in words
closed_says : (s : Progress) → closed s ≡ true → (0 < s.next) × (s.count ≤ s.next)
unfolding closed
closed_says s e = let a = and_true (ltb 0 s.next) (leb s.count s.next) e in (ltb-true 0 s.next a.0, leb-true s.count s.next a.1)

says_closed : (s : Progress) → 0 < s.next → s.count ≤ s.next → closed s ≡ true
unfolding closed
says_closed s l h = rw (lt-ltb 0 s.next l) (le-leb s.count s.next h)

open_within : (s : Progress) → closed s ≡ false → 0 < s.next → s.next < s.count
unfolding closed
open_within s e l = leb-false s.count s.next (rest (ltb 0 s.next) (leb s.count s.next) e (lt-ltb 0 s.next l))
  where
    rest : (a b : Bool) → (a && b) ≡ false → a ≡ true → b ≡ false
    rest true b q f = q
    rest false b q f = let z : ◌≡◌ {A = ℕ} 0 1 = cc in absurd (omega arith)

within_open : (s : Progress) → (0 < s.next → s.next < s.count) → closed s ≡ false
within_open s f = either (closed s) (λ e. let c = closed_says s e in let l = f c.0 in omega (arith, c.1))

abbrev asked : (mark : ℕ) → Progress → Head → (check fill : Bool) → List (Bool × Reason)
asked mark s h check fill = (closed s, AfterLast) ∷ (not check, CheckWrong) ∷ (head_tests mark s h ++ ((not fill, FillNotZero) ∷ []))

asked_right : (mark : ℕ) (s : Progress) (h : Head) (check fill : Bool) → first_of (asked mark s h check fill) ≡ Accepted → Right mark s h × (check ≡ true) × (fill ≡ true)
unfolding head_tests
asked_right mark s h check fill e =
    let a = all_false (asked mark s h check fill) e in
    let c = count_fits h.count (not-false (count_fits_of h.count) a.1.1.0) in (
      record {
        still_open = open_within s a.0;
        count_low = c.0;
        count_high = c.1;
        expected = eqb-true h.number s.next (not-false (eqb h.number s.next) a.1.1.1.0);
        same_count = λ f. eqb-true h.count s.count (and_imp (ltb 0 s.next) (eqb h.count s.count) a.1.1.1.1.0 (lt-ltb 0 s.next f));
        same_release = λ f. eqb-true h.release s.release (and_imp (ltb 0 s.next) (eqb h.release s.release) a.1.1.1.1.1.0 (lt-ltb 0 s.next f));
        len_fits = not-false (length_fits h.number h.count h.len) a.1.1.1.1.1.1.0;
        marked = eqb-true h.reserved mark (not-false (eqb h.reserved mark) a.1.1.1.1.1.1.1.0);
      },
      not-false check a.1.0,
      not-false fill a.1.1.1.1.1.1.1.1.0,
    )

-- hence their number is below their count
pub right_below : (mark : ℕ) (s : Progress) (h : Head) → Right mark s h → h.number < h.count
right_below mark s h r = go (ltb 0 s.next) refl
  where
    go : (t : Bool) → ltb 0 s.next ≡ t → h.number < h.count
    go true e = let l = ltb-true 0 s.next e in omega (arith, r.expected, r.still_open l, r.same_count l)
    go false e = omega (arith, r.expected, ltb-false 0 s.next e, r.count_low)

right_asked : (mark : ℕ) (s : Progress) (h : Head) (check fill : Bool) → Right mark s h → check ≡ true → fill ≡ true → first_of (asked mark s h check fill) ≡ Accepted
unfolding head_tests
right_asked mark s h check fill r c f =
    all_accepted (asked mark s h check fill) (
      within_open s r.still_open,
      (
        ap not c,
        (
          ap not (fits_count h.count r.count_low r.count_high),
          (
            ap not (eq-eqb h.number s.next r.expected),
            (
              imp_and (ltb 0 s.next) (eqb h.count s.count) (λ e. eq-eqb h.count s.count (r.same_count (ltb-true 0 s.next e))),
              (
                imp_and (ltb 0 s.next) (eqb h.release s.release) (λ e. eq-eqb h.release s.release (r.same_release (ltb-true 0 s.next e))),
                (
                  ap not r.len_fits,
                  (
                    ap not (eq-eqb h.reserved mark r.marked),
                    (ap not f, tt),
                  ),
                ),
              ),
            ),
          ),
        ),
      ),
    )

-- a payload is at most 480 bytes
pub fits_le : (number count len : ℕ) → length_fits number count len ≡ true → len ≤ 480
unfolding length_fits
fits_le number count len e = go (eqb (number + 1) count) e
  where
    go : (t : Bool) → cond t (leb len 480 && (ltb 0 len || eqb count 1)) (eqb len 480) ≡ true → len ≤ 480
    go true e = leb-true len 480 (and_true (leb len 480) (ltb 0 len || eqb count 1) e).0
    go false e = omega (arith, eqb-true len 480 e)

-- ---- the verdict, in every edition

module _ (k : Keys) (ed : Edition) (s : Progress) (b : List ℕ) where
  -- accepted is what meets every test
  pub accepted_met : judge k ed s b ≡ Accepted → Met k ed s b
  unfolding judge
  accepted_met e =
      let a = asked_right ed.mark s (head_of_lem b) (k.usable && checks k.mac (ed.tail s.last) b) (fill_zero k.enc b) e in
      let c = and_true k.usable (checks k.mac (ed.tail s.last) b) a.1 in
      record { usable_keys = c.0; check_right = c.1; head_right = a.0; fill-zero = a.2 }

  pub met_accepted : Met k ed s b → judge k ed s b ≡ Accepted
  unfolding judge
  met_accepted m =
      right_asked ed.mark s (head_of_lem b) (k.usable && checks k.mac (ed.tail s.last) b) (fill_zero k.enc b) m.head_right (rw m.usable_keys m.check_right) m.fill-zero

  -- where the check is not right
  no_check : (k.usable && checks k.mac (ed.tail s.last) b) ≡ false → judge k ed s b ≡ unchecked s
  unfolding judge first_of
  no_check e = rw e

  -- a block whose check is wrong is refused by 16 or 14
  pub wrong_check : checks k.mac (ed.tail s.last) b ≡ false → judge k ed s b ≡ unchecked s
  wrong_check e = no_check (go k.usable)
    where
      go : (t : Bool) → (t && checks k.mac (ed.tail s.last) b) ≡ false
      go true = e
      go false = refl

  -- and every block offered to a reader without usable keys
  pub no_keys : k.usable ≡ false → judge k ed s b ≡ unchecked s
  no_keys e = no_check (rw e)

-- ---- every verdict says what the table says of it, and that nothing asked before it holds

test_at : List (Bool × Reason) → ℕ → Bool
test_at [] n = false
test_at (t ∷ ts) zero = t.0
test_at (t ∷ ts) (suc n) = test_at ts n

-- tests in the order of their ranks, from i on: each that holds gives its row
abbrev Ranked : (Reason → Type 0) → ℕ → List (Bool × Reason) → Type 0
Ranked R i [] = Unit {0}
Ranked R i (t ∷ ts) = (rank t.1 ≡ i) × (t.0 ≡ true → R t.1) × Ranked R (suc i) ts

true_false : (t : Bool) → t ≡ true → t ≡ false → ⊥
true_false t e f = let z : true ≡ false = sym e ∙ f in let y : ◌≡◌ {A = ℕ} 0 1 = cc in omega arith

-- the first that holds
first-told : (R : Reason → Type 0) (i : ℕ) (ts : List (Bool × Reason)) → Ranked R i ts → ((q : Reason) → R q → i ≤ rank q → test_at ts (rank q - i) ≡ true)
    → ((q : Reason) → rank q < i → R q → ⊥) → (r : Reason) → first_of ts ≡ Refused r → R r × ((q : Reason) → rank q < rank r → R q → ⊥)
unfolding first_of test_at
first-told R i [] w holds none r e = let z : ◌≡◌ {A = ℕ} 0 1 = cc in absurd (omega arith)
first-told R i (t ∷ ts) w holds none r e = go t.0 refl e (first-told R (suc i) ts w.2 further)
  where
    further : (q : Reason) → R q → suc i ≤ rank q → test_at ts (rank q - suc i) ≡ true
    further q x h = let z : rank q - i ≡ suc (rank q - suc i) = omega arith in ap (test_at (t ∷ ts)) (sym z) ∙ holds q x (omega arith)

    here : (q : Reason) → rank q ≡ i → R q → t.0 ≡ true
    here q h x = let z : rank q - i ≡ 0 = omega arith in ap (test_at (t ∷ ts)) (sym z) ∙ holds q x (omega arith)

    go : (b : Bool) → t.0 ≡ b → cond b (Refused t.1) (first_of ts) ≡ Refused r
        → (((q : Reason) → rank q < suc i → R q → ⊥) → (r : Reason) → first_of ts ≡ Refused r → R r × ((q : Reason) → rank q < rank r → R q → ⊥))
        → R r × ((q : Reason) → rank q < rank r → R q → ⊥)
    go true f g rest =
        let same : t.1 ≡ r = cc in
        let n : rank r ≡ i = ap rank (sym same) ∙ w.0 in
        (subst R same (w.1 f), λ q h. none q (omega arith))
    go false f g rest = rest (λ q h x. ⊎_elim (λ z. true_false t.0 (here q z x) f) (λ l. none q l x) (eq-or-lt_of_le {n = rank q} {m = i} (omega arith))) r g

-- tests none of which holds
none_holds : (ts : List (Bool × Reason)) → AllFalse ts → (n : ℕ) → test_at ts n ≡ false
unfolding test_at
none_holds [] f n = refl
none_holds (t ∷ ts) f zero = f.0
none_holds (t ∷ ts) f (suc n) = none_holds ts f.1 n

module _ (mark : ℕ) (s : Progress) (h : Head) where
  head_ranked : Ranked (HeadRow mark s h) 2 (head_tests mark s h)
  unfolding head_tests
  head_ranked = (
    refl,
    λ e. (refl, λ l m. true_false (count_fits_of h.count) (fits_count h.count l m) (not-true (count_fits_of h.count) e)),
    (
      refl,
      λ e. (refl, eqb-false h.number s.next (not-true (eqb h.number s.next) e)),
      (
        refl,
        λ e. let a = and_true (ltb 0 s.next) (not (eqb h.count s.count)) e in (refl, ltb-true 0 s.next a.0, eqb-false h.count s.count (not-true (eqb h.count s.count) a.1)),
        (
          refl,
          λ e. let a = and_true (ltb 0 s.next) (not (eqb h.release s.release)) e in (refl, ltb-true 0 s.next a.0, eqb-false h.release s.release (not-true (eqb h.release s.release) a.1)),
          (
            refl,
            λ e. (refl, not-true (length_fits h.number h.count h.len) e),
            (refl, λ e. (refl, eqb-false h.reserved mark (not-true (eqb h.reserved mark) e)), tt),
          ),
        ),
      ),
    ),
  )

  -- a row that holds is a test that does
  head_test : (q : Reason) → HeadRow mark s h q → test_at (head_tests mark s h) (rank q - 2) ≡ true
  unfolding test_at head_tests
  head_test (Count v) x = ap not (either (count_fits_of h.count) (λ e. let c = count_fits h.count e in x.1 (omega (arith, x.0, c.0)) (omega (arith, x.0, c.1))))
  head_test (Number v) x = ap not (ne_eqb h.number s.next (λ e. x.1 (x.0 ∙ e)))
  head_test (OtherCount v) x = rw (lt-ltb 0 s.next x.1) (ap not (ne_eqb h.count s.count (λ e. x.2 (x.0 ∙ e))))
  head_test (OtherRelease v) x = rw (lt-ltb 0 s.next x.1) (ap not (ne_eqb h.release s.release (λ e. x.2 (x.0 ∙ e))))
  head_test (Length v) x = ap not (ap (length_fits h.number h.count) (sym x.0) ∙ x.1)
  head_test (Reserved v) x = ap not (ne_eqb h.reserved mark (λ e. x.1 (x.0 ∙ e)))
  head_test AfterLast x = absurd x
  head_test CheckWrong x = absurd x
  head_test FillNotZero x = absurd x

  early : (q : Reason) → rank q < 2 → HeadRow mark s h q → ⊥
  early (Count v) l x = omega arith
  early (Number v) l x = omega arith
  early (OtherCount v) l x = omega arith
  early (OtherRelease v) l x = omega arith
  early (Length v) l x = omega arith
  early (Reserved v) l x = omega arith
  early AfterLast l x = x
  early CheckWrong l x = x
  early FillNotZero l x = x

  pub head_says : (v : Verdict) → first_of (head_tests mark s h) ≡ v → HeadSays mark s h v
  head_says Accepted e = λ q x. true_false (test_at (head_tests mark s h) (rank q - 2)) (head_test q x) (none_holds (head_tests mark s h) (all_false (head_tests mark s h) e) (rank q - 2))
  head_says (Refused r) e = first-told (HeadRow mark s h) 2 (head_tests mark s h) head_ranked (λ q x l. head_test q x) early r e

module _ (k : Keys) (ed : Edition) (s : Progress) (b : List ℕ) where
  ranked : Ranked (Row k ed s b) 0 (tests k ed s b)
  unfolding head_tests
  ranked =
      let g = head_ranked ed.mark s (head_of_lem b) in (
        refl,
        λ e. closed_says s e,
        (
          refl,
          λ e. not-true (k.usable && checks k.mac (ed.tail s.last) b) e,
          (refl, g.1, (refl, g.2.1, (refl, g.2.2.1, (refl, g.2.2.2.1, (refl, g.2.2.2.2.1, (refl, g.2.2.2.2.2.1, (refl, λ e. not-true (fill_zero k.enc b) e, tt))))))),
        ),
      )

  -- a row that holds is a test that does
  row_test : (q : Reason) → Row k ed s b q → 0 ≤ rank q → test_at (tests k ed s b) (rank q - 0) ≡ true
  unfolding test_at head_tests
  row_test AfterLast x h = says_closed s x.0 x.1
  row_test CheckWrong x h = ap not x
  row_test (Count v) x h = head_test ed.mark s (head_of_lem b) (Count v) x
  row_test (Number v) x h = head_test ed.mark s (head_of_lem b) (Number v) x
  row_test (OtherCount v) x h = head_test ed.mark s (head_of_lem b) (OtherCount v) x
  row_test (OtherRelease v) x h = head_test ed.mark s (head_of_lem b) (OtherRelease v) x
  row_test (Length v) x h = head_test ed.mark s (head_of_lem b) (Length v) x
  row_test (Reserved v) x h = head_test ed.mark s (head_of_lem b) (Reserved v) x
  row_test FillNotZero x h = ap not x

  refused_says : (r : Reason) → judge k ed s b ≡ Refused r → Says k ed s b (Refused r)
  unfolding judge
  refused_says r e = first-told (Row k ed s b) 0 (tests k ed s b) ranked row_test (λ q h. absurd (omega arith)) r e

  pub verdict_says : (v : Verdict) → judge k ed s b ≡ v → Says k ed s b v
  verdict_says Accepted e = accepted_met k ed s b e
  verdict_says (Refused r) e = refused_says r e

  pub no_row_accepted : ((r : Reason) → Row k ed s b r → ⊥) → judge k ed s b ≡ Accepted
  no_row_accepted n = go (judge k ed s b) refl
    where
      go : (v : Verdict) → judge k ed s b ≡ v → v ≡ Accepted
      go Accepted e = refl
      go (Refused r) e = absurd (n r (refused_says r e).0)

-- ---- sealed blocks

module _ (ek ck : BlockCipher) (le : Lawful 16 ek) (lc : Lawful 16 ck) where
  abbrev with : Bool → Keys
  with usable = record { enc = ek; mac = cmac ck; usable = usable }

  -- a sealed block is accepted where the reader stands right for it
  pub sealed_accepted : (ed : Edition) (s : Progress) (h : Head) (p : List ℕ) → Bytes (ed.tail s.last) → Bytes p → length p ≡ h.len → Wide h → Right ed.mark s h
      → judge (with true) ed s (sealed ek (cmac ck) (ed.tail s.last) h p) ≡ Accepted
  sealed_accepted ed s h p bt bp lp w r =
      let tail = ed.tail s.last in
      let small : length p ≤ 480 = omega (arith, lp, fits_le h.number h.count h.len r.len_fits) in
      met_accepted (with true) ed s (sealed ek (cmac ck) tail h p)
      (record {
        usable_keys = refl;
        check_right = sealed_checks ek ck le lc h p small bp tail bt;
        head_right = rw (sealed_head ek ck le lc h p small bp tail bt w) r;
        fill-zero = sealed_fill ek ck le lc h p small bp tail bt w lp;
      })

  -- a block that is a sealed one outside one piece, and is not that one, has a wrong check
  pub damaged_check : (tail : List ℕ) (h : Head) (p : List ℕ) → Bytes tail → length p ≤ 480 → Bytes p
      → (i : ℕ) (b : List ℕ) → length b ≡ 512 → Bytes b → SameOutside i b (sealed ek (cmac ck) tail h p) → (b ≡ sealed ek (cmac ck) tail h p → ⊥) → checks (cmac ck) tail b ≡ false
  damaged_check tail h p bt lp bp i b lb bb o n = go (checks (cmac ck) tail b) refl
    where
      go : (t : Bool) → checks (cmac ck) tail b ≡ t → checks (cmac ck) tail b ≡ false
      go true e =
          absurd (n (same_block i b (sealed ek (cmac ck) tail h p) tail lb (sealed_size ek ck le lc h p lp bp tail bt) o ck lc bb (sealed_bytes ek ck le lc h p lp bp tail bt) bt e (sealed_checks ek ck le lc h p lp bp tail bt)))
      go false e = e

-- ---- what is opened

module _ (ek : BlockCipher) (le : Lawful 16 ek) (b : List ℕ) (lb : length b ≡ 512) (bb : Bytes b) where
  cipher : List ℕ
  cipher = take 480 (drop 16 b)

  cipher_octets : Octets 480 cipher
  unfolding cipher
  cipher_octets = take_octets 480 (drop 16 b) (omega (arith, length-drop 16 b)) (drop_bytes 16 b bb)

  whole_pieces : length cipher % 16 ≡ 0
  whole_pieces = omega (arith, cipher_octets.size)

  iv_octets : Octets 16 (ek.enc (take 16 b))
  iv_octets = le.enc_block (take 16 b) (take_octets 16 b (omega arith) bb)

  pub opened_length : length (opened ek b) ≡ 480
  unfolding opened cipher
  opened_length = length_16 ek le CbcDecrypt (ek.enc (take 16 b)) cipher iv_octets cipher_octets.bytes whole_pieces ∙ cipher_octets.size

  opened_bytes : Bytes (opened ek b)
  unfolding opened cipher
  opened_bytes = bytes_16 ek le CbcDecrypt (ek.enc (take 16 b)) cipher iv_octets cipher_octets.bytes whole_pieces

  enciphered : moded 16 ek CbcEncrypt (ek.enc (take 16 b)) (opened ek b) ≡ cipher
  unfolding opened cipher
  enciphered = undone_16 ek le CbcDecrypt (ek.enc (take 16 b)) cipher iv_octets cipher_octets.bytes whole_pieces

-- what an accepted block opens to is its payload and zero fill, and the block is the sealing of its header and payload
module _ (k : Keys) (le : Lawful 16 k.enc) (ed : Edition) (s : Progress) (b : List ℕ) (lb : length b ≡ 512) (bb : Bytes b) (m : Met k ed s b) where
  small : (head_of_lem b).len ≤ 480
  small = fits_le (head_of_lem b).number (head_of_lem b).count (head_of_lem b).len m.head_right.len_fits

  pub payload_length : length (payload k.enc b) ≡ (head_of_lem b).len
  payload_length = length-take-le (head_of_lem b).len (opened k.enc b) (omega (arith, opened_length k.enc le b lb bb, small))

  pub payload_bytes : Bytes (payload k.enc b)
  payload_bytes = take_bytes (head_of_lem b).len (opened k.enc b) (opened_bytes k.enc le b lb bb)

  pub payload_filled : filled (payload k.enc b) ≡ opened k.enc b
  unfolding zero_after
  payload_filled = fill_of (opened k.enc b) (head_of_lem b).len (opened_length k.enc le b lb bb) small m.fill-zero

  front_is : front k.enc (head_of_lem b) (payload k.enc b) ≡ take 496 b
  unfolding front cipher
  front_is =
      let eh = head_bytes b bb (omega arith) in
      ap₂ ◌++◌ eh (ap₂ (λ (x y : List ℕ). moded 16 k.enc CbcEncrypt (k.enc.enc x) y) eh payload_filled ∙ enciphered k.enc le b lb bb)
      ∙ sym (take-add 16 480 b)

  pub accepted_sealed : b ≡ sealed k.enc k.mac (ed.tail s.last) (head_of_lem b) (payload k.enc b)
  unfolding sealed checks
  accepted_sealed =
      let tail = ed.tail s.last in
      let e = same_true (k.mac (take 496 b ++ tail)) (drop 496 b) m.check_right in
      sym (take-append-drop 496 b) ∙ ap₂ ◌++◌ (sym front_is) (sym e ∙ ap (λ (x : List ℕ). k.mac (x ++ tail)) (sym front_is))
