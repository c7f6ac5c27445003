-- A reader of both editions: each block that it takes is one of the reader of its edition, and no build takes a block of another. Assumes nothing.
use mathlib.Core.Path.{◌≡◌, refl, sym, ap, subst, ◌∙◌}
use mathlib.Core.Bool.{Bool, true, false, ◌||◌, cond}
use mathlib.Core.Logic.{◌⊎◌, inl, inr, ⊎_elim}
use mathlib.Core.List.{List, [], ◌∷◌, ◌++◌}
use Prim.Native.Nat.{ℕ, zero, suc, ◌≤◌, ◌<◌}
use native.Mathlib.Omega.{arith}
use borrow.Author.Tests.{eqb-true, eqb-false, ltb-true, ltb-false, lt-ltb}
use lib.Dec.{eqb, ltb}
use lib.ListN.{length, get_or, take, drop, length-append, get_or-append}
use lib.Seq.{drop_at, length-take-le}
use Rattle.octets.specs.Octets.{Bytes, Octets}
use Rattle.octets.specs.Blocks.{BlockCipher, Lawful}
use Rattle.octets.proofs.Blocks.{take_bytes, append_bytes}
use Rattle.octets.proofs.Same.{same_true}
use Rattle.cmac_spec.specs.Cmac.{cmac, SameOutside}
use Rattle.cmac_spec.proofs.OnePiece.{one_piece}
use Rattle.image_layout.specs.Layout.{head_of_lem}
use Rattle.image_layout.specs.declared.Head.{Head}
use Rattle.image_limits.specs.Marks.{is_edition, selected, mark_of}
use Rattle.image_progress.specs.Progress.{mark_for}
use Rattle.image_progress.specs.declared.Progress.{Progress}
use Rattle.image_spec.specs.Edition.{tail_of, edition}
use Rattle.image_spec.specs.Sealed.{sealed, checks}
use Rattle.image_spec.specs.Judge.{Keys, always, either, of_both, fresh, taken}
use Rattle.image_reader_turn.specs.Turn.{Reading, read_blocks}
use Rattle.promises.proofs.Image.Words.{Right, Met, Blocks}
use Rattle.promises.proofs.Lemmas.ImageSealed.{sealed_size, sealed_bytes, sealed_checks}
use Rattle.promises.proofs.Lemmas.ImageJudge.{accepted_met, met_accepted}
use Rattle.promises.proofs.Lemmas.ImageTurn.{by_verdict}
use Rattle.promises.proofs.Lemmas.ImageWhole.{Passes}

-- ---- marks

pub reserved_wide : (b : List ℕ) → Bytes b → (head_of_lem b).reserved < 65536
unfolding head_of_lem
reserved_wide b w = omega (arith, w 14, w 15)

-- two bytes that are a mark select its edition
pub mark_names : (n v : ℕ) → v < 65536 → v ≡ mark_of n → (is_edition n ≡ true) × (selected v ≡ n)
unfolding mark_of is_edition selected
mark_names n v h e = go (eqb n 1) (eqb n 2) refl refl e
  where
    go : (t u : Bool) → eqb n 1 ≡ t → eqb n 2 ≡ u → v ≡ cond t 0 (cond u 2 65536) → ((t || u) ≡ true) × (cond (eqb v 2) 2 1 ≡ n)
    go true u p q f = (refl, rw f (sym (eqb-true n 1 p)))
    go false true p q f = (refl, rw f (sym (eqb-true n 2 q)))
    go false false p q f = absurd (omega arith)

pub mark_fits : (n : ℕ) → is_edition n ≡ true → mark_of n < 65536
unfolding mark_of is_edition
mark_fits n e = go (eqb n 1) (eqb n 2) e
  where
    go : (t u : Bool) → (t || u) ≡ true → cond t 0 (cond u 2 65536) < 65536
    go true u q = omega arith
    go false true q = omega arith
    go false false q = let y : ◌≡◌ {A = ℕ} 0 1 = cc in absurd (omega arith)

-- the mark of an edition selects it
pub mark_selects : (n : ℕ) → is_edition n ≡ true → selected (mark_of n) ≡ n
mark_selects n e = (mark_names n (mark_of n) (mark_fits n e) refl).1

-- neither 0 nor 2 is no mark
pub no_mark : (s : Progress) (v : ℕ) → v < 65536 → (v ≡ 0 → ⊥) → (v ≡ 2 → ⊥) → v ≡ mark_for s v → ⊥
unfolding mark_for mark_of
no_mark s v h n0 n2 e = go (eqb n 1) (eqb n 2) e
  where
    n : ℕ
    n = cond (ltb 0 s.next) s.edition (selected v)

    go : (t u : Bool) → v ≡ cond t 0 (cond u 2 65536) → ⊥
    go true u q = n0 q
    go false true q = n2 q
    go false false q = omega arith

-- once an edition is fixed, the mark is that of no other
pub mark_fixed : (s : Progress) (v : ℕ) → v < 65536 → 0 < s.next → v ≡ mark_for s v → selected v ≡ s.edition
unfolding mark_for
mark_fixed s v h f e = (mark_names s.edition v h (e ∙ ap (λ (t : Bool). mark_of (cond t s.edition (selected v))) (lt-ltb 0 s.next f))).1

mark_same : (s : Progress) (v n : ℕ) → selected v ≡ n → (0 < s.next → s.edition ≡ n) → mark_for s v ≡ mark_of n
unfolding mark_for
mark_same s v n e f = go (ltb 0 s.next) refl
  where
    go : (t : Bool) → ltb 0 s.next ≡ t → mark_of (cond t s.edition (selected v)) ≡ mark_of n
    go true q = ap mark_of (f (ltb-true 0 s.next q))
    go false q = ap mark_of e

-- what is no mark is neither 0 nor 2, or selects another edition than the one fixed
pub thirteen : (s : Progress) (v : ℕ) → (v ≡ mark_for s v → ⊥) → ((v ≡ 0 → ⊥) × (v ≡ 2 → ⊥)) ⊎ ((0 < s.next) × (selected v ≡ s.edition → ⊥))
unfolding mark_of selected
thirteen s v n = go (eqb v 0) (eqb v 2) refl refl (ltb 0 s.next) refl
  where
    is_mark : (m : ℕ) → v ≡ mark_of m → selected v ≡ m → (0 < s.next → selected v ≡ s.edition) → v ≡ mark_for s v
    is_mark m e g f = e ∙ sym (mark_same s v m g (λ l. sym (f l) ∙ g))

    zero_mark : v ≡ 0 → (v ≡ mark_of 1) × (selected v ≡ 1)
    zero_mark e = (e, rw e refl)

    two_mark : v ≡ 2 → (v ≡ mark_of 2) × (selected v ≡ 2)
    two_mark e = (e, rw e refl)

    go : (t u : Bool) → eqb v 0 ≡ t → eqb v 2 ≡ u → (f : Bool) → ltb 0 s.next ≡ f → ((v ≡ 0 → ⊥) × (v ≡ 2 → ⊥)) ⊎ ((0 < s.next) × (selected v ≡ s.edition → ⊥))
    go true u p q true r = let m = zero_mark (eqb-true v 0 p) in inr (ltb-true 0 s.next r, λ e. n (is_mark 1 m.0 m.1 (λ l. e)))
    go true u p q false r = let m = zero_mark (eqb-true v 0 p) in absurd (n (is_mark 1 m.0 m.1 (λ l. absurd (omega (arith, ltb-false 0 s.next r)))))
    go false true p q true r = let m = two_mark (eqb-true v 2 q) in inr (ltb-true 0 s.next r, λ e. n (is_mark 2 m.0 m.1 (λ l. e)))
    go false true p q false r = let m = two_mark (eqb-true v 2 q) in absurd (n (is_mark 2 m.0 m.1 (λ l. absurd (omega (arith, ltb-false 0 s.next r)))))
    go false false p q f r = inl (eqb-false v 0 p, eqb-false v 2 q)

-- ---- one block

module _ (k : Keys) (s : Progress) (b : List ℕ) (w : Bytes b) where
  abbrev v : ℕ
  v = (head_of_lem b).reserved

  -- what the reader of both editions takes is taken by that of the edition selected, which is the one fixed
  pub met_one : Met k (either s v) s b → Met k (edition (selected v)) s b × (is_edition (selected v) ≡ true) × (0 < s.next → s.edition ≡ selected v)
  unfolding mark_for
  met_one m =
      let n = cond (ltb 0 s.next) s.edition (selected v) in
      let g = mark_names n v (reserved_wide b w) m.head_right.marked in
      let e : mark_for s v ≡ mark_of (selected v) = ap mark_of (sym g.1) in (
        record { usable_keys = m.usable_keys; check_right = m.check_right; head_right = subst (λ (x : ℕ). Right x s (head_of_lem b)) e m.head_right; fill-zero = m.fill-zero },
        subst (λ (x : ℕ). is_edition x ≡ true) (sym g.1) g.0,
        λ f. sym (mark_fixed s v (reserved_wide b w) f m.head_right.marked),
      )

  pub one_met : (n : ℕ) → (0 < s.next → s.edition ≡ n) → Met k (edition n) s b → Met k (either s v) s b
  one_met n f m =
      let g : selected v ≡ n = (mark_names n v (reserved_wide b w) m.head_right.marked).1 in
      record {
        usable_keys = m.usable_keys;
        check_right = ap (λ (x : ℕ). checks k.mac (tail_of x s.last) b) g ∙ m.check_right;
        head_right = subst (λ (x : ℕ). Right x s (head_of_lem b)) (sym (mark_same s v n g f)) m.head_right;
        fill-zero = m.fill-zero;
      }

  -- a block that the reader of edition 1 alone takes has no 2 in bytes 14 and 15
  pub met_mark : (n : ℕ) → Met k (edition n) s b → selected v ≡ n
  met_mark n m = (mark_names n v (reserved_wide b w) m.head_right.marked).1

-- ---- many blocks

-- the edition that the first block selects
abbrev pub edition_of : List (List ℕ) → ℕ
edition_of [] = 1
edition_of (b ∷ bs) = selected (head_of_lem b).reserved

module _ (k : Keys) where
  fixed_passes : (n : ℕ) (s : Progress) (bs : List (List ℕ)) → Blocks bs → 0 < s.next → s.edition ≡ n → Passes k either s bs → Passes k (always (edition n)) s bs
  fixed_passes n s [] w f e p = p
  fixed_passes n s (b ∷ bs) w f e p =
      let m = met_one k s b w.0.bytes (accepted_met k (either s (head_of_lem b).reserved) s b p.0) in
      let q : selected (head_of_lem b).reserved ≡ n = sym (m.2 f) ∙ e in
      (met_accepted k (edition n) s b (subst (λ (x : ℕ). Met k (edition x) s b) q m.0), fixed_passes n (taken s b) bs w.1 (omega arith) q p.1)

  -- what passes a fresh reader of both passes the reader of the edition that its first block selects
  pub passes_one : (b : List ℕ) (bs : List (List ℕ)) → Blocks (b ∷ bs) → Passes k either fresh (b ∷ bs) → (is_edition (edition_of (b ∷ bs)) ≡ true) × Passes k (always (edition (edition_of (b ∷ bs)))) fresh (b ∷ bs)
  passes_one b bs w p =
      let m = met_one k fresh b w.0.bytes (accepted_met k (either fresh (head_of_lem b).reserved) fresh b p.0) in
      (m.1, (met_accepted k (edition (selected (head_of_lem b).reserved)) fresh b m.0, fixed_passes (selected (head_of_lem b).reserved) (taken fresh b) bs w.1 (omega arith) refl p.1))

  -- and what passes the reader of an edition passes the reader of both that has fixed none or that one
  pub passes_both : (n : ℕ) (s : Progress) (bs : List (List ℕ)) → Blocks bs → (0 < s.next → s.edition ≡ n) → Passes k (always (edition n)) s bs → Passes k either s bs
  passes_both n s [] w f p = p
  passes_both n s (b ∷ bs) w f p =
      let m = accepted_met k (edition n) s b p.0 in
      (met_accepted k (either s (head_of_lem b).reserved) s b (one_met k s b w.0.bytes n f m), passes_both n (taken s b) bs w.1 (λ l. met_mark k s b w.0.bytes n m) p.1)

-- the first accepted block fixes the edition
module _ (k : Keys) where
  still_edition : (s : Progress) (bs : List (List ℕ)) → Blocks bs → 0 < s.next → (read_blocks (of_both k) s bs).progress.edition ≡ s.edition
  unfolding read_blocks
  still_edition s [] w f = refl
  still_edition s (b ∷ bs) w f =
      by_verdict (of_both k) s b bs (λ (t : Reading). t.progress.edition ≡ s.edition)
      (λ e. still_edition (taken s b) bs w.1 (omega arith) ∙ sym ((met_one k s b w.0.bytes (accepted_met k (either s (head_of_lem b).reserved) s b e)).2 f)) (λ r e. refl)

  pub first_edition : (s : Progress) (b : List ℕ) (bs : List (List ℕ)) → Blocks (b ∷ bs) → 0 < (read_blocks (of_both k) s (b ∷ bs)).accepted
      → (read_blocks (of_both k) s (b ∷ bs)).progress.edition ≡ selected (head_of_lem b).reserved
  first_edition s b bs w =
      by_verdict (of_both k) s b bs (λ (t : Reading). 0 < t.accepted → t.progress.edition ≡ selected (head_of_lem b).reserved)
      (λ e h. still_edition (taken s b) bs w.1 (omega arith)) (λ r e h. absurd (omega arith))

-- ---- builds do not mix

module _ (f x y : List ℕ) (lf : length f ≡ 496) (lx : length x ≡ 16) (ly : length y ≡ 16) where
  low : (z : List ℕ) (k : ℕ) → k < 496 → get_or (f ++ z) k 0 ≡ get_or f k 0
  low z k h = get_or-append f z 0 k (omega arith)

  past : (z : List ℕ) → length z ≡ 16 → (k : ℕ) → 512 ≤ k → get_or (f ++ z) k 0 ≡ 0
  past z lz k h = nothing (f ++ z) k (omega (arith, length-append f z))
    where
      nothing : (l : List ℕ) (k : ℕ) → length l ≤ k → get_or l k 0 ≡ 0
      nothing [] k h = refl
      nothing (a ∷ l) zero h = absurd (omega arith)
      nothing (a ∷ l) (suc k) h = nothing l k (omega arith)

  ends_differ : SameOutside 31 (f ++ x) (f ++ y)
  ends_differ k n =
      ⊎_elim (λ h. low x k h ∙ sym (low y k h)) (λ h. past x lx k h ∙ sym (past y ly k h)) (which (ltb k 496) refl)
    where
      which : (t : Bool) → ltb k 496 ≡ t → (k < 496) ⊎ (512 ≤ k)
      which true e = inl (ltb-true k 496 e)
      which false e = inr (high (ltb k 512) refl)
        where
          high : (t : Bool) → ltb k 512 ≡ t → 512 ≤ k
          high true q = absurd (n (omega (arith, ltb-false k 496 e, ltb-true k 512 q)))
          high false q = ltb-false k 512 q

-- a sealed block's check is right on no other check of 16 bytes than the one that it was sealed on
pub on_one_check : (ek ck : BlockCipher) → Lawful 16 ek → Lawful 16 ck → (h : Head) (p : List ℕ) → length p ≤ 480 → Bytes p → (last other : List ℕ) → Octets 16 last → Octets 16 other
    → checks (cmac ck) other (sealed ek (cmac ck) last h p) ≡ true → other ≡ last
unfolding checks
on_one_check ek ck le lc h p lp bp last other ol oo e =
    let b = sealed ek (cmac ck) last h p in
    let f = take 496 b in
    let lb : length b ≡ 512 = sealed_size ek ck le lc h p lp bp last ol.bytes in
    let bf : Bytes f = take_bytes 496 b (sealed_bytes ek ck le lc h p lp bp last ol.bytes) in
    let lf : length f ≡ 496 = length-take-le 496 b (omega arith) in
    let ea = same_true (cmac ck (f ++ other)) (drop 496 b) e in
    let eb = same_true (cmac ck (f ++ last)) (drop 496 b) (sealed_checks ek ck le lc h p lp bp last ol.bytes) in
    let n : length (f ++ other) ≡ length (f ++ last) = omega (arith, length-append f other, length-append f last, ol.size, oo.size) in
    let q = one_piece ck lc 31 (f ++ other) (f ++ last) (append_bytes f other bf oo.bytes) (append_bytes f last bf ol.bytes) n (ends_differ f other last lf oo.size ol.size) (ea ∙ sym eb) in
    sym (drop_at f other 496 lf) ∙ ap (drop 496) q ∙ drop_at f last 496 lf
