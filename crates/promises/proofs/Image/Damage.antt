-- Demand 3 on damage: a block that the writer sealed, damaged inside one piece of 16 bytes or inside its check only, is never accepted and
-- changes nothing, in either edition, of turns and of the calls. Assumes nothing.
use mathlib.Core.Path.{◌≡◌, refl, sym, ap, subst, ◌∙◌}
use mathlib.Core.Bool.{Bool, true, false, ◌||◌, true≢false, cond}
use mathlib.Core.Logic.{◌⊎◌, inl, inr}
use mathlib.Core.List.{List, []}
use Prim.Native.Nat.{ℕ, ◌-◌, ◌+◌, ◌*◌, ◌≤◌, ◌<◌}
use native.Mathlib.Omega.{arith}
use borrow.Author.Tests.{eqb-true, eqb-false}
use lib.Dec.{eqb}
use lib.ListN.{length, get_or, take, drop}
use lib.Seq.{drop-drop}
use Rattle.octets.specs.Octets.{Bytes, Octets}
use Rattle.cmac_spec.specs.Cmac.{SameOutside}
use Rattle.image_layout.specs.Layout.{head_of_lem}
use Rattle.image_layout.specs.declared.Head.{Head}
use Rattle.image_limits.specs.Marks.{is_edition, selected, mark_of}
use Rattle.image_limits.proofs.Pins.{two_alone_selects, marks_and_covers}
use Rattle.image_progress.specs.Progress.{closed}
use Rattle.image_progress.specs.declared.Progress.{Progress}
use Rattle.image_reasons.specs.declared.Reason.{Reason}
use Rattle.image_reasons.specs.declared.Reason.TheVariants.{AfterLast, CheckWrong}
use Rattle.image_reasons.specs.declared.Verdict.{Verdict}
use Rattle.image_reasons.specs.declared.Verdict.TheVariants.{Accepted, Refused}
use Rattle.image_spec.specs.Edition.{tail_of}
use Rattle.image_spec.specs.Judge.{either, of_both}
use Rattle.image_reader_tally.specs.declared.Stop.TheVariants.{At}
use Rattle.image_reader_turn.specs.Turn.{handled}
use Rattle.image_writer_answer.specs.Answers.{last_for}
use Rattle.image_writer_answer.specs.declared.Numbers.{Numbers}
use Rattle.image_reader.specs.declared.Reader.{Reader}
use Rattle.image_reader.specs.declared.Turn.{Turn}
use Rattle.image_reader.specs.Calls.{keys_of, blocks_by, turn_of}
use Rattle.promises.proofs.Image.Words.{SealedOn, Fit, Wrote, Fair, given, in_state, reader_of, moved, reading_of}
use Rattle.promises.proofs.Image.Statements.{damaged_is_refused, damaged_never_accepted, turn_state, turn_output}
use Rattle.promises.proofs.Image.Calls.{wrote}
use Rattle.promises.proofs.Lemmas.ImageJudge.{accepted_met}
use Rattle.promises.proofs.Lemmas.ImageBoth.{reserved_wide, no_mark}
use Rattle.promises.proofs.Lemmas.ImageTurn.{stops_at}
use Rattle.promises.proofs.Lemmas.ImageCalls.{cut_length, fair_turn, by_turn}
use Rattle.promises.proofs.Lemmas.ImageRead.{fit, head_is}
use Rattle.image_writer.proofs.write.Reads as write
use Rattle.image_reader.proofs.read_turn.Reads as read_turn

-- ---- the words of this page

-- d is b, damaged inside one piece of 16 bytes; the check is piece 31
pub record Damaged (b d : List ℕ) : Type 0 where
  pub octets : Octets 512 d
  pub piece : ℕ
  pub same_elsewhere : SameOutside piece d b
  pub differs : d ≡ b → ⊥

-- bytes 14 and 15 went from 0 to 2 or back
abbrev pub EditionTurned : (b d : List ℕ) → Type 0
EditionTurned b d = (((head_of_lem b).reserved ≡ 0) × ((head_of_lem d).reserved ≡ 2)) ⊎ (((head_of_lem b).reserved ≡ 2) × ((head_of_lem d).reserved ≡ 0))

-- where the reader stands, d is not by chance what a block sealed with these numbers on this check could be: in edition 2 its last check is the
-- one that the block was sealed on, and where bytes 14 and 15 went from 0 to 2 or back, it has fixed the edition that the block was sealed in
pub record Stands (n : Numbers) (previous b d : List ℕ) (t : Progress) : Type 0 where
  pub sealed_on : n.edition ≡ 2 → t.last ≡ last_for n.number previous
  pub fixed : EditionTurned b d → (0 < t.next) × (t.edition ≡ n.edition)

-- a turn does not take the block at a place: it accepts blocks before it alone, the reader has moved by those alone, from the place of the
-- block on the output is as it was, and a turn that comes to the block stops there
pub record PassedBy (r : Reader) (lent : List ℕ) (asked : ℕ) (out : List ℕ) (place : ℕ) (t : Turn × List ℕ) : Type 0 where
  pub not_accepted : t.0.accepted ≤ place
  pub reader_kept : t.0.reader ≡ in_state r (moved r.progress (take t.0.accepted (given lent asked)))
  pub output_kept : drop (480 * place) t.1 ≡ drop (480 * place) out
  pub stopped : Fair lent asked out → t.0.accepted ≡ place → (reason : Reason) × (t.0.stop ≡ At place reason)

-- ---- one block

unlike : (t : Progress) → cond (closed t) (Refused AfterLast) (Refused CheckWrong) ≡ Accepted → ⊥
unlike t = go (closed t)
  where
    go : (u : Bool) → cond u (Refused AfterLast) (Refused CheckWrong) ≡ Accepted → ⊥
    go true e = let z : ◌≡◌ {A = ℕ} 0 1 = cc in omega arith
    go false e = let z : ◌≡◌ {A = ℕ} 0 1 = cc in omega arith

one_or_two : (e : ℕ) → is_edition e ≡ true → (e ≡ 1) ⊎ (e ≡ 2)
unfolding is_edition
one_or_two e h = go (eqb e 1) (eqb e 2) refl refl h
  where
    go : (a b : Bool) → eqb e 1 ≡ a → eqb e 2 ≡ b → (a || b) ≡ true → (e ≡ 1) ⊎ (e ≡ 2)
    go true b p q h = inl (eqb-true e 1 p)
    go false true p q h = inr (eqb-true e 2 q)
    go false false p q h = absurd (true≢false (sym h))

-- a value that is a mark, and selects another edition than the one with this number, is that of the other
turns_edition : (e v u : ℕ) → (e ≡ 1) ⊎ (e ≡ 2) → u ≡ mark_of e → ((v ≡ 0 → ⊥) → (v ≡ 2 → ⊥) → ⊥) → (selected v ≡ e → ⊥)
    → ((u ≡ 0) × (v ≡ 2)) ⊎ ((u ≡ 2) × (v ≡ 0))
turns_edition e v u k m mark n = go k (eqb v 0) (eqb v 2) refl refl
  where
    go : (e ≡ 1) ⊎ (e ≡ 2) → (a b : Bool) → eqb v 0 ≡ a → eqb v 2 ≡ b → ((u ≡ 0) × (v ≡ 2)) ⊎ ((u ≡ 2) × (v ≡ 0))
    go (inl z) a true p q = inl (m ∙ ap mark_of z ∙ marks_and_covers.0, eqb-true v 2 q)
    go (inl z) a false p q = absurd (n (two_alone_selects.1 v (eqb-false v 2 q) ∙ sym z))
    go (inr z) a true p q = absurd (n (ap selected (eqb-true v 2 q) ∙ two_alone_selects.0 ∙ sym z))
    go (inr z) true false p q = inr (m ∙ ap mark_of z ∙ marks_and_covers.1, eqb-true v 0 p)
    go (inr z) false false p q = absurd (mark (eqb-false v 0 p) (eqb-false v 2 q))

-- a turn over a block that is not accepted where the reader stands after those before it
refused_is_passed_by : (r : Reader) (lent : List ℕ) (asked : ℕ) (out : List ℕ) → Bytes lent → (p : ℕ) → p < handled lent asked
    → ((blocks_by r).verdict (moved r.progress (take p (given lent asked))) (get_or (given lent asked) p []) ≡ Accepted → ⊥)
    → PassedBy r lent asked out p (turn_of r lent asked out)
refused_is_passed_by r lent asked out bl p hp n =
    record { not_accepted = few; reader_kept = turn_state r lent asked out; output_kept = rest; stopped = λ f e. stops f e ((blocks_by r).verdict t (get_or (given lent asked) p [])) refl }
  where
    t : Progress
    t = moved r.progress (take p (given lent asked))

    below : p < length (given lent asked)
    below = subst (λ (m : ℕ). p < m) (sym (cut_length (handled lent asked) lent)) hp

    few : (turn_of r lent asked out).0.accepted ≤ p
    few =
        by_turn r lent asked out (λ (x : Turn × List ℕ). x.0.accepted ≤ p) (omega arith) (omega arith) (omega arith)
        (λ f. go ((blocks_by r).verdict t (get_or (given lent asked) p [])) refl)
      where
        go : (v : Verdict) → (blocks_by r).verdict t (get_or (given lent asked) p []) ≡ v → (reading_of r lent asked).accepted ≤ p
        go Accepted e = absurd (n e)
        go (Refused y) e = (stops_at (blocks_by r) r.progress (given lent asked) p y below e).0

    stops : Fair lent asked out → (turn_of r lent asked out).0.accepted ≡ p → (v : Verdict) → (blocks_by r).verdict t (get_or (given lent asked) p []) ≡ v
        → (reason : Reason) × ((turn_of r lent asked out).0.stop ≡ At p reason)
    stops f a Accepted e = absurd (n e)
    stops f a (Refused y) e =
        let q = fair_turn r lent asked out f in
        let z : (reading_of r lent asked).accepted ≡ p = sym (ap (λ (x : Turn × List ℕ). x.0.accepted) q) ∙ a in
        (y, ap (λ (x : Turn × List ℕ). x.0.stop) q ∙ ((stops_at (blocks_by r) r.progress (given lent asked) p y below e).1 z).0)

    rest : drop (480 * p) (turn_of r lent asked out).1 ≡ drop (480 * p) out
    rest =
        let a = (turn_of r lent asked out).0.accepted in
        let k = 480 * p - 480 * a in
        let m : 480 * a + k ≡ 480 * p = omega (arith, few) in
        ap (λ (x : ℕ). drop x (turn_of r lent asked out).1) (sym m) ∙ sym (drop-drop k (480 * a) (turn_of r lent asked out).1) ∙ ap (drop k) (turn_output r lent asked out bl).1
        ∙ drop-drop k (480 * a) out ∙ ap (λ (x : ℕ). drop x out) m

module _ (ekey ckey : List ℕ) (n : Numbers) (previous payload b : List ℕ) (w : Wrote ekey ckey n previous payload b) (d : List ℕ) (x : Damaged b d) where
  known : (n.edition ≡ 1) ⊎ (n.edition ≡ 2)
  known = one_or_two n.edition (fit ekey ckey n previous payload b w).known

  on : (t : Progress) → Stands n previous b d t → SealedOn n previous t.last
  unfolding tail_of
  on t h = go known
    where
      go : (n.edition ≡ 1) ⊎ (n.edition ≡ 2) → SealedOn n previous t.last
      go (inl e) = rw e
      go (inr e) = ap (tail_of n.edition) (h.sealed_on e)

  -- it is never accepted by a reader of both editions under the same keys, wherever that reader stands
  pub damaged_block_never_accepted : (s t : Progress) → Stands n previous b d t → (of_both (keys_of (reader_of ekey ckey s))).verdict t d ≡ Accepted → ⊥
  damaged_block_never_accepted s t h a = go (eqb (selected v) n.edition) refl
    where
      v : ℕ
      v = (head_of_lem d).reserved

      mark : (v ≡ 0 → ⊥) → (v ≡ 2 → ⊥) → ⊥
      mark n0 n2 = no_mark t v (reserved_wide d x.octets.bytes) n0 n2 (accepted_met (keys_of (reader_of ekey ckey s)) (either t v) t d a).head_right.marked

      go : (u : Bool) → eqb (selected v) n.edition ≡ u → ⊥
      go true e = unlike t (sym (damaged_is_refused ekey ckey n previous payload b w x.piece d x.octets x.same_elsewhere x.differs s t (on t h) (eqb-true (selected v) n.edition e)) ∙ a)
      go false e =
          let f = h.fixed (turns_edition n.edition v (head_of_lem b).reserved known (ap (λ (y : Head). y.reserved) (head_is ekey ckey n previous payload b w)) mark (eqb-false (selected v) n.edition e)) in
          damaged_never_accepted ekey ckey n previous payload b w x.piece d x.octets x.same_elsewhere x.differs s t (on t h) f.0 f.1 a

  -- and no turn that has it at a place takes it, or is changed by it
  pub damaged_block_changes_nothing : (s : Progress) (lent : List ℕ) (asked : ℕ) (out : List ℕ) → Bytes lent → (p : ℕ) → p < handled lent asked → get_or (given lent asked) p [] ≡ d
      → Stands n previous b d (moved s (take p (given lent asked)))
      → PassedBy (reader_of ekey ckey s) lent asked out p (turn_of (reader_of ekey ckey s) lent asked out)
  damaged_block_changes_nothing s lent asked out bl p hp at h =
      refused_is_passed_by (reader_of ekey ckey s) lent asked out bl p hp
      (λ e. damaged_block_never_accepted s (moved s (take p (given lent asked))) h (ap ((of_both (keys_of (reader_of ekey ckey s))).verdict (moved s (take p (given lent asked)))) (sym at) ∙ e))

-- ---- the two calls: what `write` wrote, damaged, at a place of what is lent to `read_turn` of a reader under the same keys

module _ (κs : _) (a : _) (r : _) (s : _) (p : write.Post κs a r s)
    (fits : Fit a.0.now a.1.0.now a.1.1.0 (length a.1.1.1.1.0.now) (length a.1.1.1.1.1.0.now))
    (before : Octets 16 a.1.1.1.0) (bytes : Bytes a.1.1.1.1.0.now) (release : a.1.1.0.release < 4294967296)
    (κs' : _) (a' : _) (r' : _) (s' : _) (q : read_turn.Post κs' a' r' s') (st : Progress) (reader : a'.0 ≡ reader_of a.0.now a.1.0.now st) where
  pub damage_changes_nothing : (d : List ℕ) → Damaged (take 512 s.1.1.1.1.1.0.now) d → Bytes a'.1.0.now
      → (place : ℕ) → place < handled a'.1.0.now a'.1.1.0 → get_or (given a'.1.0.now a'.1.1.0) place [] ≡ d
      → Stands a.1.1.0 a.1.1.1.0 (take 512 s.1.1.1.1.1.0.now) d (moved st (take place (given a'.1.0.now a'.1.1.0)))
      → PassedBy a'.0 a'.1.0.now a'.1.1.0 a'.1.1.1.0.now place (r', s'.1.1.1.0.now)
  damage_changes_nothing d x bl place hp at h =
      let lent = a'.1.0.now in
      let out = a'.1.1.1.0.now in
      let asked = a'.1.1.0 in
      let written = take 512 s.1.1.1.1.1.0.now in
      subst (λ (y : Turn × List ℕ). PassedBy a'.0 lent asked out place y) (sym q)
      (subst (λ (y : Reader). PassedBy y lent asked out place (turn_of y lent asked out)) (sym reader)
      (damaged_block_changes_nothing a.0.now a.1.0.now a.1.1.0 a.1.1.1.0 a.1.1.1.1.0.now written (wrote κs a r s p fits before bytes release) d x st lent asked out bl place hp at h))
