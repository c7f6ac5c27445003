-- How the promises about bookmarks are proved. Assumes nothing.
use mathlib.Core.Path.{◌≡◌, refl, sym, ap, ap₂, subst, ◌∙◌}
use mathlib.Core.Bool.{Bool, true, false, cond, true≢false}
use mathlib.Core.List.{List, [], ◌∷◌, ◌++◌}
use Prim.Native.Nat.{ℕ, zero, suc, ◌+◌, ◌-◌, ◌≤◌, ◌<◌}
use native.Mathlib.Omega.{arith}
use borrow.Author.Tests.{ltb-true, ltb-false, ne_eqb, eqb-true, eqb-false}
use lib.Dec.{eqb, ltb}
use lib.ListN.{length, take, drop, replicate, length-drop, take-append-drop}
use lib.Seq.{take-append_seam, drop-append_seam}
use Rattle.octets.specs.Octets.{Bytes, Octets, same}
use Rattle.octets.proofs.Blocks.{drop_bytes}
use Rattle.octets.proofs.Same.{same_true, same_refl}
use Rattle.aes_spec.specs.Cipher.{aes_of}
use Rattle.cmac_spec.specs.Cmac.{cmac}
use Rattle.image_layout.specs.Layout.{head_of_lem}
use Rattle.image_limits.specs.Marks.{selected}
use Rattle.image_progress.specs.declared.Progress.{Progress}
use Rattle.image_spec.specs.Edition.{Edition}
use Rattle.image_spec.specs.Judge.{Keys, Rule, either, taken, fresh}
use Rattle.image_bookmark.specs.Bookmark.{front_of_lem, progress_in, bytes_in}
use Rattle.image_bookmark.proofs.Reading.{Wide, progress_in_front, bytes_in_front, front_octets}
use Rattle.aes_schedule.specs.Schedule.{key_number}
use Rattle.image_reader.specs.Calls.{start_of, keys_of, blocks_by, turn_of}
use Rattle.image_reader.specs.declared.Reader.{Reader}
use Rattle.image_reader.specs.declared.Turn.{Turn}
use Rattle.image_reader_bookmark.specs.Calls.{bookmark_under, save_of, is_bookmark, resumed_at, refused_with, resumed_from, resume_of}
use Rattle.image_reader_bookmark.specs.declared.ReadResumed.{ReadResumed}
use Rattle.image_reader_bookmark.specs.declared.ResumeAnswer.TheVariants.{Resumed, KeyLength, NotABookmark}
use Rattle.promises.proofs.Aes.Keys.{KeyTaken}
use Rattle.promises.proofs.Image.Words.{Met, AllMet, Blocks, moved, reader_of, given, reading_of}
use Rattle.promises.proofs.Lemmas.ImageCalls.{start_keys, start_fresh, given_blocks, by_turn}
use Rattle.promises.proofs.Lemmas.ImageTurn.{ran_state, ran_met}
use Rattle.promises.proofs.Lemmas.ImageOne.{release_wide}

-- ---- what resuming comes to

abbrev judged : (ekey ckey b : List ℕ) → ReadResumed
judged ekey ckey b =
    cond (same (cmac (aes_of ckey) (take 40 b)) (drop 40 b)) (resumed_at (start_of ekey ckey).reader b) (refused_with NotABookmark)

module _ (ekey ckey b : List ℕ) where
  pub resume_taken : KeyTaken ekey → KeyTaken ckey → resume_of ekey ckey b ≡ judged ekey ckey b
  unfolding resume_of
  resume_taken te tc =
      let f = start_fresh ekey ckey te tc in
      rw f.0 (ap (λ (k : Keys). cond (same (k.mac (take 40 b)) (drop 40 b)) (resumed_at (start_of ekey ckey).reader b) (refused_with NotABookmark)) f.1)

  pub resume_untaken : (KeyTaken ekey → KeyTaken ckey → ⊥) → resume_of ekey ckey b ≡ refused_with KeyLength
  unfolding resume_of
  resume_untaken n =
      rw (ne_eqb (key_number (start_of ekey ckey).answer) 0 (λ e. let k = start_keys ekey ckey e in n k.0 k.1))

  -- every answer, and what it says
  pub resume_told : (P : ReadResumed → Type 0) → (KeyTaken ekey → KeyTaken ckey → cmac (aes_of ckey) (take 40 b) ≡ drop 40 b → P (resumed_at (start_of ekey ckey).reader b))
      → ((KeyTaken ekey → KeyTaken ckey → ⊥) → P (refused_with KeyLength))
      → (KeyTaken ekey → KeyTaken ckey → (cmac (aes_of ckey) (take 40 b) ≡ drop 40 b → ⊥) → P (refused_with NotABookmark)) → P (resume_of ekey ckey b)
  resume_told P done key mark = by (eqb (key_number (start_of ekey ckey).answer) 0) refl
    where
      go : KeyTaken ekey → KeyTaken ckey → (t : Bool) → same (cmac (aes_of ckey) (take 40 b)) (drop 40 b) ≡ t → P (cond t (resumed_at (start_of ekey ckey).reader b) (refused_with NotABookmark))
      go te tc true e = done te tc (same_true (cmac (aes_of ckey) (take 40 b)) (drop 40 b) e)
      go te tc false e = mark te tc (λ q. true≢false (sym (ap (same (cmac (aes_of ckey) (take 40 b))) (sym q) ∙ same_refl (cmac (aes_of ckey) (take 40 b))) ∙ e))

      by : (t : Bool) → eqb (key_number (start_of ekey ckey).answer) 0 ≡ t → P (resume_of ekey ckey b)
      by true e =
          let k = start_keys ekey ckey (eqb-true (key_number (start_of ekey ckey).answer) 0 e) in
          subst P (sym (resume_taken k.0 k.1)) (go k.0 k.1 (same (cmac (aes_of ckey) (take 40 b)) (drop 40 b)) refl)
      by false e =
          let n : KeyTaken ekey → KeyTaken ckey → ⊥ = λ te tc. eqb-false (key_number (start_of ekey ckey).answer) 0 e (start_fresh ekey ckey te tc).0 in
          subst P (sym (resume_untaken n)) (key n)

-- a saved reader, where keys started it
pub save_is : (ekey ckey : List ℕ) → KeyTaken ekey → KeyTaken ckey → (s : Progress) (n : ℕ) → save_of (reader_of ekey ckey s) n ≡ front_of_lem s n ++ cmac (aes_of ckey) (front_of_lem s n)
unfolding save_of
save_is ekey ckey te tc s n =
    ap (λ (k : Keys). cond k.usable (bookmark_under k.mac (front_of_lem s n)) (replicate 56 0)) (start_fresh ekey ckey te tc).1

-- ---- saved, then resumed

module _ (ekey ckey : List ℕ) (te : KeyTaken ekey) (tc : KeyTaken ckey) (s : Progress) (w : Wide s) (n : ℕ) (h : n < 18446744073709551616) where
  check : List ℕ
  check = cmac (aes_of ckey) (front_of_lem s n)

  front_there : take 40 (front_of_lem s n ++ check) ≡ front_of_lem s n
  front_there = ap (λ (k : ℕ). take k (front_of_lem s n ++ check)) (sym (front_octets s n w.last_octets).size) ∙ take-append_seam (front_of_lem s n) check

  check_there : drop 40 (front_of_lem s n ++ check) ≡ check
  check_there = ap (λ (k : ℕ). drop k (front_of_lem s n ++ check)) (sym (front_octets s n w.last_octets).size) ∙ drop-append_seam (front_of_lem s n) check

  right : same (cmac (aes_of ckey) (take 40 (front_of_lem s n ++ check))) (drop 40 (front_of_lem s n ++ check)) ≡ true
  unfolding check
  right = ap₂ (λ (x y : List ℕ). same (cmac (aes_of ckey) x) y) front_there check_there ∙ same_refl check

  pub undone : resume_of ekey ckey (save_of (reader_of ekey ckey s) n) ≡ record { answer = Resumed; reader = reader_of ekey ckey s; bytes = n }
  unfolding check
  undone =
      ap (resume_of ekey ckey) (save_is ekey ckey te tc s n) ∙ resume_taken ekey ckey (front_of_lem s n ++ check) te tc
      ∙ rw right (ap₂ (λ (x : Progress) (m : ℕ). record { answer = Resumed; reader = reader_of ekey ckey x; bytes = m }) (progress_in_front s n w check) (bytes_in_front s n w check h))

-- ---- what a turn leaves fits its places

edition_wide : (v : ℕ) → selected v < 4294967296
unfolding selected
edition_wide v = go (eqb v 2)
  where
    go : (t : Bool) → cond t 2 1 < 4294967296
    go true = omega arith
    go false = omega arith

taken_wide : (k : Keys) (ed : Edition) (s : Progress) (b : List ℕ) → Met k ed s b → Octets 512 b → Wide s → Wide (taken s b)
taken_wide k ed s b m o w = record {
  next_wide = next (ltb 0 s.next) refl;
  count_wide = let h = m.head_right.count_high in omega arith;
  release_wide = release_wide b o.bytes;
  edition_wide = edition_wide (head_of_lem b).reserved;
  last_octets = record { size = length-drop 496 b ∙ ap (λ (x : ℕ). x - 496) o.size; bytes = drop_bytes 496 b o.bytes };
}
  where
    next : (t : Bool) → ltb 0 s.next ≡ t → s.next + 1 < 4294967296
    next true e = let l = m.head_right.still_open (ltb-true 0 s.next e) in let c = w.count_wide in omega arith
    next false e = let l = ltb-false 0 s.next e in omega arith

met_wide : (k : Keys) (rule : Rule) (s : Progress) (n : ℕ) (bs : List (List ℕ)) → Blocks bs → AllMet k rule s n bs → Wide s → Wide (moved s (take n bs))
met_wide k rule s zero bs o m w = w
met_wide k rule s (suc n) [] o m w = absurd m
met_wide k rule s (suc n) (b ∷ bs) o m w = met_wide k rule (taken s b) n bs o.1 m.1 (taken_wide k (rule s (head_of_lem b).reserved) s b m.0 o.0 w)

pub turn_wide : (r : Reader) (lent : List ℕ) (asked : ℕ) (out : List ℕ) → Bytes lent → Wide r.progress → Wide (turn_of r lent asked out).0.reader.progress
turn_wide r lent asked out b w =
    by_turn r lent asked out (λ (t : Turn × List ℕ). Wide t.0.reader.progress) w w w
    (λ f. subst Wide (sym (ran_state (blocks_by r) r.progress (given lent asked))) (met_wide (keys_of r) either r.progress (reading_of r lent asked).accepted (given lent asked) (given_blocks lent asked b) (ran_met (keys_of r) either r.progress (given lent asked)) w))
