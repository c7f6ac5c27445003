-- Demands 2 and 3 for images: what is written is read back in any turns, what is damaged is refused, and what a turn accepted, handed out
-- and left as it was. Assumes nothing.
use mathlib.Core.Path.{◌≡◌, refl, sym, ap, ap₂, ◌∙◌, subst}
use mathlib.Core.Bool.{Bool, true, false, ◌&&◌, cond}
use mathlib.Core.Logic.{◌⊎◌, inl, inr}
use mathlib.Core.List.{List, [], ◌∷◌, ◌++◌}
use Prim.Native.Nat.{ℕ, zero, suc, ◌+◌, ◌-◌, ◌*◌, ◌≤◌, ◌<◌}
use native.Mathlib.Nat.{add-zero, zero-add}
use native.Mathlib.Omega.{arith}
use borrow.Author.Tests.{eqb-true, eqb-false, eq-eqb, ne_eqb, ltb-true, ltb-false, lt-ltb}
use lib.Dec.{eqb, ltb}
use lib.ListN.{length, get_or, take, drop, length-append, length-drop, replicate}
use lib.Seq.{take_at, drop_at, drop-drop, drop-append-add}
use Rattle.octets.specs.Octets.{Bytes, Octets, over, joined}
use Rattle.octets.specs.Blocks.{BlockCipher, Lawful}
use Rattle.octets.proofs.Blocks.{take_bytes, drop_bytes}
use Rattle.aes_schedule.specs.Schedule.{key_number}
use Rattle.aes_schedule.specs.declared.KeyAnswer.{KeyAnswer}
use Rattle.aes_schedule.specs.declared.KeyAnswer.TheVariants.{Taken, KeyLength}
use Rattle.aes_spec.specs.Cipher.{aes_of}
use Rattle.aes_spec.proofs.Aes.{key_lawful}
use Rattle.modes_spec.specs.Pieces.{piece}
use Rattle.cmac_spec.specs.Cmac.{cmac, SameOutside}
use Rattle.image_layout.specs.Layout.{head_of_lem}
use Rattle.image_limits.specs.Marks.{is_edition, selected}
use Rattle.image_reasons.specs.Reasons.{reason_number}
use Rattle.image_progress.specs.Progress.{done, closed, mark_for}
use Rattle.image_layout.specs.declared.Head.{Head}
use Rattle.image_progress.specs.declared.Progress.{Progress}
use Rattle.image_reasons.specs.declared.Reason.{Reason}
use Rattle.image_reasons.specs.declared.Reason.TheVariants.{AfterLast, CheckWrong, Count, Number, OtherCount, OtherRelease, Length, Reserved, FillNotZero}
use Rattle.image_reasons.specs.declared.Verdict.TheVariants.{Accepted, Refused}
use Rattle.image_layout.proofs.Laws.{Wide}
use Rattle.image_spec.specs.Edition.{Edition, one, no_check, tail_of, edition}
use Rattle.image_spec.specs.Sealed.{filled, head_for, block_for, sealed, opened, checks, fill_zero}
use Rattle.image_spec.specs.Judge.{Keys, judge, either, of_edition, of_both, fresh, advanced, taken, BlockReader}
use Rattle.image_reader_tally.specs.Tally.{stop_number}
use Rattle.image_reader_turn.specs.Turn.{Reading, read_blocks, cut, handled}
use Rattle.image_writer_answer.specs.Answers.{write_number, last_for}
use Rattle.image_writer.specs.Calls.{write_output, write_answer, block_of}
use Rattle.image_reader.specs.Calls.{start_of, completion_of, keys_of, blocks_by, turn_of}
use Rattle.image_writer_answer.specs.declared.WriteAnswer.{WriteAnswer}
use Rattle.image_writer_answer.specs.declared.WriteAnswer.TheVariants.{Written, WriteKey, WriteCount, WriteNumber, WriteLength, WriteEdition, WriteRoom}
use Rattle.image_writer_answer.specs.declared.Numbers.{Numbers}
use Rattle.image_reader.specs.declared.Reader.{Reader}
use Rattle.image_reader_tally.specs.declared.Stop.{Stop}
use Rattle.image_reader_tally.specs.declared.Stop.TheVariants.{End, Asked, Lent, Room, At}
use Rattle.image_reader.specs.declared.Turn.{Turn}
use Rattle.image_progress.specs.declared.Completion.TheVariants.{Complete, NotComplete}
use Rattle.promises.proofs.Image.Words.{Proper, SealedOn, Met, Row, Says, unchecked, AllMet, Blocks, payload, plains, parts, AllFilled, Fit, WriteSays, after_write, Wrote, blocks, image, in_state, reader_of, Waits, moved, FromStart, Sound, reading_of, given, Fair, StartSays, StopSays, CompletionSays, Whole, Lending, AllFair, offered, concat, lend_each, AllFew, reader_after, AllAccepted, handed_out, counted, and_then}
use Rattle.promises.proofs.Aes.Keys.{KeyTaken}
use Rattle.promises.proofs.Lemmas.ImageSealed.{sealed_size, sealed_bytes, sealed_checks, sealed_opened, sealed_head, sealed_fill}
use Rattle.promises.proofs.Lemmas.ImageJudge.{damaged_check, accepted_met, accepted_sealed, verdict_says, no_row_accepted, met_accepted, no_keys}
use Rattle.promises.proofs.Lemmas.ImageTurn.{stops_at, out_at, ran_append, ran_state, advance, accepted_le, end_all, ends_or_at, stop_place, ran_met, met_ends, first_fixes, none_accepted, no_keys_none, ran_out, ran_bytes, met_filled, parts_length}
use Rattle.promises.proofs.Lemmas.ImageSound.{sound_end}
use Rattle.promises.proofs.Lemmas.ImageWhole.{written_length, Passes, Left, left_fits, check_before, written_at, image_blocks, image_parts, image_passes}
use Rattle.image_spec.proofs.Editions.{tail_bytes}
use Rattle.promises.proofs.Lemmas.ImageBoth.{reserved_wide, mark_fits, no_mark, mark_fixed, thirteen, first_edition, passes_both}
use Rattle.promises.proofs.Lemmas.ImageCalls.{start_keys, output_rest, fresh_start, answer_says, told_turn, keys_under, start_fresh, start_refused, start_zeros, usable_lawful, fit_written, output_block, cut_length, given_blocks, fair_turn, by_turn, reading_length, reading_le, one_accepted}
use Rattle.promises.proofs.Lemmas.ImageRead.{blocks_split, size, head_is, opens, keys_are, accepts, refuses, never, other_build, turns_read, from_sound}

-- ---- one block, over any two lawful ciphers

-- what is sealed is 512 bytes, its header reads back, its check is right, and it opens to the payload and zero fill
pub sealed_opens : (ek ck : BlockCipher) → Lawful 16 ek → Lawful 16 ck → (h : Head) (p : List ℕ) → Wide h → length p ≡ h.len → length p ≤ 480 → Bytes p
    → (tail : List ℕ) → Bytes tail
    → Octets 512 (sealed ek (cmac ck) tail h p)
    × (head_of_lem (sealed ek (cmac ck) tail h p) ≡ h)
    × (checks (cmac ck) tail (sealed ek (cmac ck) tail h p) ≡ true)
    × (opened ek (sealed ek (cmac ck) tail h p) ≡ filled p)
    × (fill_zero ek (sealed ek (cmac ck) tail h p) ≡ true)
sealed_opens ek ck le lc h p w e lp bp tail bt = (
  record { size = sealed_size ek ck le lc h p lp bp tail bt; bytes = sealed_bytes ek ck le lc h p lp bp tail bt },
  sealed_head ek ck le lc h p lp bp tail bt w,
  sealed_checks ek ck le lc h p lp bp tail bt,
  sealed_opened ek ck le lc h p lp bp tail bt,
  sealed_fill ek ck le lc h p lp bp tail bt w e,
)

-- a block that is a sealed one outside one piece of 16 bytes, the check being piece 31, and is not that one, has a wrong check
pub damage_shows : (ek ck : BlockCipher) → Lawful 16 ek → Lawful 16 ck → (tail : List ℕ) (h : Head) (p : List ℕ) → Bytes tail → length p ≤ 480 → Bytes p
    → (i : ℕ) (d : List ℕ) → length d ≡ 512 → Bytes d → SameOutside i d (sealed ek (cmac ck) tail h p) → (d ≡ sealed ek (cmac ck) tail h p → ⊥) → checks (cmac ck) tail d ≡ false
damage_shows ek ck le lc tail h p bt lp bp i d ld bd o n = damaged_check ek ck le lc tail h p bt lp bp i d ld bd o n

-- ---- demand 2: refusals come where the table says, and only there

-- 13 in words: a value that is neither 0 nor 2, or, once an edition is fixed, one that does not select it
pub row_13_in_words : (s : Progress) (v : ℕ) → v < 65536 → (v ≡ mark_for s v → ⊥) → ((v ≡ 0 → ⊥) × (v ≡ 2 → ⊥)) ⊎ ((0 < s.next) × (selected v ≡ s.edition → ⊥))
row_13_in_words s v h n = thirteen s v n

pub words_of_row_13 : (s : Progress) (v : ℕ) → v < 65536 → ((v ≡ 0 → ⊥) × (v ≡ 2 → ⊥)) ⊎ ((0 < s.next) × (selected v ≡ s.edition → ⊥)) → v ≡ mark_for s v → ⊥
words_of_row_13 s v h (inl x) e = no_mark s v h x.0 x.1 e
words_of_row_13 s v h (inr x) e = x.1 (mark_fixed s v h x.0 e)

-- a block is accepted where it meets every test; a reason says which row of the table holds, that none asked before it does, and the value found
pub verdict_as_told : (k : Keys) (ed : Edition) (s : Progress) (b : List ℕ) → Says k ed s b (judge k ed s b)
verdict_as_told k ed s b = verdict_says k ed s b (judge k ed s b) refl

pub verdict_done : (k : Keys) (ed : Edition) (s : Progress) (b : List ℕ) → ((r : Reason) → Row k ed s b r → ⊥) → judge k ed s b ≡ Accepted
verdict_done k ed s b n = no_row_accepted k ed s b n

pub met_is_accepted : (k : Keys) (ed : Edition) (s : Progress) (b : List ℕ) → Met k ed s b → judge k ed s b ≡ Accepted
met_is_accepted k ed s b m = met_accepted k ed s b m

-- the writer writes where all holds that it asks; an answer says what does not, and that all asked before it does
pub write_answer_as_told : (ekey ckey : List ℕ) (n : Numbers) (payload out : List ℕ) → WriteSays ekey ckey n (length payload) (length out) (write_answer ekey ckey n payload out)
write_answer_as_told ekey ckey n payload out = answer_says ekey ckey n payload out

pub fit_is_written : (ekey ckey : List ℕ) (n : Numbers) (payload out : List ℕ) → Fit ekey ckey n (length payload) (length out) → write_answer ekey ckey n payload out ≡ Written
fit_is_written ekey ckey n payload out f = fit_written ekey ckey n payload out f

-- a start takes both keys, or is refused by 1
pub start_says : (ekey ckey : List ℕ) → StartSays ekey ckey (start_of ekey ckey).answer
start_says ekey ckey = go (start_of ekey ckey).answer refl
  where
    go : (x : KeyAnswer) → (start_of ekey ckey).answer ≡ x → StartSays ekey ckey x
    go Taken e = start_keys ekey ckey (ap key_number e)
    go KeyLength e = λ te tc. let z : ◌≡◌ {A = ℕ} 0 1 = sym (start_fresh ekey ckey te tc).0 ∙ ap key_number e in omega arith

pub start_takes : (ekey ckey : List ℕ) → KeyTaken ekey → KeyTaken ckey → key_number (start_of ekey ckey).answer ≡ 0
start_takes ekey ckey te tc = (start_fresh ekey ckey te tc).0

-- a refused start gives zeros: no words, no rounds, and no progress
pub refused_start_gives_zeros : (ekey ckey : List ℕ) → key_number (start_of ekey ckey).answer ≡ 1
    → (start_of ekey ckey).reader ≡ record {
      keys = record { enc = record { words = replicate 60 0; rounds = 0 }; chk = record { words = replicate 60 0; rounds = 0 } };
      progress = record { next = 0; count = 0; release = 0; edition = 0; last = replicate 16 0 };
    }
refused_start_gives_zeros ekey ckey h = start_zeros ekey ckey h

-- a turn is refused as a whole by 5, 6 or 4, the first that holds; else it stops at the first block that is refused, or at its end
pub turn_stop_as_told : (r : Reader) (lent : List ℕ) (asked : ℕ) (out : List ℕ) → StopSays r lent asked out (turn_of r lent asked out).0.stop
turn_stop_as_told r lent asked out =
    told_turn r lent asked out (λ (t : Turn × List ℕ). StopSays r lent asked out t.0.stop) (λ x. x) (λ x. x) (λ x. x)
    (λ f. ends_or_at (blocks_by r) s bs (StopSays r lent asked out R.stop) (λ q. subst (StopSays r lent asked out) (sym q) (ended f q)) (λ y q. subst (StopSays r lent asked out) (sym q) (stopped f y q)))
  where
    s : Progress
    s = r.progress

    bs : List (List ℕ)
    bs = given lent asked

    R : Reading
    R = reading_of r lent asked

    ended : Fair lent asked out → R.stop ≡ End → StopSays r lent asked out End
    ended f q =
        let n : R.accepted ≡ handled lent asked = end_all (blocks_by r) s bs q ∙ cut_length (handled lent asked) lent in
        (f, subst (λ (m : ℕ). AllMet (keys_of r) either s m bs) n (ran_met (keys_of r) either s bs))

    stopped : Fair lent asked out → (y : Reason) → R.stop ≡ At R.accepted y → StopSays r lent asked out (At R.accepted y)
    stopped f y q =
        let p = stop_place (blocks_by r) s bs R.accepted y q in (
          f,
          subst (λ (m : ℕ). R.accepted < m) (cut_length (handled lent asked) lent) p.1,
          ran_met (keys_of r) either s bs,
          subst (λ (t : Progress). Says (keys_of r) (either t (head_of_lem (get_or bs R.accepted [])).reserved) t (get_or bs R.accepted []) (Refused y)) (ran_state (blocks_by r) s bs)
              (verdict_says (keys_of r) (either R.progress (head_of_lem (get_or bs R.accepted [])).reserved) R.progress (get_or bs R.accepted []) (Refused y) p.2),
        )

pub turn_ends : (r : Reader) (lent : List ℕ) (asked : ℕ) (out : List ℕ) → Fair lent asked out
    → AllMet (keys_of r) either r.progress (handled lent asked) (given lent asked) → (turn_of r lent asked out).0.stop ≡ End
turn_ends r lent asked out f m =
    ap (λ (t : Turn × List ℕ). t.0.stop) (fair_turn r lent asked out f)
    ∙ met_ends (keys_of r) either r.progress (given lent asked)
    (subst (λ (n : ℕ). AllMet (keys_of r) either r.progress n (given lent asked)) (sym (cut_length (handled lent asked) lent)) m)

-- a reader is complete once a block has been accepted and the number expected is the count, or not complete
pub completion_as_told : (r : Reader) → CompletionSays r.progress (completion_of r)
unfolding completion_of done
completion_as_told r = go (ltb 0 n) (eqb n c) refl refl
  where
    n : ℕ
    n = r.progress.next

    c : ℕ
    c = r.progress.count

    go : (a b : Bool) → ltb 0 n ≡ a → eqb n c ≡ b → CompletionSays r.progress (cond (a && b) Complete NotComplete)
    go true true e f = (ltb-true 0 n e, eqb-true n c f)
    go true false e f = λ x y. eqb-false n c f y
    go false b e f = λ x y. let z = ltb-false 0 n e in omega arith

pub completed : (r : Reader) → 0 < r.progress.next → r.progress.next ≡ r.progress.count → completion_of r ≡ Complete
unfolding completion_of done
completed r f e = rw (lt-ltb 0 r.progress.next f, eq-eqb r.progress.next r.progress.count e)

-- ---- demand 2: what the writer leaves

-- it writes the sealed block into the first 512 bytes of the output, and nothing else
pub write-output : (ekey ckey : List ℕ) (n : Numbers) (previous payload out : List ℕ) → Bytes previous → Bytes payload → write_answer ekey ckey n payload out ≡ Written
    → (take 512 (after_write ekey ckey n previous payload out) ≡ block_of ekey ckey n previous payload)
    × (drop 512 (after_write ekey ckey n previous payload out) ≡ drop 512 out)
write-output ekey ckey n previous payload out bv bp w =
    rw w (output_block ekey ckey n previous payload out bv bp w, output_rest ekey ckey n previous payload out bv bp w)

-- the check before it is not asked for in edition 1, nor for number 0
pub previous_unused : (ekey ckey : List ℕ) (n : Numbers) (previous other payload : List ℕ) → (n.edition ≡ 1) ⊎ (n.number ≡ 0) → block_of ekey ckey n previous payload ≡ block_of ekey ckey n other payload
unfolding last_for tail_of
previous_unused ekey ckey n previous other payload (inl e) = rw e
previous_unused ekey ckey n previous other payload (inr e) = rw e

pub write_refusal_keeps : (ekey ckey : List ℕ) (n : Numbers) (previous payload out : List ℕ) → (write_number (write_answer ekey ckey n payload out) ≡ 0 → ⊥)
    → after_write ekey ckey n previous payload out ≡ out
write_refusal_keeps ekey ckey n previous payload out = go (write_answer ekey ckey n payload out)
  where
    go : (a : WriteAnswer) → (write_number a ≡ 0 → ⊥) → write_output a ekey ckey n previous payload out ≡ out
    go Written h = absurd (h refl)
    go WriteKey h = refl
    go WriteCount h = refl
    go WriteNumber h = refl
    go WriteLength h = refl
    go WriteEdition h = refl
    go WriteRoom h = refl

-- ---- demand 3: what is written is read back, in either edition

-- a reader under the same keys that waits for it accepts it, and finds the payload and zero fill in it
pub written_is_accepted : (ekey ckey : List ℕ) (n : Numbers) (previous payload b : List ℕ) → Wrote ekey ckey n previous payload b
    → (s : Progress) → Waits s n previous
    → ((of_both (keys_of (reader_of ekey ckey s))).verdict s b ≡ Accepted) × (opened (aes_of ekey) b ≡ filled payload)
written_is_accepted ekey ckey n previous payload b w s a =
    (accepts ekey ckey n previous payload b w s a, opens ekey ckey n previous payload b w)

-- so a turn over it moves that reader on by one, hands out the payload and zero fill, and leaves the rest of the output as it was
pub written_is_read : (ekey ckey : List ℕ) (n : Numbers) (previous payload b : List ℕ) → Wrote ekey ckey n previous payload b
    → (s : Progress) → Waits s n previous → (asked : ℕ) (out : List ℕ) → 0 < asked → asked ≤ 128 → 480 ≤ length out
    → turn_of (reader_of ekey ckey s) b asked out
    ≡ (record { reader = reader_of ekey ckey (advanced s (head_for (edition n.edition) n.number n.count n.release (length payload)) (drop 496 b)); accepted = 1; bytes = length payload; stop = End }, over (filled payload) out)
written_is_read ekey ckey n previous payload b w s a asked out la ha lo =
    one_accepted (reader_of ekey ckey s) b asked out (size ekey ckey n previous payload b w) la ha lo (accepts ekey ckey n previous payload b w s a)
    ∙ ap₂ (λ (h : Head) (x : List ℕ). (record { reader = reader_of ekey ckey (advanced s h (drop 496 b)); accepted = 1; bytes = h.len; stop = End }, over x out))
    (head_is ekey ckey n previous payload b w)
    (ap (λ (k : Keys). opened k.enc b) (keys_are ekey ckey n previous payload b w s) ∙ opens ekey ckey n previous payload b w)

-- ---- demand 3: what is damaged is refused, in either edition

-- a block that is refused by 16 or 14 where the reader stands after those before it ends its turn
refused_ends_a_turn : (r : Reader) (lent : List ℕ) (asked : ℕ) (out : List ℕ) → Bytes lent → Fair lent asked out → (p : ℕ) → p < handled lent asked
    → (blocks_by r).verdict (moved r.progress (take p (given lent asked))) (get_or (given lent asked) p []) ≡ unchecked (moved r.progress (take p (given lent asked)))
    → ((turn_of r lent asked out).0.accepted ≤ p)
    × ((turn_of r lent asked out).0.accepted ≡ p → (turn_of r lent asked out).0.stop ≡ At p (cond (closed (turn_of r lent asked out).0.reader.progress) AfterLast CheckWrong))
    × (drop (480 * p) (turn_of r lent asked out).1 ≡ drop (480 * p) out)
refused_ends_a_turn r lent asked out bl f p hp v =
    subst (λ (t : Turn × List ℕ). (t.0.accepted ≤ p) × (t.0.accepted ≡ p → t.0.stop ≡ At p (cond (closed t.0.reader.progress) AfterLast CheckWrong)) × (drop (480 * p) t.1 ≡ drop (480 * p) out))
    (sym (fair_turn r lent asked out f)) (e.0, λ q. (e.1 q).0 ∙ ap (λ (x : Progress). At p (cond (closed x) AfterLast CheckWrong)) (sym (e.1 q).1), rest)
  where
    t : Progress
    t = moved r.progress (take p (given lent asked))

    by : (u : Bool) → cond u (Refused AfterLast) (Refused CheckWrong) ≡ Refused (cond u AfterLast CheckWrong)
    by true = refl
    by false = refl

    e : ((reading_of r lent asked).accepted ≤ p) × ((reading_of r lent asked).accepted ≡ p → ((reading_of r lent asked).stop ≡ At p (cond (closed t) AfterLast CheckWrong)) × ((reading_of r lent asked).progress ≡ t))
    e = stops_at (blocks_by r) r.progress (given lent asked) p (cond (closed t) AfterLast CheckWrong) (subst (λ (m : ℕ). p < m) (sym (cut_length (handled lent asked) lent)) hp) (v ∙ by (closed t))

    rest : drop (480 * p) (over (reading_of r lent asked).out out) ≡ drop (480 * p) out
    rest =
        let R = reading_of r lent asked in
        let l : length R.out ≡ 480 * R.accepted = reading_length r lent asked out bl in
        let m : length R.out + (480 * p - length R.out) ≡ 480 * p = omega (arith, e.0) in
        let k = 480 * p - length R.out in
        ap (λ (x : ℕ). drop x (over R.out out)) (sym m) ∙ drop-append-add R.out (drop (length R.out) out) k ∙ drop-drop k (length R.out) out ∙ ap (λ (x : ℕ). drop x out) m

-- a block that is the written one outside one piece of 16 bytes, the check being piece 31, and is not the written one, offered to a reader
-- under the same keys whose last check is the one that it was sealed on, as far as its edition asks for it
module _ (ekey ckey : List ℕ) (n : Numbers) (previous payload b : List ℕ) (w : Wrote ekey ckey n previous payload b)
    (i : ℕ) (d : List ℕ) (o : Octets 512 d) (q : SameOutside i d b) (differs : d ≡ b → ⊥) where
  -- is refused by 16 where no block may follow, else by 14, where its bytes 14 and 15 still select the cover that it was sealed with,
  pub damaged_is_refused : (s t : Progress) → SealedOn n previous t.last → selected (head_of_lem d).reserved ≡ n.edition
      → (of_both (keys_of (reader_of ekey ckey s))).verdict t d ≡ cond (closed t) (Refused AfterLast) (Refused CheckWrong)
  damaged_is_refused s t on e = refuses ekey ckey n previous payload b w i d o q differs s t on e

  -- and never accepted where the reader has fixed the edition that it was sealed in
  pub damaged_never_accepted : (s t : Progress) → SealedOn n previous t.last → 0 < t.next → t.edition ≡ n.edition → (of_both (keys_of (reader_of ekey ckey s))).verdict t d ≡ Accepted → ⊥
  damaged_never_accepted s t on f e = never ekey ckey n previous payload b w i d o q differs s t on f e

  -- it ends a turn that has it at a place: the turn accepts no more than the blocks before it, and where it accepts those it stops there by
  -- 14, or by 16 where no block may follow them; nothing of it reaches the output
  pub damaged_ends_a_turn : (s : Progress) (lent : List ℕ) (asked : ℕ) (out : List ℕ) → Bytes lent → Fair lent asked out → (p : ℕ) → p < handled lent asked → get_or (given lent asked) p [] ≡ d
      → SealedOn n previous (moved s (take p (given lent asked))).last → selected (head_of_lem d).reserved ≡ n.edition
      → ((turn_of (reader_of ekey ckey s) lent asked out).0.accepted ≤ p)
      × ((turn_of (reader_of ekey ckey s) lent asked out).0.accepted ≡ p
      → (turn_of (reader_of ekey ckey s) lent asked out).0.stop ≡ At p (cond (closed (turn_of (reader_of ekey ckey s) lent asked out).0.reader.progress) AfterLast CheckWrong))
      × (drop (480 * p) (turn_of (reader_of ekey ckey s) lent asked out).1 ≡ drop (480 * p) out)
  damaged_ends_a_turn s lent asked out bl f p hp at on e =
      refused_ends_a_turn (reader_of ekey ckey s) lent asked out bl f p hp
      (ap ((of_both (keys_of (reader_of ekey ckey s))).verdict (moved s (take p (given lent asked)))) at ∙ damaged_is_refused s (moved s (take p (given lent asked))) on e)

-- damage to a value in bytes 14 and 15 that is neither 0 nor 2 is accepted in no state, and by no reader
pub other_value_never_accepted : (k : Keys) (s : Progress) (d : List ℕ) → Bytes d → ((head_of_lem d).reserved ≡ 0 → ⊥) → ((head_of_lem d).reserved ≡ 2 → ⊥) → (of_both k).verdict s d ≡ Accepted → ⊥
other_value_never_accepted k s d bd n0 n2 a =
    no_mark s (head_of_lem d).reserved (reserved_wide d bd) n0 n2 (accepted_met k (either s (head_of_lem d).reserved) s d a).head_right.marked

-- ---- edition 2: builds do not mix

-- a block that the writer sealed in edition 2 on one check is refused by every reader under the same keys whose last check is another: by 16
-- where no block may follow, else by 14. So are the blocks of another build, and blocks doubled, skipped or out of order
module _ (ekey ckey : List ℕ) (n : Numbers) (previous payload b : List ℕ) (w : Wrote ekey ckey n previous payload b) (two : n.edition ≡ 2) where
  pub builds_do_not_mix : (s t : Progress) → Octets 16 t.last → (t.last ≡ last_for n.number previous → ⊥)
      → (of_both (keys_of (reader_of ekey ckey s))).verdict t b ≡ cond (closed t) (Refused AfterLast) (Refused CheckWrong)
  builds_do_not_mix s t ot differs = other_build ekey ckey n previous payload b w two s t ot differs

  -- and it ends a turn that has it at a place where the check before is another
  pub other_build_ends_a_turn : (s : Progress) (lent : List ℕ) (asked : ℕ) (out : List ℕ) → Bytes lent → Fair lent asked out → (p : ℕ) → p < handled lent asked → get_or (given lent asked) p [] ≡ b
      → Octets 16 (moved s (take p (given lent asked))).last → ((moved s (take p (given lent asked))).last ≡ last_for n.number previous → ⊥)
      → ((turn_of (reader_of ekey ckey s) lent asked out).0.accepted ≤ p)
      × ((turn_of (reader_of ekey ckey s) lent asked out).0.accepted ≡ p
      → (turn_of (reader_of ekey ckey s) lent asked out).0.stop ≡ At p (cond (closed (turn_of (reader_of ekey ckey s) lent asked out).0.reader.progress) AfterLast CheckWrong))
      × (drop (480 * p) (turn_of (reader_of ekey ckey s) lent asked out).1 ≡ drop (480 * p) out)
  other_build_ends_a_turn s lent asked out bl f p hp at ot differs =
      refused_ends_a_turn (reader_of ekey ckey s) lent asked out bl f p hp
      (ap ((of_both (keys_of (reader_of ekey ckey s))).verdict (moved s (take p (given lent asked)))) at ∙ builds_do_not_mix s (moved s (take p (given lent asked))) ot differs)

-- ---- a reader from before edition 2

-- it is the reader of edition 1 alone, and accepts no block with 2 in bytes 14 and 15
pub old_reader_takes_no_edition_2 : (k : Keys) (s : Progress) (b : List ℕ) → (head_of_lem b).reserved ≡ 2 → (of_edition k one).verdict s b ≡ Accepted → ⊥
old_reader_takes_no_edition_2 k s b e a = let m = (accepted_met k one s b a).head_right.marked in omega (arith, e, m)

-- and whatever a reader accepts was sealed under its keys: it is what the writer makes of the header and payload found in it
pub accepted_is_sealed : (r : Reader) (ed : Edition) (s : Progress) (b : List ℕ) → Octets 512 b → judge (keys_of r) ed s b ≡ Accepted
    → b ≡ sealed (keys_of r).enc (keys_of r).mac (ed.tail s.last) (head_of_lem b) (payload (keys_of r).enc b)
accepted_is_sealed r ed s b o e =
    let m = accepted_met (keys_of r) ed s b e in
    accepted_sealed (keys_of r) (usable_lawful r m.usable_keys).0 ed s b o.size o.bytes m

-- ---- demand 3: a whole image

-- the numbers of block i of a payload's image in an edition
abbrev pub numbers_at : (edition : ℕ) (payload : List ℕ) (release i : ℕ) → Numbers
numbers_at edition payload release i = record { number = i; count = blocks payload; release = release; edition = edition }

-- the writer refuses none of them
pub block_written : (e : ℕ) → is_edition e ≡ true → (ekey ckey : List ℕ) (release : ℕ) (payload : List ℕ) → KeyTaken ekey → KeyTaken ckey → release < 4294967296 → length payload ≤ 31456800 → Bytes payload
    → (i : ℕ) → i < blocks payload → (out : List ℕ) → 512 ≤ length out → write_answer ekey ckey (numbers_at e payload release i) (piece 480 payload i) out ≡ Written
block_written e known ekey ckey release payload te tc hr lp bp i hi out lo =
    let N = blocks payload in
    let left : Left N i (drop (i * 480) payload) = record {
      most = omega (arith, length-drop (i * 480) payload);
      least = λ a o. omega (arith, length-drop (i * 480) payload);
    } in
    fit_written ekey ckey (numbers_at e payload release i) (piece 480 payload i) out
    (record { ekey_taken = te; ckey_taken = tc; count_low = omega arith; count_high = omega arith; below = hi; len_fits = left_fits N i (drop (i * 480) payload) hi left; known = known; roomy = lo })

-- the writer writes it, block after block: block i of the payload's i-th 480 bytes, on the check of the block before
pub image_is_written : (e : ℕ) → is_edition e ≡ true → (ekey ckey : List ℕ) (release : ℕ) (payload : List ℕ) → KeyTaken ekey → KeyTaken ckey → release < 4294967296 → length payload ≤ 31456800 → Bytes payload
    → (i : ℕ) → i < blocks payload → (previous : List ℕ) → Bytes previous → (0 < i → previous ≡ drop 496 (get_or (image (edition e) (aes_of ekey) (aes_of ckey) release payload) (i - 1) [])) → (out : List ℕ) → 512 ≤ length out
    → (write_answer ekey ckey (numbers_at e payload release i) (piece 480 payload i) out ≡ Written)
    × (take 512 (after_write ekey ckey (numbers_at e payload release i) previous (piece 480 payload i) out) ≡ get_or (image (edition e) (aes_of ekey) (aes_of ckey) release payload) i [])
unfolding last_for
image_is_written e known ekey ckey release payload te tc hr lp bp i hi previous bv before out lo =
    let q = piece 480 payload i in
    let a = block_written e known ekey ckey release payload te tc hr lp bp i hi out lo in (
      a,
      rw a (output_block ekey ckey (numbers_at e payload release i) previous q out bv (take_bytes 480 (drop (i * 480) payload) (drop_bytes (i * 480) payload bp)) a)
          ∙ ap₂ (λ (n : ℕ) (x : List ℕ). block_for (edition e) (aes_of ekey) (aes_of ckey) x n (blocks payload) release q) (sym (zero-add i)) (on i before)
          ∙ sym (written_at (edition e) (aes_of ekey) (aes_of ckey) (blocks payload) release (blocks payload) 0 no_check payload i hi),
    )
  where
    on : (i : ℕ) → (0 < i → previous ≡ drop 496 (get_or (image (edition e) (aes_of ekey) (aes_of ckey) release payload) (i - 1) []))
        → cond (eqb i 0) no_check previous ≡ check_before (edition e) (aes_of ekey) (aes_of ckey) (blocks payload) release no_check (image (edition e) (aes_of ekey) (aes_of ckey) release payload) i
    on zero f = refl
    on (suc i) f =
        let z : suc i - 1 ≡ i = omega arith in
        rw (ne_eqb (suc i) 0 (λ q. omega arith)) (f (omega arith) ∙ ap (λ (j : ℕ). drop 496 (get_or (image (edition e) (aes_of ekey) (aes_of ckey) release payload) j [])) z)

pub image_length : (ed : Edition) (ek ck : BlockCipher) (release : ℕ) (payload : List ℕ) → length (image ed ek ck release payload) ≡ blocks payload
image_length ed ek ck release payload = written_length ed ek ck (blocks payload) release (blocks payload) 0 no_check payload

pub edition_proper : (n : ℕ) → is_edition n ≡ true → Proper (edition n)
edition_proper n e = record { mark_wide = mark_fits n e; tail_bytes = λ x o. tail_bytes n x o.bytes }

-- read in any turns, whatever blocks each lends and however many it asks for, as long as those handled are the image, every block is
-- accepted, the reader is complete at the end, the payloads handed out join to the payload, and the lengths given add up to its length
pub image_is_read : (n : ℕ) → is_edition n ≡ true → (ekey ckey : List ℕ) (release : ℕ) (payload : List ℕ) → KeyTaken ekey → KeyTaken ckey → release < 4294967296 → length payload ≤ 31456800 → Bytes payload
    → (ls : List Lending) → AllFair ls → offered ls ≡ image (edition n) (aes_of ekey) (aes_of ckey) release payload
    → AllAccepted (start_of ekey ckey).reader ls
    × (completion_of (reader_after (start_of ekey ckey).reader ls) ≡ Complete)
    × (handed_out (start_of ekey ckey).reader ls ≡ payload)
    × (counted (start_of ekey ckey).reader ls ≡ length payload)
unfolding completion_of
image_is_read n known ekey ckey release payload te tc hr lp bp ls f e =
    let le = key_lawful ekey te in
    let lc = key_lawful ckey tc in
    let r = (start_of ekey ckey).reader in
    let s = start_fresh ekey ckey te tc in
    let pe = edition_proper n known in
    let w : Blocks (offered ls) = rw e (image_blocks (edition n) pe (aes_of ekey) (aes_of ckey) le lc release payload hr lp bp) in
    let q : Passes (keys_under ekey ckey) either fresh (offered ls) =
    passes_both (keys_under ekey ckey) n fresh (offered ls) w (λ l. absurd (omega arith))
    (rw e (image_passes (edition n) pe (aes_of ekey) (aes_of ckey) le lc release payload hr lp bp)) in
    let p : Passes (keys_under ekey ckey) either r.progress (offered ls) = rw s.2 q in
    let t = turns_read (keys_under ekey ckey) le r s.1 ls f w p in
    let whole : parts (aes_of ekey) (offered ls) ≡ payload = ap (parts (aes_of ekey)) e ∙ image_parts (edition n) pe (aes_of ekey) (aes_of ckey) le lc release payload hr lp bp in
    (t.0, rw t.1, t.2 ∙ whole, t.3 ∙ ap length whole)

-- blocks may be cut into turns at any place: a run over some and then a run over the rest are the run over all
pub cut_anywhere : (d : BlockReader) (s : Progress) (cs bs : List (List ℕ)) → (read_blocks d s cs).stop ≡ End → read_blocks d s (cs ++ bs) ≡ and_then (read_blocks d s cs) (read_blocks d (read_blocks d s cs).progress bs)
cut_anywhere d s cs bs e = ran_append d s cs bs e

-- blocks lent one after another are those that the turn handles, as far as it asks for them
pub given_joined : (bs : List (List ℕ)) (asked : ℕ) → Blocks bs → length bs ≤ asked
    → (length (joined bs) ≡ 512 * length bs) × (handled (joined bs) asked ≡ length bs) × (given (joined bs) asked ≡ bs)
unfolding cut
given_joined bs asked w h =
    let n : length (joined bs) ≡ 512 * length bs = whole_size bs w in
    let m : handled (joined bs) asked ≡ length bs = omega (arith, n) in
    (n, m, ap (λ (m : ℕ). cut m (joined bs)) m ∙ each bs w)
  where
    whole_size : (bs : List (List ℕ)) → Blocks bs → length (joined bs) ≡ 512 * length bs
    whole_size [] w = refl
    whole_size (b ∷ bs) w = length-append b (joined bs) ∙ omega (arith, w.0.size, whole_size bs w.1)

    each : (bs : List (List ℕ)) → Blocks bs → cut (length bs) (joined bs) ≡ bs
    each [] w = refl
    each (b ∷ bs) w = ap₂ (λ (x : List ℕ) (y : List (List ℕ)). x ∷ y) (take_at b (joined bs) 512 w.0.size) (ap (cut (length bs)) (drop_at b (joined bs) 512 w.0.size) ∙ each bs w.1)

-- so every cutting of blocks into turns of at most 128 is one that `image-is-read` speaks of
pub any_cutting : (out : List ℕ) → 61440 ≤ length out → (turns : List (List (List ℕ))) → AllFew turns → Blocks (concat turns)
    → AllFair (lend_each out turns) × (offered (lend_each out turns) ≡ concat turns)
any_cutting out lo [] f w = (tt, refl)
any_cutting out lo (bs ∷ turns) f w =
    let v = blocks_split bs (concat turns) w in
    let g = given_joined bs 128 v.0 f.0 in
    let ih = any_cutting out lo turns f.1 v.1 in (
      (record { some_asked = omega arith; few_asked = omega arith; blocks_lent = omega (arith, g.0); room = omega (arith, g.1, f.0) }, ih.0),
      ap₂ ◌++◌ g.2 ih.1,
    )

-- ---- demand 2: what a turn accepted

-- the blocks accepted are the advance of the number expected
pub turn_advance : (r : Reader) (lent : List ℕ) (asked : ℕ) (out : List ℕ)
    → (turn_of r lent asked out).0.reader.progress.next ≡ r.progress.next + (turn_of r lent asked out).0.accepted
turn_advance r lent asked out =
    by_turn r lent asked out (λ (t : Turn × List ℕ). t.0.reader.progress.next ≡ r.progress.next + t.0.accepted)
    (sym (add-zero r.progress.next)) (sym (add-zero r.progress.next)) (sym (add-zero r.progress.next))
    (λ f. advance (blocks_by r) r.progress (given lent asked))

-- where nothing is refused, they are the blocks handled: the smaller of those lent and the number asked for
pub turn_takes_all : (r : Reader) (lent : List ℕ) (asked : ℕ) (out : List ℕ)
    → stop_number (turn_of r lent asked out).0.stop ≡ 0 → (turn_of r lent asked out).0.accepted ≡ handled lent asked
turn_takes_all r lent asked out =
    by_turn r lent asked out (λ (t : Turn × List ℕ). stop_number t.0.stop ≡ 0 → t.0.accepted ≡ handled lent asked)
    (λ e. absurd (omega arith)) (λ e. absurd (omega arith)) (λ e. absurd (omega arith))
    (λ f e. end_all (blocks_by r) r.progress (given lent asked) (ended (reading_of r lent asked).stop e) ∙ cut_length (handled lent asked) lent)
  where
    some : (y : Reason) → reason_number y ≡ 0 → ⊥
    some (Count v) e = omega arith
    some (Number v) e = omega arith
    some (OtherCount v) e = omega arith
    some (OtherRelease v) e = omega arith
    some (Length v) e = omega arith
    some (Reserved v) e = omega arith
    some CheckWrong e = omega arith
    some FillNotZero e = omega arith
    some AfterLast e = omega arith

    ended : (x : Stop) → stop_number x ≡ 0 → x ≡ End
    ended End e = refl
    ended Asked e = absurd (omega arith)
    ended Lent e = absurd (omega arith)
    ended Room e = absurd (omega arith)
    ended (At p y) e = absurd (some y e)

-- every accepted block met every test, in the state after those before it
pub turn_met : (r : Reader) (lent : List ℕ) (asked : ℕ) (out : List ℕ)
    → AllMet (keys_of r) either r.progress (turn_of r lent asked out).0.accepted (given lent asked)
turn_met r lent asked out =
    by_turn r lent asked out (λ (t : Turn × List ℕ). AllMet (keys_of r) either r.progress t.0.accepted (given lent asked))
    tt tt tt (λ f. ran_met (keys_of r) either r.progress (given lent asked))

-- the state moves by the accepted blocks alone, and the keys stay: a refused block changes nothing, and may be offered again
pub turn_state : (r : Reader) (lent : List ℕ) (asked : ℕ) (out : List ℕ)
    → (turn_of r lent asked out).0.reader ≡ in_state r (moved r.progress (take (turn_of r lent asked out).0.accepted (given lent asked)))
turn_state r lent asked out =
    by_turn r lent asked out (λ (t : Turn × List ℕ). t.0.reader ≡ in_state r (moved r.progress (take t.0.accepted (given lent asked))))
    refl refl refl (λ f. ap (λ (x : Progress). in_state r x) (ran_state (blocks_by r) r.progress (given lent asked)))

-- a refusal names the place of its block, which is the number of blocks accepted, and gives that block's verdict
pub turn_place : (r : Reader) (lent : List ℕ) (asked : ℕ) (out : List ℕ) (place : ℕ) (reason : Reason) → (turn_of r lent asked out).0.stop ≡ At place reason
    → (place ≡ (turn_of r lent asked out).0.accepted)
    × ((blocks_by r).verdict (turn_of r lent asked out).0.reader.progress (get_or (given lent asked) place []) ≡ Refused reason)
unfolding judge
turn_place r lent asked out p y =
    by_turn r lent asked out
    (λ (t : Turn × List ℕ). t.0.stop ≡ At p y → (p ≡ t.0.accepted) × ((blocks_by r).verdict t.0.reader.progress (get_or (given lent asked) p []) ≡ Refused y))
    (λ e. let z : ◌≡◌ {A = ℕ} 0 1 = cc in absurd (omega arith)) (λ e. let z : ◌≡◌ {A = ℕ} 0 1 = cc in absurd (omega arith)) (λ e. let z : ◌≡◌ {A = ℕ} 0 1 = cc in absurd (omega arith))
    (λ f e. let q = stop_place (blocks_by r) r.progress (given lent asked) p y e in (q.0, q.2))

-- the first accepted block fixes count, release and edition, for all that follow
pub turn_fixes : (r : Reader) (lent : List ℕ) (asked : ℕ) (out : List ℕ) → Bytes lent → 0 < (turn_of r lent asked out).0.accepted
    → (0 < (turn_of r lent asked out).0.reader.progress.next)
    × ((turn_of r lent asked out).0.reader.progress.count ≡ (head_of_lem (get_or (given lent asked) 0 [])).count)
    × ((turn_of r lent asked out).0.reader.progress.release ≡ (head_of_lem (get_or (given lent asked) 0 [])).release)
    × ((turn_of r lent asked out).0.reader.progress.edition ≡ selected (head_of_lem (get_or (given lent asked) 0 [])).reserved)
turn_fixes r lent asked out bl =
    by_turn r lent asked out
    (λ (t : Turn × List ℕ). 0 < t.0.accepted → (0 < t.0.reader.progress.next)
    × (t.0.reader.progress.count ≡ (head_of_lem (get_or (given lent asked) 0 [])).count) × (t.0.reader.progress.release ≡ (head_of_lem (get_or (given lent asked) 0 [])).release)
    × (t.0.reader.progress.edition ≡ selected (head_of_lem (get_or (given lent asked) 0 [])).reserved))
    (λ e. absurd (omega arith)) (λ e. absurd (omega arith)) (λ e. absurd (omega arith))
    (λ f. go (given lent asked) (given_blocks lent asked bl))
  where
    go : (bs : List (List ℕ)) → Blocks bs → 0 < (read_blocks (blocks_by r) r.progress bs).accepted
        → (0 < (read_blocks (blocks_by r) r.progress bs).progress.next)
        × ((read_blocks (blocks_by r) r.progress bs).progress.count ≡ (head_of_lem (get_or bs 0 [])).count) × ((read_blocks (blocks_by r) r.progress bs).progress.release ≡ (head_of_lem (get_or bs 0 [])).release)
        × ((read_blocks (blocks_by r) r.progress bs).progress.edition ≡ selected (head_of_lem (get_or bs 0 [])).reserved)
    go [] w h = absurd (omega (arith, accepted_le (blocks_by r) r.progress []))
    go (b ∷ bs) w h =
        let x = first_fixes (keys_of r) either r.progress b bs h in
        (x.0, x.1, x.2, first_edition (keys_of r) r.progress b bs w h)

-- where no block is accepted, nothing is changed: a refused block fixes nothing, and leaves state and output as they were
pub turn_of_none : (r : Reader) (lent : List ℕ) (asked : ℕ) (out : List ℕ) → (turn_of r lent asked out).0.accepted ≡ 0
    → ((turn_of r lent asked out).0.reader ≡ r) × ((turn_of r lent asked out).0.bytes ≡ 0) × ((turn_of r lent asked out).1 ≡ out)
turn_of_none r lent asked out =
    by_turn r lent asked out (λ (t : Turn × List ℕ). t.0.accepted ≡ 0 → (t.0.reader ≡ r) × (t.0.bytes ≡ 0) × (t.1 ≡ out))
    (λ e. (refl, refl, refl)) (λ e. (refl, refl, refl)) (λ e. (refl, refl, refl))
    (λ f e.
    let n = none_accepted (blocks_by r) r.progress (given lent asked) e in
    (ap (λ (x : Progress). in_state r x) n.0, n.1, ap (λ (x : List ℕ). over x out) n.2))

-- a refusal of the whole turn gives the state it got, counts of 0, and the output as it was
pub turn_refusal_keeps : (r : Reader) (lent : List ℕ) (asked : ℕ) (out : List ℕ) (why : Stop) → Whole why → (turn_of r lent asked out).0.stop ≡ why
    → turn_of r lent asked out ≡ (record { reader = r; accepted = 0; bytes = 0; stop = why }, out)
turn_refusal_keeps r lent asked out why w =
    by_turn r lent asked out (λ (t : Turn × List ℕ). t.0.stop ≡ why → t ≡ (record { reader = r; accepted = 0; bytes = 0; stop = why }, out))
    (λ e. ap (λ (x : Stop). (record { reader = r; accepted = 0; bytes = 0; stop = x }, out)) e)
    (λ e. ap (λ (x : Stop). (record { reader = r; accepted = 0; bytes = 0; stop = x }, out)) e)
    (λ e. ap (λ (x : Stop). (record { reader = r; accepted = 0; bytes = 0; stop = x }, out)) e)
    (λ f e. absurd (ends_or_at (blocks_by r) r.progress (given lent asked) ⊥ (λ q. not_whole_end why w (sym e ∙ q)) (λ y q. not_whole_at why w (reading_of r lent asked).accepted y (sym e ∙ q))))
  where
    not_whole_end : (x : Stop) → Whole x → x ≡ End → ⊥
    not_whole_end End w e = w
    not_whole_end Asked w e = let z : ◌≡◌ {A = ℕ} 0 1 = cc in omega arith
    not_whole_end Lent w e = let z : ◌≡◌ {A = ℕ} 0 1 = cc in omega arith
    not_whole_end Room w e = let z : ◌≡◌ {A = ℕ} 0 1 = cc in omega arith
    not_whole_end (At p y) w e = w

    not_whole_at : (x : Stop) → Whole x → (p : ℕ) (y : Reason) → x ≡ At p y → ⊥
    not_whole_at End w p y e = w
    not_whole_at Asked w p y e = let z : ◌≡◌ {A = ℕ} 0 1 = cc in omega arith
    not_whole_at Lent w p y e = let z : ◌≡◌ {A = ℕ} 0 1 = cc in omega arith
    not_whole_at Room w p y e = let z : ◌≡◌ {A = ℕ} 0 1 = cc in omega arith
    not_whole_at (At q x) w p y e = w

-- ---- demand 2: what a turn handed out

-- accepted block j puts its 480 decrypted bytes at 480j
pub turn_puts : (r : Reader) (lent : List ℕ) (asked : ℕ) (out : List ℕ) → Bytes lent → (j : ℕ) → j < (turn_of r lent asked out).0.accepted
    → take 480 (drop (480 * j) (turn_of r lent asked out).1) ≡ opened (keys_of r).enc (get_or (given lent asked) j [])
turn_puts r lent asked out b j =
    by_turn r lent asked out (λ (t : Turn × List ℕ). j < t.0.accepted → take 480 (drop (480 * j) t.1) ≡ opened (keys_of r).enc (get_or (given lent asked) j []))
    (λ h. absurd (omega arith)) (λ h. absurd (omega arith)) (λ h. absurd (omega arith)) (λ f h. go h (keys_of r).usable refl)
  where
    go : j < (reading_of r lent asked).accepted → (u : Bool) → (keys_of r).usable ≡ u
        → take 480 (drop (480 * j) (over (reading_of r lent asked).out out)) ≡ opened (keys_of r).enc (get_or (given lent asked) j [])
    go h true e = out_at (keys_of r) either (usable_lawful r e).0 r.progress (given lent asked) (given_blocks lent asked b) (drop (length (reading_of r lent asked).out) out) j h
    go h false e = absurd (omega (arith, no_keys_none (keys_of r) either e r.progress (given lent asked)))

-- they are all that is written, and the rest of the output stays
pub turn_output : (r : Reader) (lent : List ℕ) (asked : ℕ) (out : List ℕ) → Bytes lent
    → (take (480 * (turn_of r lent asked out).0.accepted) (turn_of r lent asked out).1 ≡ plains (keys_of r).enc (take (turn_of r lent asked out).0.accepted (given lent asked)))
    × (drop (480 * (turn_of r lent asked out).0.accepted) (turn_of r lent asked out).1 ≡ drop (480 * (turn_of r lent asked out).0.accepted) out)
    × (length (turn_of r lent asked out).1 ≡ length out)
turn_output r lent asked out b =
    by_turn r lent asked out
    (λ (t : Turn × List ℕ). (take (480 * t.0.accepted) t.1 ≡ plains (keys_of r).enc (take t.0.accepted (given lent asked)))
    × (drop (480 * t.0.accepted) t.1 ≡ drop (480 * t.0.accepted) out) × (length t.1 ≡ length out))
    (refl, refl, refl) (refl, refl, refl) (refl, refl, refl)
    (λ f.
    let R = reading_of r lent asked in
    let n : length R.out ≡ 480 * R.accepted = reading_length r lent asked out b in
    let a : R.accepted ≤ handled lent asked = reading_le r lent asked out in (
      take_at R.out (drop (length R.out) out) (480 * R.accepted) n ∙ ran_out (keys_of r) either r.progress (given lent asked),
      drop_at R.out (drop (length R.out) out) (480 * R.accepted) n ∙ ap (λ (m : ℕ). drop m out) n,
      length-append R.out (drop (length R.out) out) ∙ omega (arith, length-drop (length R.out) out, n, a, f.room),
    ))

-- each is a payload as long as the header says, and zero fill; the bytes counted are the payloads'
pub turn_fills : (r : Reader) (lent : List ℕ) (asked : ℕ) (out : List ℕ) → Bytes lent
    → AllFilled (keys_of r).enc (take (turn_of r lent asked out).0.accepted (given lent asked))
    × ((turn_of r lent asked out).0.bytes ≡ length (parts (keys_of r).enc (take (turn_of r lent asked out).0.accepted (given lent asked))))
turn_fills r lent asked out b =
    by_turn r lent asked out
    (λ (t : Turn × List ℕ). AllFilled (keys_of r).enc (take t.0.accepted (given lent asked))
    × (t.0.bytes ≡ length (parts (keys_of r).enc (take t.0.accepted (given lent asked)))))
    (tt, refl) (tt, refl) (tt, refl)
    (λ f.
    let a = go (keys_of r).usable refl in
    (a, ran_bytes (blocks_by r) r.progress (given lent asked) ∙ sym (parts_length (keys_of r).enc (take (reading_of r lent asked).accepted (given lent asked)) a)))
  where
    go : (u : Bool) → (keys_of r).usable ≡ u → AllFilled (keys_of r).enc (take (reading_of r lent asked).accepted (given lent asked))
    go true e = met_filled (keys_of r) either (usable_lawful r e).0 r.progress (reading_of r lent asked).accepted (given lent asked) (given_blocks lent asked b) (ran_met (keys_of r) either r.progress (given lent asked))
    go false e = rw (no_keys_none (keys_of r) either e r.progress (given lent asked)) tt

-- ---- demand 2: a reader without usable keys accepts nothing

-- every block is refused by 14, or by 16 where none may follow
pub no_keys_refuses : (r : Reader) → (keys_of r).usable ≡ false → (ed : Edition) (s : Progress) (b : List ℕ) → judge (keys_of r) ed s b ≡ cond (closed s) (Refused AfterLast) (Refused CheckWrong)
no_keys_refuses r e ed s b = no_keys (keys_of r) ed s b e

pub no_keys_turn : (r : Reader) → (keys_of r).usable ≡ false → (lent : List ℕ) (asked : ℕ) (out : List ℕ)
    → ((turn_of r lent asked out).0.accepted ≡ 0) × ((turn_of r lent asked out).0.reader ≡ r) × ((turn_of r lent asked out).1 ≡ out)
no_keys_turn r e lent asked out =
    let a : (turn_of r lent asked out).0.accepted ≡ 0 =
    by_turn r lent asked out (λ (t : Turn × List ℕ). t.0.accepted ≡ 0) refl refl refl (λ f. no_keys_none (keys_of r) either e r.progress (given lent asked)) in
    let n = turn_of_none r lent asked out a in
    (a, n.0, n.2)

-- such is the state that a refused start gives: every block gets 14, and no turn changes anything
pub refused_start_refuses : (ekey ckey : List ℕ) → key_number (start_of ekey ckey).answer ≡ 1
    → (b : List ℕ) → (blocks_by (start_of ekey ckey).reader).verdict (start_of ekey ckey).reader.progress b ≡ Refused CheckWrong
unfolding closed
refused_start_refuses ekey ckey h b =
    let s = start_refused ekey ckey h in
    no_keys_refuses (start_of ekey ckey).reader s.0 (either (start_of ekey ckey).reader.progress (head_of_lem b).reserved) (start_of ekey ckey).reader.progress b ∙ ap unchecked s.1

pub refused_start_turn : (ekey ckey : List ℕ) → key_number (start_of ekey ckey).answer ≡ 1 → (lent : List ℕ) (asked : ℕ) (out : List ℕ)
    → ((turn_of (start_of ekey ckey).reader lent asked out).0.accepted ≡ 0)
    × ((turn_of (start_of ekey ckey).reader lent asked out).0.reader ≡ (start_of ekey ckey).reader)
    × ((turn_of (start_of ekey ckey).reader lent asked out).1 ≡ out)
refused_start_turn ekey ckey h = no_keys_turn (start_of ekey ckey).reader (start_refused ekey ckey h).0

-- ---- demand 2: completion

-- a start is not complete, and after an accepted block a reader is complete where that block is the last
pub start_is_open : (ekey ckey : List ℕ) → completion_of (start_of ekey ckey).reader ≡ NotComplete
unfolding completion_of done
start_is_open ekey ckey = ap (λ (s : Progress). cond (done s) Complete NotComplete) (fresh_start ekey ckey)

pub last_completes : (r : Reader) (b : List ℕ) → (blocks_by r).verdict r.progress b ≡ Accepted
    → completion_of (in_state r (taken r.progress b)) ≡ cond (eqb ((head_of_lem b).number + 1) (head_of_lem b).count) Complete NotComplete
unfolding completion_of done
last_completes r b e =
    rw (lt-ltb 0 (r.progress.next + 1) (omega arith))
    (ap (λ (n : ℕ). cond (eqb (n + 1) (head_of_lem b).count) Complete NotComplete) (sym (accepted_met (keys_of r) (either r.progress (head_of_lem b).reserved) r.progress b e).head_right.expected))

-- ---- the states that a start and turns make

-- once a block has been accepted, the number expected is never past the count
pub from_start_sound : (ekey ckey : List ℕ) (r : Reader) → FromStart ekey ckey r → Sound r.progress
from_start_sound ekey ckey r f = from_sound ekey ckey r f

-- so that a block gets 16 exactly where the image is complete
pub from_start_16_is_complete : (ekey ckey : List ℕ) (r : Reader) → FromStart ekey ckey r → closed r.progress ≡ done r.progress
from_start_16_is_complete ekey ckey r f = sound_end r.progress (from_sound ekey ckey r f)
