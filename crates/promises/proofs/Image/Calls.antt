-- Demand 1 for the calls of headers, blocks and images: each asks nothing of its caller, any two outcomes that its contract allows agree,
-- and a refused call leaves the output as it was. Then demands 2 and 3 for the calls themselves. Assumes nothing.
use mathlib.Core.Path.{◌≡◌, sym, ap, ap₂, subst, ◌∙◌}
use mathlib.Core.Bool.{false, ◌&&◌, cond}
use mathlib.Core.List.{List, []}
use Prim.Native.Nat.{ℕ, ◌*◌, ◌≤◌, ◌<◌}
use lib.Dec.{leb}
use lib.ListN.{length, get_or, take, drop, replicate}
use Rattle.octets.specs.Octets.{Bytes, Octets, over}
use Rattle.aes_schedule.specs.Schedule.{key_number}
use Rattle.cmac_spec.specs.Cmac.{SameOutside}
use Rattle.image_limits.specs.Marks.{selected}
use Rattle.image_reasons.specs.Reasons.{verdict_number}
use Rattle.image_progress.specs.Progress.{completion_number, closed}
use Rattle.image_progress.specs.declared.Progress.{Progress}
use Rattle.image_reasons.specs.declared.Reason.TheVariants.{AfterLast, CheckWrong}
use Rattle.image_reasons.specs.declared.Reason.{Reason}
use Rattle.image_layout.specs.Layout.{head_of_lem}
use Rattle.image_spec.specs.Edition.{Edition}
use Rattle.image_spec.specs.Sealed.{filled}
use Rattle.image_spec.specs.Judge.{Keys, either}
use Rattle.image_spec.specs.declared.KeyPair.{KeyPair}
use Rattle.image_spec.specs.KeyPair.{usable, rounds_of}
use Rattle.image_spec.specs.Sealed.{is_block}
use Rattle.image_spec.specs.Model.{lent_cipher, lent_mac_of, lent_of, opened_over, sealed_over}
use Rattle.image_spec.proofs.Sizes.{mac_sized}
use Rattle.image_spec.proofs.Judging.{checks_none, verdict_read, head_read}
use Rattle.image_spec.proofs.Opening.{fill_of_none}
use Rattle.image_writer_answer.specs.Answers.{write_number, last_for}
use Rattle.image_writer.specs.Calls.{write_output}
use Rattle.image_reader.specs.Calls.{keys_of, turn_after, turn_of}
use Rattle.image_reader_tally.specs.Tally.{stop_number}
use Rattle.image_reader_turn.specs.Turn.{handled}
use Rattle.image_reader_tally.specs.declared.BlocksRead.{BlocksRead}
use Rattle.image_writer_answer.specs.declared.WriteAnswer.{WriteAnswer}
use Rattle.image_reader.specs.declared.Reader.{Reader}
use Rattle.image_reader.specs.declared.ReadStarted.{ReadStarted}
use Rattle.image_reader_tally.specs.declared.Stop.TheVariants.{End, At}
use Rattle.image_reader.specs.declared.Turn.{Turn}
use Rattle.promises.proofs.Aes.Keys.{KeyTaken}
use Rattle.promises.proofs.Image.Words.{Row, Says, AllMet, Fit, WriteSays, StartSays, StopSays, CompletionSays, Fair, Wrote, SealedOn, Waits, moved, Whole, given, reader_of}
use Rattle.promises.proofs.Image.Statements.{verdict_as_told, verdict_done, write_answer_as_told, fit_is_written, start_says, start_takes, refused_start_gives_zeros, turn_stop_as_told, turn_ends, completion_as_told, completed, written_is_read, damaged_ends_a_turn, other_build_ends_a_turn, write_refusal_keeps, turn_refusal_keeps}
use Rattle.image_layout.proofs.head_of.Reads as head_of
use Rattle.image_layout.proofs.head_bytes.Reads as head_bytes
use Rattle.image_progress.proofs.complete.Reads as complete
use Rattle.image_progress.proofs.may_not_follow.Reads as may_not_follow
use Rattle.image_limits.proofs.count_fits.Reads as count_fits
use Rattle.image_limits.proofs.length_fits.Reads as length_fits
use Rattle.image_limits.proofs.is_edition.Reads as is_edition
use Rattle.image_limits.proofs.edition_selected.Reads as edition_selected
use Rattle.image_limits.proofs.mark_of.Reads as mark_of
use Rattle.image_limits.proofs.tail_size.Reads as tail_size
use Rattle.image_progress.proofs.mark_asked_for.Reads as mark_asked_for
use Rattle.image_rules.proofs.judge_head.Reads as judge_head
use Rattle.image_block_check.proofs.check_of.Reads as check_of
use Rattle.image_block_check.proofs.check_holds.Reads as check_holds
use Rattle.image_block_fill.proofs.fill_is_zero.Reads as fill_is_zero
use Rattle.image_block_judge.proofs.judge.Reads as judge
use Rattle.image_block_open.proofs.open_block.Reads as open_block
use Rattle.image_block_seal.proofs.seal.Reads as seal
use Rattle.image_reader_tally.proofs.BlocksRead.none.Reads as none_read
use Rattle.image_progress.proofs.Progress.start.Reads as progress_start
use Rattle.image_spec.proofs.KeyPair.none.Reads as no-keys
use Rattle.image_spec.proofs.KeyPair.expand.Reads as pair_expand
use Rattle.image_spec.proofs.KeyPair.is_usable.Reads as pair_usable
use Rattle.image_reader_tally.proofs.may_ask.Reads as may_ask
use Rattle.image_reader_tally.proofs.after_block.Reads as after_block
use Rattle.image_reader.proofs.read_start.Reads as read_start
use Rattle.image_reader.proofs.read_complete.Reads as read_complete
use Rattle.image_writer.proofs.write.Reads as write
use Rattle.image_writer_answer.proofs.judge_write.Reads as judge_write
use Rattle.image_writer_answer.proofs.last_for.Reads as last-for
use Rattle.image_reader.proofs.read_turn.Reads as read_turn
use Rattle.image_reader_turn.proofs.turn.Reads as turn
use Rattle.image_writer_answer.proofs.WriteAnswer.number.Reads as write-number
use Rattle.image_reader_tally.proofs.Stop.number.Reads as stop-number
use Rattle.image_progress.proofs.Completion.number.Reads as completion-number
use Rattle.image_reasons.proofs.Reason.number.Reads as reason_number
use Rattle.image_reasons.proofs.Reason.value.Reads as reason_value

pub head_of_asks_nothing : (κs : _) (a : _) → head_of.Asked κs a
head_of_asks_nothing κs a = tt

pub head_of_determined : (κs : _) (a : _) (r r' : _) (s s' : _) → head_of.Post κs a r s → head_of.Post κs a r' s' → r ≡ r'
head_of_determined κs a r r' s s' p q = p ∙ sym q

pub head_bytes_asks_nothing : (κs : _) (a : _) → head_bytes.Asked κs a
head_bytes_asks_nothing κs a = tt

pub head_bytes_determined : (κs : _) (a : _) (r r' : _) (s s' : _) → head_bytes.Post κs a r s → head_bytes.Post κs a r' s' → r ≡ r'
head_bytes_determined κs a r r' s s' p q = p ∙ sym q

pub complete_asks_nothing : (κs : _) (a : _) → complete.Asked κs a
complete_asks_nothing κs a = tt

pub complete_determined : (κs : _) (a : _) (r r' : _) (s s' : _) → complete.Post κs a r s → complete.Post κs a r' s' → r ≡ r'
complete_determined κs a r r' s s' p q = p ∙ sym q

pub may_not_follow_asks_nothing : (κs : _) (a : _) → may_not_follow.Asked κs a
may_not_follow_asks_nothing κs a = tt

pub may_not_follow_determined : (κs : _) (a : _) (r r' : _) (s s' : _) → may_not_follow.Post κs a r s → may_not_follow.Post κs a r' s' → r ≡ r'
may_not_follow_determined κs a r r' s s' p q = p ∙ sym q

pub count_fits_asks_nothing : (κs : _) (a : _) → count_fits.Asked κs a
count_fits_asks_nothing κs a = tt

pub count_fits_determined : (κs : _) (a : _) (r r' : _) (s s' : _) → count_fits.Post κs a r s → count_fits.Post κs a r' s' → r ≡ r'
count_fits_determined κs a r r' s s' p q = p ∙ sym q

pub length_fits_asks_nothing : (κs : _) (a : _) → length_fits.Asked κs a
length_fits_asks_nothing κs a = tt

pub length_fits_determined : (κs : _) (a : _) (r r' : _) (s s' : _) → length_fits.Post κs a r s → length_fits.Post κs a r' s' → r ≡ r'
length_fits_determined κs a r r' s s' p q = p ∙ sym q

pub is_edition_asks_nothing : (κs : _) (a : _) → is_edition.Asked κs a
is_edition_asks_nothing κs a = tt

pub is_edition_determined : (κs : _) (a : _) (r r' : _) (s s' : _) → is_edition.Post κs a r s → is_edition.Post κs a r' s' → r ≡ r'
is_edition_determined κs a r r' s s' p q = p ∙ sym q

pub edition_selected_asks_nothing : (κs : _) (a : _) → edition_selected.Asked κs a
edition_selected_asks_nothing κs a = tt

pub edition_selected_determined : (κs : _) (a : _) (r r' : _) (s s' : _) → edition_selected.Post κs a r s → edition_selected.Post κs a r' s' → r ≡ r'
edition_selected_determined κs a r r' s s' p q = p ∙ sym q

pub mark_of_asks_nothing : (κs : _) (a : _) → mark_of.Asked κs a
mark_of_asks_nothing κs a = tt

pub mark_of_determined : (κs : _) (a : _) (r r' : _) (s s' : _) → mark_of.Post κs a r s → mark_of.Post κs a r' s' → r ≡ r'
mark_of_determined κs a r r' s s' p q = p ∙ sym q

pub tail_size_asks_nothing : (κs : _) (a : _) → tail_size.Asked κs a
tail_size_asks_nothing κs a = tt

pub tail_size_determined : (κs : _) (a : _) (r r' : _) (s s' : _) → tail_size.Post κs a r s → tail_size.Post κs a r' s' → r ≡ r'
tail_size_determined κs a r r' s s' p q = p ∙ sym q

pub mark_asked_for_asks_nothing : (κs : _) (a : _) → mark_asked_for.Asked κs a
mark_asked_for_asks_nothing κs a = tt

pub mark_asked_for_determined : (κs : _) (a : _) (r r' : _) (s s' : _) → mark_asked_for.Post κs a r s → mark_asked_for.Post κs a r' s' → r ≡ r'
mark_asked_for_determined κs a r r' s s' p q = p ∙ sym q

pub judge_head_asks_nothing : (κs : _) (a : _) → judge_head.Asked κs a
judge_head_asks_nothing κs a = tt

pub judge_head_determined : (κs : _) (a : _) (r r' : _) (s s' : _) → judge_head.Post κs a r s → judge_head.Post κs a r' s' → r ≡ r'
judge_head_determined κs a r r' s s' p q = p ∙ sym q

-- ---- demand 1 for one block

pub check_of_asks_nothing : (κs : _) (a : _) → check_of.Asked κs a
check_of_asks_nothing κs a = tt

pub check_of_determined : (κs : _) (a : _) (r r' : _) (s s' : _) → check_of.Post κs a r s → check_of.Post κs a r' s' → r ≡ r'
check_of_determined κs a r r' s s' p q = p ∙ sym q

pub check_holds_asks_nothing : (κs : _) (a : _) → check_holds.Asked κs a
check_holds_asks_nothing κs a = tt

pub check_holds_determined : (κs : _) (a : _) (r r' : _) (s s' : _) → check_holds.Post κs a r s → check_holds.Post κs a r' s' → r ≡ r'
check_holds_determined κs a r r' s s' p q = p ∙ sym q

pub fill_is_zero_asks_nothing : (κs : _) (a : _) → fill_is_zero.Asked κs a
fill_is_zero_asks_nothing κs a = tt

pub fill_is_zero_determined : (κs : _) (a : _) (r r' : _) (s s' : _) → fill_is_zero.Post κs a r s → fill_is_zero.Post κs a r' s' → r ≡ r'
fill_is_zero_determined κs a r r' s s' p q = p ∙ sym q

pub judge_asks_nothing : (κs : _) (a : _) → judge.Asked κs a
judge_asks_nothing κs a = tt

pub judge_determined : (κs : _) (a : _) (r r' : _) (s s' : _) → judge.Post κs a r s → judge.Post κs a r' s' → r ≡ r'
judge_determined κs a r r' s s' p q = p ∙ sym q

pub open_block_asks_nothing : (κs : _) (a : _) → open_block.Asked κs a
open_block_asks_nothing κs a = tt

pub open_block_determined : (κs : _) (a : _) (r r' : _) (s s' : _) → open_block.Post κs a r s → open_block.Post κs a r' s'
    → s.1.1.1.0.now ≡ s'.1.1.1.0.now
open_block_determined κs a r r' s s' p q = p ∙ sym q

-- where there is no block of 512 bytes, or no room for 480, nothing is written
pub open_block_refused_keeps : (κs : _) (a : _) (r : _) (s : _) → open_block.Post κs a r s
    → (is_block a.1.1.0.now && leb 480 (length a.1.1.1.0.now)) ≡ false → s.1.1.1.0.now ≡ a.1.1.1.0.now
unfolding opened_over
open_block_refused_keeps κs a r s p e = p ∙ rw e

pub seal_asks_nothing : (κs : _) (a : _) → seal.Asked κs a
seal_asks_nothing κs a = tt

pub seal_determined : (κs : _) (a : _) (r r' : _) (s s' : _) → seal.Post κs a r s → seal.Post κs a r' s'
    → s.1.1.1.1.1.0.now ≡ s'.1.1.1.1.1.0.now
seal_determined κs a r r' s s' p q = p ∙ sym q

-- where the payload is over 480 bytes, or there is no room for 512, nothing is written
pub seal_refused_keeps : (κs : _) (a : _) (r : _) (s : _) → seal.Post κs a r s
    → (leb (length a.1.1.1.1.0.now) 480 && leb 512 (length a.1.1.1.1.1.0.now)) ≡ false → s.1.1.1.1.1.0.now ≡ a.1.1.1.1.1.0.now
unfolding sealed_over
seal_refused_keeps κs a r s p e = p ∙ rw e

-- what is no block of 512 bytes has no right check and no zero fill
pub check_holds_of_blocks_alone : (κs : _) (a : _) (r : _) (s : _) → check_holds.Post κs a r s → (length a.1.1.1.0.now ≡ 512 → ⊥) → r ≡ false
check_holds_of_blocks_alone κs a r s p n =
    p ∙ sym (checks_none (lent_mac_of a.0.now.chk a.1.0.now) a.1.1.0.now a.1.1.1.0.now (mac_sized a.0.now.chk.words a.0.now.chk.rounds a.1.0.now.key1 a.1.0.now.key2) n (usable (rounds_of a.0.now)))

pub fill_is_zero_of_blocks_alone : (κs : _) (a : _) (r : _) (s : _) → fill_is_zero.Post κs a r s → (length a.1.1.0.now ≡ 512 → ⊥) → r ≡ false
fill_is_zero_of_blocks_alone κs a r s p n =
    p ∙ sym (fill_of_none (lent_cipher a.0.now a.1.0.now) a.1.1.1.0 a.1.1.0.now n)

-- ---- demand 2 for one block: the verdict is the first row of the table that holds, and the header is the block's

module _ (κs : _) (a : _) (r : _) (s : _) (p : judge.Post κs a r s) where
  abbrev lent : Keys
  lent = lent_of a.0.now a.1.0.now a.1.1.0.now

  -- the edition that it is held to
  abbrev held_to : Edition
  held_to = either a.1.1.1.0 (head_of_lem a.1.1.1.1.0.now).reserved

  pub judge_as_told : Says lent held_to a.1.1.1.0 a.1.1.1.1.0.now r.verdict
  judge_as_told =
      subst (Says lent held_to a.1.1.1.0 a.1.1.1.1.0.now)
      (sym (verdict_read lent a.1.1.1.0 a.1.1.1.1.0.now r p)) (verdict_as_told lent held_to a.1.1.1.0 a.1.1.1.1.0.now)

  pub judge_done : ((q : Reason) → Row lent held_to a.1.1.1.0 a.1.1.1.1.0.now q → ⊥) → verdict_number r.verdict ≡ 0
  judge_done n =
      ap verdict_number (verdict_read lent a.1.1.1.0 a.1.1.1.1.0.now r p ∙ verdict_done lent held_to a.1.1.1.0 a.1.1.1.1.0.now n)

  pub judge_reads_the_header : length a.1.1.1.1.0.now ≡ 512 → r.head ≡ head_of_lem a.1.1.1.1.0.now
  judge_reads_the_header e = head_read lent a.1.1.1.0 a.1.1.1.1.0.now r p e

-- ---- demand 1 for what a turn has done

pub judge_write_asks_nothing : (κs : _) (a : _) → judge_write.Asked κs a
judge_write_asks_nothing κs a = tt

pub judge_write_determined : (κs : _) (a : _) (r r' : _) (s s' : _) → judge_write.Post κs a r s → judge_write.Post κs a r' s' → r ≡ r'
judge_write_determined κs a r r' s s' p q = p ∙ sym q

pub last_for_asks_nothing : (κs : _) (a : _) → last-for.Asked κs a
last_for_asks_nothing κs a = tt

pub last_for_determined : (κs : _) (a : _) (r r' : _) (s s' : _) → last-for.Post κs a r s → last-for.Post κs a r' s' → r ≡ r'
last_for_determined κs a r r' s s' p q = p ∙ sym q

pub none_read_asks_nothing : (κs : _) (a : _) → none_read.Asked κs a
none_read_asks_nothing κs a = tt

pub none_read_determined : (κs : _) (a : _) (r r' : _) (s s' : _) → none_read.Post κs a r s → none_read.Post κs a r' s' → r ≡ r'
none_read_determined κs a r r' s s' p q = p ∙ sym q

pub progress_start_asks_nothing : (κs : _) (a : _) → progress_start.Asked κs a
progress_start_asks_nothing κs a = tt

pub progress_start_determined : (κs : _) (a : _) (r r' : _) (s s' : _) → progress_start.Post κs a r s → progress_start.Post κs a r' s' → r ≡ r'
progress_start_determined κs a r r' s s' p q = p ∙ sym q

pub no_keys_asks_nothing : (κs : _) (a : _) → no-keys.Asked κs a
no_keys_asks_nothing κs a = tt

pub no_keys_determined : (κs : _) (a : _) (r r' : _) (s s' : _) → no-keys.Post κs a r s → no-keys.Post κs a r' s' → r ≡ r'
no_keys_determined κs a r r' s s' p q = p ∙ sym q

pub pair_expand_asks_nothing : (κs : _) (a : _) → pair_expand.Asked κs a
pair_expand_asks_nothing κs a = tt

-- exception: image_spec::KeyPair::expand: it writes both schedules, that of no key for a key that is refused, and what was there plays no part
pub pair_expand_determined : (κs : _) (a : _) (r r' : _) (s s' : _) → pair_expand.Post κs a r s → pair_expand.Post κs a r' s' → (r ≡ r') × (s.0.now ≡ s'.0.now)
pair_expand_determined κs a r r' s s' p q = (p.0 ∙ sym q.0, p.1 ∙ sym q.1)

pub pair_usable_asks_nothing : (κs : _) (a : _) → pair_usable.Asked κs a
pair_usable_asks_nothing κs a = tt

pub pair_usable_determined : (κs : _) (a : _) (r r' : _) (s s' : _) → pair_usable.Post κs a r s → pair_usable.Post κs a r' s' → r ≡ r'
pair_usable_determined κs a r r' s s' p q = p ∙ sym q

pub may_ask_asks_nothing : (κs : _) (a : _) → may_ask.Asked κs a
may_ask_asks_nothing κs a = tt

pub may_ask_determined : (κs : _) (a : _) (r r' : _) (s s' : _) → may_ask.Post κs a r s → may_ask.Post κs a r' s' → r ≡ r'
may_ask_determined κs a r r' s s' p q = p ∙ sym q

pub after_block_asks_nothing : (κs : _) (a : _) → after_block.Asked κs a
after_block_asks_nothing κs a = tt

pub after_block_determined : (κs : _) (a : _) (r r' : _) (s s' : _) → after_block.Post κs a r s → after_block.Post κs a r' s' → r ≡ r'
after_block_determined κs a r r' s s' p q = p ∙ sym q

-- ---- demand 1 for images

pub read_start_asks_nothing : (κs : _) (a : _) → read_start.Asked κs a
read_start_asks_nothing κs a = tt

pub read_start_determined : (κs : _) (a : _) (r r' : _) (s s' : _) → read_start.Post κs a r s → read_start.Post κs a r' s' → r ≡ r'
read_start_determined κs a r r' s s' p q = p ∙ sym q

pub read_complete_asks_nothing : (κs : _) (a : _) → read_complete.Asked κs a
read_complete_asks_nothing κs a = tt

pub read_complete_determined : (κs : _) (a : _) (r r' : _) (s s' : _) → read_complete.Post κs a r s → read_complete.Post κs a r' s' → r ≡ r'
read_complete_determined κs a r r' s s' p q = p ∙ sym q

pub write_asks_nothing : (κs : _) (a : _) → write.Asked κs a
write_asks_nothing κs a = tt

pub write_determined : (κs : _) (a : _) (r r' : _) (s s' : _) → write.Post κs a r s → write.Post κs a r' s'
    → (r ≡ r') × (s.1.1.1.1.1.0.now ≡ s'.1.1.1.1.1.0.now)
write_determined κs a r r' s s' p q =
    let e : r ≡ r' = p.0 ∙ sym q.0 in
    (e, p.1 ∙ rw e (sym q.1))

pub write_refused_keeps : (κs : _) (a : _) (r : _) (s : _) → write.Post κs a r s → (write_number r ≡ 0 → ⊥)
    → s.1.1.1.1.1.0.now ≡ a.1.1.1.1.1.0.now
write_refused_keeps κs a r s p h =
    let ekey = a.0.now in
    let ckey = a.1.0.now in
    let payload = a.1.1.1.1.0.now in
    let out = a.1.1.1.1.1.0.now in
    p.1 ∙ ap (λ (x : WriteAnswer). write_output x ekey ckey a.1.1.0 a.1.1.1.0 payload out) p.0
    ∙ write_refusal_keeps ekey ckey a.1.1.0 a.1.1.1.0 payload out (λ e. h (ap write_number p.0 ∙ e))

pub read_turn_asks_nothing : (κs : _) (a : _) → read_turn.Asked κs a
read_turn_asks_nothing κs a = tt

pub read_turn_determined : (κs : _) (a : _) (r r' : _) (s s' : _) → read_turn.Post κs a r s → read_turn.Post κs a r' s'
    → (r ≡ r') × (s.1.1.1.0.now ≡ s'.1.1.1.0.now)
read_turn_determined κs a r r' s s' p q =
    let e = p ∙ sym q in
    (ap (λ (x : Turn × List ℕ). x.0) e, ap (λ (x : Turn × List ℕ). x.1) e)

-- a turn that is refused as a whole, by 5, 6 or 4, leaves the output and the reader as they were
pub read_turn_refused_keeps : (κs : _) (a : _) (r : _) (s : _) → read_turn.Post κs a r s → Whole r.stop
    → (s.1.1.1.0.now ≡ a.1.1.1.0.now) × (r.reader ≡ a.0)
read_turn_refused_keeps κs a r s p h =
    let e : r.stop ≡ (turn_of a.0 a.1.0.now a.1.1.0 a.1.1.1.0.now).0.stop = ap (λ (x : Turn × List ℕ). x.0.stop) p in
    let k = p ∙ turn_refusal_keeps a.0 a.1.0.now a.1.1.0 a.1.1.1.0.now r.stop h (sym e) in
    (ap (λ (x : Turn × List ℕ). x.1) k, ap (λ (x : Turn × List ℕ). x.0.reader) k)

-- the same of a turn under schedules that are lent
pub turn_asks_nothing : (κs : _) (a : _) → turn.Asked κs a
turn_asks_nothing κs a = tt

pub turn_determined : (κs : _) (a : _) (r r' : _) (s s' : _) → turn.Post κs a r s → turn.Post κs a r' s'
    → (r ≡ r') × (s.1.1.1.1.0.now ≡ s'.1.1.1.1.0.now)
turn_determined κs a r r' s s' p q =
    let e = p ∙ sym q in
    (ap (λ (x : BlocksRead × List ℕ). x.0) e, ap (λ (x : BlocksRead × List ℕ). x.1) e)

-- the reader that has these schedules and this progress
abbrev holding : KeyPair → Progress → Reader
holding keys s = record { keys = keys; progress = s }

module _ (κs : _) (a : _) (r : _) (s : _) (p : turn.Post κs a r s) where
  abbrev held : Reader
  held = holding a.0.now a.1.0

  abbrev turn_lent : List ℕ
  turn_lent = a.1.1.0.now

  abbrev asked : ℕ
  asked = a.1.1.1.0

  abbrev before : List ℕ
  before = a.1.1.1.1.0.now

  -- it is the turn of that reader
  pub turn_is_the_readers : (turn_after held r, s.1.1.1.1.0.now) ≡ turn_of held turn_lent asked before
  unfolding turn_of
  turn_is_the_readers = ap (λ (x : BlocksRead × List ℕ). (turn_after held x.0, x.1)) p

  pub turn_refused_keeps : Whole r.stop → (s.1.1.1.1.0.now ≡ before) × (r.progress ≡ a.1.0)
  turn_refused_keeps h =
      let e : r.stop ≡ (turn_of held turn_lent asked before).0.stop = ap (λ (x : Turn × List ℕ). x.0.stop) turn_is_the_readers in
      let k = turn_is_the_readers ∙ turn_refusal_keeps held turn_lent asked before r.stop h (sym e) in
      (ap (λ (x : Turn × List ℕ). x.1) k, ap (λ (x : Turn × List ℕ). x.0.reader.progress) k)

  pub turn_as_told : StopSays held turn_lent asked before r.stop
  turn_as_told = subst (StopSays held turn_lent asked before) (sym (ap (λ (x : Turn × List ℕ). x.0.stop) turn_is_the_readers)) (turn_stop_as_told held turn_lent asked before)

  pub turn_done : Fair turn_lent asked before → AllMet (keys_of held) either a.1.0 (handled turn_lent asked) (given turn_lent asked) → stop_number r.stop ≡ 0
  turn_done f m = ap (λ (x : Turn × List ℕ). stop_number x.0.stop) turn_is_the_readers ∙ ap stop_number (turn_ends held turn_lent asked before f m)

-- ---- demand 2: each answer is the first row of the table that holds, and where none does the call is done

pub write_as_told : (κs : _) (a : _) (r : _) (s : _) → write.Post κs a r s
    → WriteSays a.0.now a.1.0.now a.1.1.0 (length a.1.1.1.1.0.now) (length a.1.1.1.1.1.0.now) r
write_as_told κs a r s p =
    let payload = a.1.1.1.1.0.now in
    let out = a.1.1.1.1.1.0.now in
    subst (WriteSays a.0.now a.1.0.now a.1.1.0 (length payload) (length out)) (sym p.0) (write_answer_as_told a.0.now a.1.0.now a.1.1.0 payload out)

pub write_done : (κs : _) (a : _) (r : _) (s : _) → write.Post κs a r s
    → Fit a.0.now a.1.0.now a.1.1.0 (length a.1.1.1.1.0.now) (length a.1.1.1.1.1.0.now) → write_number r ≡ 0
write_done κs a r s p f = ap write_number (p.0 ∙ fit_is_written a.0.now a.1.0.now a.1.1.0 a.1.1.1.1.0.now a.1.1.1.1.1.0.now f)

pub read_start_as_told : (κs : _) (a : _) (r : _) (s : _) → read_start.Post κs a r s → StartSays a.0.now a.1.0.now r.answer
read_start_as_told κs a r s p = subst (StartSays a.0.now a.1.0.now) (sym (ap (λ (x : ReadStarted). x.answer) p)) (start_says a.0.now a.1.0.now)

pub read_start_done : (κs : _) (a : _) (r : _) (s : _) → read_start.Post κs a r s → KeyTaken a.0.now → KeyTaken a.1.0.now → key_number r.answer ≡ 0
read_start_done κs a r s p te tc = ap (λ (x : ReadStarted). key_number x.answer) p ∙ start_takes a.0.now a.1.0.now te tc

-- a start with a key that is not taken gives zeros
pub read_start_refused_zeros : (κs : _) (a : _) (r : _) (s : _) → read_start.Post κs a r s → key_number r.answer ≡ 1
    → r.reader ≡ record {
      keys = record { enc = record { words = replicate 60 0; rounds = 0 }; chk = record { words = replicate 60 0; rounds = 0 } };
      progress = record { next = 0; count = 0; release = 0; edition = 0; last = replicate 16 0 };
    }
read_start_refused_zeros κs a r s p e =
    ap (λ (x : ReadStarted). x.reader) p ∙ refused_start_gives_zeros a.0.now a.1.0.now (ap (λ (x : ReadStarted). key_number x.answer) (sym p) ∙ e)

pub read_turn_as_told : (κs : _) (a : _) (r : _) (s : _) → read_turn.Post κs a r s → StopSays a.0 a.1.0.now a.1.1.0 a.1.1.1.0.now r.stop
read_turn_as_told κs a r s p =
    subst (StopSays a.0 a.1.0.now a.1.1.0 a.1.1.1.0.now) (sym (ap (λ (x : Turn × List ℕ). x.0.stop) p)) (turn_stop_as_told a.0 a.1.0.now a.1.1.0 a.1.1.1.0.now)

pub read_turn_done : (κs : _) (a : _) (r : _) (s : _) → read_turn.Post κs a r s → Fair a.1.0.now a.1.1.0 a.1.1.1.0.now
    → AllMet (keys_of a.0) either a.0.progress (handled a.1.0.now a.1.1.0) (given a.1.0.now a.1.1.0) → stop_number r.stop ≡ 0
read_turn_done κs a r s p f m = ap (λ (x : Turn × List ℕ). stop_number x.0.stop) p ∙ ap stop_number (turn_ends a.0 a.1.0.now a.1.1.0 a.1.1.1.0.now f m)

pub read_complete_as_told : (κs : _) (a : _) (r : _) (s : _) → read_complete.Post κs a r s → CompletionSays a.0.progress r
read_complete_as_told κs a r s p = subst (CompletionSays a.0.progress) (sym p) (completion_as_told a.0)

pub read_complete_done : (κs : _) (a : _) (r : _) (s : _) → read_complete.Post κs a r s → 0 < a.0.progress.next → a.0.progress.next ≡ a.0.progress.count → completion_number r ≡ 0
read_complete_done κs a r s p f e = ap completion_number (p ∙ completed a.0 f e)

-- ---- demands 2 and 3 for the calls: what `write` wrote, offered to `read_turn`

module _ (κs : _) (a : _) (r : _) (s : _) (p : write.Post κs a r s)
    (fit : Fit a.0.now a.1.0.now a.1.1.0 (length a.1.1.1.1.0.now) (length a.1.1.1.1.1.0.now))
    (before : Octets 16 a.1.1.1.0) (bytes : Bytes a.1.1.1.1.0.now) (release : a.1.1.0.release < 4294967296) where
  abbrev written : List ℕ
  written = take 512 s.1.1.1.1.1.0.now

  pub wrote : Wrote a.0.now a.1.0.now a.1.1.0 a.1.1.1.0 a.1.1.1.1.0.now (take 512 s.1.1.1.1.1.0.now)
  wrote = record {
    out = a.1.1.1.1.1.0.now;
    answer = fit_is_written a.0.now a.1.0.now a.1.1.0 a.1.1.1.1.0.now a.1.1.1.1.1.0.now fit;
    block = ap (take 512) (p.1 ∙ ap (λ (x : WriteAnswer). write_output x a.0.now a.1.0.now a.1.1.0 a.1.1.1.0 a.1.1.1.1.0.now a.1.1.1.1.1.0.now) p.0);
    previous_octets = before;
    payload_bytes = bytes;
    release_fits = release;
  }

  -- a turn of a reader under the same keys
  module _ (κs' : _) (a' : _) (r' : _) (s' : _) (q : read_turn.Post κs' a' r' s') (st : Progress) (reader : a'.0 ≡ reader_of a.0.now a.1.0.now st) where
    -- that waits for this block accepts it, and hands out its payload and zero fill
    pub write_then_read : 0 < a'.1.1.0 → a'.1.1.0 ≤ 128 → 480 ≤ length a'.1.1.1.0.now → a'.1.0.now ≡ written → Waits st a.1.1.0 a.1.1.1.0
        → (r'.accepted ≡ 1) × (r'.bytes ≡ length a.1.1.1.1.0.now) × (r'.stop ≡ End)
        × (s'.1.1.1.0.now ≡ over (filled a.1.1.1.1.0.now) a'.1.1.1.0.now)
    write_then_read low high room lent waits =
        let e = q ∙ ap₂ (λ (x : Reader) (b : List ℕ). turn_of x b a'.1.1.0 a'.1.1.1.0.now) reader lent ∙ (written_is_read a.0.now a.1.0.now a.1.1.0 a.1.1.1.0 a.1.1.1.1.0.now written wrote st waits a'.1.1.0 a'.1.1.1.0.now low high room) in (
          ap (λ (x : Turn × List ℕ). x.0.accepted) e,
          ap (λ (x : Turn × List ℕ). x.0.bytes) e,
          ap (λ (x : Turn × List ℕ). x.0.stop) e,
          ap (λ (x : Turn × List ℕ). x.1) e,
        )

    -- what a turn does with a block at a place that it refuses by 16 or 14
    abbrev EndsAt : ℕ → Type 0
    EndsAt place =
        (r'.accepted ≤ place)
        × (r'.accepted ≡ place → r'.stop ≡ At place (cond (closed r'.reader.progress) AfterLast CheckWrong))
        × (drop (480 * place) s'.1.1.1.0.now ≡ drop (480 * place) a'.1.1.1.0.now)

    ends_at : (place : ℕ) (t : Turn × List ℕ) → (r', s'.1.1.1.0.now) ≡ t
        → (t.0.accepted ≤ place) × (t.0.accepted ≡ place → t.0.stop ≡ At place (cond (closed t.0.reader.progress) AfterLast CheckWrong)) × (drop (480 * place) t.1 ≡ drop (480 * place) a'.1.1.1.0.now)
        → EndsAt place
    ends_at place t e x =
        subst
        (λ (t : Turn × List ℕ). (t.0.accepted ≤ place) × (t.0.accepted ≡ place → t.0.stop ≡ At place (cond (closed t.0.reader.progress) AfterLast CheckWrong))
        × (drop (480 * place) t.1 ≡ drop (480 * place) a'.1.1.1.0.now))
        (sym e) x

    -- that has the block damaged inside one 16-byte piece, or inside its check, at a place of what it handles, where its last check is the one
    -- that the block was sealed on and the block still selects its edition, accepts no more than the blocks before it; where it accepts those,
    -- it stops there by 14, or by 16 where no block may follow them; and nothing of it is handed out
    pub damage_is_refused : (i : ℕ) (d : List ℕ) → Octets 512 d → SameOutside i d written → (d ≡ written → ⊥)
        → Bytes a'.1.0.now → Fair a'.1.0.now a'.1.1.0 a'.1.1.1.0.now
        → (place : ℕ) → place < handled a'.1.0.now a'.1.1.0 → get_or (given a'.1.0.now a'.1.1.0) place [] ≡ d
        → SealedOn a.1.1.0 a.1.1.1.0 (moved st (take place (given a'.1.0.now a'.1.1.0))).last → selected (head_of_lem d).reserved ≡ a.1.1.0.edition
        → EndsAt place
    damage_is_refused i d octets same differ lent fair place below at on selects =
        ends_at place _ (q ∙ ap (λ (x : Reader). turn_of x a'.1.0.now a'.1.1.0 a'.1.1.1.0.now) reader)
        (damaged_ends_a_turn a.0.now a.1.0.now a.1.1.0 a.1.1.1.0 a.1.1.1.1.0.now written wrote i d octets same differ st
        a'.1.0.now a'.1.1.0 a'.1.1.1.0.now lent fair place below at on selects)

    -- that has the block, sealed in edition 2, at a place where its last check is another than the one that the block was sealed on does the same
    pub another_build_is_refused : a.1.1.0.edition ≡ 2
        → Bytes a'.1.0.now → Fair a'.1.0.now a'.1.1.0 a'.1.1.1.0.now
        → (place : ℕ) → place < handled a'.1.0.now a'.1.1.0 → get_or (given a'.1.0.now a'.1.1.0) place [] ≡ written
        → Octets 16 (moved st (take place (given a'.1.0.now a'.1.1.0))).last
        → ((moved st (take place (given a'.1.0.now a'.1.1.0))).last ≡ last_for a.1.1.0.number a.1.1.1.0 → ⊥)
        → EndsAt place
    another_build_is_refused two lent fair place below at octets differs =
        ends_at place _ (q ∙ ap (λ (x : Reader). turn_of x a'.1.0.now a'.1.1.0 a'.1.1.1.0.now) reader)
        (other_build_ends_a_turn a.0.now a.1.0.now a.1.1.0 a.1.1.1.0 a.1.1.1.1.0.now written wrote two st
        a'.1.0.now a'.1.1.0 a'.1.1.1.0.now lent fair place below at octets differs)

-- ---- the numbers of the answers, and the value that a reason holds

pub write_number_asks_nothing : (κs : _) (a : _) → write-number.Asked κs a
write_number_asks_nothing κs a = tt

pub write_number_determined : (κs : _) (a : _) (r r' : _) (s s' : _) → write-number.Post κs a r s → write-number.Post κs a r' s' → r ≡ r'
write_number_determined κs a r r' s s' p q = p ∙ sym q

pub stop_number_asks_nothing : (κs : _) (a : _) → stop-number.Asked κs a
stop_number_asks_nothing κs a = tt

pub stop_number_determined : (κs : _) (a : _) (r r' : _) (s s' : _) → stop-number.Post κs a r s → stop-number.Post κs a r' s' → r ≡ r'
stop_number_determined κs a r r' s s' p q = p ∙ sym q

pub completion_number_asks_nothing : (κs : _) (a : _) → completion-number.Asked κs a
completion_number_asks_nothing κs a = tt

pub completion_number_determined : (κs : _) (a : _) (r r' : _) (s s' : _) → completion-number.Post κs a r s → completion-number.Post κs a r' s' → r ≡ r'
completion_number_determined κs a r r' s s' p q = p ∙ sym q

pub reason_number_asks_nothing : (κs : _) (a : _) → reason_number.Asked κs a
reason_number_asks_nothing κs a = tt

pub reason_number_determined : (κs : _) (a : _) (r r' : _) (s s' : _) → reason_number.Post κs a r s → reason_number.Post κs a r' s' → r ≡ r'
reason_number_determined κs a r r' s s' p q = p ∙ sym q

pub reason_value_asks_nothing : (κs : _) (a : _) → reason_value.Asked κs a
reason_value_asks_nothing κs a = tt

pub reason_value_determined : (κs : _) (a : _) (r r' : _) (s s' : _) → reason_value.Post κs a r s → reason_value.Post κs a r' s' → r ≡ r'
reason_value_determined κs a r r' s s' p q = p ∙ sym q
