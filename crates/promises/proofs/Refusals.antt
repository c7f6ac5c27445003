-- Switches and numbers of the definitions, in the words of documents 01 and 02: each is a law of the crate that holds the definition. Then
-- that no call gives another number than those of its row in docs/REFUSALS.md, 'Which comes first'. Assumes nothing.
use mathlib.Core.Path.{◌≡◌, refl, sym, subst}
use mathlib.Core.Bool.{Bool, true, false, ◌&&◌, ◌||◌, true≢false}
use mathlib.Core.List.{List, [], ◌∷◌}
use mathlib.Core.Logic.{◌⊎◌, inl, inr}
use Prim.Native.Nat.{ℕ, ◌+◌, ◌*◌, ◌/◌, ◌%◌, ◌≤◌, min}
use native.Mathlib.Omega.{arith}
use borrow.Author.Tests.{eqb-true, eqb-false}
use lib.Dec.{eqb, ltb, leb}
use lib.ListN.{length, get_or}
use lib.Seq.{paste}
use Rattle.image_view.specs.declared.ViewAnswer.{ViewAnswer}
use Rattle.dock.specs.declared.ScheduleAnswer.{ScheduleAnswer}
use Rattle.dock.specs.declared.BlockAnswer.{BlockAnswer}
use Rattle.dock.specs.declared.CheckAnswer.{CheckAnswer}
use Rattle.dock.specs.declared.StartAnswer.{StartAnswer}
use Rattle.dock.specs.declared.ReadStartAnswer.{ReadStartAnswer}
use Rattle.dock.specs.declared.ChainAnswer.{ChainAnswer}
use Rattle.dock.specs.declared.ResumeAnswer.{ResumeAnswer as ResumedForC}
use Rattle.dock_turn.specs.declared.TurnAnswer.{TurnAnswer}
use Rattle.dock_receive.specs.declared.ReceiverAnswer.{ReceiverAnswer}
use Rattle.octets.specs.Blocks.{BlockCipher}
use Rattle.image_layout.specs.Layout.{head_of_lem}
use Rattle.image_layout.specs.declared.Head.{Head}
use Rattle.image_limits.specs.Fits.{count_fits_of}
use Rattle.image_spec.specs.Sealed.{opened, fill_zero}
use Rattle.image_receiver_map.specs.Map.{worth, bit}
use Rattle.image_receiver_map.proofs.Pins as maps
use Rattle.image_receiver_answer.specs.Answers.{receive_number, begin_number, begin_value, room_for, first_told, header_tests}
use Rattle.image_receiver_answer.specs.declared.Receipt.{Receipt}
use Rattle.image_receiver_answer.specs.declared.ReceiveAnswer.TheVariants.{Received, NotABlock, NoRoom, Because, NotBelow, AlreadyHeld}
use Rattle.image_receiver_answer.specs.declared.BeginAnswer.TheVariants.{Begun, BeginKey, BeginCount, BeginRoom}
use Rattle.image_receiver_answer.proofs.Pins as receipts
use Rattle.image_receiver_block.specs.Receive.{counted_with, stored, last_answer}
use Rattle.image_receiver_block.proofs.Pins as received
use Rattle.image_receiver.specs.Calls.{full}
use Rattle.image_receiver.proofs.Pins as receivers
use Rattle.aes_schedule.specs.Schedule.{key_number}
use Rattle.aes_schedule.specs.declared.KeyAnswer.{KeyAnswer}
use Rattle.aes_schedule.specs.declared.KeyAnswer.TheVariants.{Taken, KeyLength}
use Rattle.aes_schedule.proofs.Pins.{key_numbers}
use Rattle.modes_spec.specs.Modes.{iv_length, any_length, chains}
use Rattle.modes_spec.specs.declared.Operation.{Operation}
use Rattle.modes_spec.specs.declared.Operation.TheVariants.{EcbEncrypt, EcbDecrypt, CbcEncrypt, CbcDecrypt, CfbEncrypt, CfbDecrypt, Ofb}
use Rattle.modes_spec.proofs.Pins as modes
use Rattle.modes_answer.specs.Answers.{mode_number}
use Rattle.modes_answer.specs.declared.ModeAnswer.{ModeAnswer}
use Rattle.modes_answer.specs.declared.ModeAnswer.TheVariants.{Done, BadKey, BadIv, NotPieces, OutputShort}
use Rattle.modes_answer.proofs.Pins.{mode_numbers}
use Rattle.rijndael_spec.specs.declared.Width.{Width}
use Rattle.rijndael_spec.specs.declared.Width.TheVariants.{Six, Eight}
use Rattle.rijndael_spec.specs.declared.WideOperation.{WideOperation}
use Rattle.rijndael_spec.specs.declared.WideOperation.TheVariants.{EncryptEcb, DecryptEcb, EncryptCbc, DecryptCbc}
use Rattle.rijndael.specs.Calls.{wide_answer}
use Rattle.image_limits.specs.Marks.{selected, mark_of, tail_size}
use Rattle.image_limits.proofs.Pins as editions
use Rattle.image_reasons.specs.Reasons.{reason_number, reason_value, verdict_number}
use Rattle.image_reasons.specs.declared.Reason.{Reason}
use Rattle.image_reasons.specs.declared.Reason.TheVariants.{AfterLast, CheckWrong, Count, Number, OtherCount, OtherRelease, Length, Reserved, FillNotZero}
use Rattle.image_reasons.specs.declared.Verdict.{Verdict}
use Rattle.image_reasons.specs.declared.Verdict.TheVariants.{Accepted, Refused}
use Rattle.image_reasons.proofs.Pins as reasons
use Rattle.image_reader_tally.specs.Tally.{stop_number}
use Rattle.image_reader_tally.specs.declared.Stop.{Stop}
use Rattle.image_reader_tally.specs.declared.Stop.TheVariants.{End, Asked, Lent, Room, At}
use Rattle.image_reader_tally.proofs.Pins.{stop_numbers}
use Rattle.image_reader_turn.specs.Turn.{handled}
use Rattle.image_reader_turn.proofs.Pins as turns
use Rattle.image_reader.specs.Calls.{turn_of}
use Rattle.image_progress.specs.Progress.{completion_number}
use Rattle.image_progress.specs.declared.Completion.{Completion}
use Rattle.image_progress.specs.declared.Completion.TheVariants.{Complete, NotComplete}
use Rattle.image_reader.specs.declared.Reader.{Reader}
use Rattle.image_reader.specs.declared.Turn.{Turn}
use Rattle.image_progress.proofs.Pins.{completion_numbers}
use Rattle.image_reader_bookmark.specs.Calls.{resume_number}
use Rattle.image_reader_bookmark.specs.declared.ResumeAnswer.{ResumeAnswer}
use Rattle.image_reader_bookmark.specs.declared.ResumeAnswer.TheVariants.{Resumed, NotABookmark}
use Rattle.image_reader_bookmark.specs.declared.ResumeAnswer.TheVariants as resumes
use Rattle.image_reader_bookmark.proofs.Pins.{resume_numbers}
use Rattle.image_writer_answer.specs.Answers.{write_number}
use Rattle.image_writer_answer.specs.declared.WriteAnswer.{WriteAnswer}
use Rattle.image_writer_answer.specs.declared.WriteAnswer.TheVariants.{Written, WriteKey, WriteCount, WriteNumber, WriteLength, WriteEdition, WriteRoom}
use Rattle.image_writer_answer.proofs.Pins.{write_numbers}
use Rattle.wrap_answer.specs.Answers.{wrap_number}
use Rattle.wrap_answer.specs.declared.WrapAnswer.{WrapAnswer}
use Rattle.wrap_answer.specs.declared.WrapAnswer.TheVariants.{WrapDone, WrapKey, WrapSize, WrapRoom, WrongInitial}
use Rattle.wrap_answer.proofs.Pins.{wrap_numbers}
use Rattle.image_view.specs.Views.{made_number, held_length, shown_number, answer_number, answer_of}
use Rattle.image_view.proofs.Pins as views
use Rattle.ccm_answer.specs.Answers.{ccm_number}
use Rattle.ccm_answer.specs.declared.CcmAnswer.{CcmAnswer}
use Rattle.ccm_answer.specs.declared.CcmAnswer.TheVariants.{CcmDone, CcmKey, CcmSize, CcmRoom, WrongTag}
use Rattle.ccm_answer.proofs.Pins.{ccm_numbers}
use Rattle.dock_turn.specs.Answers.{told_of}
use Rattle.promises.proofs.Modes.{not_pieces_not_ofb}
use Rattle.promises.proofs.Wrap.Calls.{wrap_as_told}
use Rattle.promises.proofs.Ccm.Calls.{seal_as_told}
use Rattle.promises.proofs.Image.Calls.{turn_is_the_readers}
use Rattle.promises.proofs.Dock.{dock_schedule_is_new, dock_encrypt_is_encrypt, dock_decrypt_is_decrypt, dock_check_is_check, dock_check_start_is_start, dock_read_start_is_read_start, dock_ecb_encrypt_is_apply, dock_ecb_decrypt_is_apply, dock_cbc_encrypt_is_apply, dock_cbc_decrypt_is_apply, dock_cfb_encrypt_is_apply, dock_cfb_decrypt_is_apply, dock_ofb_is_apply, dock_write_is_write, dock_read_turn_is_read_turn, dock_read_complete_is_read_complete, dock_read_resume_is_read_resume, dock_wrap_is_wrap, dock_unwrap_is_unwrap, dock_ccm_seal_is_seal, dock_ccm_open_is_open, dock_receive_start_is_receive_start, dock_receive_is_receive, dock_receive_complete_is_receive_complete}
use Rattle.promises.proofs.DockWide.{dock_wide24_ecb_encrypt_is_apply, dock_wide24_ecb_decrypt_is_apply, dock_wide24_cbc_encrypt_is_apply, dock_wide24_cbc_decrypt_is_apply, dock_wide32_ecb_encrypt_is_apply, dock_wide32_ecb_decrypt_is_apply, dock_wide32_cbc_encrypt_is_apply, dock_wide32_cbc_decrypt_is_apply}
use Rattle.promises.proofs.Lemmas.ImageCalls.{by_turn, reading_le}
use Rattle.promises.proofs.Receiver.Words.{ReceiveSays}
use Rattle.promises.proofs.Receiver.Calls.{receive_as_told, receive_block_as_told}
use Rattle.image_spec.specs.Judge.{Keys}
use Rattle.image_receiver_answer.specs.declared.ReceiveAnswer.{ReceiveAnswer}
use Rattle.image_receiver_answer.specs.declared.BeginAnswer.{BeginAnswer}
use Rattle.image_receiver.proofs.receive_start.Reads as receive_start
use Rattle.image_receiver.proofs.receive.Reads as receive
use Rattle.image_receiver.proofs.receive_complete.Reads as receive_complete
use Rattle.image_receiver_block.proofs.receive_block.Reads as receive_block
use Rattle.aes_schedule.proofs.KeySchedule.new.Reads as new
use Rattle.aes.proofs.encrypt.Reads as encrypt
use Rattle.aes.proofs.decrypt.Reads as decrypt
use Rattle.cmac.proofs.check.Reads as check
use Rattle.cmac.proofs.start.Reads as start
use Rattle.image_reader.proofs.read_start.Reads as read_start
use Rattle.modes.proofs.apply.Reads as apply
use Rattle.rijndael.proofs.apply_24.Reads as apply_24
use Rattle.rijndael.proofs.apply_32.Reads as apply_32
use Rattle.image_writer.proofs.write.Reads as write
use Rattle.image_reader.proofs.read_turn.Reads as read_turn
use Rattle.image_reader_bookmark.proofs.read_resume.Reads as read_resume
use Rattle.image_reader_turn.proofs.turn.Reads as turn
use Rattle.image_block_judge.proofs.judge.Reads as judge
use Rattle.image_reader.proofs.read_complete.Reads as read_complete
use Rattle.wrap.proofs.wrap.Reads as wrap
use Rattle.wrap.proofs.unwrap.Reads as unwrap
use Rattle.image_view.proofs.made_number.Reads as made-number
use Rattle.image_view.proofs.shown_number.Reads as shown-number
use Rattle.image_view.proofs.View.of.Reads as view-of
use Rattle.image_view.proofs.View.block.Reads as view-block
use Rattle.image_view.proofs.View.check.Reads as view-check
use Rattle.image_view.proofs.block_answer.Reads as block-answer
use Rattle.image_view.proofs.check_answer.Reads as check-answer
use Rattle.ccm.proofs.seal.Reads as seal
use Rattle.ccm.proofs.open.Reads as open_call
use Rattle.dock.proofs.dock_schedule.Reads as dock_schedule
use Rattle.dock.proofs.dock_encrypt.Reads as dock_encrypt
use Rattle.dock.proofs.dock_decrypt.Reads as dock_decrypt
use Rattle.dock.proofs.dock_check.Reads as dock_check
use Rattle.dock.proofs.dock_check_start.Reads as dock_check_start
use Rattle.dock.proofs.dock_read_start.Reads as dock_read_start
use Rattle.dock.proofs.dock_read_resume.Reads as dock_read_resume
use Rattle.dock.proofs.dock_ecb_encrypt.Reads as dock_ecb_encrypt
use Rattle.dock.proofs.dock_ecb_decrypt.Reads as dock_ecb_decrypt
use Rattle.dock.proofs.dock_cbc_encrypt.Reads as dock_cbc_encrypt
use Rattle.dock.proofs.dock_cbc_decrypt.Reads as dock_cbc_decrypt
use Rattle.dock.proofs.dock_cfb_encrypt.Reads as dock_cfb_encrypt
use Rattle.dock.proofs.dock_cfb_decrypt.Reads as dock_cfb_decrypt
use Rattle.dock.proofs.dock_ofb.Reads as dock_ofb
use Rattle.dock.proofs.dock_wide24_ecb_encrypt.Reads as dock_wide24_ecb_encrypt
use Rattle.dock.proofs.dock_wide24_ecb_decrypt.Reads as dock_wide24_ecb_decrypt
use Rattle.dock.proofs.dock_wide24_cbc_encrypt.Reads as dock_wide24_cbc_encrypt
use Rattle.dock.proofs.dock_wide24_cbc_decrypt.Reads as dock_wide24_cbc_decrypt
use Rattle.dock.proofs.dock_wide32_ecb_encrypt.Reads as dock_wide32_ecb_encrypt
use Rattle.dock.proofs.dock_wide32_ecb_decrypt.Reads as dock_wide32_ecb_decrypt
use Rattle.dock.proofs.dock_wide32_cbc_encrypt.Reads as dock_wide32_cbc_encrypt
use Rattle.dock.proofs.dock_wide32_cbc_decrypt.Reads as dock_wide32_cbc_decrypt
use Rattle.dock.proofs.dock_write.Reads as dock_write
use Rattle.dock.proofs.dock_read_turn.Reads as dock_read_turn
use Rattle.dock.proofs.dock_read_complete.Reads as dock_read_complete
use Rattle.dock.proofs.dock_receive_start.Reads as dock_receive_start
use Rattle.dock.proofs.dock_receive.Reads as dock_receive
use Rattle.dock.proofs.dock_receive_complete.Reads as dock_receive_complete
use Rattle.dock.proofs.dock_wrap.Reads as dock_wrap
use Rattle.dock.proofs.dock_unwrap.Reads as dock_unwrap
use Rattle.dock.proofs.dock_view_block.Reads as dock_view_block
use Rattle.dock.proofs.dock_view_check.Reads as dock_view_check
use Rattle.dock.proofs.dock_ccm_seal.Reads as dock_ccm_seal
use Rattle.dock.proofs.dock_ccm_open.Reads as dock_ccm_open

-- ---- the modes

-- ECB takes an IV of length 0, the others of 16
pub iv_of_each : (iv_length 16 EcbEncrypt ≡ 0) × (iv_length 16 EcbDecrypt ≡ 0) × (iv_length 16 CbcEncrypt ≡ 16) × (iv_length 16 CbcDecrypt ≡ 16)
    × (iv_length 16 CfbEncrypt ≡ 16) × (iv_length 16 CfbDecrypt ≡ 16) × (iv_length 16 Ofb ≡ 16)
iv_of_each = modes.iv_of_each 16

-- OFB takes any length; ECB, CBC and CFB keep to whole pieces
pub ofb_alone_takes_any_length : (any_length Ofb ≡ true) × ((o : Operation) → (o ≡ Ofb → ⊥) → any_length o ≡ false)
ofb_alone_takes_any_length = modes.ofb_alone_takes_any_length

-- CBC, CFB and OFB hand on a chaining value; ECB does not
pub all_but_ecb_chain : (o : Operation) → (o ≡ EcbEncrypt → ⊥) → (o ≡ EcbDecrypt → ⊥) → chains o ≡ true
all_but_ecb_chain = modes.all_but_ecb_chain

pub ecb_chains_nothing : (chains EcbEncrypt ≡ false) × (chains EcbDecrypt ≡ false)
ecb_chains_nothing = modes.ecb_chains_nothing

-- ---- the receiver

-- a block's bit is bit n mod 8, 0 the lowest, of byte n / 8, and a map has one bit a block
pub bit_worths : (worth 0 ≡ 1) × (worth 1 ≡ 2) × (worth 2 ≡ 4) × (worth 3 ≡ 8) × (worth 4 ≡ 16) × (worth 5 ≡ 32) × (worth 6 ≡ 64) × (worth 7 ≡ 128)
bit_worths = maps.worths

pub bit_of_a_block : (m : List ℕ) (n : ℕ) → bit m n ≡ get_or m (n / 8) 0 / worth (n % 8) % 2
bit_of_a_block = maps.bit_of_a_block

-- room is 480 bytes and one bit a block
pub room_asks : (count store map : ℕ) → room_for count store map ≡ (leb (480 * count) store && leb ((count + 7) / 8) map)
room_asks = receipts.room_asks

-- 20 is for the count itself too
pub the_count_is_not_below_it : (r : Receipt) (h : Head) → count_fits_of h.count ≡ true → h.count ≡ r.count → h.release ≡ r.release → h.number ≡ r.count → first_told (header_tests r h) ≡ NotBelow
the_count_is_not_below_it = receipts.the_count_is_not_below_it

pub receive_numbers : (receive_number Received ≡ 0) × (receive_number NoRoom ≡ 4) × (receive_number NotABlock ≡ 6) × (receive_number NotBelow ≡ 20) × (receive_number AlreadyHeld ≡ 21)
    × ((reason : Reason) → receive_number (Because reason) ≡ reason_number reason)
receive_numbers = receipts.receive_numbers

pub begin_numbers : (begin_number Begun ≡ 0) × (begin_number BeginKey ≡ 1) × (begin_number BeginRoom ≡ 4) × ((count : ℕ) → (begin_number (BeginCount count) ≡ 7) × (begin_value (BeginCount count) ≡ count ∷ []))
begin_numbers = receipts.begin_numbers

-- one block more, and its payload; its bytes go to 480 times its number; a bad copy of a held block gets its own number
pub one_more_is_held : (r : Receipt) (len : ℕ) → ((counted_with r len).held ≡ min (r.held + 1) 4294967295) × ((counted_with r len).bytes ≡ min (r.bytes + len) 4294967295)
one_more_is_held = received.one_more_is_held

pub at_480_times_its_number : (ek : BlockCipher) (b store : List ℕ) → stored ek b store ≡ paste store (480 * (head_of_lem b).number) (opened ek b) 480
at_480_times_its_number = received.at_480_times_its_number

pub fifteen_comes_before_21 : (ek : BlockCipher) (b map : List ℕ) → fill_zero ek b ≡ false → last_answer ek b map ≡ Because FillNotZero
fifteen_comes_before_21 = received.fifteen_comes_first

-- complete exactly when the count held equals the image's count, and that is at least 1
pub complete_when_all_are_held : (r : Receipt) → full r ≡ (ltb 0 r.count && eqb r.held r.count)
complete_when_all_are_held = receivers.complete_when_all_are_held

-- ---- the editions

-- value 2 in bytes 14 and 15 selects the new cover, every other value the old one
pub two_alone_selects : (selected 2 ≡ 2) × ((v : ℕ) → (v ≡ 2 → ⊥) → selected v ≡ 1)
two_alone_selects = editions.two_alone_selects

-- edition 1 has 0 there and covers nothing more; edition 2 has 2 and covers the 16 bytes of a check more
pub marks_and_covers : (mark_of 1 ≡ 0) × (mark_of 2 ≡ 2) × (tail_size 1 ≡ 0) × (tail_size 2 ≡ 16)
marks_and_covers = editions.marks_and_covers

-- ---- turns

-- a turn handles the smaller of the blocks lent and the number asked for
pub handles_the_smaller : (lent : List ℕ) (asked : ℕ) → handled lent asked ≡ min asked (length lent / 512)
handles_the_smaller = turns.handles_the_smaller

at_most : (r : Reader) (lent : List ℕ) (asked : ℕ) (out : List ℕ)
    → ((turn_of r lent asked out).0.accepted ≤ asked) × ((turn_of r lent asked out).0.accepted ≤ length lent / 512)
at_most r lent asked out =
    by_turn r lent asked out (λ (t : Turn × List ℕ). (t.0.accepted ≤ asked) × (t.0.accepted ≤ length lent / 512))
    (omega arith, omega arith) (omega arith, omega arith) (omega arith, omega arith)
    (λ f. let h = turns.handles_at_most lent asked in let n = reading_le r lent asked out in (omega arith, omega arith))

-- it accepts no more than either
pub read_turn_at_most : (κs : _) (a : _) (r : _) (s : _) → read_turn.Post κs a r s → (r.accepted ≤ a.1.1.0) × (r.accepted ≤ length a.1.0.now / 512)
read_turn_at_most κs a r s p =
    subst (λ (t : Turn × List ℕ). (t.0.accepted ≤ a.1.1.0) × (t.0.accepted ≤ length a.1.0.now / 512)) (sym p) (at_most a.0 a.1.0.now a.1.1.0 a.1.1.1.0.now)

pub turn_at_most : (κs : _) (a : _) (r : _) (s : _) → turn.Post κs a r s → (r.accepted ≤ a.1.1.1.0) × (r.accepted ≤ length a.1.1.0.now / 512)
turn_at_most κs a r s p =
    subst (λ (t : Turn × List ℕ). (t.0.accepted ≤ a.1.1.1.0) × (t.0.accepted ≤ length a.1.1.0.now / 512)) (sym (turn_is_the_readers κs a r s p))
    (at_most _ a.1.1.0.now a.1.1.1.0 a.1.1.1.1.0.now)

-- ---- the numbers of the answers, each case of each

pub the-numbers :
    ((key_number Taken ≡ 0) × (key_number KeyLength ≡ 1))
    × ((mode_number Done ≡ 0) × (mode_number BadKey ≡ 1) × (mode_number BadIv ≡ 2) × (mode_number NotPieces ≡ 3) × (mode_number OutputShort ≡ 4))
    × ((stop_number End ≡ 0) × (stop_number Room ≡ 4) × (stop_number Asked ≡ 5) × (stop_number Lent ≡ 6) × ((place : ℕ) (reason : Reason) → stop_number (At place reason) ≡ reason_number reason))
    × ((v : ℕ) → (reason_number (Count v) ≡ 7) × (reason_number (Number v) ≡ 8) × (reason_number (OtherCount v) ≡ 9) × (reason_number (OtherRelease v) ≡ 10)
    × (reason_number (Length v) ≡ 12) × (reason_number (Reserved v) ≡ 13) × (reason_number CheckWrong ≡ 14) × (reason_number FillNotZero ≡ 15) × (reason_number AfterLast ≡ 16))
    × ((verdict_number Accepted ≡ 0) × ((r : Reason) → verdict_number (Refused r) ≡ reason_number r))
    × ((write_number Written ≡ 0) × (write_number WriteKey ≡ 1) × (write_number WriteRoom ≡ 4) × (write_number WriteCount ≡ 7) × (write_number WriteNumber ≡ 8) × (write_number WriteLength ≡ 12) × (write_number WriteEdition ≡ 13))
    × ((completion_number Complete ≡ 0) × (completion_number NotComplete ≡ 17))
    × ((wrap_number WrapDone ≡ 0) × (wrap_number WrapKey ≡ 1) × (wrap_number WrapRoom ≡ 4) × (wrap_number WrapSize ≡ 18) × (wrap_number WrongInitial ≡ 19))
    × ((ccm_number CcmDone ≡ 0) × (ccm_number CcmKey ≡ 1) × (ccm_number CcmRoom ≡ 4) × (ccm_number CcmSize ≡ 23) × (ccm_number WrongTag ≡ 24))
    × ((resume_number Resumed ≡ 0) × (resume_number resumes.KeyLength ≡ 1) × (resume_number NotABookmark ≡ 25))
the-numbers = (key_numbers, mode_numbers, stop_numbers, reasons.reason_numbers, reasons.verdict_numbers, write_numbers, completion_numbers, wrap_numbers, ccm_numbers, resume_numbers)

-- 7, 8, 9, 10, 12 and 13 hold the value found, 14, 15 and 16 none
pub the_values : (v : ℕ)
    → (reason_value (Count v) ≡ v ∷ []) × (reason_value (Number v) ≡ v ∷ []) × (reason_value (OtherCount v) ≡ v ∷ []) × (reason_value (OtherRelease v) ≡ v ∷ [])
    × (reason_value (Length v) ≡ v ∷ []) × (reason_value (Reserved v) ≡ v ∷ []) × (reason_value CheckWrong ≡ []) × (reason_value FillNotZero ≡ []) × (reason_value AfterLast ≡ [])
the_values = reasons.reason_values

-- ---- the numbers that each call can give

-- the rows of 'Which comes first', and their numbers: the key schedule, one block, the whole check, the starts of a running check and of a
-- reader (keyed); ECB, CBC and CFB, and ECB and CBC over wide blocks (pieces); OFB; the writer; a turn, as a whole and then for each block;
-- one block; completion; wrapping and unwrapping; making a view, and showing a block or its check; sealing and opening a message; the start
-- of a receiver, and a block of it; resuming a reader
pub data Row : Type 0 where
  keyed : Row
  pieces : Row
  ofb : Row
  writing : Row
  turning : Row
  judging : Row
  completing : Row
  wrapping : Row
  unwrapping : Row
  viewing : Row
  showing : Row
  sealing : Row
  opening : Row
  beginning : Row
  receiving : Row
  resuming : Row

abbrev pub of_block : List ℕ
of_block = 16 ∷ 14 ∷ 7 ∷ 8 ∷ 9 ∷ 10 ∷ 12 ∷ 13 ∷ 15 ∷ []

abbrev pub order : Row → List ℕ
order keyed = 1 ∷ []
order pieces = 1 ∷ 2 ∷ 3 ∷ 4 ∷ []
order ofb = 1 ∷ 2 ∷ 4 ∷ []
order writing = 1 ∷ 7 ∷ 8 ∷ 12 ∷ 13 ∷ 4 ∷ []
order turning = 5 ∷ 6 ∷ 4 ∷ of_block
order judging = of_block
order completing = 17 ∷ []
order wrapping = 1 ∷ 18 ∷ 4 ∷ []
order unwrapping = 1 ∷ 18 ∷ 4 ∷ 19 ∷ []
order viewing = 6 ∷ []
order showing = 20 ∷ []
order sealing = 1 ∷ 23 ∷ 4 ∷ []
order opening = 1 ∷ 23 ∷ 4 ∷ 24 ∷ []
order beginning = 1 ∷ 7 ∷ 4 ∷ []
order receiving = 6 ∷ 4 ∷ 14 ∷ 7 ∷ 9 ∷ 10 ∷ 20 ∷ 12 ∷ 13 ∷ 15 ∷ 21 ∷ []
order resuming = 1 ∷ 25 ∷ []

-- some call of a row gives this number; of a turn as C and Rust link it, the number of the whole turn and the reason of a block stand apart
pub data Gives : Row → ℕ → Type 0 where
  by_schedule : (κs : _) (a : _) (r : _) (s : _) → new.Post κs a r s → Gives keyed (key_number r.answer)
  by_encrypt : (κs : _) (a : _) (r : _) (s : _) → encrypt.Post κs a r s → Gives keyed (key_number r.answer)
  by_decrypt : (κs : _) (a : _) (r : _) (s : _) → decrypt.Post κs a r s → Gives keyed (key_number r.answer)
  by_check : (κs : _) (a : _) (r : _) (s : _) → check.Post κs a r s → Gives keyed (key_number r.answer)
  by_start : (κs : _) (a : _) (r : _) (s : _) → start.Post κs a r s → Gives keyed (key_number r.answer)
  by_read_start : (κs : _) (a : _) (r : _) (s : _) → read_start.Post κs a r s → Gives keyed (key_number r.answer)
  by_apply : (κs : _) (a : _) (r : _) (s : _) → apply.Post κs a r s → (a.0 ≡ Ofb → ⊥) → Gives pieces (mode_number r.answer)
  by_ofb : (κs : _) (a : _) (r : _) (s : _) → apply.Post κs a r s → a.0 ≡ Ofb → Gives ofb (mode_number r.answer)
  by_apply_24 : (κs : _) (a : _) (r : _) (s : _) → apply_24.Post κs a r s → Gives pieces (mode_number r.answer)
  by_apply_32 : (κs : _) (a : _) (r : _) (s : _) → apply_32.Post κs a r s → Gives pieces (mode_number r.answer)
  by_write : (κs : _) (a : _) (r : _) (s : _) → write.Post κs a r s → Gives writing (write_number r)
  by_read_turn : (κs : _) (a : _) (r : _) (s : _) → read_turn.Post κs a r s → Gives turning (stop_number r.stop)
  by_turn_under : (κs : _) (a : _) (r : _) (s : _) → turn.Post κs a r s → Gives turning (stop_number r.stop)
  by_judge : (κs : _) (a : _) (r : _) (s : _) → judge.Post κs a r s → Gives judging (verdict_number r.verdict)
  by_read_complete : (κs : _) (a : _) (r : _) (s : _) → read_complete.Post κs a r s → Gives completing (completion_number r)
  by_receive_start : (κs : _) (a : _) (r : _) (s : _) → receive_start.Post κs a r s → Gives beginning (begin_number r.answer)
  by_receive : (κs : _) (a : _) (r : _) (s : _) → receive.Post κs a r s → Gives receiving (receive_number r.answer)
  by_receive_block : (κs : _) (a : _) (r : _) (s : _) → receive_block.Post κs a r s → Gives receiving (receive_number r.answer)
  by_receive_complete : (κs : _) (a : _) (r : _) (s : _) → receive_complete.Post κs a r s → Gives completing (completion_number r)
  by_read_resume : (κs : _) (a : _) (r : _) (s : _) → read_resume.Post κs a r s → Gives resuming (resume_number r.answer)
  by_wrap : (κs : _) (a : _) (r : _) (s : _) → wrap.Post κs a r s → Gives wrapping (wrap_number r)
  by_unwrap : (κs : _) (a : _) (r : _) (s : _) → unwrap.Post κs a r s → Gives unwrapping (wrap_number r)
  by_made_number : (κs : _) (a : _) (r : _) (s : _) → made-number.Post κs a r s → Gives viewing r
  by_shown_number : (κs : _) (a : _) (r : _) (s : _) → shown-number.Post κs a r s → Gives showing r
  by_view_of : (κs : _) (a : _) (r : _) (s : _) → view-of.Post κs a r s → Gives viewing (answer_number r)
  by_view_block : (κs : _) (a : _) (r : _) (s : _) → view-block.Post κs a r s → Gives showing (answer_number r)
  by_view_check : (κs : _) (a : _) (r : _) (s : _) → view-check.Post κs a r s → Gives showing (answer_number r)
  by_block_answer_made : (κs : _) (a : _) (r : _) (s : _) → block-answer.Post κs a r s → Gives viewing r.made
  by_block_answer : (κs : _) (a : _) (r : _) (s : _) → block-answer.Post κs a r s → Gives showing r.number
  by_check_answer_made : (κs : _) (a : _) (r : _) (s : _) → check-answer.Post κs a r s → Gives viewing r.made
  by_check_answer : (κs : _) (a : _) (r : _) (s : _) → check-answer.Post κs a r s → Gives showing r.number
  by_seal : (κs : _) (a : _) (r : _) (s : _) → seal.Post κs a r s → Gives sealing (ccm_number r)
  by_open : (κs : _) (a : _) (r : _) (s : _) → open_call.Post κs a r s → Gives opening (ccm_number r)
  by_dock_schedule : (κs : _) (a : _) (r : _) (s : _) → dock_schedule.Post κs a r s → Gives keyed r.number
  by_dock_encrypt : (κs : _) (a : _) (r : _) (s : _) → dock_encrypt.Post κs a r s → Gives keyed r.number
  by_dock_decrypt : (κs : _) (a : _) (r : _) (s : _) → dock_decrypt.Post κs a r s → Gives keyed r.number
  by_dock_check : (κs : _) (a : _) (r : _) (s : _) → dock_check.Post κs a r s → Gives keyed r.number
  by_dock_check_start : (κs : _) (a : _) (r : _) (s : _) → dock_check_start.Post κs a r s → Gives keyed r.number
  by_dock_read_start : (κs : _) (a : _) (r : _) (s : _) → dock_read_start.Post κs a r s → Gives keyed r.number
  by_dock_ecb_encrypt : (κs : _) (a : _) (r : _) (s : _) → dock_ecb_encrypt.Post κs a r s → Gives pieces r
  by_dock_ecb_decrypt : (κs : _) (a : _) (r : _) (s : _) → dock_ecb_decrypt.Post κs a r s → Gives pieces r
  by_dock_cbc_encrypt : (κs : _) (a : _) (r : _) (s : _) → dock_cbc_encrypt.Post κs a r s → Gives pieces r.number
  by_dock_cbc_decrypt : (κs : _) (a : _) (r : _) (s : _) → dock_cbc_decrypt.Post κs a r s → Gives pieces r.number
  by_dock_cfb_encrypt : (κs : _) (a : _) (r : _) (s : _) → dock_cfb_encrypt.Post κs a r s → Gives pieces r.number
  by_dock_cfb_decrypt : (κs : _) (a : _) (r : _) (s : _) → dock_cfb_decrypt.Post κs a r s → Gives pieces r.number
  by_dock_ofb : (κs : _) (a : _) (r : _) (s : _) → dock_ofb.Post κs a r s → Gives ofb r.number
  by_dock_wide24_ecb_encrypt : (κs : _) (a : _) (r : _) (s : _) → dock_wide24_ecb_encrypt.Post κs a r s → Gives pieces r
  by_dock_wide24_ecb_decrypt : (κs : _) (a : _) (r : _) (s : _) → dock_wide24_ecb_decrypt.Post κs a r s → Gives pieces r
  by_dock_wide24_cbc_encrypt : (κs : _) (a : _) (r : _) (s : _) → dock_wide24_cbc_encrypt.Post κs a r s → Gives pieces r.number
  by_dock_wide24_cbc_decrypt : (κs : _) (a : _) (r : _) (s : _) → dock_wide24_cbc_decrypt.Post κs a r s → Gives pieces r.number
  by_dock_wide32_ecb_encrypt : (κs : _) (a : _) (r : _) (s : _) → dock_wide32_ecb_encrypt.Post κs a r s → Gives pieces r
  by_dock_wide32_ecb_decrypt : (κs : _) (a : _) (r : _) (s : _) → dock_wide32_ecb_decrypt.Post κs a r s → Gives pieces r
  by_dock_wide32_cbc_encrypt : (κs : _) (a : _) (r : _) (s : _) → dock_wide32_cbc_encrypt.Post κs a r s → Gives pieces r.number
  by_dock_wide32_cbc_decrypt : (κs : _) (a : _) (r : _) (s : _) → dock_wide32_cbc_decrypt.Post κs a r s → Gives pieces r.number
  by_dock_write : (κs : _) (a : _) (r : _) (s : _) → dock_write.Post κs a r s → Gives writing r
  by_dock_read_turn : (κs : _) (a : _) (r : _) (s : _) → dock_read_turn.Post κs a r s → Gives turning r.number
  by_dock_read_turn_reason : (κs : _) (a : _) (r : _) (s : _) → dock_read_turn.Post κs a r s → Gives judging r.reason
  by_dock_read_complete : (κs : _) (a : _) (r : _) (s : _) → dock_read_complete.Post κs a r s → Gives completing r
  by_dock_read_resume : (κs : _) (a : _) (r : _) (s : _) → dock_read_resume.Post κs a r s → Gives resuming r.number
  by_dock_receive_start : (κs : _) (a : _) (r : _) (s : _) → dock_receive_start.Post κs a r s → Gives beginning r.number
  by_dock_receive : (κs : _) (a : _) (r : _) (s : _) → dock_receive.Post κs a r s → Gives receiving r.number
  by_dock_receive_complete : (κs : _) (a : _) (r : _) (s : _) → dock_receive_complete.Post κs a r s → Gives completing r
  by_dock_wrap : (κs : _) (a : _) (r : _) (s : _) → dock_wrap.Post κs a r s → Gives wrapping r
  by_dock_unwrap : (κs : _) (a : _) (r : _) (s : _) → dock_unwrap.Post κs a r s → Gives unwrapping r
  by_dock_view_block_made : (κs : _) (a : _) (r : _) (s : _) → dock_view_block.Post κs a r s → Gives viewing r.made
  by_dock_view_block : (κs : _) (a : _) (r : _) (s : _) → dock_view_block.Post κs a r s → Gives showing r.number
  by_dock_view_check_made : (κs : _) (a : _) (r : _) (s : _) → dock_view_check.Post κs a r s → Gives viewing r.made
  by_dock_view_check : (κs : _) (a : _) (r : _) (s : _) → dock_view_check.Post κs a r s → Gives showing r.number
  by_dock_ccm_seal : (κs : _) (a : _) (r : _) (s : _) → dock_ccm_seal.Post κs a r s → Gives sealing r
  by_dock_ccm_open : (κs : _) (a : _) (r : _) (s : _) → dock_ccm_open.Post κs a r s → Gives opening r

-- a number is one of a list
abbrev pub OneOf : List ℕ → ℕ → Type 0
OneOf [] n = ⊥
OneOf (m ∷ ms) n = (n ≡ m) ⊎ OneOf ms n

among : List ℕ → ℕ → Bool
among [] n = false
among (m ∷ ms) n = eqb n m || among ms n

found : (ms : List ℕ) (n : ℕ) → among ms n ≡ true → OneOf ms n
unfolding among
found [] n e = absurd (true≢false (sym e))
found (m ∷ ms) n e = by (eqb n m) refl e (found ms n)
  where
    by : (t : Bool) → eqb n m ≡ t → (t || among ms n) ≡ true → (among ms n ≡ true → OneOf ms n) → OneOf (m ∷ ms) n
    by true q h later = inl (eqb-true n m q)
    by false q h later = inr (later h)

missing : (ms : List ℕ) (n : ℕ) → among ms n ≡ false → OneOf ms n → ⊥
unfolding among
missing [] n e h = h
missing (m ∷ ms) n e h = by (eqb n m) refl e h (missing ms n)
  where
    by : (t : Bool) → eqb n m ≡ t → (t || among ms n) ≡ false → OneOf (m ∷ ms) n → (among ms n ≡ false → OneOf ms n → ⊥) → ⊥
    by true q e h later = true≢false e
    by false q e (inl z) later = eqb-false n m q z
    by false q e (inr z) later = later e z

of_key : (r : KeyAnswer) → among (0 ∷ order keyed) (key_number r) ≡ true
unfolding among
of_key Taken = refl
of_key KeyLength = refl

of_pieces : (r : ModeAnswer) → among (0 ∷ order pieces) (mode_number r) ≡ true
unfolding among
of_pieces Done = refl
of_pieces BadKey = refl
of_pieces BadIv = refl
of_pieces NotPieces = refl
of_pieces OutputShort = refl

-- the number of a call over wide blocks
wide_number : (v : Width) (o : WideOperation) (key iv inp out : List ℕ) (n : ℕ) → n ≡ mode_number (wide_answer v o key iv inp out) → OneOf (0 ∷ order pieces) n
wide_number v o key iv inp out n e = found (0 ∷ order pieces) n (rw e (of_pieces (wide_answer v o key iv inp out)))

of_ofb : (r : ModeAnswer) → (mode_number r ≡ 3 → ⊥) → among (0 ∷ order ofb) (mode_number r) ≡ true
unfolding among
of_ofb Done n = refl
of_ofb BadKey n = refl
of_ofb BadIv n = refl
of_ofb NotPieces n = absurd (n refl)
of_ofb OutputShort n = refl

of_write : (r : WriteAnswer) → among (0 ∷ order writing) (write_number r) ≡ true
unfolding among
of_write Written = refl
of_write WriteKey = refl
of_write WriteCount = refl
of_write WriteNumber = refl
of_write WriteLength = refl
of_write WriteEdition = refl
of_write WriteRoom = refl

of_reason : (r : Reason) → (among (0 ∷ order turning) (reason_number r) ≡ true) × (among (0 ∷ order judging) (reason_number r) ≡ true)
unfolding among
of_reason (Count v) = (refl, refl)
of_reason (Number v) = (refl, refl)
of_reason (OtherCount v) = (refl, refl)
of_reason (OtherRelease v) = (refl, refl)
of_reason (Length v) = (refl, refl)
of_reason (Reserved v) = (refl, refl)
of_reason CheckWrong = (refl, refl)
of_reason FillNotZero = (refl, refl)
of_reason AfterLast = (refl, refl)

of_stop : (r : Stop) → among (0 ∷ order turning) (stop_number r) ≡ true
unfolding among
of_stop End = refl
of_stop Asked = refl
of_stop Lent = refl
of_stop Room = refl
of_stop (At place reason) = (of_reason reason).0

of_told : (r : Stop) → (among (0 ∷ order turning) (told_of r).number ≡ true) × (among (0 ∷ order judging) (told_of r).reason ≡ true)
unfolding among
of_told End = (refl, refl)
of_told Asked = (refl, refl)
of_told Lent = (refl, refl)
of_told Room = (refl, refl)
of_told (At place reason) = (refl, (of_reason reason).1)

of_verdict : (r : Verdict) → among (0 ∷ order judging) (verdict_number r) ≡ true
unfolding among
of_verdict Accepted = refl
of_verdict (Refused reason) = (of_reason reason).1

of_completion : (r : Completion) → among (0 ∷ order completing) (completion_number r) ≡ true
unfolding among
of_completion Complete = refl
of_completion NotComplete = refl

of_begin : (r : BeginAnswer) → among (0 ∷ order beginning) (begin_number r) ≡ true
unfolding among
of_begin Begun = refl
of_begin BeginKey = refl
of_begin (BeginCount count) = refl
of_begin BeginRoom = refl

-- the reasons 8 and 16 have no row
of_receive : (k : Keys) (q : Receipt) (b store map : List ℕ) (r : ReceiveAnswer) → ReceiveSays k q b store map r → among (0 ∷ order receiving) (receive_number r) ≡ true
unfolding among
of_receive k q b store map Received t = refl
of_receive k q b store map NotABlock t = refl
of_receive k q b store map NoRoom t = refl
of_receive k q b store map (Because CheckWrong) t = refl
of_receive k q b store map (Because (Count v)) t = refl
of_receive k q b store map (Because (OtherCount v)) t = refl
of_receive k q b store map (Because (OtherRelease v)) t = refl
of_receive k q b store map NotBelow t = refl
of_receive k q b store map (Because (Length v)) t = refl
of_receive k q b store map (Because (Reserved v)) t = refl
of_receive k q b store map (Because FillNotZero) t = refl
of_receive k q b store map (Because (Number v)) t = absurd t.0
of_receive k q b store map (Because AfterLast) t = absurd t.0
of_receive k q b store map AlreadyHeld t = refl

of_wrap : (r : WrapAnswer) → (wrap_number r ≡ 19 → ⊥) → among (0 ∷ order wrapping) (wrap_number r) ≡ true
unfolding among
of_wrap WrapDone n = refl
of_wrap WrapKey n = refl
of_wrap WrapSize n = refl
of_wrap WrapRoom n = refl
of_wrap WrongInitial n = absurd (n refl)

of_unwrap : (r : WrapAnswer) → among (0 ∷ order unwrapping) (wrap_number r) ≡ true
unfolding among
of_unwrap WrapDone = refl
of_unwrap WrapKey = refl
of_unwrap WrapSize = refl
of_unwrap WrapRoom = refl
of_unwrap WrongInitial = refl

of_made : (n : ℕ) → among (0 ∷ order viewing) (made_number n) ≡ true
unfolding among
of_made n = go (made_number n) (views.made_numbers n)
  where
    go : (m : ℕ) → (m ≡ 0) ⊎ (m ≡ 6) → among (0 ∷ order viewing) m ≡ true
    go m (inl e) = rw e refl
    go m (inr e) = rw e refl

of_shown : (n place : ℕ) → among (0 ∷ order showing) (shown_number n place) ≡ true
unfolding among
of_shown n place = go (shown_number n place) (views.shown_numbers n place)
  where
    go : (m : ℕ) → (m ≡ 0) ⊎ (m ≡ 20) → among (0 ∷ order showing) m ≡ true
    go m (inl e) = rw e refl
    go m (inr e) = rw e refl

of_view : (from size n place : ℕ) → (among (0 ∷ order viewing) (answer_of from size n place).made ≡ true) × (among (0 ∷ order showing) (answer_of from size n place).number ≡ true)
unfolding answer_of
of_view from size n place = (of_made n, of_shown (held_length n) place)

of_seal : (r : CcmAnswer) → (ccm_number r ≡ 24 → ⊥) → among (0 ∷ order sealing) (ccm_number r) ≡ true
unfolding among
of_seal CcmDone n = refl
of_seal CcmKey n = refl
of_seal CcmSize n = refl
of_seal CcmRoom n = refl
of_seal WrongTag n = absurd (n refl)

of_open : (r : CcmAnswer) → among (0 ∷ order opening) (ccm_number r) ≡ true
unfolding among
of_open CcmDone = refl
of_open CcmKey = refl
of_open CcmSize = refl
of_open CcmRoom = refl
of_open WrongTag = refl

of_resume : (r : ResumeAnswer) → among (0 ∷ order resuming) (resume_number r) ≡ true
unfolding among
of_resume Resumed = refl
of_resume resumes.KeyLength = refl
of_resume NotABookmark = refl

-- a call gives 0 or a number of its row, and no other
pub no_call_gives_another : (c : Row) (n : ℕ) → Gives c n → OneOf (0 ∷ order c) n
no_call_gives_another c n (by_schedule κs a r s p) = found _ _ (of_key r.answer)
no_call_gives_another c n (by_encrypt κs a r s p) = found _ _ (of_key r.answer)
no_call_gives_another c n (by_decrypt κs a r s p) = found _ _ (of_key r.answer)
no_call_gives_another c n (by_check κs a r s p) = found _ _ (of_key r.answer)
no_call_gives_another c n (by_start κs a r s p) = found _ _ (of_key r.answer)
no_call_gives_another c n (by_read_start κs a r s p) = found _ _ (of_key r.answer)
no_call_gives_another c n (by_apply κs a r s p h) = found _ _ (of_pieces r.answer)
no_call_gives_another c n (by_ofb κs a r s p h) = found _ _ (of_ofb r.answer (λ e. not_pieces_not_ofb κs a r s p e h))
no_call_gives_another c n (by_apply_24 κs a r s p) = found _ _ (of_pieces r.answer)
no_call_gives_another c n (by_apply_32 κs a r s p) = found _ _ (of_pieces r.answer)
no_call_gives_another c n (by_write κs a r s p) = found _ _ (of_write r)
no_call_gives_another c n (by_read_turn κs a r s p) = found _ _ (of_stop r.stop)
no_call_gives_another c n (by_turn_under κs a r s p) = found _ _ (of_stop r.stop)
no_call_gives_another c n (by_judge κs a r s p) = found _ _ (of_verdict r.verdict)
no_call_gives_another c n (by_read_complete κs a r s p) = found _ _ (of_completion r)
no_call_gives_another c n (by_receive_start κs a r s p) = found _ _ (of_begin r.answer)
no_call_gives_another c n (by_receive κs a r s p) = found (0 ∷ order receiving) (receive_number r.answer) (of_receive _ _ _ _ _ r.answer (receive_as_told κs a r s p))
no_call_gives_another c n (by_receive_block κs a r s p) = found (0 ∷ order receiving) (receive_number r.answer) (of_receive _ _ _ _ _ r.answer (receive_block_as_told κs a r s p))
no_call_gives_another c n (by_receive_complete κs a r s p) = found _ _ (of_completion r)
no_call_gives_another c n (by_read_resume κs a r s p) = found _ _ (of_resume r.answer)
no_call_gives_another c n (by_wrap κs a r s p) = found _ _ (of_wrap r (wrap_as_told κs a r s p).1)
no_call_gives_another c n (by_unwrap κs a r s p) = found _ _ (of_unwrap r)
no_call_gives_another c n (by_made_number κs a r s p) = found (0 ∷ order viewing) r (rw p (of_made _))
no_call_gives_another c n (by_shown_number κs a r s p) = found (0 ∷ order showing) r (rw p (of_shown _ a.1.0))
no_call_gives_another c n (by_view_of κs a r s p) = found (0 ∷ order viewing) (answer_number r) (rw p.0 (of_made _))
no_call_gives_another c n (by_view_block κs a r s p) = found (0 ∷ order showing) (answer_number r) (rw p.0 (of_shown _ a.1.0))
no_call_gives_another c n (by_view_check κs a r s p) = found (0 ∷ order showing) (answer_number r) (rw p.0 (of_shown _ a.1.0))
no_call_gives_another c n (by_block_answer_made κs a r s p) = found (0 ∷ order viewing) r.made (subst (λ (x : ViewAnswer). among (0 ∷ order viewing) x.made ≡ true) (sym p) (of_view 0 512 a.0 a.1.0).0)
no_call_gives_another c n (by_block_answer κs a r s p) = found (0 ∷ order showing) r.number (subst (λ (x : ViewAnswer). among (0 ∷ order showing) x.number ≡ true) (sym p) (of_view 0 512 a.0 a.1.0).1)
no_call_gives_another c n (by_check_answer_made κs a r s p) = found (0 ∷ order viewing) r.made (subst (λ (x : ViewAnswer). among (0 ∷ order viewing) x.made ≡ true) (sym p) (of_view 496 16 a.0 a.1.0).0)
no_call_gives_another c n (by_check_answer κs a r s p) = found (0 ∷ order showing) r.number (subst (λ (x : ViewAnswer). among (0 ∷ order showing) x.number ≡ true) (sym p) (of_view 496 16 a.0 a.1.0).1)
no_call_gives_another c n (by_seal κs a r s p) = found _ _ (of_seal r (seal_as_told κs a r s p).1)
no_call_gives_another c n (by_open κs a r s p) = found _ _ (of_open r)
no_call_gives_another c n (by_dock_schedule κs a r s p) = let b = dock_schedule_is_new κs a r s p in found (0 ∷ order keyed) r.number (subst (λ (x : ScheduleAnswer). among (0 ∷ order keyed) x.number ≡ true) (sym b.2) (of_key b.0.answer))
no_call_gives_another c n (by_dock_encrypt κs a r s p) = let b = dock_encrypt_is_encrypt κs a r s p in found (0 ∷ order keyed) r.number (subst (λ (x : BlockAnswer). among (0 ∷ order keyed) x.number ≡ true) (sym b.2) (of_key b.0.answer))
no_call_gives_another c n (by_dock_decrypt κs a r s p) = let b = dock_decrypt_is_decrypt κs a r s p in found (0 ∷ order keyed) r.number (subst (λ (x : BlockAnswer). among (0 ∷ order keyed) x.number ≡ true) (sym b.2) (of_key b.0.answer))
no_call_gives_another c n (by_dock_check κs a r s p) = let b = dock_check_is_check κs a r s p in found (0 ∷ order keyed) r.number (subst (λ (x : CheckAnswer). among (0 ∷ order keyed) x.number ≡ true) (sym b.2) (of_key b.0.answer))
no_call_gives_another c n (by_dock_check_start κs a r s p) = let b = dock_check_start_is_start κs a r s p in found (0 ∷ order keyed) r.number (subst (λ (x : StartAnswer). among (0 ∷ order keyed) x.number ≡ true) (sym b.2) (of_key b.0.answer))
no_call_gives_another c n (by_dock_read_start κs a r s p) = let b = dock_read_start_is_read_start κs a r s p in found (0 ∷ order keyed) r.number (subst (λ (x : ReadStartAnswer). among (0 ∷ order keyed) x.number ≡ true) (sym b.2) (of_key b.0.answer))
no_call_gives_another c n (by_dock_ecb_encrypt κs a r s p) = let b = dock_ecb_encrypt_is_apply κs a r s p in found (0 ∷ order pieces) r (rw b.2 (of_pieces b.0.answer))
no_call_gives_another c n (by_dock_ecb_decrypt κs a r s p) = let b = dock_ecb_decrypt_is_apply κs a r s p in found (0 ∷ order pieces) r (rw b.2 (of_pieces b.0.answer))
no_call_gives_another c n (by_dock_cbc_encrypt κs a r s p) = let b = dock_cbc_encrypt_is_apply κs a r s p in found (0 ∷ order pieces) r.number (subst (λ (x : ChainAnswer). among (0 ∷ order pieces) x.number ≡ true) (sym b.2) (of_pieces b.0.answer))
no_call_gives_another c n (by_dock_cbc_decrypt κs a r s p) = let b = dock_cbc_decrypt_is_apply κs a r s p in found (0 ∷ order pieces) r.number (subst (λ (x : ChainAnswer). among (0 ∷ order pieces) x.number ≡ true) (sym b.2) (of_pieces b.0.answer))
no_call_gives_another c n (by_dock_cfb_encrypt κs a r s p) = let b = dock_cfb_encrypt_is_apply κs a r s p in found (0 ∷ order pieces) r.number (subst (λ (x : ChainAnswer). among (0 ∷ order pieces) x.number ≡ true) (sym b.2) (of_pieces b.0.answer))
no_call_gives_another c n (by_dock_cfb_decrypt κs a r s p) = let b = dock_cfb_decrypt_is_apply κs a r s p in found (0 ∷ order pieces) r.number (subst (λ (x : ChainAnswer). among (0 ∷ order pieces) x.number ≡ true) (sym b.2) (of_pieces b.0.answer))
no_call_gives_another c n (by_dock_ofb κs a r s p) = let b = dock_ofb_is_apply κs a r s p in found (0 ∷ order ofb) r.number (subst (λ (x : ChainAnswer). among (0 ∷ order ofb) x.number ≡ true) (sym b.2) (of_ofb b.0.answer (λ e. not_pieces_not_ofb κs (Ofb, a) b.0 (Ofb, s) b.1 e refl)))
no_call_gives_another c n (by_dock_wide24_ecb_encrypt κs a r s p) = wide_number Six EncryptEcb a.0.now a.1.0.now a.1.1.0.now a.1.1.1.0.now r (dock_wide24_ecb_encrypt_is_apply κs a r s p).0
no_call_gives_another c n (by_dock_wide24_ecb_decrypt κs a r s p) = wide_number Six DecryptEcb a.0.now a.1.0.now a.1.1.0.now a.1.1.1.0.now r (dock_wide24_ecb_decrypt_is_apply κs a r s p).0
no_call_gives_another c n (by_dock_wide24_cbc_encrypt κs a r s p) = wide_number Six EncryptCbc a.0.now a.1.0.now a.1.1.0.now a.1.1.1.0.now r.number (dock_wide24_cbc_encrypt_is_apply κs a r s p).0.0
no_call_gives_another c n (by_dock_wide24_cbc_decrypt κs a r s p) = wide_number Six DecryptCbc a.0.now a.1.0.now a.1.1.0.now a.1.1.1.0.now r.number (dock_wide24_cbc_decrypt_is_apply κs a r s p).0.0
no_call_gives_another c n (by_dock_wide32_ecb_encrypt κs a r s p) = wide_number Eight EncryptEcb a.0.now a.1.0.now a.1.1.0.now a.1.1.1.0.now r (dock_wide32_ecb_encrypt_is_apply κs a r s p).0
no_call_gives_another c n (by_dock_wide32_ecb_decrypt κs a r s p) = wide_number Eight DecryptEcb a.0.now a.1.0.now a.1.1.0.now a.1.1.1.0.now r (dock_wide32_ecb_decrypt_is_apply κs a r s p).0
no_call_gives_another c n (by_dock_wide32_cbc_encrypt κs a r s p) = wide_number Eight EncryptCbc a.0.now a.1.0.now a.1.1.0.now a.1.1.1.0.now r.number (dock_wide32_cbc_encrypt_is_apply κs a r s p).0.0
no_call_gives_another c n (by_dock_wide32_cbc_decrypt κs a r s p) = wide_number Eight DecryptCbc a.0.now a.1.0.now a.1.1.0.now a.1.1.1.0.now r.number (dock_wide32_cbc_decrypt_is_apply κs a r s p).0.0
no_call_gives_another c n (by_dock_write κs a r s p) = let b = dock_write_is_write κs a r s p in found (0 ∷ order writing) r (rw b.2 (of_write b.0))
no_call_gives_another c n (by_dock_read_turn κs a r s p) = let b = dock_read_turn_is_read_turn κs a r s p in found (0 ∷ order turning) r.number (subst (λ (x : TurnAnswer). among (0 ∷ order turning) x.number ≡ true) (sym b.2) (of_told b.0.stop).0)
no_call_gives_another c n (by_dock_read_turn_reason κs a r s p) = let b = dock_read_turn_is_read_turn κs a r s p in found (0 ∷ order judging) r.reason (subst (λ (x : TurnAnswer). among (0 ∷ order judging) x.reason ≡ true) (sym b.2) (of_told b.0.stop).1)
no_call_gives_another c n (by_dock_read_complete κs a r s p) = let b = dock_read_complete_is_read_complete κs a r s p in found (0 ∷ order completing) r (rw b.2 (of_completion b.0))
no_call_gives_another c n (by_dock_read_resume κs a r s p) = let b = dock_read_resume_is_read_resume κs a r s p in found (0 ∷ order resuming) r.number (subst (λ (x : ResumedForC). among (0 ∷ order resuming) x.number ≡ true) (sym b.2) (of_resume b.0.answer))
no_call_gives_another c n (by_dock_receive_start κs a r s p) = let b = dock_receive_start_is_receive_start κs a r s p in found (0 ∷ order beginning) r.number (subst (λ (x : ReceiverAnswer). among (0 ∷ order beginning) x.number ≡ true) (sym b.2) (of_begin b.0.answer))
no_call_gives_another c n (by_dock_receive κs a r s p) =
    let b = dock_receive_is_receive κs a r s p in
    found (0 ∷ order receiving) r.number (subst (λ (x : ReceiverAnswer). among (0 ∷ order receiving) x.number ≡ true) (sym b.2) (of_receive _ _ _ _ _ b.0.answer (receive_as_told κs a b.0 s b.1)))
no_call_gives_another c n (by_dock_receive_complete κs a r s p) = let b = dock_receive_complete_is_receive_complete κs a r s p in found (0 ∷ order completing) r (rw b.2 (of_completion b.0))
no_call_gives_another c n (by_dock_wrap κs a r s p) = let b = dock_wrap_is_wrap κs a r s p in found (0 ∷ order wrapping) r (rw b.2 (of_wrap b.0 (wrap_as_told κs a b.0 s b.1).1))
no_call_gives_another c n (by_dock_unwrap κs a r s p) = let b = dock_unwrap_is_unwrap κs a r s p in found (0 ∷ order unwrapping) r (rw b.2 (of_unwrap b.0))
no_call_gives_another c n (by_dock_view_block_made κs a r s p) = found (0 ∷ order viewing) r.made (subst (λ (x : ViewAnswer). among (0 ∷ order viewing) x.made ≡ true) (sym p) (of_view 0 512 a.0 a.1.0).0)
no_call_gives_another c n (by_dock_view_block κs a r s p) = found (0 ∷ order showing) r.number (subst (λ (x : ViewAnswer). among (0 ∷ order showing) x.number ≡ true) (sym p) (of_view 0 512 a.0 a.1.0).1)
no_call_gives_another c n (by_dock_view_check_made κs a r s p) = found (0 ∷ order viewing) r.made (subst (λ (x : ViewAnswer). among (0 ∷ order viewing) x.made ≡ true) (sym p) (of_view 496 16 a.0 a.1.0).0)
no_call_gives_another c n (by_dock_view_check κs a r s p) = found (0 ∷ order showing) r.number (subst (λ (x : ViewAnswer). among (0 ∷ order showing) x.number ≡ true) (sym p) (of_view 496 16 a.0 a.1.0).1)
no_call_gives_another c n (by_dock_ccm_seal κs a r s p) = let b = dock_ccm_seal_is_seal κs a r s p in found (0 ∷ order sealing) r (rw b.2 (of_seal b.0 (seal_as_told κs a b.0 s b.1).1))
no_call_gives_another c n (by_dock_ccm_open κs a r s p) = let b = dock_ccm_open_is_open κs a r s p in found (0 ∷ order opening) r (rw b.2 (of_open b.0))

no_11 : (c : Row) → among (0 ∷ order c) 11 ≡ false
unfolding among
no_11 keyed = refl
no_11 pieces = refl
no_11 ofb = refl
no_11 writing = refl
no_11 turning = refl
no_11 judging = refl
no_11 completing = refl
no_11 wrapping = refl
no_11 unwrapping = refl
no_11 viewing = refl
no_11 showing = refl
no_11 sealing = refl
no_11 opening = refl
no_11 beginning = refl
no_11 receiving = refl
no_11 resuming = refl

-- and 11 is in no row
pub no_call_gives_11 : (c : Row) → Gives c 11 → ⊥
no_call_gives_11 c g = missing (0 ∷ order c) 11 (no_11 c) (no_call_gives_another c 11 g)
