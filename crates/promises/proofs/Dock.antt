-- Demand 1 for what C links: each exported call asks nothing of its caller, any two outcomes that its contract allows agree, its answer
-- is that of the call below it, and one that answers another number than 0 leaves the output as it was. Assumes nothing.
use mathlib.Core.Path.{◌≡◌, refl, sym, ap, ap₂, ◌∙◌}
use mathlib.Core.List.{List}
use Prim.Native.Nat.{ℕ}
use seplogic.Ra.Ura.{Ura}
use base.Logic.{SProp, ent, emp}
use prog.Memory.{Memory}
use prog.Routine.{Routine}
use types.Logic.{Logic}
use contract.Monad.{Fun, fact, fact_i, fact_use}
use contract.Lifetimes.{Lfts}
use denote.Ref.{Bor}
use denote.MutBor.{MutBor}
use lib.ListN.{replicate}
use Rattle.modes_answer.specs.Answers.{mode_number}
use Rattle.modes.specs.Calls.{mode_answer}
use Rattle.modes.specs.declared.Applied.{Applied}
use Rattle.modes_spec.specs.declared.Operation.{Operation}
use Rattle.modes_spec.specs.declared.Operation.TheVariants.{EcbEncrypt, EcbDecrypt, CbcEncrypt, CbcDecrypt, CfbEncrypt, CfbDecrypt, Ofb}
use Rattle.image_writer_answer.specs.Answers.{write_number}
use Rattle.image_progress.specs.Progress.{completion_number}
use Rattle.image_reader.specs.Calls.{start_of, turn_of}
use Rattle.image_reader_tally.specs.declared.Stop.{Stop}
use Rattle.image_reader_tally.specs.declared.Stop.TheVariants.{End, Asked, Lent, Room, At}
use Rattle.image_reader.specs.declared.Turn.{Turn}
use Rattle.wrap_answer.specs.Answers.{wrap_number}
use Rattle.ccm_answer.specs.Answers.{ccm_number}
use Rattle.dock.specs.Answers.{schedule_answer, block_answer, mode_applied, chain_answer, after_mode, check_answer, start_answer, close_answer, read_start_answer, resume_answer, numbers}
use Rattle.dock_turn.specs.Answers.{told_of, turn_answer}
use Rattle.dock.specs.declared.ChainAnswer.{ChainAnswer}
use Rattle.dock.specs.declared.ReadStartAnswer.{ReadStartAnswer}
use Rattle.dock_turn.specs.declared.TurnAnswer.{TurnAnswer}
use Rattle.promises.proofs.Image.Words.{Whole}
use Rattle.promises.proofs.Image.Statements.{turn_refusal_keeps}
use Rattle.promises.proofs.Modes.{apply_refused_keeps, apply_refused_zeros}
use Rattle.promises.proofs.Image.Calls.{write_refused_keeps}
use Rattle.promises.proofs.Wrap.Calls.{wrap_refused_keeps, unwrap_refused_keeps}
use Rattle.promises.proofs.Ccm.Calls.{seal_refused_keeps, open_refused_keeps}
use Rattle.promises.proofs.Receiver.Calls.{receive_start_refused_keeps, receive_refused_keeps}
use Rattle.image_receiver.specs.Calls.{begin_of, receive_of}
use Rattle.image_receiver.specs.declared.ReceiveStarted.{ReceiveStarted}
use Rattle.image_receiver.specs.declared.ReceiveDone.{ReceiveDone}
use Rattle.dock_receive.specs.Answers.{start_told, done_told, done_telling}
use Rattle.dock_receive.specs.declared.ReceiverAnswer.{ReceiverAnswer}
use Rattle.field.proofs.product.Reads as product
use Rattle.aes_schedule.proofs.KeySchedule.new.Reads as new
use Rattle.aes.proofs.encrypt.Reads as encrypt
use Rattle.aes.proofs.decrypt.Reads as decrypt
use Rattle.modes.proofs.apply.Reads as apply
use Rattle.cmac.proofs.check.Reads as check
use Rattle.cmac.proofs.start.Reads as start
use Rattle.cmac.proofs.fed_with.Reads as fed-with
use Rattle.cmac.proofs.close.Reads as close
use Rattle.image_writer.proofs.write.Reads as write
use Rattle.image_reader.proofs.read_start.Reads as read_start
use Rattle.image_reader.proofs.read_turn.Reads as read_turn
use Rattle.image_reader.proofs.read_complete.Reads as read_complete
use Rattle.image_reader_bookmark.proofs.read_save.Reads as read_save
use Rattle.image_reader_bookmark.proofs.read_resume.Reads as read_resume
use Rattle.wrap.proofs.wrap.Reads as wrap
use Rattle.wrap.proofs.unwrap.Reads as unwrap
use Rattle.ccm.proofs.seal.Reads as seal
use Rattle.ccm.proofs.open.Reads as open_call
use Rattle.dock_turn.proofs.turn_answer.Reads as turn-answer
use Rattle.dock_receive.proofs.start_told.Reads as start-told
use Rattle.dock_receive.proofs.done_told.Reads as done-told
use Rattle.image_receiver.proofs.receive_start.Reads as receive_start
use Rattle.image_receiver.proofs.receive.Reads as receive
use Rattle.image_receiver.proofs.receive_complete.Reads as receive_complete
use Rattle.dock.proofs.dock_product.Reads as dock_product
use Rattle.dock.proofs.dock_schedule.Reads as dock_schedule
use Rattle.dock.proofs.dock_encrypt.Reads as dock_encrypt
use Rattle.dock.proofs.dock_decrypt.Reads as dock_decrypt
use Rattle.dock.proofs.dock_ecb_encrypt.Reads as dock_ecb_encrypt
use Rattle.dock.proofs.dock_ecb_decrypt.Reads as dock_ecb_decrypt
use Rattle.dock.proofs.dock_cbc_encrypt.Reads as dock_cbc_encrypt
use Rattle.dock.proofs.dock_cbc_decrypt.Reads as dock_cbc_decrypt
use Rattle.dock.proofs.dock_cfb_encrypt.Reads as dock_cfb_encrypt
use Rattle.dock.proofs.dock_cfb_decrypt.Reads as dock_cfb_decrypt
use Rattle.dock.proofs.dock_ofb.Reads as dock_ofb
use Rattle.dock.proofs.dock_check.Reads as dock_check
use Rattle.dock.proofs.dock_check_start.Reads as dock_check_start
use Rattle.dock.specs.contracts.dock_check_feed as dock_check_feed
use Rattle.dock.proofs.dock_check_close.Reads as dock_check_close
use Rattle.dock.proofs.dock_write.Reads as dock_write
use Rattle.dock.proofs.dock_read_start.Reads as dock_read_start
use Rattle.dock.proofs.dock_read_turn.Reads as dock_read_turn
use Rattle.dock.proofs.dock_read_complete.Reads as dock_read_complete
use Rattle.dock.proofs.dock_read_save.Reads as dock_read_save
use Rattle.dock.proofs.dock_read_resume.Reads as dock_read_resume
use Rattle.dock.proofs.dock_receive_start.Reads as dock_receive_start
use Rattle.dock.proofs.dock_receive.Reads as dock_receive
use Rattle.dock.proofs.dock_receive_complete.Reads as dock_receive_complete
use Rattle.dock.proofs.dock_wrap.Reads as dock_wrap
use Rattle.dock.proofs.dock_unwrap.Reads as dock_unwrap
use Rattle.dock.proofs.dock_ccm_seal.Reads as dock_ccm_seal
use Rattle.dock.proofs.dock_ccm_open.Reads as dock_ccm_open

-- ---- an export is the call below it

-- An answer for C is that of the call below: the contract of that call allows some x, and the answer is x with numbers in place of
-- enums. So whatever is proved of the call below holds of the export.
abbrev pub AsBelow : {X R : Type 0} → (X → R) → (X → Type 0) → R → Type 0
AsBelow {X} told below r = (x : X) × below x × (r ≡ told x)

-- what the call below keeps where its number is not 0
refused_below : {X K : Type 0} {number : X → ℕ} {below : X → Type 0} {r : ℕ} → AsBelow number below r
    → ((x : X) → below x → (number x ≡ 0 → ⊥) → K) → (r ≡ 0 → ⊥) → K
refused_below b keeps h = keeps b.0 b.1 (λ z. h (b.2 ∙ z))

-- ---- the field, the key schedule and one block

pub dock_product_asks_nothing : (κs : _) (a : _) → dock_product.Asked κs a
dock_product_asks_nothing κs a = tt

pub dock_product_determined : (κs : _) (a : _) (r r' : _) (s s' : _) → dock_product.Post κs a r s → dock_product.Post κs a r' s' → r ≡ r'
dock_product_determined κs a r r' s s' p q = p ∙ sym q

pub dock_product_is_product : (κs : _) (a : _) (r : _) (s : _) → dock_product.Post κs a r s → product.Post κs a r s
dock_product_is_product κs a r s p = p

pub dock_schedule_asks_nothing : (κs : _) (a : _) → dock_schedule.Asked κs a
dock_schedule_asks_nothing κs a = tt

pub dock_schedule_determined : (κs : _) (a : _) (r r' : _) (s s' : _) → dock_schedule.Post κs a r s → dock_schedule.Post κs a r' s' → r ≡ r'
dock_schedule_determined κs a r r' s s' p q = p ∙ sym q

pub dock_schedule_is_new : (κs : _) (a : _) (r : _) (s : _) → dock_schedule.Post κs a r s → AsBelow schedule_answer (λ x. new.Post κs a x s) r
dock_schedule_is_new κs a r s p = (_, refl, p)

pub dock_encrypt_asks_nothing : (κs : _) (a : _) → dock_encrypt.Asked κs a
dock_encrypt_asks_nothing κs a = tt

pub dock_encrypt_determined : (κs : _) (a : _) (r r' : _) (s s' : _) → dock_encrypt.Post κs a r s → dock_encrypt.Post κs a r' s' → r ≡ r'
dock_encrypt_determined κs a r r' s s' p q = p ∙ sym q

pub dock_encrypt_is_encrypt : (κs : _) (a : _) (r : _) (s : _) → dock_encrypt.Post κs a r s
    → AsBelow block_answer (λ x. encrypt.Post κs (a.0, (a.1.0.bytes, tt)) x (s.0, (s.1.0.bytes, tt))) r
dock_encrypt_is_encrypt κs a r s p = (_, refl, p)

pub dock_decrypt_asks_nothing : (κs : _) (a : _) → dock_decrypt.Asked κs a
dock_decrypt_asks_nothing κs a = tt

pub dock_decrypt_determined : (κs : _) (a : _) (r r' : _) (s s' : _) → dock_decrypt.Post κs a r s → dock_decrypt.Post κs a r' s' → r ≡ r'
dock_decrypt_determined κs a r r' s s' p q = p ∙ sym q

pub dock_decrypt_is_decrypt : (κs : _) (a : _) (r : _) (s : _) → dock_decrypt.Post κs a r s
    → AsBelow block_answer (λ x. decrypt.Post κs (a.0, (a.1.0.bytes, tt)) x (s.0, (s.1.0.bytes, tt))) r
dock_decrypt_is_decrypt κs a r s p = (_, refl, p)

-- ---- the modes

-- key, IV, input and output as they are lent
abbrev pub Slices : Type 0
Slices = Bor (List ℕ) × (Bor (List ℕ) × (Bor (List ℕ) × (MutBor (List ℕ) × Unit {0})))

abbrev pub AsApply : {R : Type 0} → (Applied → R) → Operation → Lfts 4 → Slices → R → Slices → Type 0
AsApply told o κs a r s = AsBelow told (λ x. apply.Post κs (o, a) x (o, s)) r

-- ECB answers the number alone, the others beside it what is handed on
abbrev pub applied_number : Applied → ℕ
applied_number x = mode_number x.answer

applied : (o : Operation) (κs : Lfts 4) (a : Slices) (r : ℕ) (s : Slices) → r ≡ mode_number (mode_answer o a.0.now a.1.0.now a.1.1.0.now a.1.1.1.0.now)
    → s.1.1.1.0.now ≡ after_mode o a.0.now a.1.0.now a.1.1.0.now a.1.1.1.0.now → AsApply applied_number o κs a r s
unfolding after_mode
applied o κs a r s e w = (_, (refl, w), e)

chained : (o : Operation) (κs : Lfts 4) (a : Slices) (r : ChainAnswer) (s : Slices) → r ≡ chain_answer (mode_applied o a.0.now a.1.0.now a.1.1.0.now a.1.1.1.0.now)
    → s.1.1.1.0.now ≡ after_mode o a.0.now a.1.0.now a.1.1.0.now a.1.1.1.0.now → AsApply chain_answer o κs a r s
unfolding after_mode mode_applied
chained o κs a r s e w = (_, (refl, w), e)

apply_keeps : (o : Operation) (κs : Lfts 4) (a : Slices) (r : ℕ) (s : Slices) → AsApply applied_number o κs a r s → (r ≡ 0 → ⊥) → s.1.1.1.0.now ≡ a.1.1.1.0.now
apply_keeps o κs a r s b h = refused_below b (λ x q. apply_refused_keeps κs (o, a) x (o, s) q) h

-- a refused call leaves the output as it was, and hands on zeros
chain_keeps : (o : Operation) (κs : Lfts 4) (a : Slices) (r : ChainAnswer) (s : Slices) → AsApply chain_answer o κs a r s → (r.number ≡ 0 → ⊥)
    → (s.1.1.1.0.now ≡ a.1.1.1.0.now) × (r.next ≡ replicate 16 0)
chain_keeps o κs a r s b h =
    let e : r ≡ chain_answer b.0 = b.2 in
    let no_zero : mode_number b.0.answer ≡ 0 → ⊥ = λ z. h (ap (λ (x : ChainAnswer). x.number) e ∙ z) in (
      apply_refused_keeps κs (o, a) b.0 (o, s) b.1 no_zero,
      ap (λ (x : ChainAnswer). x.next) e ∙ apply_refused_zeros κs (o, a) b.0 (o, s) b.1 no_zero,
    )

pub dock_ecb_encrypt_asks_nothing : (κs : _) (a : _) → dock_ecb_encrypt.Asked κs a
dock_ecb_encrypt_asks_nothing κs a = tt

pub dock_ecb_encrypt_determined : (κs : _) (a : _) (r r' : _) (s s' : _) → dock_ecb_encrypt.Post κs a r s → dock_ecb_encrypt.Post κs a r' s'
    → (r ≡ r') × (s.1.1.1.0.now ≡ s'.1.1.1.0.now)
dock_ecb_encrypt_determined κs a r r' s s' p q = (p.0 ∙ sym q.0, p.1 ∙ sym q.1)

pub dock_ecb_encrypt_is_apply : (κs : _) (a : _) (r : _) (s : _) → dock_ecb_encrypt.Post κs a r s → AsApply applied_number EcbEncrypt κs a r s
dock_ecb_encrypt_is_apply κs a r s p = applied EcbEncrypt κs a r s p.0 p.1

pub dock_ecb_encrypt_refused_keeps : (κs : _) (a : _) (r : _) (s : _) → dock_ecb_encrypt.Post κs a r s → (r ≡ 0 → ⊥) → s.1.1.1.0.now ≡ a.1.1.1.0.now
dock_ecb_encrypt_refused_keeps κs a r s p h = apply_keeps EcbEncrypt κs a r s (dock_ecb_encrypt_is_apply κs a r s p) h

pub dock_ecb_decrypt_asks_nothing : (κs : _) (a : _) → dock_ecb_decrypt.Asked κs a
dock_ecb_decrypt_asks_nothing κs a = tt

pub dock_ecb_decrypt_determined : (κs : _) (a : _) (r r' : _) (s s' : _) → dock_ecb_decrypt.Post κs a r s → dock_ecb_decrypt.Post κs a r' s'
    → (r ≡ r') × (s.1.1.1.0.now ≡ s'.1.1.1.0.now)
dock_ecb_decrypt_determined κs a r r' s s' p q = (p.0 ∙ sym q.0, p.1 ∙ sym q.1)

pub dock_ecb_decrypt_is_apply : (κs : _) (a : _) (r : _) (s : _) → dock_ecb_decrypt.Post κs a r s → AsApply applied_number EcbDecrypt κs a r s
dock_ecb_decrypt_is_apply κs a r s p = applied EcbDecrypt κs a r s p.0 p.1

pub dock_ecb_decrypt_refused_keeps : (κs : _) (a : _) (r : _) (s : _) → dock_ecb_decrypt.Post κs a r s → (r ≡ 0 → ⊥) → s.1.1.1.0.now ≡ a.1.1.1.0.now
dock_ecb_decrypt_refused_keeps κs a r s p h = apply_keeps EcbDecrypt κs a r s (dock_ecb_decrypt_is_apply κs a r s p) h

pub dock_cbc_encrypt_asks_nothing : (κs : _) (a : _) → dock_cbc_encrypt.Asked κs a
dock_cbc_encrypt_asks_nothing κs a = tt

pub dock_cbc_encrypt_determined : (κs : _) (a : _) (r r' : _) (s s' : _) → dock_cbc_encrypt.Post κs a r s → dock_cbc_encrypt.Post κs a r' s'
    → (r ≡ r') × (s.1.1.1.0.now ≡ s'.1.1.1.0.now)
dock_cbc_encrypt_determined κs a r r' s s' p q = (p.0 ∙ sym q.0, p.1 ∙ sym q.1)

pub dock_cbc_encrypt_is_apply : (κs : _) (a : _) (r : _) (s : _) → dock_cbc_encrypt.Post κs a r s → AsApply chain_answer CbcEncrypt κs a r s
dock_cbc_encrypt_is_apply κs a r s p = chained CbcEncrypt κs a r s p.0 p.1

pub dock_cbc_encrypt_refused_keeps : (κs : _) (a : _) (r : _) (s : _) → dock_cbc_encrypt.Post κs a r s → (r.number ≡ 0 → ⊥)
    → (s.1.1.1.0.now ≡ a.1.1.1.0.now) × (r.next ≡ replicate 16 0)
dock_cbc_encrypt_refused_keeps κs a r s p h = chain_keeps CbcEncrypt κs a r s (dock_cbc_encrypt_is_apply κs a r s p) h

pub dock_cbc_decrypt_asks_nothing : (κs : _) (a : _) → dock_cbc_decrypt.Asked κs a
dock_cbc_decrypt_asks_nothing κs a = tt

pub dock_cbc_decrypt_determined : (κs : _) (a : _) (r r' : _) (s s' : _) → dock_cbc_decrypt.Post κs a r s → dock_cbc_decrypt.Post κs a r' s'
    → (r ≡ r') × (s.1.1.1.0.now ≡ s'.1.1.1.0.now)
dock_cbc_decrypt_determined κs a r r' s s' p q = (p.0 ∙ sym q.0, p.1 ∙ sym q.1)

pub dock_cbc_decrypt_is_apply : (κs : _) (a : _) (r : _) (s : _) → dock_cbc_decrypt.Post κs a r s → AsApply chain_answer CbcDecrypt κs a r s
dock_cbc_decrypt_is_apply κs a r s p = chained CbcDecrypt κs a r s p.0 p.1

pub dock_cbc_decrypt_refused_keeps : (κs : _) (a : _) (r : _) (s : _) → dock_cbc_decrypt.Post κs a r s → (r.number ≡ 0 → ⊥)
    → (s.1.1.1.0.now ≡ a.1.1.1.0.now) × (r.next ≡ replicate 16 0)
dock_cbc_decrypt_refused_keeps κs a r s p h = chain_keeps CbcDecrypt κs a r s (dock_cbc_decrypt_is_apply κs a r s p) h

pub dock_cfb_encrypt_asks_nothing : (κs : _) (a : _) → dock_cfb_encrypt.Asked κs a
dock_cfb_encrypt_asks_nothing κs a = tt

pub dock_cfb_encrypt_determined : (κs : _) (a : _) (r r' : _) (s s' : _) → dock_cfb_encrypt.Post κs a r s → dock_cfb_encrypt.Post κs a r' s'
    → (r ≡ r') × (s.1.1.1.0.now ≡ s'.1.1.1.0.now)
dock_cfb_encrypt_determined κs a r r' s s' p q = (p.0 ∙ sym q.0, p.1 ∙ sym q.1)

pub dock_cfb_encrypt_is_apply : (κs : _) (a : _) (r : _) (s : _) → dock_cfb_encrypt.Post κs a r s → AsApply chain_answer CfbEncrypt κs a r s
dock_cfb_encrypt_is_apply κs a r s p = chained CfbEncrypt κs a r s p.0 p.1

pub dock_cfb_encrypt_refused_keeps : (κs : _) (a : _) (r : _) (s : _) → dock_cfb_encrypt.Post κs a r s → (r.number ≡ 0 → ⊥)
    → (s.1.1.1.0.now ≡ a.1.1.1.0.now) × (r.next ≡ replicate 16 0)
dock_cfb_encrypt_refused_keeps κs a r s p h = chain_keeps CfbEncrypt κs a r s (dock_cfb_encrypt_is_apply κs a r s p) h

pub dock_cfb_decrypt_asks_nothing : (κs : _) (a : _) → dock_cfb_decrypt.Asked κs a
dock_cfb_decrypt_asks_nothing κs a = tt

pub dock_cfb_decrypt_determined : (κs : _) (a : _) (r r' : _) (s s' : _) → dock_cfb_decrypt.Post κs a r s → dock_cfb_decrypt.Post κs a r' s'
    → (r ≡ r') × (s.1.1.1.0.now ≡ s'.1.1.1.0.now)
dock_cfb_decrypt_determined κs a r r' s s' p q = (p.0 ∙ sym q.0, p.1 ∙ sym q.1)

pub dock_cfb_decrypt_is_apply : (κs : _) (a : _) (r : _) (s : _) → dock_cfb_decrypt.Post κs a r s → AsApply chain_answer CfbDecrypt κs a r s
dock_cfb_decrypt_is_apply κs a r s p = chained CfbDecrypt κs a r s p.0 p.1

pub dock_cfb_decrypt_refused_keeps : (κs : _) (a : _) (r : _) (s : _) → dock_cfb_decrypt.Post κs a r s → (r.number ≡ 0 → ⊥)
    → (s.1.1.1.0.now ≡ a.1.1.1.0.now) × (r.next ≡ replicate 16 0)
dock_cfb_decrypt_refused_keeps κs a r s p h = chain_keeps CfbDecrypt κs a r s (dock_cfb_decrypt_is_apply κs a r s p) h

pub dock_ofb_asks_nothing : (κs : _) (a : _) → dock_ofb.Asked κs a
dock_ofb_asks_nothing κs a = tt

pub dock_ofb_determined : (κs : _) (a : _) (r r' : _) (s s' : _) → dock_ofb.Post κs a r s → dock_ofb.Post κs a r' s'
    → (r ≡ r') × (s.1.1.1.0.now ≡ s'.1.1.1.0.now)
dock_ofb_determined κs a r r' s s' p q = (p.0 ∙ sym q.0, p.1 ∙ sym q.1)

pub dock_ofb_is_apply : (κs : _) (a : _) (r : _) (s : _) → dock_ofb.Post κs a r s → AsApply chain_answer Ofb κs a r s
dock_ofb_is_apply κs a r s p = chained Ofb κs a r s p.0 p.1

pub dock_ofb_refused_keeps : (κs : _) (a : _) (r : _) (s : _) → dock_ofb.Post κs a r s → (r.number ≡ 0 → ⊥)
    → (s.1.1.1.0.now ≡ a.1.1.1.0.now) × (r.next ≡ replicate 16 0)
dock_ofb_refused_keeps κs a r s p h = chain_keeps Ofb κs a r s (dock_ofb_is_apply κs a r s p) h

-- ---- the check

pub dock_check_asks_nothing : (κs : _) (a : _) → dock_check.Asked κs a
dock_check_asks_nothing κs a = tt

pub dock_check_determined : (κs : _) (a : _) (r r' : _) (s s' : _) → dock_check.Post κs a r s → dock_check.Post κs a r' s' → r ≡ r'
dock_check_determined κs a r r' s s' p q = p ∙ sym q

pub dock_check_is_check : (κs : _) (a : _) (r : _) (s : _) → dock_check.Post κs a r s → AsBelow check_answer (λ x. check.Post κs a x s) r
dock_check_is_check κs a r s p = (_, refl, p)

pub dock_check_start_asks_nothing : (κs : _) (a : _) → dock_check_start.Asked κs a
dock_check_start_asks_nothing κs a = tt

pub dock_check_start_determined : (κs : _) (a : _) (r r' : _) (s s' : _) → dock_check_start.Post κs a r s → dock_check_start.Post κs a r' s' → r ≡ r'
dock_check_start_determined κs a r r' s s' p q = p ∙ sym q

pub dock_check_start_is_start : (κs : _) (a : _) (r : _) (s : _) → dock_check_start.Post κs a r s → AsBelow start_answer (λ x. start.Post κs a x s) r
dock_check_start_is_start κs a r s p = (_, refl, p)

-- exception: dock::dock_check_feed: it is lent the record by `&mut`, for which no `Reads` is made; the same is said over the clauses of its contract
module _ {M : Type 1} {𝓤 : Ura M} (𝓛 : Logic 𝓤) (mem : Memory → SProp 𝓤) (run : Routine → Fun 𝓤) (κs : _) (a : _) where
  pub dock_check_feed_asks_nothing : (dock_check_feed.clauses 𝓛 mem run κs a).requires tt ≡ emp 𝓤
  dock_check_feed_asks_nothing = refl

  pub dock_check_feed_determined : (r r' : _) (s s' : _) (P : SProp 𝓤)
      → ent 𝓤 P ((dock_check_feed.clauses 𝓛 mem run κs a).ensures tt r s) → ent 𝓤 P ((dock_check_feed.clauses 𝓛 mem run κs a).ensures tt r' s')
      → ent 𝓤 P (fact 𝓤 (s.0.now ≡ s'.0.now))
  dock_check_feed_determined r r' s s' P p q = fact_use 𝓤 _ p (λ e. fact_use 𝓤 _ q (λ f. fact_i 𝓤 _ P (e ∙ sym f)))

  pub dock_check_feed_is_fed_with : (r : _) (s : _) (P : SProp 𝓤) → ent 𝓤 P ((dock_check_feed.clauses 𝓛 mem run κs a).ensures tt r s)
      → ent 𝓤 P (fact 𝓤 (fed-with.Post κs.1 (a.0.now, a.1) s.0.now (s.0.now, s.1)))
  dock_check_feed_is_fed_with r s P p = p

pub dock_check_close_asks_nothing : (κs : _) (a : _) → dock_check_close.Asked κs a
dock_check_close_asks_nothing κs a = tt

pub dock_check_close_determined : (κs : _) (a : _) (r r' : _) (s s' : _) → dock_check_close.Post κs a r s → dock_check_close.Post κs a r' s' → r ≡ r'
dock_check_close_determined κs a r r' s s' p q = p ∙ sym q

pub dock_check_close_is_close : (κs : _) (a : _) (r : _) (s : _) → dock_check_close.Post κs a r s → AsBelow close_answer (λ x. close.Post κs a x s) r
dock_check_close_is_close κs a r s p = (_, refl, p)

-- ---- images

pub dock_write_asks_nothing : (κs : _) (a : _) → dock_write.Asked κs a
dock_write_asks_nothing κs a = tt

pub dock_write_determined : (κs : _) (a : _) (r r' : _) (s s' : _) → dock_write.Post κs a r s → dock_write.Post κs a r' s'
    → (r ≡ r') × (s.1.1.1.1.1.1.1.1.0.now ≡ s'.1.1.1.1.1.1.1.1.0.now)
dock_write_determined κs a r r' s s' p q = (p.0 ∙ sym q.0, p.1 ∙ sym q.1)

-- with its numbers as one, and the check before out of its struct
pub dock_write_is_write : (κs : _) (a : _) (r : _) (s : _) → dock_write.Post κs a r s
    → AsBelow write_number (λ x. write.Post κs (a.0, (a.1.0, (numbers a.1.1.0 a.1.1.1.0 a.1.1.1.1.0 a.1.1.1.1.1.0, (a.1.1.1.1.1.1.0.bytes, (a.1.1.1.1.1.1.1.0, (a.1.1.1.1.1.1.1.1.0, tt)))))) x
    (s.0, (s.1.0, (numbers a.1.1.0 a.1.1.1.0 a.1.1.1.1.0 a.1.1.1.1.1.0, (a.1.1.1.1.1.1.0.bytes, (s.1.1.1.1.1.1.1.0, (s.1.1.1.1.1.1.1.1.0, tt))))))) r
dock_write_is_write κs a r s p = (_, (refl, p.1), p.0)

pub dock_write_refused_keeps : (κs : _) (a : _) (r : _) (s : _) → dock_write.Post κs a r s → (r ≡ 0 → ⊥) → s.1.1.1.1.1.1.1.1.0.now ≡ a.1.1.1.1.1.1.1.1.0.now
dock_write_refused_keeps κs a r s p h = refused_below (dock_write_is_write κs a r s p)
    (λ x b. write_refused_keeps κs (a.0, (a.1.0, (numbers a.1.1.0 a.1.1.1.0 a.1.1.1.1.0 a.1.1.1.1.1.0, (a.1.1.1.1.1.1.0.bytes, (a.1.1.1.1.1.1.1.0, (a.1.1.1.1.1.1.1.1.0, tt)))))) x (s.0, (s.1.0, (numbers a.1.1.0 a.1.1.1.0 a.1.1.1.1.0 a.1.1.1.1.1.0, (a.1.1.1.1.1.1.0.bytes, (s.1.1.1.1.1.1.1.0, (s.1.1.1.1.1.1.1.1.0, tt)))))) b) h

pub dock_read_start_asks_nothing : (κs : _) (a : _) → dock_read_start.Asked κs a
dock_read_start_asks_nothing κs a = tt

pub dock_read_start_determined : (κs : _) (a : _) (r r' : _) (s s' : _) → dock_read_start.Post κs a r s → dock_read_start.Post κs a r' s' → r ≡ r'
dock_read_start_determined κs a r r' s s' p q = p ∙ sym q

pub dock_read_start_is_read_start : (κs : _) (a : _) (r : _) (s : _) → dock_read_start.Post κs a r s → AsBelow read_start_answer (λ x. read_start.Post κs a x s) r
dock_read_start_is_read_start κs a r s p = (_, refl, p)

pub dock_read_save_asks_nothing : (κs : _) (a : _) → dock_read_save.Asked κs a
dock_read_save_asks_nothing κs a = tt

pub dock_read_save_determined : (κs : _) (a : _) (r r' : _) (s s' : _) → dock_read_save.Post κs a r s → dock_read_save.Post κs a r' s' → r ≡ r'
dock_read_save_determined κs a r r' s s' p q = ap (λ (b : List ℕ). record { bytes = b }) (p ∙ sym q)

pub dock_read_save_is_read_save : (κs : _) (a : _) (r : _) (s : _) → dock_read_save.Post κs a r s → read_save.Post κs a r.bytes s
dock_read_save_is_read_save κs a r s p = p

pub dock_read_resume_asks_nothing : (κs : _) (a : _) → dock_read_resume.Asked κs a
dock_read_resume_asks_nothing κs a = tt

pub dock_read_resume_determined : (κs : _) (a : _) (r r' : _) (s s' : _) → dock_read_resume.Post κs a r s → dock_read_resume.Post κs a r' s' → r ≡ r'
dock_read_resume_determined κs a r r' s s' p q = p ∙ sym q

pub dock_read_resume_is_read_resume : (κs : _) (a : _) (r : _) (s : _) → dock_read_resume.Post κs a r s
    → AsBelow resume_answer (λ x. read_resume.Post κs (a.0, (a.1.0, (a.1.1.0.bytes, tt))) x (s.0, (s.1.0, (s.1.1.0.bytes, tt)))) r
dock_read_resume_is_read_resume κs a r s p = (_, refl, p)

pub turn_answer_asks_nothing : (κs : _) (a : _) → turn-answer.Asked κs a
turn_answer_asks_nothing κs a = tt

pub turn_answer_determined : (κs : _) (a : _) (r r' : _) (s s' : _) → turn-answer.Post κs a r s → turn-answer.Post κs a r' s' → r ≡ r'
turn_answer_determined κs a r r' s s' p q = p ∙ sym q

pub dock_read_turn_asks_nothing : (κs : _) (a : _) → dock_read_turn.Asked κs a
dock_read_turn_asks_nothing κs a = tt

pub dock_read_turn_determined : (κs : _) (a : _) (r r' : _) (s s' : _) → dock_read_turn.Post κs a r s → dock_read_turn.Post κs a r' s'
    → (r ≡ r') × (s.1.1.1.0.now ≡ s'.1.1.1.0.now)
dock_read_turn_determined κs a r r' s s' p q = (p.0 ∙ sym q.0, p.1 ∙ sym q.1)

pub dock_read_turn_is_read_turn : (κs : _) (a : _) (r : _) (s : _) → dock_read_turn.Post κs a r s
    → AsBelow turn_answer (λ x. read_turn.Post κs a x s) r
dock_read_turn_is_read_turn κs a r s p =
    let t = turn_of a.0 a.1.0.now a.1.1.0 a.1.1.1.0.now in
    (t.0, ap (λ (o : List ℕ). (t.0, o)) p.1, p.0)

-- only a turn that is refused as a whole has a number
whole : (x : Stop) → ((told_of x).number ≡ 0 → ⊥) → Whole x
whole End h = h refl
whole Asked h = tt
whole Lent h = tt
whole Room h = tt
whole (At place reason) h = h refl

-- such a turn leaves the output as it was, accepts nothing, and gives back the very reader, whatever numbers it came with
pub dock_read_turn_refused_keeps : (κs : _) (a : _) (r : _) (s : _) → dock_read_turn.Post κs a r s → (r.number ≡ 0 → ⊥)
    → (s.1.1.1.0.now ≡ a.1.1.1.0.now) × (r.accepted ≡ 0) × (r.bytes ≡ 0) × (r.reader ≡ a.0)
dock_read_turn_refused_keeps κs a r s p h =
    let lent = a.1.0.now in
    let out = a.1.1.1.0.now in
    let why = (turn_of a.0 lent a.1.1.0 out).0.stop in
    let k = turn_refusal_keeps a.0 lent a.1.1.0 out why (whole why (λ z. h (ap (λ (x : TurnAnswer). x.number) p.0 ∙ z))) refl in
    let e = p.0 ∙ ap (λ (x : Turn × List ℕ). turn_answer x.0) k in (
      p.1 ∙ ap (λ (x : Turn × List ℕ). x.1) k,
      ap (λ (x : TurnAnswer). x.accepted) e,
      ap (λ (x : TurnAnswer). x.bytes) e,
      ap (λ (x : TurnAnswer). x.reader) e,
    )

pub dock_read_complete_asks_nothing : (κs : _) (a : _) → dock_read_complete.Asked κs a
dock_read_complete_asks_nothing κs a = tt

pub dock_read_complete_determined : (κs : _) (a : _) (r r' : _) (s s' : _) → dock_read_complete.Post κs a r s → dock_read_complete.Post κs a r' s' → r ≡ r'
dock_read_complete_determined κs a r r' s s' p q = p ∙ sym q

pub dock_read_complete_is_read_complete : (κs : _) (a : _) (r : _) (s : _) → dock_read_complete.Post κs a r s
    → AsBelow completion_number (λ x. read_complete.Post κs a x s) r
dock_read_complete_is_read_complete κs a r s p = (_, refl, p)

-- the reader that C holds is the one that the library's own calls give, after a start and after every turn
pub dock_read_start_reader : (κs : _) (a : _) (r : _) (s : _) → dock_read_start.Post κs a r s → r.reader ≡ (start_of a.0.now a.1.0.now).reader
dock_read_start_reader κs a r s p = ap (λ (x : ReadStartAnswer). x.reader) p

pub dock_read_turn_reader : (κs : _) (a : _) (r : _) (s : _) → dock_read_turn.Post κs a r s
    → r.reader ≡ (turn_of a.0 a.1.0.now a.1.1.0 a.1.1.1.0.now).0.reader
dock_read_turn_reader κs a r s p = ap (λ (x : TurnAnswer). x.reader) p.0

-- ---- the key wrap

-- ---- the receiver

pub start_told_asks_nothing : (κs : _) (a : _) → start-told.Asked κs a
start_told_asks_nothing κs a = tt

pub start_told_determined : (κs : _) (a : _) (r r' : _) (s s' : _) → start-told.Post κs a r s → start-told.Post κs a r' s' → r ≡ r'
start_told_determined κs a r r' s s' p q = p ∙ sym q

pub done_told_asks_nothing : (κs : _) (a : _) → done-told.Asked κs a
done_told_asks_nothing κs a = tt

pub done_told_determined : (κs : _) (a : _) (r r' : _) (s s' : _) → done-told.Post κs a r s → done-told.Post κs a r' s' → r ≡ r'
done_told_determined κs a r r' s s' p q = p ∙ sym q

pub dock_receive_start_asks_nothing : (κs : _) (a : _) → dock_receive_start.Asked κs a
dock_receive_start_asks_nothing κs a = tt

pub dock_receive_start_determined : (κs : _) (a : _) (r r' : _) (s s' : _) → dock_receive_start.Post κs a r s → dock_receive_start.Post κs a r' s'
    → (r ≡ r') × (s.1.1.1.1.1.0.now ≡ s'.1.1.1.1.1.0.now)
dock_receive_start_determined κs a r r' s s' p q = (p.0 ∙ sym q.0, p.1 ∙ sym q.1)

pub dock_receive_start_is_receive_start : (κs : _) (a : _) (r : _) (s : _) → dock_receive_start.Post κs a r s → AsBelow start_told (λ x. receive_start.Post κs a x s) r
dock_receive_start_is_receive_start κs a r s p =
    let b = begin_of a.0.now a.1.0.now a.1.1.0 a.1.1.1.0 a.1.1.1.1.0.now a.1.1.1.1.1.0.now in
    (b.0, ap (λ (m : List ℕ). (b.0, m)) p.1, p.0)

pub dock_receive_start_refused_keeps : (κs : _) (a : _) (r : _) (s : _) → dock_receive_start.Post κs a r s → (r.number ≡ 0 → ⊥) → s.1.1.1.1.1.0.now ≡ a.1.1.1.1.1.0.now
dock_receive_start_refused_keeps κs a r s p n =
    let b = dock_receive_start_is_receive_start κs a r s p in
    (receive_start_refused_keeps κs a b.0 s b.1 (λ z. n (ap (λ (x : ReceiverAnswer). x.number) b.2 ∙ z))).0

pub dock_receive_asks_nothing : (κs : _) (a : _) → dock_receive.Asked κs a
dock_receive_asks_nothing κs a = tt

abbrev Received : Type 0
Received = ReceiverAnswer × List ℕ × List ℕ

pub dock_receive_determined : (κs : _) (a : _) (r r' : _) (s s' : _) → dock_receive.Post κs a r s → dock_receive.Post κs a r' s'
    → (r ≡ r') × (s.1.1.0.now ≡ s'.1.1.0.now) × (s.1.1.1.0.now ≡ s'.1.1.1.0.now)
dock_receive_determined κs a r r' s s' p q =
    let e = p ∙ sym q in
    (ap (λ (x : Received). x.0) e, ap (λ (x : Received). x.1) e, ap (λ (x : Received). x.2) e)

pub dock_receive_is_receive : (κs : _) (a : _) (r : _) (s : _) → dock_receive.Post κs a r s → AsBelow done_told (λ x. receive.Post κs a x s) r
dock_receive_is_receive κs a r s p =
    let d = receive_of a.0 a.1.0.now a.1.1.0.now a.1.1.1.0.now in
    (d.0, ap₂ (λ (x y : List ℕ). (d.0, x, y)) (ap (λ (x : Received). x.1) p) (ap (λ (x : Received). x.2) p), ap (λ (x : Received). x.0) p)

pub dock_receive_refused_keeps : (κs : _) (a : _) (r : _) (s : _) → dock_receive.Post κs a r s → (r.number ≡ 0 → ⊥)
    → (r.receiver ≡ a.0) × (s.1.1.0.now ≡ a.1.1.0.now) × (s.1.1.1.0.now ≡ a.1.1.1.0.now)
dock_receive_refused_keeps κs a r s p n =
    let b = dock_receive_is_receive κs a r s p in
    let k = receive_refused_keeps κs a b.0 s b.1 (λ z. n (ap (λ (x : ReceiverAnswer). x.number) b.2 ∙ z)) in
    (ap (λ (x : ReceiverAnswer). x.receiver) b.2 ∙ k.0, k.1, k.2)

pub dock_receive_complete_asks_nothing : (κs : _) (a : _) → dock_receive_complete.Asked κs a
dock_receive_complete_asks_nothing κs a = tt

pub dock_receive_complete_determined : (κs : _) (a : _) (r r' : _) (s s' : _) → dock_receive_complete.Post κs a r s → dock_receive_complete.Post κs a r' s' → r ≡ r'
dock_receive_complete_determined κs a r r' s s' p q = p ∙ sym q

pub dock_receive_complete_is_receive_complete : (κs : _) (a : _) (r : _) (s : _) → dock_receive_complete.Post κs a r s → AsBelow completion_number (λ x. receive_complete.Post κs a x s) r
dock_receive_complete_is_receive_complete κs a r s p = (_, refl, p)

-- ---- the key wrap

pub dock_wrap_asks_nothing : (κs : _) (a : _) → dock_wrap.Asked κs a
dock_wrap_asks_nothing κs a = tt

pub dock_wrap_determined : (κs : _) (a : _) (r r' : _) (s s' : _) → dock_wrap.Post κs a r s → dock_wrap.Post κs a r' s'
    → (r ≡ r') × (s.1.1.0.now ≡ s'.1.1.0.now)
dock_wrap_determined κs a r r' s s' p q = (p.0 ∙ sym q.0, p.1 ∙ sym q.1)

pub dock_wrap_is_wrap : (κs : _) (a : _) (r : _) (s : _) → dock_wrap.Post κs a r s → AsBelow wrap_number (λ x. wrap.Post κs a x s) r
dock_wrap_is_wrap κs a r s p = (_, (refl, p.1), p.0)

pub dock_wrap_refused_keeps : (κs : _) (a : _) (r : _) (s : _) → dock_wrap.Post κs a r s → (r ≡ 0 → ⊥) → s.1.1.0.now ≡ a.1.1.0.now
dock_wrap_refused_keeps κs a r s p h = refused_below (dock_wrap_is_wrap κs a r s p) (λ x b. wrap_refused_keeps κs a x s b) h

pub dock_unwrap_asks_nothing : (κs : _) (a : _) → dock_unwrap.Asked κs a
dock_unwrap_asks_nothing κs a = tt

pub dock_unwrap_determined : (κs : _) (a : _) (r r' : _) (s s' : _) → dock_unwrap.Post κs a r s → dock_unwrap.Post κs a r' s'
    → (r ≡ r') × (s.1.1.0.now ≡ s'.1.1.0.now)
dock_unwrap_determined κs a r r' s s' p q = (p.0 ∙ sym q.0, p.1 ∙ sym q.1)

pub dock_unwrap_is_unwrap : (κs : _) (a : _) (r : _) (s : _) → dock_unwrap.Post κs a r s → AsBelow wrap_number (λ x. unwrap.Post κs a x s) r
dock_unwrap_is_unwrap κs a r s p = (_, (refl, p.1), p.0)

pub dock_unwrap_refused_keeps : (κs : _) (a : _) (r : _) (s : _) → dock_unwrap.Post κs a r s → (r ≡ 0 → ⊥) → s.1.1.0.now ≡ a.1.1.0.now
dock_unwrap_refused_keeps κs a r s p h = refused_below (dock_unwrap_is_unwrap κs a r s p) (λ x b. unwrap_refused_keeps κs a x s b) h

-- ---- CCM

pub dock_ccm_seal_asks_nothing : (κs : _) (a : _) → dock_ccm_seal.Asked κs a
dock_ccm_seal_asks_nothing κs a = tt

pub dock_ccm_seal_determined : (κs : _) (a : _) (r r' : _) (s s' : _) → dock_ccm_seal.Post κs a r s → dock_ccm_seal.Post κs a r' s'
    → (r ≡ r') × (s.1.1.1.1.0.now ≡ s'.1.1.1.1.0.now)
dock_ccm_seal_determined κs a r r' s s' p q = (p.0 ∙ sym q.0, p.1 ∙ sym q.1)

pub dock_ccm_seal_is_seal : (κs : _) (a : _) (r : _) (s : _) → dock_ccm_seal.Post κs a r s → AsBelow ccm_number (λ x. seal.Post κs a x s) r
dock_ccm_seal_is_seal κs a r s p = (_, (refl, p.1), p.0)

pub dock_ccm_seal_refused_keeps : (κs : _) (a : _) (r : _) (s : _) → dock_ccm_seal.Post κs a r s → (r ≡ 0 → ⊥) → s.1.1.1.1.0.now ≡ a.1.1.1.1.0.now
dock_ccm_seal_refused_keeps κs a r s p h = refused_below (dock_ccm_seal_is_seal κs a r s p) (λ x b. seal_refused_keeps κs a x s b) h

pub dock_ccm_open_asks_nothing : (κs : _) (a : _) → dock_ccm_open.Asked κs a
dock_ccm_open_asks_nothing κs a = tt

pub dock_ccm_open_determined : (κs : _) (a : _) (r r' : _) (s s' : _) → dock_ccm_open.Post κs a r s → dock_ccm_open.Post κs a r' s'
    → (r ≡ r') × (s.1.1.1.1.0.now ≡ s'.1.1.1.1.0.now)
dock_ccm_open_determined κs a r r' s s' p q = (p.0 ∙ sym q.0, p.1 ∙ sym q.1)

pub dock_ccm_open_is_open : (κs : _) (a : _) (r : _) (s : _) → dock_ccm_open.Post κs a r s → AsBelow ccm_number (λ x. open_call.Post κs a x s) r
dock_ccm_open_is_open κs a r s p = (_, (refl, p.1), p.0)

pub dock_ccm_open_refused_keeps : (κs : _) (a : _) (r : _) (s : _) → dock_ccm_open.Post κs a r s → (r ≡ 0 → ⊥) → s.1.1.1.1.0.now ≡ a.1.1.1.1.0.now
dock_ccm_open_refused_keeps κs a r s p h = refused_below (dock_ccm_open_is_open κs a r s p) (λ x b. open_refused_keeps κs a x s b) h
