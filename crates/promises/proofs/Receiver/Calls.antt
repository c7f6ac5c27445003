-- Demand 1 for the receiver's calls and for what stands below them, then demand 2 for what they answer and leave. Assumes nothing.
use mathlib.Core.Path.{◌≡◌, refl, sym, ap, subst, ◌∙◌}
use mathlib.Core.Bool.{true, false}
use mathlib.Core.List.{List, [], ◌∷◌}
use Prim.Native.Nat.{ℕ, ◌/◌, ◌≤◌, ◌<◌, min}
use native.Mathlib.Omega.{arith}
use lib.ListN.{length, drop, replicate}
use lib.Seq.{set_out}
use Rattle.image_layout.specs.Layout.{head_of_lem}
use Rattle.image_progress.specs.Progress.{completion_number}
use Rattle.image_spec.specs.KeyPair.{pair_keys}
use Rattle.image_receiver_map.specs.Map.{bit_put, cleared}
use Rattle.image_receiver_answer.specs.Answers.{receive_number, begin_number, room_for, first_told, header_tests}
use Rattle.image_receiver_answer.specs.declared.ReceiveAnswer.{ReceiveAnswer}
use Rattle.image_receiver_answer.specs.declared.ReceiveAnswer.TheVariants.{Received}
use Rattle.image_receiver_block.specs.Receive.{receive_answer, received_under}
use Rattle.image_receiver_block.specs.declared.BlockReceived.{BlockReceived}
use Rattle.image_receiver.specs.Calls.{begin_of, receiver_keys, receive_of, handed, all_held}
use Rattle.image_receiver.specs.declared.Receiver.{Receiver}
use Rattle.image_receiver.specs.declared.ReceiveStarted.{ReceiveStarted}
use Rattle.image_receiver.specs.declared.ReceiveDone.{ReceiveDone}
use Rattle.promises.proofs.Receiver.Words.{Roomy, ReceiveRow, HeaderSays, ReceiveSays, Beginning, BeginSays, CompleteSays, Holding, answer_to, after}
use Rattle.promises.proofs.Lemmas.ReceiverTold.{header_says, roomy_parts, roomy_right, no_row_received, received_taken, refused_leaves, refuses_nonzero, begin_done, accepts_zero}
use Rattle.promises.proofs.Lemmas.ReceiverOrder.{leaves_answer, answer_is}
use Rattle.promises.proofs.Receiver.Statements.{receive_answer_as_told, begin_answer_as_told, begin_leaves, begin_refusal_keeps, refused_leaves_all, complete_as_told, holding_all_completes}
use Rattle.image_receiver_map.proofs.map_size.Reads as map_size
use Rattle.image_receiver_map.proofs.has_bit.Reads as has_bit
use Rattle.image_receiver_map.proofs.set_bit.Reads as set_bit
use Rattle.image_receiver_map.proofs.clear.Reads as clear
use Rattle.image_receiver_answer.proofs.ReceiveAnswer.number.Reads as receive-number
use Rattle.image_receiver_answer.proofs.ReceiveAnswer.value.Reads as receive_value
use Rattle.image_receiver_answer.proofs.BeginAnswer.number.Reads as begin-number
use Rattle.image_receiver_answer.proofs.BeginAnswer.value.Reads as begin_value
use Rattle.image_receiver_answer.proofs.has_room.Reads as has_room
use Rattle.image_receiver_answer.proofs.judge_header.Reads as judge_header
use Rattle.image_receiver_block.proofs.receive_block.Reads as receive_block
use Rattle.image_receiver.proofs.receive_start.Reads as receive_start
use Rattle.image_receiver.proofs.receive.Reads as receive
use Rattle.image_receiver.proofs.receive_complete.Reads as receive_complete

-- ---- demand 1: the map

pub map_size_asks_nothing : (κs : _) (a : _) → map_size.Asked κs a
map_size_asks_nothing κs a = tt

pub map_size_determined : (κs : _) (a : _) (r r' : _) (s s' : _) → map_size.Post κs a r s → map_size.Post κs a r' s' → r ≡ r'
map_size_determined κs a r r' s s' p q = p ∙ sym q

pub has_bit_asks_nothing : (κs : _) (a : _) → has_bit.Asked κs a
has_bit_asks_nothing κs a = tt

pub has_bit_determined : (κs : _) (a : _) (r r' : _) (s s' : _) → has_bit.Post κs a r s → has_bit.Post κs a r' s' → r ≡ r'
has_bit_determined κs a r r' s s' p q = p ∙ sym q

pub set_bit_asks_nothing : (κs : _) (a : _) → set_bit.Asked κs a
set_bit_asks_nothing κs a = tt

pub set_bit_determined : (κs : _) (a : _) (r r' : _) (s s' : _) → set_bit.Post κs a r s → set_bit.Post κs a r' s' → s.0.now ≡ s'.0.now
set_bit_determined κs a r r' s s' p q = p ∙ sym q

-- a map that ends before the bit stays as it is
pub set_bit_refused_keeps : (κs : _) (a : _) (r : _) (s : _) → set_bit.Post κs a r s → length a.0.now ≤ a.1.0 / 8 → s.0.now ≡ a.0.now
unfolding bit_put
set_bit_refused_keeps κs a r s p h = p ∙ set_out _ _ _ h

pub clear_asks_nothing : (κs : _) (a : _) → clear.Asked κs a
clear_asks_nothing κs a = tt

pub clear_determined : (κs : _) (a : _) (r r' : _) (s s' : _) → clear.Post κs a r s → clear.Post κs a r' s' → s.0.now ≡ s'.0.now
clear_determined κs a r r' s s' p q = p ∙ sym q

-- where no byte is to be cleared, the map stays as it is
pub clear_refused_keeps : (κs : _) (a : _) (r : _) (s : _) → clear.Post κs a r s → a.1.0 ≡ 0 → s.0.now ≡ a.0.now
unfolding cleared
clear_refused_keeps κs a r s p e =
    let n : min a.1.0 (length a.0.now) ≡ 0 = omega (arith, e) in
    p ∙ rw n

-- ---- demand 1: the answers

pub receive_number_asks_nothing : (κs : _) (a : _) → receive-number.Asked κs a
receive_number_asks_nothing κs a = tt

pub receive_number_determined : (κs : _) (a : _) (r r' : _) (s s' : _) → receive-number.Post κs a r s → receive-number.Post κs a r' s' → r ≡ r'
receive_number_determined κs a r r' s s' p q = p ∙ sym q

pub receive_value_asks_nothing : (κs : _) (a : _) → receive_value.Asked κs a
receive_value_asks_nothing κs a = tt

pub receive_value_determined : (κs : _) (a : _) (r r' : _) (s s' : _) → receive_value.Post κs a r s → receive_value.Post κs a r' s' → r ≡ r'
receive_value_determined κs a r r' s s' p q = p ∙ sym q

pub begin_number_asks_nothing : (κs : _) (a : _) → begin-number.Asked κs a
begin_number_asks_nothing κs a = tt

pub begin_number_determined : (κs : _) (a : _) (r r' : _) (s s' : _) → begin-number.Post κs a r s → begin-number.Post κs a r' s' → r ≡ r'
begin_number_determined κs a r r' s s' p q = p ∙ sym q

pub begin_value_asks_nothing : (κs : _) (a : _) → begin_value.Asked κs a
begin_value_asks_nothing κs a = tt

pub begin_value_determined : (κs : _) (a : _) (r r' : _) (s s' : _) → begin_value.Post κs a r s → begin_value.Post κs a r' s' → r ≡ r'
begin_value_determined κs a r r' s s' p q = p ∙ sym q

pub has_room_asks_nothing : (κs : _) (a : _) → has_room.Asked κs a
has_room_asks_nothing κs a = tt

pub has_room_determined : (κs : _) (a : _) (r r' : _) (s s' : _) → has_room.Post κs a r s → has_room.Post κs a r' s' → r ≡ r'
has_room_determined κs a r r' s s' p q = p ∙ sym q

-- yes exactly where 480 bytes of the store and a bit of the map are there for each block
pub has_room_as_told : (κs : _) (a : _) (r : _) (s : _) → has_room.Post κs a r s → (r ≡ true → Roomy a.0 a.1.0 a.1.1.0) × (Roomy a.0 a.1.0 a.1.1.0 → r ≡ true)
has_room_as_told κs a r s p = (λ e. roomy_parts a.0 a.1.0 a.1.1.0 (sym p ∙ e), λ y. p ∙ roomy_right a.0 a.1.0 a.1.1.0 y)

pub judge_header_asks_nothing : (κs : _) (a : _) → judge_header.Asked κs a
judge_header_asks_nothing κs a = tt

pub judge_header_determined : (κs : _) (a : _) (r r' : _) (s s' : _) → judge_header.Post κs a r s → judge_header.Post κs a r' s' → r ≡ r'
judge_header_determined κs a r r' s s' p q = p ∙ sym q

pub judge_header_as_told : (κs : _) (a : _) (r : _) (s : _) → judge_header.Post κs a r s → HeaderSays a.0 a.1.0 r
judge_header_as_told κs a r s p = header_says a.0 a.1.0 r (sym p)

-- ---- demand 1: the calls

abbrev Three : Type 0
Three = BlockReceived × List ℕ × List ℕ

pub receive_block_asks_nothing : (κs : _) (a : _) → receive_block.Asked κs a
receive_block_asks_nothing κs a = tt

pub receive_block_determined : (κs : _) (a : _) (r r' : _) (s s' : _) → receive_block.Post κs a r s → receive_block.Post κs a r' s'
    → (r ≡ r') × (s.1.1.1.0.now ≡ s'.1.1.1.0.now) × (s.1.1.1.1.0.now ≡ s'.1.1.1.1.0.now)
receive_block_determined κs a r r' s s' p q =
    let e = p ∙ sym q in
    (ap (λ (x : Three). x.0) e, ap (λ (x : Three). x.1) e, ap (λ (x : Three). x.2) e)

-- the receipt that came is handed back, and store and map stay
pub receive_block_refused_keeps : (κs : _) (a : _) (r : _) (s : _) → receive_block.Post κs a r s → (receive_number r.answer ≡ 0 → ⊥)
    → (r.receipt ≡ a.1.0) × (s.1.1.1.0.now ≡ a.1.1.1.0.now) × (s.1.1.1.1.0.now ≡ a.1.1.1.1.0.now)
receive_block_refused_keeps κs a r s p n =
    let k = pair_keys a.0.now in
    let b = a.1.1.0.now in
    let store = a.1.1.1.0.now in
    let map = a.1.1.1.1.0.now in
    let q : r.answer ≡ receive_answer k a.1.0 b store map = ap (λ (x : Three). x.0.answer) p ∙ leaves_answer k a.1.0 b store map in
    let e = p ∙ refused_leaves_all k a.1.0 b store map (λ z. n (ap receive_number q ∙ z)) in
    (ap (λ (x : Three). x.0.receipt) e, ap (λ (x : Three). x.1) e, ap (λ (x : Three). x.2) e)

pub receive_block_as_told : (κs : _) (a : _) (r : _) (s : _) → receive_block.Post κs a r s
    → ReceiveSays (pair_keys a.0.now) a.1.0 a.1.1.0.now a.1.1.1.0.now a.1.1.1.1.0.now r.answer
receive_block_as_told κs a r s p =
    let k = pair_keys a.0.now in
    let b = a.1.1.0.now in
    let store = a.1.1.1.0.now in
    let map = a.1.1.1.1.0.now in
    let q : r.answer ≡ receive_answer k a.1.0 b store map = ap (λ (x : Three). x.0.answer) p ∙ leaves_answer k a.1.0 b store map in
    subst (ReceiveSays k a.1.0 b store map) (sym q) (receive_answer_as_told k a.1.0 b store map)

pub receive_start_asks_nothing : (κs : _) (a : _) → receive_start.Asked κs a
receive_start_asks_nothing κs a = tt

pub receive_start_determined : (κs : _) (a : _) (r r' : _) (s s' : _) → receive_start.Post κs a r s → receive_start.Post κs a r' s'
    → (r ≡ r') × (s.1.1.1.1.1.0.now ≡ s'.1.1.1.1.1.0.now)
receive_start_determined κs a r r' s s' p q =
    let e = p ∙ sym q in
    (ap (λ (x : ReceiveStarted × List ℕ). x.0) e, ap (λ (x : ReceiveStarted × List ℕ). x.1) e)

-- refused, it gives the zero state and clears nothing
pub receive_start_refused_keeps : (κs : _) (a : _) (r : _) (s : _) → receive_start.Post κs a r s → (begin_number r.answer ≡ 0 → ⊥)
    → (s.1.1.1.1.1.0.now ≡ a.1.1.1.1.1.0.now)
    × (r.receiver ≡ record {
      keys = record { enc = record { words = replicate 60 0; rounds = 0 }; chk = record { words = replicate 60 0; rounds = 0 } };
      receipt = record { count = 0; release = 0; held = 0; bytes = 0 };
    })
receive_start_refused_keeps κs a r s p n =
    let k = begin_refusal_keeps a.0.now a.1.0.now a.1.1.0 a.1.1.1.0 a.1.1.1.1.0.now a.1.1.1.1.1.0.now (λ z. n (ap (λ (x : ReceiveStarted × List ℕ). begin_number x.0.answer) p ∙ z)) in
    (ap (λ (x : ReceiveStarted × List ℕ). x.1) p ∙ k.0, ap (λ (x : ReceiveStarted × List ℕ). x.0.receiver) p ∙ k.1)

pub receive_asks_nothing : (κs : _) (a : _) → receive.Asked κs a
receive_asks_nothing κs a = tt

abbrev Done : Type 0
Done = ReceiveDone × List ℕ × List ℕ

pub receive_determined : (κs : _) (a : _) (r r' : _) (s s' : _) → receive.Post κs a r s → receive.Post κs a r' s'
    → (r ≡ r') × (s.1.1.0.now ≡ s'.1.1.0.now) × (s.1.1.1.0.now ≡ s'.1.1.1.0.now)
receive_determined κs a r r' s s' p q =
    let e = p ∙ sym q in
    (ap (λ (x : Done). x.0) e, ap (λ (x : Done). x.1) e, ap (λ (x : Done). x.2) e)

-- what a caller has before the call and after it
abbrev pub lent_to : (r : Receiver) (store map : List ℕ) → Holding
lent_to r store map = record { receiver = r; store = store; map = map }

-- the state that came is handed back, and store and map stay
pub receive_refused_keeps : (κs : _) (a : _) (r : _) (s : _) → receive.Post κs a r s → (receive_number r.answer ≡ 0 → ⊥)
    → (r.receiver ≡ a.0) × (s.1.1.0.now ≡ a.1.1.0.now) × (s.1.1.1.0.now ≡ a.1.1.1.0.now)
unfolding receive_of
receive_refused_keeps κs a r s p n =
    let k = receiver_keys a.0 in
    let b = a.1.0.now in
    let store = a.1.1.0.now in
    let map = a.1.1.1.0.now in
    let q : r.answer ≡ receive_answer k a.0.receipt b store map = ap (λ (x : Done). x.0.answer) p ∙ leaves_answer k a.0.receipt b store map in
    let e = p ∙ ap (handed a.0) (refused_leaves_all k a.0.receipt b store map (λ z. n (ap receive_number q ∙ z))) in
    (ap (λ (x : Done). x.0.receiver) e, ap (λ (x : Done). x.1) e, ap (λ (x : Done). x.2) e)

pub receive_complete_asks_nothing : (κs : _) (a : _) → receive_complete.Asked κs a
receive_complete_asks_nothing κs a = tt

pub receive_complete_determined : (κs : _) (a : _) (r r' : _) (s s' : _) → receive_complete.Post κs a r s → receive_complete.Post κs a r' s' → r ≡ r'
receive_complete_determined κs a r r' s s' p q = p ∙ sym q

-- ---- demand 2: each answer says what the table says, in its order, and where no row holds the call is carried out

pub receive_start_as_told : (κs : _) (a : _) (r : _) (s : _) → receive_start.Post κs a r s
    → BeginSays a.0.now a.1.0.now a.1.1.0 (length a.1.1.1.1.0.now) (length a.1.1.1.1.1.0.now) r.answer
receive_start_as_told κs a r s p =
    let store = a.1.1.1.1.0.now in
    let map = a.1.1.1.1.1.0.now in
    subst (BeginSays a.0.now a.1.0.now a.1.1.0 (length store) (length map)) (sym (ap (λ (x : ReceiveStarted × List ℕ). x.0.answer) p))
    (begin_answer_as_told a.0.now a.1.0.now a.1.1.0 a.1.1.1.0 store map)

pub receive_start_done : (κs : _) (a : _) (r : _) (s : _) → receive_start.Post κs a r s
    → Beginning a.0.now a.1.0.now a.1.1.0 (length a.1.1.1.1.0.now) (length a.1.1.1.1.1.0.now) → begin_number r.answer ≡ 0
receive_start_done κs a r s p g =
    ap (λ (x : ReceiveStarted × List ℕ). begin_number x.0.answer) p ∙ (begin_leaves a.0.now a.1.0.now a.1.1.0 a.1.1.1.0 a.1.1.1.1.0.now a.1.1.1.1.1.0.now g).0

pub receive_as_told : (κs : _) (a : _) (r : _) (s : _) → receive.Post κs a r s → ReceiveSays (receiver_keys a.0) a.0.receipt a.1.0.now a.1.1.0.now a.1.1.1.0.now r.answer
receive_as_told κs a r s p =
    let b = a.1.0.now in
    let store = a.1.1.0.now in
    let map = a.1.1.1.0.now in
    subst (ReceiveSays (receiver_keys a.0) a.0.receipt b store map) (sym (ap (λ (x : Done). x.0.answer) p ∙ answer_is (lent_to a.0 store map) b)) (receive_answer_as_told (receiver_keys a.0) a.0.receipt b store map)

pub receive_done : (κs : _) (a : _) (r : _) (s : _) → receive.Post κs a r s
    → ((q : ReceiveAnswer) → ReceiveRow (receiver_keys a.0) a.0.receipt a.1.0.now a.1.1.0.now a.1.1.1.0.now q → ⊥) → receive_number r.answer ≡ 0
receive_done κs a r s p n =
    let b = a.1.0.now in
    let store = a.1.1.0.now in
    let map = a.1.1.1.0.now in
    ap (λ (x : Done). receive_number x.0.answer) p ∙ ap receive_number (answer_is (lent_to a.0 store map) b ∙ no_row_received (receiver_keys a.0) a.0.receipt b store map n)

-- a call is a step of what a caller has: what is promised of block after block is promised of the calls
pub receive_is_a_step : (κs : _) (a : _) (r : _) (s : _) → receive.Post κs a r s
    → (r.answer ≡ answer_to (lent_to a.0 a.1.1.0.now a.1.1.1.0.now) a.1.0.now)
    × (lent_to r.receiver s.1.1.0.now s.1.1.1.0.now ≡ after (lent_to a.0 a.1.1.0.now a.1.1.1.0.now) a.1.0.now)
receive_is_a_step κs a r s p = (ap (λ (x : Done). x.0.answer) p, ap (λ (x : Done). lent_to x.0.receiver x.1 x.2) p)

pub receive_complete_as_told : (κs : _) (a : _) (r : _) (s : _) → receive_complete.Post κs a r s → CompleteSays a.0.receipt r
receive_complete_as_told κs a r s p = subst (CompleteSays a.0.receipt) (sym p) (complete_as_told a.0)

pub receive_complete_done : (κs : _) (a : _) (r : _) (s : _) → receive_complete.Post κs a r s → 0 < a.0.receipt.count → a.0.receipt.held ≡ a.0.receipt.count → completion_number r ≡ 0
receive_complete_done κs a r s p l e = ap completion_number (p ∙ holding_all_completes a.0 l e)
