-- Demands 2 and 3 for the receiver: answers come as told, the count held is that of the bits set, a complete receiver holds one image, the
-- blocks of an image in any order end complete, and damage is refused. Assumes nothing.
use mathlib.Core.Path.{◌≡◌, refl, sym, ap, ap₂, subst, ◌∙◌}
use mathlib.Core.Bool.{Bool, true, false, ◌&&◌, cond}
use mathlib.Core.List.{List, [], ◌∷◌, ◌++◌, Permᴰ}
use Prim.Native.Nat.{ℕ, ◌+◌, ◌*◌, ◌/◌, ◌≤◌, ◌<◌, min}
use native.Mathlib.Omega.{arith}
use borrow.Author.Tests.{eqb-true, eqb-false, eq-eqb, ltb-true, ltb-false}
use lib.Dec.{eqb, ltb}
use lib.ListN.{length, get_or, take, drop, replicate}
use lib.Seq.{paste}
use Rattle.octets.specs.Octets.{pad_to, Bytes, Octets}
use Rattle.octets.specs.Blocks.{Lawful}
use Rattle.aes_spec.specs.Cipher.{aes_of}
use Rattle.aes_spec.proofs.Aes.{key_lawful, aes_lawful}
use Rattle.octets.proofs.Both.{and_true}
use Rattle.aes_schedule.specs.Schedule.{round_count}
use Rattle.cmac_spec.specs.Cmac.{cmac, SameOutside}
use Rattle.image_layout.specs.Layout.{head_of_lem}
use Rattle.image_layout.specs.declared.Head.{Head}
use Rattle.image_layout.proofs.Laws.{Wide}
use Rattle.image_limits.specs.Fits.{length_fits}
use Rattle.image_limits.specs.Marks.{mark_of}
use Rattle.image_reasons.specs.declared.Reason.{Reason}
use Rattle.image_reasons.specs.declared.Reason.TheVariants.{AfterLast, CheckWrong, Count, Number, OtherCount, OtherRelease, Length, Reserved, FillNotZero}
use Rattle.image_spec.specs.Edition.{one, tail_of}
use Rattle.image_spec.specs.Sealed.{filled, sealed, opened, checks, fill_zero}
use Rattle.image_spec.specs.Judge.{Keys}
use Rattle.image_progress.specs.declared.Completion.{Completion}
use Rattle.image_progress.specs.declared.Completion.TheVariants.{Complete, NotComplete}
use Rattle.image_writer_answer.specs.declared.Numbers.{Numbers}
use Rattle.image_receiver_map.specs.Map.{map_size, bit, bit_put, cleared, bits_below}
use Rattle.image_receiver_map.proofs.Laws.{bit-put, bits_full}
use Rattle.image_receiver_answer.specs.Answers.{receive_number, begin_number, room_for, accepted}
use Rattle.image_receiver_answer.specs.declared.Receipt.{Receipt}
use Rattle.image_receiver_answer.specs.declared.ReceiveAnswer.{ReceiveAnswer}
use Rattle.image_receiver_answer.specs.declared.ReceiveAnswer.TheVariants.{Received, NotABlock, NoRoom, Because, NotBelow, AlreadyHeld}
use Rattle.image_receiver_answer.specs.declared.BeginAnswer.TheVariants.{Begun}
use Rattle.image_receiver_block.specs.Receive.{receive_answer, counted_with, stored, answered_with, received_under}
use Rattle.image_receiver_block.specs.declared.BlockReceived.{BlockReceived}
use Rattle.image_receiver_block.proofs.Order.{answer_4, answer_14}
use Rattle.image_receiver.specs.Calls.{begin_of, receiver_keys, full, all_held}
use Rattle.image_receiver.specs.declared.Receiver.{Receiver}
use Rattle.promises.proofs.Aes.Keys.{KeyTaken}
use Rattle.promises.proofs.Image.Words.{Wrote, parts}
use Rattle.promises.proofs.Image.Statements.{sealed_opens, damage_shows}
use Rattle.promises.proofs.Image.Exactly.{ImageOf, an_image_of_one, an_image_holds}
use Rattle.promises.proofs.Image.Damage.{Damaged}
use Rattle.promises.proofs.Receiver.Words.{Receivable, Roomy, ReceiveRow, Taken, ReceiveSays, FirstRow, Beginning, BeginSays, Holding, answer_to, after, after_all, at_start, Ran, begun, in_order_of, All, In, Rearranged, HeldImage, TheseOrRefused, Acceptable, OtherNumber, Distinct, CompleteSays}
use Rattle.promises.proofs.Lemmas.ImageJudge.{fits_le, opened_length}
use Rattle.promises.proofs.Lemmas.ImageCalls.{keys_under}
use Rattle.promises.proofs.Lemmas.ImageRead.{fit, is_sealed}
use Rattle.promises.proofs.Lemmas.ReceiverTold as told
use Rattle.promises.proofs.Lemmas.ReceiverOrder as order
use Rattle.promises.proofs.Lemmas.ReceiverRan as ran
use Rattle.promises.proofs.Lemmas.ReceiverWhole as whole

-- ---- demand 2: refusals come where the table says, and only there

-- a block is accepted where it meets every test; a refusal says which row of the table holds, that none asked before it does, and the value found
pub receive_answer_as_told : (k : Keys) (r : Receipt) (b store map : List ℕ) → ReceiveSays k r b store map (receive_answer k r b store map)
receive_answer_as_told k r b store map = told.answer_says k r b store map (receive_answer k r b store map) refl

pub no_row_is_received : (k : Keys) (r : Receipt) (b store map : List ℕ) → ((q : ReceiveAnswer) → ReceiveRow k r b store map q → ⊥) → receive_answer k r b store map ≡ Received
no_row_is_received k r b store map n = told.no_row_received k r b store map n

pub taken_is_received : (k : Keys) (r : Receipt) (b store map : List ℕ) → Taken k r b store map → receive_answer k r b store map ≡ Received
taken_is_received k r b store map t = told.taken_received k r b store map t

-- an accepted block's 480 decrypted bytes go to 480 times its number, its bit is set, the count held goes up by one and the sum of the payload
-- lengths by its own; at 4,294,967,295 both stay
pub received_leaves : (k : Keys) (r : Receipt) (b store map : List ℕ) → receive_answer k r b store map ≡ Received
    → received_under k r b store map ≡ (
      record { answer = Received; receipt = record { count = r.count; release = r.release; held = min (r.held + 1) 4294967295; bytes = min (r.bytes + (head_of_lem b).len) 4294967295 } },
      paste store (480 * (head_of_lem b).number) (opened k.enc b) 480,
      bit_put map (head_of_lem b).number,
    )
unfolding stored
received_leaves k r b store map e = told.taken_leaves k r b store map (told.received_taken k r b store map e)

-- a refused one changes nothing
pub refused_leaves_all : (k : Keys) (r : Receipt) (b store map : List ℕ) → (receive_number (receive_answer k r b store map) ≡ 0 → ⊥)
    → received_under k r b store map ≡ (record { answer = receive_answer k r b store map; receipt = r }, store, map)
refused_leaves_all k r b store map n = told.refused_leaves k r b store map (told.refuses_nonzero (receive_answer k r b store map) n)

-- without usable keys, as after a refused start, every block gets 6, else 4, else 14
pub no_keys_receive_nothing : (k : Keys) (r : Receipt) (b store map : List ℕ) → k.usable ≡ false → receive_answer k r b store map ≡ Received → ⊥
no_keys_receive_nothing k r b store map u e =
    let t = told.received_taken k r b store map e in
    let z : true ≡ false = sym t.receivable.usable_keys ∙ u in
    let y : ◌≡◌ {A = ℕ} 0 1 = cc in omega arith

-- a start takes both keys, a count and the room for it, or says what it does not
pub begin_answer_as_told : (ekey ckey : List ℕ) (count release : ℕ) (store map : List ℕ) → BeginSays ekey ckey count (length store) (length map) (begin_of ekey ckey count release store map).0.answer
begin_answer_as_told ekey ckey count release store map = told.begin_says ekey ckey count release store map

-- begun, it holds nothing; the bytes of the map that hold the count's bits are cleared, and nothing else
pub begin_leaves : (ekey ckey : List ℕ) (count release : ℕ) (store map : List ℕ) → Beginning ekey ckey count (length store) (length map)
    → (begin_number (begin_of ekey ckey count release store map).0.answer ≡ 0)
    × ((begin_of ekey ckey count release store map).0.receiver.receipt ≡ record { count = count; release = release; held = 0; bytes = 0 })
    × ((begin_of ekey ckey count release store map).1 ≡ replicate ((count + 7) / 8) 0 ++ drop ((count + 7) / 8) map)
unfolding cleared
begin_leaves ekey ckey count release store map g =
    let e = told.begin_done ekey ckey count release store map g in
    let n : min ((count + 7) / 8) (length map) ≡ (count + 7) / 8 = omega (arith, g.roomy.map_room) in
    rw e (refl, refl, ap (λ (m : ℕ). replicate m 0 ++ drop m map) n)

-- refused, it gives the zero state and clears nothing
pub begin_refusal_keeps : (ekey ckey : List ℕ) (count release : ℕ) (store map : List ℕ) → (begin_number (begin_of ekey ckey count release store map).0.answer ≡ 0 → ⊥)
    → ((begin_of ekey ckey count release store map).1 ≡ map)
    × ((begin_of ekey ckey count release store map).0.receiver ≡ record {
      keys = record { enc = record { words = replicate 60 0; rounds = 0 }; chk = record { words = replicate 60 0; rounds = 0 } };
      receipt = record { count = 0; release = 0; held = 0; bytes = 0 };
    })
begin_refusal_keeps ekey ckey count release store map n = told.begin_keeps ekey ckey count release store map n

-- complete exactly where the count held is the image's count and that is at least 1
pub complete_as_told : (r : Receiver) → CompleteSays r.receipt (all_held r)
unfolding all_held full
complete_as_told r = go (ltb 0 r.receipt.count) (eqb r.receipt.held r.receipt.count) refl refl
  where
    go : (a b : Bool) → ltb 0 r.receipt.count ≡ a → eqb r.receipt.held r.receipt.count ≡ b → CompleteSays r.receipt (cond (a && b) Complete NotComplete)
    go true true e f = (ltb-true 0 r.receipt.count e, eqb-true r.receipt.held r.receipt.count f)
    go true false e f = λ x y. eqb-false r.receipt.held r.receipt.count f y
    go false b e f = λ x y. let z = ltb-false 0 r.receipt.count e in omega arith

pub holding_all_completes : (r : Receiver) → 0 < r.receipt.count → r.receipt.held ≡ r.receipt.count → all_held r ≡ Complete
unfolding all_held
holding_all_completes r l e = rw (ran.held_full r.receipt l e)

-- a block that meets every test but that of the map gets 21
held_again : (k : Keys) (r : Receipt) (b store map : List ℕ) → Receivable k r.count r.release b → Roomy r.count (length store) (length map) → bit map (head_of_lem b).number ≡ 1
    → receive_answer k r b store map ≡ AlreadyHeld
held_again k r b store map m y e = go (receive_answer k r b store map) (told.answer_says k r b store map (receive_answer k r b store map) refl)
  where
    clash : (t : Bool) → t ≡ true → t ≡ false → ⊥
    clash t e f = let z : true ≡ false = sym e ∙ f in let w : ◌≡◌ {A = ℕ} 0 1 = cc in omega arith

    go : (a : ReceiveAnswer) → ReceiveSays k r b store map a → a ≡ AlreadyHeld
    go Received t = absurd (omega (arith, t.not_held))
    go NotABlock t = absurd (t.0 m.size)
    go NoRoom t = absurd (t.0 y)
    go (Because CheckWrong) t = absurd (clash (k.usable && checks k.mac [] b) (rw m.usable_keys m.check_right) t.0)
    go (Because (Count v)) t = absurd (t.0.1 (omega (arith, t.0.0, m.same_count, m.count_low)) (omega (arith, t.0.0, m.same_count, m.count_high)))
    go (Because (OtherCount v)) t = absurd (t.0.1 (t.0.0 ∙ m.same_count))
    go (Because (OtherRelease v)) t = absurd (t.0.1 (t.0.0 ∙ m.same_release))
    go NotBelow t = absurd (omega (arith, t.0, m.below))
    go (Because (Length v)) t = absurd (clash (length_fits (head_of_lem b).number (head_of_lem b).count (head_of_lem b).len) m.len_fits (ap (length_fits (head_of_lem b).number (head_of_lem b).count) (sym t.0.0) ∙ t.0.1))
    go (Because (Reserved v)) t = absurd (t.0.1 (t.0.0 ∙ m.marked))
    go (Because FillNotZero) t = absurd (clash (fill_zero k.enc b) m.fill-zero t.0)
    go (Because (Number v)) t = absurd t.0
    go (Because AfterLast) t = absurd t.0
    go AlreadyHeld t = refl

complete_full : (r : Receiver) → all_held r ≡ Complete → full r.receipt ≡ true
unfolding all_held
complete_full r e = go (full r.receipt) e
  where
    go : (t : Bool) → cond t Complete NotComplete ≡ Complete → t ≡ true
    go true e = refl
    go false e = let z : ◌≡◌ {A = ℕ} 0 1 = cc in absurd (omega arith)

-- ---- while map and store come back as left

module _ (ekey ckey : List ℕ) (count release : ℕ) (x : Holding) (taken : List (List ℕ)) (r : Ran ekey ckey count release x taken) where
  abbrev v : ran.Sound ekey ckey count release x taken
  v = ran.ran_sound ekey ckey count release x taken r

  -- the count held is the number of bits set for numbers below the count
  pub count_is_bits : (x.receiver.receipt.count ≡ count) × (x.receiver.receipt.held ≡ bits_below x.map count)
  count_is_bits = (v.count_is, v.held_is)

  -- and of the blocks accepted
  pub count_is_accepted : length taken ≡ x.receiver.receipt.held
  count_is_accepted = v.as_many

  pub keys_stay : receiver_keys x.receiver ≡ keys_under ekey ckey
  keys_stay = v.keys_are

  keys_taken : KeyTaken ekey × KeyTaken ckey
  keys_taken = (v.ekey_taken, v.ckey_taken)

  all_set : all_held x.receiver ≡ Complete → (n : ℕ) → n < count → bit x.map n ≡ 1
  all_set e = bits_full x.map count (sym v.held_is ∙ (ran.full_held x.receiver.receipt (complete_full x.receiver e)).1 ∙ v.count_is)

  -- the blocks that a complete receiver accepted, put in the order of their numbers, are an image under its keys, count and release, and the
  -- store begins with that image's payload and zeros
  pub complete_holds_an_image : all_held x.receiver ≡ Complete → HeldImage ekey ckey count release (in_order_of count 0 taken) x.store
  complete_holds_an_image e =
      let every = all_set e in
      let i = ran.held_image ekey ckey count release x taken v every in
      let h = an_image_holds one whole.one_proper (aes_of ekey) (aes_of ckey) (key_lawful ekey v.ekey_taken) (key_lawful ckey v.ckey_taken) (in_order_of count 0 taken) i in
      record {
        of = i;
        of_count = ran.held-length ekey ckey count release x taken v every;
        of_release = sym h.1 ∙ ran.held_release ekey ckey count release x taken v every;
        in_store = ran.held_in_store ekey ckey count release x taken v every ∙ ap (pad_to (480 * count)) h.0;
        only = λ other. (an_image_of_one one whole.one_proper (aes_of ekey) (aes_of ckey) (key_lawful ekey v.ekey_taken) (key_lawful ckey v.ckey_taken) (in_order_of count 0 taken) other i).0;
      }

  -- they are all in it, each in the place of its number
  pub complete_rearranges : all_held x.receiver ≡ Complete → Rearranged count taken
  complete_rearranges e = record { as_many = v.as_many ∙ (ran.full_held x.receiver.receipt (complete_full x.receiver e)).1 ∙ v.count_is; in_place = ran.all_map _ _ (λ b w. (w.1, w.2)) taken v.in_place }

  -- and the state's sum is the payload's length
  pub complete_bytes : all_held x.receiver ≡ Complete → (h : HeldImage ekey ckey count release (in_order_of count 0 taken) x.store) → x.receiver.receipt.bytes ≡ length h.of.payload
  complete_bytes e h =
      ran.held_bytes ekey ckey count release x taken v (all_set e)
      ∙ ap length (an_image_holds one whole.one_proper (aes_of ekey) (aes_of ckey) (key_lawful ekey v.ekey_taken) (key_lawful ckey v.ckey_taken) (in_order_of count 0 taken) h.of).0

  -- the other way: the blocks of an image, each offered at least once, in any order, with any refused ones between them, end complete, and the
  -- store begins with its payload and zeros
  pub image_in_any_order_completes : taken ≡ [] → (bs : List (List ℕ)) (i : ImageOf one (aes_of ekey) (aes_of ckey) bs) → length bs ≡ count → i.release ≡ release
      → (os : List (List ℕ)) → All Bytes os → TheseOrRefused bs x os → ((n : ℕ) → n < count → In (get_or bs n []) os)
      → (all_held (after_all x os).receiver ≡ Complete)
      × (take (480 * count) (after_all x os).store ≡ pad_to (480 * count) i.payload)
      × ((after_all x os).receiver.receipt.bytes ≡ length i.payload)
  unfolding all_held
  image_in_any_order_completes none bs i size rel os bo c each =
      let le = key_lawful ekey v.ekey_taken in
      let lc = key_lawful ckey v.ckey_taken in
      let good : (n : ℕ) → n < count → Receivable (keys_under ekey ckey) count release (get_or bs n []) × ((head_of_lem (get_or bs n [])).number ≡ n) = λ n h.
      subst (λ (m : ℕ). Receivable (keys_under ekey ckey) count m (get_or bs n []) × ((head_of_lem (get_or bs n [])).number ≡ n)) rel
      (subst (λ (m : ℕ). Receivable (keys_under ekey ckey) m i.release (get_or bs n []) × ((head_of_lem (get_or bs n [])).number ≡ n)) size
      (whole.image_receivable ekey ckey le lc bs i n (omega (arith, size)))) in
      let w : All (λ b. In b bs) taken = subst (All (λ b. In b bs)) (sym none) tt in
      let p : parts (aes_of ekey) bs ≡ i.payload = (an_image_holds one whole.one_proper (aes_of ekey) (aes_of ckey) le lc bs i).0 in (
        rw (whole.ends_full ekey ckey count release bs size good x taken r w os bo c each) refl,
        whole.ends_in_store ekey ckey count release bs size good x taken r w os bo c each ∙ ap (pad_to (480 * count)) p,
        whole.ends_bytes ekey ckey count release bs size good x taken r w os bo c each ∙ ap length p,
      )

  -- ---- any order

  able : order.Able x
  able = record { sized = λ b e bb. ap (λ (k : Keys). length (opened k.enc b)) v.keys_are ∙ opened_length (aes_of ekey) (key_lawful ekey v.ekey_taken) b e bb; map_bytes = v.map_bytes }

  -- two blocks with different numbers, both acceptable and so neither held, leave the same store, map and state in either order
  pub either_order_leaves_the_same : (a b : List ℕ) → Bytes a → Bytes b → Acceptable x a → Acceptable x b → OtherNumber a b → after (after x a) b ≡ after (after x b) a
  either_order_leaves_the_same a b ba bb p q o = order.in_either_order x able.sized able.map_bytes a b ba bb p q o

  -- and so does any order of any number of them
  pub any_order_leaves_the_same : (bs cs : List (List ℕ)) → Permᴰ bs cs → All Bytes bs → All (Acceptable x) bs → Distinct bs → after_all x bs ≡ after_all x cs
  any_order_leaves_the_same bs cs d u w o = order.in_any_order x d able u w o

  -- ---- again

  -- a block that was accepted gets 21 where it is offered again
  pub again_is_21 : (b : List ℕ) → Bytes b → Acceptable x b → answer_to (after x b) b ≡ AlreadyHeld
  again_is_21 b bb e =
      let t = order.acceptable_taken x b e in
      let n = (head_of_lem b).number in
      let here : n / 8 < length x.map = omega (arith, t.receivable.below, t.roomy.map_room) in
      let m : bit (bit_put x.map n) n ≡ 1 = bit-put x.map n n v.map_bytes here ∙ rw (eq-eqb n n refl) in
      let k = receiver_keys x.receiver in
      let s : length (stored k.enc b x.store) ≡ length x.store = order.stored_length x able.sized able.map_bytes b bb t in
      let y : Roomy x.receiver.receipt.count (length (stored k.enc b x.store)) (length (bit_put x.map n)) =
      record { store_room = omega (arith, t.roomy.store_room, s); map_room = omega (arith, t.roomy.map_room, order.put_length x.map n) } in
      ap (λ (z : Holding). answer_to z b) (order.kept-after x b t)
      ∙ order.answer_is (order.kept_after x b) b
      ∙ held_again k (counted_with x.receiver.receipt (head_of_lem b).len) b (stored k.enc b x.store) (bit_put x.map n) t.receivable y m

-- ---- demand 3: edition 1 alone

-- a block with another number than 0 in bytes 14 and 15 is never accepted, so none with 2
pub edition_2_is_never_received : (k : Keys) (r : Receipt) (b store map : List ℕ) → (head_of_lem b).reserved ≡ 2 → receive_answer k r b store map ≡ Received → ⊥
edition_2_is_never_received k r b store map e q = let t = told.received_taken k r b store map q in omega (arith, t.receivable.marked)

module _ (ekey ckey : List ℕ) (n : Numbers) (previous payload b : List ℕ) (w : Wrote ekey ckey n previous payload b) (first : n.edition ≡ 1) where
  abbrev head : Head
  head = record { number = n.number; count = n.count; release = n.release; len = length payload; reserved = 0 }

  le : Lawful 16 (aes_of ekey)
  le = key_lawful ekey (fit ekey ckey n previous payload b w).ekey_taken

  lc : Lawful 16 (aes_of ckey)
  lc = key_lawful ckey (fit ekey ckey n previous payload b w).ckey_taken

  few : length payload ≤ 480
  few = fits_le n.number n.count (length payload) (fit ekey ckey n previous payload b w).len_fits

  is_first : b ≡ sealed (aes_of ekey) (cmac (aes_of ckey)) [] head payload
  unfolding tail_of mark_of
  is_first = is_sealed ekey ckey n previous payload b w ∙ rw first

  wide : Wide head
  wide =
      let f = fit ekey ckey n previous payload b w in
      record { number_wide = omega (arith, f.below, f.count_high); count_wide = omega (arith, f.count_high); release_wide = w.release_fits; len_wide = omega (arith, few); reserved_wide = omega arith }

  no_tail : Bytes []
  no_tail k = omega arith

  opens : Octets 512 b × (head_of_lem b ≡ head) × (checks (cmac (aes_of ckey)) [] b ≡ true) × (opened (aes_of ekey) b ≡ filled payload) × (fill_zero (aes_of ekey) b ≡ true)
  opens =
      subst (λ (y : List ℕ). Octets 512 y × (head_of_lem y ≡ head) × (checks (cmac (aes_of ckey)) [] y ≡ true) × (opened (aes_of ekey) y ≡ filled payload) × (fill_zero (aes_of ekey) y ≡ true)) (sym is_first)
      (sealed_opens (aes_of ekey) (aes_of ckey) le lc head payload wide refl few w.payload_bytes [] no_tail)

  receivable : Receivable (keys_under ekey ckey) n.count n.release b
  receivable =
      let f = fit ekey ckey n previous payload b w in
      let h = opens.1 in
      record {
        size = opens.0.size;
        usable_keys = refl;
        check_right = opens.2;
        count_low = f.count_low;
        count_high = f.count_high;
        same_count = ap (λ (y : Head). y.count) h;
        same_release = ap (λ (y : Head). y.release) h;
        below = omega (arith, ap (λ (y : Head). y.number) h, f.below);
        len_fits = ap (λ (y : Head). length_fits y.number y.count y.len) h ∙ f.len_fits;
        marked = ap (λ (y : Head). y.reserved) h;
        fill-zero = opens.4;
      }

  -- what the writer wrote in edition 1 is accepted by a receiver of its count and release that does not hold it, and offered again gets 21
  pub written_is_received : (x : Holding) (taken : List (List ℕ)) → Ran ekey ckey n.count n.release x taken → bit x.map n.number ≡ 0
      → (answer_to x b ≡ Received) × (answer_to (after x b) b ≡ AlreadyHeld)
  written_is_received x taken r z =
      let v = ran.ran_sound ekey ckey n.count n.release x taken r in
      let t : Taken (receiver_keys x.receiver) x.receiver.receipt b x.store x.map = record {
        receivable =
            subst (λ (q : Keys). Receivable q x.receiver.receipt.count x.receiver.receipt.release b) (sym v.keys_are)
            (subst (λ (c : ℕ). Receivable (keys_under ekey ckey) c x.receiver.receipt.release b) (sym v.count_is)
            (subst (λ (c : ℕ). Receivable (keys_under ekey ckey) n.count c b) (sym v.release_is) receivable));
        roomy = subst (λ (c : ℕ). Roomy c (length x.store) (length x.map)) (sym v.count_is) (record { store_room = v.store_room; map_room = v.map_room });
        not_held = ap (λ (y : Head). bit x.map y.number) opens.1 ∙ z;
      } in
      let a = order.taken_acceptable x b t in
      (a, again_is_21 ekey ckey n.count n.release x taken r b opens.0.bytes (ap receive_number a))

  -- damaged inside one piece it is refused by 14, or by 4 where there is no room, by every receiver under the same keys
  pub damaged_is_refused : (d : List ℕ) → Damaged b d → (k : Keys) → k ≡ keys_under ekey ckey → (r : Receipt) (store map : List ℕ)
      → receive_answer k r d store map ≡ cond (room_for r.count (length store) (length map)) (Because CheckWrong) NoRoom
  damaged_is_refused d x k ek r store map =
      ap (λ (q : Keys). receive_answer q r d store map) ek ∙ go (room_for r.count (length store) (length map)) refl
    where
      wrong : checks (cmac (aes_of ckey)) [] d ≡ false
      wrong =
          damage_shows (aes_of ekey) (aes_of ckey) le lc [] head payload no_tail few w.payload_bytes x.piece d x.octets.size x.octets.bytes
          (subst (λ (y : List ℕ). SameOutside x.piece d y) is_first x.same_elsewhere) (λ z. x.differs (z ∙ sym is_first))

      go : (t : Bool) → room_for r.count (length store) (length map) ≡ t → receive_answer (keys_under ekey ckey) r d store map ≡ cond t (Because CheckWrong) NoRoom
      go true e = sym (answer_14 (keys_under ekey ckey) r d store map x.octets.size e wrong)
      go false e = sym (answer_4 (keys_under ekey ckey) r d store map x.octets.size e)
