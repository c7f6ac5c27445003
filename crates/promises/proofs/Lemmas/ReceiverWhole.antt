-- The blocks of an image, each offered at least once, in any order and with any refused ones between them, end complete. Assumes nothing.
use mathlib.Core.Path.{◌≡◌, refl, sym, ap, ap₂, subst, ◌∙◌}
use mathlib.Core.Bool.{Bool, true, false, ◌&&◌, cond}
use mathlib.Core.Logic.{◌⊎◌, inl, inr, ⊎_elim}
use mathlib.Core.List.{List, [], ◌∷◌}
use Prim.Native.Nat.{ℕ, zero, suc, ◌+◌, ◌*◌, ◌/◌, ◌≤◌, ◌<◌}
use native.Mathlib.Nat.{zero-add}
use native.Mathlib.Omega.{arith}
use borrow.Author.Tests.{eqb-true, eqb-false, eq-eqb}
use lib.Dec.{eqb, ltb}
use lib.ListN.{length, get_or, take}
use Rattle.octets.specs.Octets.{pad_to, Bytes, Octets}
use Rattle.octets.specs.Blocks.{BlockCipher, Lawful}
use Rattle.octets.proofs.Both.{and_true}
use Rattle.aes_spec.specs.Cipher.{aes_of}
use Rattle.aes_spec.proofs.Aes.{key_lawful}
use Rattle.image_layout.specs.Layout.{head_of_lem}
use Rattle.image_progress.specs.Progress.{done}
use Rattle.image_progress.specs.declared.Progress.{Progress}
use Rattle.image_spec.specs.Edition.{one}
use Rattle.image_spec.specs.Judge.{Keys, fresh, always, taken}
use Rattle.image_receiver_map.specs.Map.{bit, bit_put, bits_below}
use Rattle.image_receiver_map.proofs.Laws.{bit-put, bit_most, full_bits}
use Rattle.image_receiver_answer.specs.Answers.{receive_number}
use Rattle.image_receiver_answer.specs.declared.ReceiveAnswer.TheVariants.{Received}
use Rattle.image_receiver.specs.Calls.{receiver_keys, full}
use Rattle.promises.proofs.Image.Words.{Proper, Met, Blocks, parts, image}
use Rattle.promises.proofs.Image.Exactly.{ImageOf, an_image_is_blocks, an_image_holds}
use Rattle.promises.proofs.Receiver.Words.{Receivable, Roomy, Taken, Holding, answer_to, after, after_all, Ran, refused, accepted, numbered, in_order_of, All, In, TheseOrRefused}
use Rattle.promises.proofs.Lemmas.ImageJudge.{accepted_met, right_below}
use Rattle.promises.proofs.Lemmas.ImageWhole.{Passes, image_passes}
use Rattle.promises.proofs.Lemmas.ImageOne.{release_of}
use Rattle.promises.proofs.Lemmas.ImageCalls.{keys_under}
use Rattle.promises.proofs.Lemmas.ReceiverOrder.{acceptable_taken, taken_acceptable, kept-after, refused_after}
use Rattle.promises.proofs.Lemmas.ReceiverRan.{Sound, ran_sound, held_full, held_in_store, held_bytes}

pub one_proper : Proper one
one_proper = record { mark_wide = omega arith; tail_bytes = λ x o k. omega arith }

-- ---- blocks that pass a reader of edition 1 from the start on, a receiver takes

module _ (k : Keys) where
  met_receivable : (s : Progress) (b : List ℕ) → Octets 512 b → Met k one s b → Receivable k (head_of_lem b).count (head_of_lem b).release b
  met_receivable s b o m = record {
    size = o.size;
    usable_keys = m.usable_keys;
    check_right = m.check_right;
    count_low = m.head_right.count_low;
    count_high = m.head_right.count_high;
    same_count = refl;
    same_release = refl;
    below = right_below 0 s (head_of_lem b) m.head_right;
    len_fits = m.head_right.len_fits;
    marked = m.head_right.marked;
    fill-zero = m.fill-zero;
  }

  -- the count is the number of blocks
  passes_count : (s : Progress) (bs : List (List ℕ)) → 0 < s.next → Passes k (always one) s bs → s.count ≡ s.next + length bs
  unfolding done
  passes_count s [] f p = omega (arith, eqb-true s.next s.count (and_true (ltb 0 s.next) (eqb s.next s.count) p).1)
  passes_count s (b ∷ bs) f p =
      let m = accepted_met k one s b p.0 in
      omega (arith, passes_count (taken s b) bs (omega arith) p.1, m.head_right.same_count f)

  later_receivable : (s : Progress) (bs : List (List ℕ)) → 0 < s.next → Passes k (always one) s bs → Blocks bs → (n : ℕ) → n < length bs
      → Receivable k s.count s.release (get_or bs n []) × ((head_of_lem (get_or bs n [])).number ≡ s.next + n)
  later_receivable s [] f p w n h = absurd (omega arith)
  later_receivable s (b ∷ bs) f p w zero h =
      let m = accepted_met k one s b p.0 in (
        subst (λ (c : ℕ). Receivable k c s.release b) (m.head_right.same_count f) (subst (λ (c : ℕ). Receivable k (head_of_lem b).count c b) (m.head_right.same_release f) (met_receivable s b w.0 m)),
        omega (arith, m.head_right.expected),
      )
  later_receivable s (b ∷ bs) f p w (suc n) h =
      let m = accepted_met k one s b p.0 in
      let ih = later_receivable (taken s b) bs (omega arith) p.1 w.1 n (omega arith) in (
        subst (λ (c : ℕ). Receivable k c s.release (get_or bs n [])) (m.head_right.same_count f) (subst (λ (c : ℕ). Receivable k (head_of_lem b).count c (get_or bs n [])) (m.head_right.same_release f) ih.0),
        omega (arith, ih.1),
      )

  first_receivable : (bs : List (List ℕ)) → Passes k (always one) fresh bs → Blocks bs → (n : ℕ) → n < length bs
      → Receivable k (length bs) (release_of bs) (get_or bs n []) × ((head_of_lem (get_or bs n [])).number ≡ n)
  first_receivable [] p w n h = absurd (omega arith)
  first_receivable (b ∷ bs) p w zero h =
      let m = accepted_met k one fresh b p.0 in
      let c : (head_of_lem b).count ≡ suc (length bs) = omega (arith, passes_count (taken fresh b) bs (omega arith) p.1) in
      (subst (λ (c : ℕ). Receivable k c (head_of_lem b).release b) c (met_receivable fresh b w.0 m), m.head_right.expected)
  first_receivable (b ∷ bs) p w (suc n) h =
      let c : (head_of_lem b).count ≡ suc (length bs) = omega (arith, passes_count (taken fresh b) bs (omega arith) p.1) in
      let ih = later_receivable (taken fresh b) bs (omega arith) p.1 w.1 n (omega arith) in
      (subst (λ (c : ℕ). Receivable k c (head_of_lem b).release (get_or bs n [])) c ih.0, omega (arith, ih.1))

-- ---- blocks among others

in_place : (b : List ℕ) (bs : List (List ℕ)) → In b bs → (n : ℕ) × (n < length bs) × (b ≡ get_or bs n [])
in_place b [] i = absurd i
in_place b (c ∷ cs) (inl e) = (0, omega arith, e)
in_place b (c ∷ cs) (inr i) = let t = in_place b cs i in (suc t.0, omega (arith, t.1), t.2)

in_at : (bs : List (List ℕ)) (n : ℕ) → n < length bs → In (get_or bs n []) bs
in_at [] n h = absurd (omega arith)
in_at (b ∷ bs) zero h = inl refl
in_at (b ∷ bs) (suc n) h = inr (in_at bs n (omega arith))

numbered_all : (P : List ℕ → Type 0) (bs : List (List ℕ)) → All P bs → (n : ℕ) → length (numbered n bs) ≡ 512 → P (numbered n bs)
numbered_all P [] w n e = absurd (omega arith)
numbered_all P (b ∷ bs) w n e = go (eqb (head_of_lem b).number n) (numbered_all P bs w.1 n) e
  where
    go : (t : Bool) → (length (numbered n bs) ≡ 512 → P (numbered n bs)) → length (cond t b (numbered n bs)) ≡ 512 → P (cond t b (numbered n bs))
    go true ih e = w.0
    go false ih e = ih e

order_is : (j m : ℕ) (ts cs : List (List ℕ)) → length cs ≡ j → ((i : ℕ) → i < j → numbered (m + i) ts ≡ get_or cs i []) → in_order_of j m ts ≡ cs
order_is zero m ts [] e f = refl
order_is zero m ts (c ∷ cs) e f = absurd (omega arith)
order_is (suc j) m ts [] e f = absurd (omega arith)
order_is (suc j) m ts (c ∷ cs) e f =
    let z : m + 0 ≡ m = omega arith in
    ap₂ (λ (x : List ℕ) (xs : List (List ℕ)). x ∷ xs) (ap (λ (n : ℕ). numbered n ts) (sym z) ∙ f 0 (omega arith))
    (order_is j (suc m) ts cs (omega arith) (λ i h. let y : suc m + i ≡ m + suc i = omega arith in ap (λ (n : ℕ). numbered n ts) y ∙ f (suc i) (omega arith)))

zero_or_not : (n : ℕ) → (n ≡ 0) ⊎ (n ≡ 0 → ⊥)
zero_or_not zero = inl refl
zero_or_not (suc n) = inr (λ e. omega arith)

-- ---- block after block

module _ (ekey ckey : List ℕ) (count release : ℕ) (bs : List (List ℕ)) (size : length bs ≡ count)
    (good : (n : ℕ) → n < count → Receivable (keys_under ekey ckey) count release (get_or bs n []) × ((head_of_lem (get_or bs n [])).number ≡ n)) where
  -- what blocks leave: those accepted are among these, what was held stays held, and what came of these is held
  record Gone (x y : Holding) (os : List (List ℕ)) : Type 0 where
    took : List (List ℕ)
    ran : Ran ekey ckey count release y took
    these : All (λ b. In b bs) took
    kept : (n : ℕ) → n < count → bit x.map n ≡ 1 → bit y.map n ≡ 1
    came : (b : List ℕ) → In b os → In b bs → bit y.map (head_of_lem b).number ≡ 1

  module _ (x : Holding) (ts : List (List ℕ)) (r : Ran ekey ckey count release x ts) (o : List ℕ) where
    abbrev v : Sound ekey ckey count release x ts
    v = ran_sound ekey ckey count release x ts r

    -- a block of these that is refused is held
    held_else : In o bs → (receive_number (answer_to x o) ≡ 0 → ⊥) → bit x.map (head_of_lem o).number ≡ 1
    held_else i n = ⊎_elim (λ z. absurd (n (ap receive_number (taken_acceptable x o (takes z))))) (λ z. omega (arith, bit_most x.map (head_of_lem o).number)) (zero_or_not (bit x.map (head_of_lem o).number))
      where
        at : (n : ℕ) × (n < length bs) × (o ≡ get_or bs n [])
        at = in_place o bs i

        met : Receivable (keys_under ekey ckey) count release o
        met = subst (Receivable (keys_under ekey ckey) count release) (sym at.2) (good at.0 (omega (arith, at.1, size))).0

        takes : bit x.map (head_of_lem o).number ≡ 0 → Taken (receiver_keys x.receiver) x.receiver.receipt o x.store x.map
        takes z = record {
          receivable =
              subst (λ (q : Keys). Receivable q x.receiver.receipt.count x.receiver.receipt.release o) (sym v.keys_are)
              (subst (λ (c : ℕ). Receivable (keys_under ekey ckey) c x.receiver.receipt.release o) (sym v.count_is)
              (subst (λ (c : ℕ). Receivable (keys_under ekey ckey) count c o) (sym v.release_is) met));
          roomy = record { store_room = omega (arith, v.store_room, v.count_is); map_room = (subst (λ (c : ℕ). Roomy c (length x.store) (length x.map)) (sym v.count_is) (record { store_room = v.store_room; map_room = v.map_room })).map_room };
          not_held = z;
        }

    module _ (e : receive_number (answer_to x o) ≡ 0) where
      abbrev t : Taken (receiver_keys x.receiver) x.receiver.receipt o x.store x.map
      t = acceptable_taken x o e

      map_is : (after x o).map ≡ bit_put x.map (head_of_lem o).number
      map_is = ap (λ (y : Holding). y.map) (kept-after x o t)

      here : (head_of_lem o).number / 8 < length x.map
      here = omega (arith, t.receivable.below, t.roomy.map_room)

      bit_now : bit (after x o).map (head_of_lem o).number ≡ 1
      bit_now = ap (λ (m : List ℕ). bit m (head_of_lem o).number) map_is ∙ bit-put x.map (head_of_lem o).number (head_of_lem o).number v.map_bytes here ∙ rw (eq-eqb (head_of_lem o).number (head_of_lem o).number refl)

      bit_kept : (n : ℕ) → bit x.map n ≡ 1 → bit (after x o).map n ≡ 1
      bit_kept n h = ap (λ (m : List ℕ). bit m n) map_is ∙ bit-put x.map (head_of_lem o).number n v.map_bytes here ∙ go (eqb n (head_of_lem o).number)
        where
          go : (u : Bool) → cond u 1 (bit x.map n) ≡ 1
          go true = refl
          go false = h

      below_count : (head_of_lem o).number < count
      below_count = omega (arith, t.receivable.below, v.count_is)

  go_on : (x : Holding) (ts : List (List ℕ)) → Ran ekey ckey count release x ts → All (λ b. In b bs) ts → (os : List (List ℕ)) → All Bytes os → TheseOrRefused bs x os → Gone x (after_all x os) os
  go_on x ts r w [] bo c = record { took = ts; ran = r; these = w; kept = λ n h e. e; came = λ b i j. absurd i }
  go_on x ts r w (o ∷ os) bo c =
      ⊎_elim
      (λ e.
      let i : In o bs = ⊎_elim (λ i. i) (λ n. absurd (n e)) c.0 in
      let g = go_on (after x o) (o ∷ ts) (accepted r o bo.0 e) (i, w) os bo.1 c.1 in
      record {
        took = g.took;
        ran = g.ran;
        these = g.these;
        kept = λ n h q. g.kept n h (bit_kept x ts r o e n q);
        came = λ b j l. ⊎_elim
            (λ z. ap (λ (y : List ℕ). bit (after_all (after x o) os).map (head_of_lem y).number) z ∙ g.kept (head_of_lem o).number (below_count x ts r o e) (bit_now x ts r o e))
            (λ j. g.came b j l) j;
      })
      (λ n.
      let g = go_on (after x o) ts (refused r o n) w os bo.1 c.1 in
      let m : (after x o).map ≡ x.map = ap (λ (y : Holding). y.map) (refused_after x o n) in
      record {
        took = g.took;
        ran = g.ran;
        these = g.these;
        kept = λ k h q. g.kept k h (ap (λ (y : List ℕ). bit y k) m ∙ q);
        came = λ b j l. ⊎_elim
            (λ z.
            let l : In o bs = subst (λ (y : List ℕ). In y bs) z l in
            let p = in_place o bs l in
            let d : (head_of_lem o).number < count = omega (arith, ap (λ (y : List ℕ). (head_of_lem y).number) p.2, (good p.0 (omega (arith, p.1, size))).1, p.1, size) in
            ap (λ (y : List ℕ). bit (after_all (after x o) os).map (head_of_lem y).number) z ∙ g.kept (head_of_lem o).number d (ap (λ (y : List ℕ). bit y (head_of_lem o).number) m ∙ held_else x ts r o l n))
            (λ j. g.came b j l) j;
      })
      (zero_or_not (receive_number (answer_to x o)))

  -- each at least once
  module _ (x : Holding) (ts : List (List ℕ)) (r : Ran ekey ckey count release x ts) (w : All (λ b. In b bs) ts) (os : List (List ℕ)) (bo : All Bytes os) (c : TheseOrRefused bs x os)
      (each : (n : ℕ) → n < count → In (get_or bs n []) os) where
    abbrev y : Holding
    y = after_all x os

    abbrev g : Gone x y os
    g = go_on x ts r w os bo c

    abbrev s : Sound ekey ckey count release y g.took
    s = ran_sound ekey ckey count release y g.took g.ran

    pub every_bit : (n : ℕ) → n < count → bit y.map n ≡ 1
    every_bit n h = ap (bit y.map) (sym (good n h).1) ∙ g.came (get_or bs n []) (each n h) (in_at bs n (omega (arith, size)))

    pub ends_full : full y.receiver.receipt ≡ true
    ends_full = held_full y.receiver.receipt (omega (arith, s.count_is, s.count_low)) (s.held_is ∙ full_bits y.map count every_bit ∙ sym s.count_is)

    in_order : in_order_of count 0 g.took ≡ bs
    in_order = order_is count 0 g.took bs size (λ i h. ap (λ (n : ℕ). numbered n g.took) (zero-add i) ∙ here i h)
      where
        here : (i : ℕ) → i < count → numbered i g.took ≡ get_or bs i []
        here i h =
            let a = s.has i h (every_bit i h) in
            let p = in_place (numbered i g.took) bs (numbered_all (λ b. In b bs) g.took g.these i a.octets.size) in
            let q : p.0 ≡ i = sym (good p.0 (omega (arith, p.1, size))).1 ∙ ap (λ (b : List ℕ). (head_of_lem b).number) (sym p.2) ∙ a.number in
            p.2 ∙ ap (λ (n : ℕ). get_or bs n []) q

    pub ends_in_store : take (480 * count) y.store ≡ pad_to (480 * count) (parts (aes_of ekey) bs)
    ends_in_store = held_in_store ekey ckey count release y g.took s every_bit ∙ ap (λ (z : List (List ℕ)). pad_to (480 * count) (parts (aes_of ekey) z)) in_order

    pub ends_bytes : y.receiver.receipt.bytes ≡ length (parts (aes_of ekey) bs)
    ends_bytes = held_bytes ekey ckey count release y g.took s every_bit ∙ ap (λ (z : List (List ℕ)). length (parts (aes_of ekey) z)) in_order

-- the blocks of an image are such blocks
pub image_receivable : (ekey ckey : List ℕ) → Lawful 16 (aes_of ekey) → Lawful 16 (aes_of ckey) → (bs : List (List ℕ)) (i : ImageOf one (aes_of ekey) (aes_of ckey) bs) → (n : ℕ) → n < length bs
    → Receivable (keys_under ekey ckey) (length bs) i.release (get_or bs n []) × ((head_of_lem (get_or bs n [])).number ≡ n)
image_receivable ekey ckey le lc bs i n h =
    let p : Passes (keys_under ekey ckey) (always one) fresh bs = rw i.is_image (image_passes one one_proper (aes_of ekey) (aes_of ckey) le lc i.release i.payload i.release_fits i.payload_fits i.payload_bytes) in
    subst (λ (c : ℕ). Receivable (keys_under ekey ckey) (length bs) c (get_or bs n []) × ((head_of_lem (get_or bs n [])).number ≡ n)) (an_image_holds one one_proper (aes_of ekey) (aes_of ckey) le lc bs i).1
    (first_receivable (keys_under ekey ckey) bs p (an_image_is_blocks one one_proper (aes_of ekey) (aes_of ckey) le lc bs i) n h)
