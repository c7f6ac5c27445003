-- What a start and blocks in any order leave: the map counts what is held, the store has each block in its place, and a complete receiver
-- holds an image. Assumes nothing.
use mathlib.Core.Path.{◌≡◌, refl, sym, ap, ap₂, subst, ◌∙◌}
use mathlib.Core.Bool.{Bool, true, false, ◌&&◌, cond}
use mathlib.Core.Logic.{◌⊎◌, inl, inr, ⊎_elim}
use mathlib.Core.List.{List, [], ◌∷◌, ◌++◌, append_assoc, append-nil}
use Prim.Native.Nat.{ℕ, zero, suc, ◌+◌, ◌-◌, ◌*◌, ◌/◌, ◌≤◌, ◌<◌, min}
use native.Mathlib.Nat.{eq-or-lt_of_le, add-zero, zero-add}
use native.Mathlib.Omega.{arith}
use borrow.Author.Tests.{eqb-true, eqb-false, eq-eqb, ne_eqb, lt-ltb, ltb-true}
use lib.Dec.{eqb, ltb}
use lib.ListN.{length, get_or, take, drop, replicate, length-append, length-take, length-drop, length-replicate}
use lib.Seq.{paste, length-paste, ext_get_or, get_or-take, get_or-drop, take-add, take_all, take_at, drop_at, drop-drop, length-take-le}
use Rattle.octets.specs.Octets.{pad_to, Bytes, Octets}
use Rattle.octets.specs.Words.{word}
use Rattle.octets.specs.Blocks.{BlockCipher, Lawful}
use Rattle.octets.proofs.Both.{and_true}
use Rattle.octets.proofs.Blocks.{append_bytes, drop_bytes, zeros_bytes}
use Rattle.octets.proofs.Xor.{lt_or_le}
use Rattle.aes_sbox.specs.Sbox.{s_box}
use Rattle.aes_schedule.specs.Schedule.{schedule_of, round_count}
use Rattle.aes_spec.specs.Cipher.{aes_of}
use Rattle.aes_spec.proofs.Aes.{key_lawful}
use Rattle.cmac_spec.specs.Cmac.{cmac}
use Rattle.image_layout.specs.Layout.{head_of_lem}
use Rattle.image_layout.specs.declared.Head.{Head}
use Rattle.image_limits.specs.Fits.{length_fits}
use Rattle.image_progress.specs.Progress.{done}
use Rattle.image_progress.specs.declared.Progress.{Progress}
use Rattle.image_spec.specs.Edition.{one}
use Rattle.image_spec.specs.Sealed.{filled, opened, checks, fill_zero}
use Rattle.image_spec.specs.Judge.{Keys, fresh, always, taken}
use Rattle.image_receiver_map.specs.Map.{map_size, bit, bit_put, cleared, bits_below}
use Rattle.image_receiver_map.proofs.Laws.{bit-put, bit_put_bytes, bit_most, bits_put, bits_most, bits_full, full_bits, bits_none}
use Rattle.image_receiver_answer.specs.Answers.{receive_number, begin_number}
use Rattle.image_receiver_answer.specs.declared.Receipt.{Receipt}
use Rattle.image_receiver_answer.specs.declared.ReceiveAnswer.TheVariants.{Received}
use Rattle.image_receiver_block.specs.Receive.{capped, counted_with, stored}
use Rattle.image_receiver.specs.Calls.{receiver_keys, begin_of, full}
use Rattle.image_receiver.specs.declared.Receiver.{Receiver}
use Rattle.image_receiver.specs.declared.ReceiveStarted.{ReceiveStarted}
use Rattle.promises.proofs.Aes.Keys.{KeyTaken}
use Rattle.promises.proofs.Image.Words.{Met, Right, Blocks, payload, plains, parts, lengths, image}
use Rattle.promises.proofs.Image.Exactly.{ImageOf, keys_by}
use Rattle.promises.proofs.Receiver.Words.{Receivable, Roomy, Taken, Beginning, Holding, answer_to, after, after_all, at_start, Ran, begun, refused, accepted, numbered, in_order_of, All, In}
use Rattle.promises.proofs.Lemmas.ImageJudge.{met_accepted, accepted_met, fits_le, opened_length, payload_length, payload_filled}
use Rattle.promises.proofs.Lemmas.ImageWhole.{Passes}
use Rattle.promises.proofs.Lemmas.ImageOne.{release_of, passes_image, fits_cases}
use Rattle.promises.proofs.Lemmas.ImageCalls.{keys_under, key_known}
use Rattle.promises.proofs.Lemmas.ReceiverTold.{begun_begins, begin_done}
use Rattle.promises.proofs.Lemmas.ReceiverOrder.{at_before, at_inside, at_behind, put_length, kept_after, acceptable_taken, kept-after, refused_after, stored_length}

-- ---- what a receiver takes, a reader of edition 1 takes that stands before it

pub receivable_met : (k : Keys) (count release : ℕ) (b : List ℕ) → Receivable k count release b → (s : Progress) → (head_of_lem b).number ≡ s.next
    → (0 < s.next → s.count ≡ count) → (0 < s.next → s.release ≡ release) → Met k one s b
receivable_met k count release b r s e c l = record {
  usable_keys = r.usable_keys;
  check_right = r.check_right;
  head_right = record {
    still_open = λ h. omega (arith, c h, r.below);
    count_low = omega (arith, r.same_count, r.count_low);
    count_high = omega (arith, r.same_count, r.count_high);
    expected = e;
    same_count = λ h. r.same_count ∙ sym (c h);
    same_release = λ h. r.same_release ∙ sym (l h);
    len_fits = r.len_fits;
    marked = r.marked;
  };
  fill-zero = r.fill-zero;
}

-- ---- blocks by their numbers

numbered_same : (n : ℕ) (b : List ℕ) (bs : List (List ℕ)) → (head_of_lem b).number ≡ n → numbered n (b ∷ bs) ≡ b
numbered_same n b bs e = rw (eq-eqb (head_of_lem b).number n e)

numbered_other : (n : ℕ) (b : List ℕ) (bs : List (List ℕ)) → ((head_of_lem b).number ≡ n → ⊥) → numbered n (b ∷ bs) ≡ numbered n bs
numbered_other n b bs o = rw (ne_eqb (head_of_lem b).number n o)

-- the sum of the lengths of the blocks with numbers below n
pub lengths_below : List (List ℕ) → ℕ → ℕ
lengths_below bs zero = 0
lengths_below bs (suc n) = lengths_below bs n + (head_of_lem (numbered n bs)).len

none_len : (head_of_lem []).len ≡ 0
unfolding head_of_lem
none_len = refl

lengths_before : (b : List ℕ) (bs : List (List ℕ)) (c : ℕ) → c ≤ (head_of_lem b).number → lengths_below (b ∷ bs) c ≡ lengths_below bs c
unfolding lengths_below
lengths_before b bs zero h = refl
lengths_before b bs (suc c) h = ap₂ ◌+◌ (lengths_before b bs c (omega arith)) (ap (λ (x : List ℕ). (head_of_lem x).len) (numbered_other c b bs (λ e. omega arith)))

lengths_more : (b : List ℕ) (bs : List (List ℕ)) (c : ℕ) → (head_of_lem b).number < c → numbered (head_of_lem b).number bs ≡ [] → lengths_below (b ∷ bs) c ≡ lengths_below bs c + (head_of_lem b).len
unfolding lengths_below
lengths_more b bs zero h z = absurd (omega arith)
lengths_more b bs (suc c) h z =
    ⊎_elim
    (λ e.
    let y : numbered c bs ≡ [] = ap (λ (n : ℕ). numbered n bs) (sym e) ∙ z in
    let f : (head_of_lem (numbered c bs)).len ≡ 0 = ap (λ (x : List ℕ). (head_of_lem x).len) y ∙ none_len in
    let g : (head_of_lem (numbered c (b ∷ bs))).len ≡ (head_of_lem b).len = ap (λ (x : List ℕ). (head_of_lem x).len) (numbered_same c b bs e) in
    omega (arith, lengths_before b bs c (omega arith), f, g))
    (λ l.
    let g : (head_of_lem (numbered c (b ∷ bs))).len ≡ (head_of_lem (numbered c bs)).len = ap (λ (x : List ℕ). (head_of_lem x).len) (numbered_other c b bs (λ e. omega arith)) in
    omega (arith, lengths_more b bs c l z, g))
    (eq-or-lt_of_le {n = (head_of_lem b).number} {m = c} (omega arith))

order_length : (j m : ℕ) (bs : List (List ℕ)) → length (in_order_of j m bs) ≡ j
order_length zero m bs = refl
order_length (suc j) m bs = ap suc (order_length j (suc m) bs)

-- ---- what is left

-- the store has such a block in the place of number n
pub record HeldAt (k : Keys) (count release : ℕ) (store : List ℕ) (n : ℕ) (b : List ℕ) : Type 0 where
  pub octets : Octets 512 b
  pub met : Receivable k count release b
  pub number : (head_of_lem b).number ≡ n
  pub in_store : take 480 (drop (480 * n) store) ≡ opened k.enc b

-- what is true after a start and blocks, with those that were accepted
pub record Sound (ekey ckey : List ℕ) (count release : ℕ) (x : Holding) (bs : List (List ℕ)) : Type 0 where
  pub ekey_taken : KeyTaken ekey
  pub ckey_taken : KeyTaken ckey
  pub count_low : 0 < count
  pub count_high : count ≤ 65535
  pub keys_are : receiver_keys x.receiver ≡ keys_under ekey ckey
  pub count_is : x.receiver.receipt.count ≡ count
  pub release_is : x.receiver.receipt.release ≡ release
  pub store_room : 480 * count ≤ length x.store
  pub map_room : map_size count ≤ length x.map
  pub map_bytes : Bytes x.map
  pub held_is : x.receiver.receipt.held ≡ bits_below x.map count
  pub bytes_is : x.receiver.receipt.bytes ≡ lengths_below bs count
  pub bytes_few : lengths_below bs count ≤ 480 * x.receiver.receipt.held
  pub as_many : length bs ≡ x.receiver.receipt.held
  pub has : (n : ℕ) → n < count → bit x.map n ≡ 1 → HeldAt (keys_under ekey ckey) count release x.store n (numbered n bs)
  pub has_not : (n : ℕ) → n < count → bit x.map n ≡ 0 → numbered n bs ≡ []
  pub in_place : All (λ b. (length b ≡ 512) × ((head_of_lem b).number < count) × (numbered (head_of_lem b).number bs ≡ b)) bs

-- ---- the start

begun_none : (bs : List (List ℕ)) (c : ℕ) → bs ≡ [] → lengths_below bs c ≡ 0
unfolding lengths_below
begun_none bs zero e = refl
begun_none bs (suc c) e =
    let f : (head_of_lem (numbered c bs)).len ≡ 0 = ap (λ (y : List (List ℕ)). (head_of_lem (numbered c y)).len) e ∙ none_len in
    omega (arith, begun_none bs c e, f)

cleared_length : (n : ℕ) (m : List ℕ) → length (cleared n m) ≡ length m
unfolding cleared
cleared_length n m =
    length-append (replicate (min n (length m)) 0) (drop (min n (length m)) m) ∙ omega (arith, length-replicate {A = ℕ} (min n (length m)) 0, length-drop (min n (length m)) m)

cleared_bytes : (n : ℕ) (m : List ℕ) → Bytes m → Bytes (cleared n m)
unfolding cleared
cleared_bytes n m b = append_bytes (replicate (min n (length m)) 0) (drop (min n (length m)) m) (zeros_bytes (min n (length m))) (drop_bytes (min n (length m)) m b)

bits_zero : (m : List ℕ) (c : ℕ) → bits_below m c ≡ 0 → (n : ℕ) → n < c → bit m n ≡ 0
unfolding bits_below
bits_zero m zero e n h = absurd (omega arith)
bits_zero m (suc c) e n h = ⊎_elim (λ q. ap (bit m) q ∙ omega arith) (λ l. bits_zero m c (omega arith) n l) (eq-or-lt_of_le {n = n} {m = c} (omega arith))

sound_begun : (ekey ckey : List ℕ) (count release : ℕ) (store map : List ℕ) → Bytes map → Beginning ekey ckey count (length store) (length map) → Sound ekey ckey count release (at_start ekey ckey count release store map) []
sound_begun ekey ckey count release store map mb g =
    subst (λ (t : ReceiveStarted × List ℕ). Sound ekey ckey count release (record { receiver = t.0.receiver; store = store; map = t.1 }) []) (sym (begin_done ekey ckey count release store map g))
    (record {
      ekey_taken = g.ekey_taken;
      ckey_taken = g.ckey_taken;
      count_low = g.count_low;
      count_high = g.count_high;
      keys_are = ap (λ (u : Bool). record { enc = aes_of ekey; mac = cmac (aes_of ckey); usable = u }) known;
      count_is = refl;
      release_is = refl;
      store_room = g.roomy.store_room;
      map_room = omega (arith, g.roomy.map_room, cleared_length (map_size count) map);
      map_bytes = cleared_bytes (map_size count) map mb;
      held_is = sym (bits_none map count count (omega arith) g.roomy.map_room);
      bytes_is = sym (begun_none [] count refl);
      bytes_few = omega (arith, begun_none [] count refl);
      as_many = refl;
      has = λ n h e. absurd (omega (arith, bits_zero (cleared (map_size count) map) count (bits_none map count count (omega arith) g.roomy.map_room) n h));
      has_not = λ n h e. refl;
      in_place = tt;
    })
  where
    known : (round_count (schedule_of s_box ekey).schedule.rounds && round_count (schedule_of s_box ckey).schedule.rounds) ≡ true
    known = rw (key_known ekey g.ekey_taken) (key_known ckey g.ckey_taken)

-- ---- one block more

-- a part that was put, and one beside it
put_inside : (d : List ℕ) (at : ℕ) (s : List ℕ) → at + 480 ≤ length d → length s ≡ 480 → take 480 (drop at (paste d at s 480)) ≡ s
put_inside d at s h l =
    let f : length (take at d) ≡ at = length-take-le at d (omega arith) in
    ap (λ (x : List ℕ). take 480 (drop at x)) (append_assoc (take at d) (take 480 s) (drop (at + 480) d))
    ∙ ap (take 480) (drop_at (take at d) (take 480 s ++ drop (at + 480) d) at f)
    ∙ take_at (take 480 s) (drop (at + 480) d) 480 (omega (arith, length-take 480 s))
    ∙ take_all 480 s (omega arith)

put_beside : (d : List ℕ) (at : ℕ) (s : List ℕ) (to : ℕ) → at + 480 ≤ length d → length s ≡ 480 → (to + 480 ≤ at) ⊎ (at + 480 ≤ to) → take 480 (drop to (paste d at s 480)) ≡ take 480 (drop to d)
put_beside d at s to h l apart =
    let p = paste d at s 480 in
    let lp : length p ≡ length d = length-paste d at s 480 h (omega arith) in
    ext_get_or 0 (take 480 (drop to p)) (take 480 (drop to d)) (omega (arith, length-take 480 (drop to p), length-take 480 (drop to d), length-drop to p, length-drop to d))
    (λ k i.
    let m : k < 480 = omega (arith, length-take 480 (drop to p)) in
    get_or-take 480 (drop to p) k 0 m ∙ get_or-drop to p k 0
    ∙ ⊎_elim (λ b. at_before d at s 480 h l (to + k) (omega arith)) (λ b. at_behind d at s 480 h l (to + k) (omega arith)) apart
    ∙ sym (get_or-take 480 (drop to d) k 0 m ∙ get_or-drop to d k 0))

pub all_map : (P Q : List ℕ → Type 0) → ((b : List ℕ) → P b → Q b) → (bs : List (List ℕ)) → All P bs → All Q bs
all_map P Q f [] w = tt
all_map P Q f (b ∷ bs) w = (f b w.0, all_map P Q f bs w.1)

module _ (ekey ckey : List ℕ) (count release : ℕ) (x : Holding) (bs : List (List ℕ)) (v : Sound ekey ckey count release x bs) (b : List ℕ) (bb : Bytes b)
    (t : Taken (receiver_keys x.receiver) x.receiver.receipt b x.store x.map) where
  abbrev k : Keys
  k = keys_under ekey ckey

  abbrev n₀ : ℕ
  n₀ = (head_of_lem b).number

  met : Receivable k count release b
  met =
      subst (λ (q : Keys). Receivable q count release b) v.keys_are
      (subst (λ (c : ℕ). Receivable (receiver_keys x.receiver) c release b) v.count_is
      (subst (λ (c : ℕ). Receivable (receiver_keys x.receiver) x.receiver.receipt.count c b) v.release_is t.receivable))

  opened_is : opened (receiver_keys x.receiver).enc b ≡ opened k.enc b
  opened_is = ap (λ (q : Keys). opened q.enc b) v.keys_are

  opened_size : length (opened k.enc b) ≡ 480
  opened_size = opened_length (aes_of ekey) (key_lawful ekey v.ekey_taken) b met.size bb

  place : 480 * n₀ + 480 ≤ length x.store
  place = omega (arith, met.below, v.store_room)

  store_is : (kept_after x b).store ≡ paste x.store (480 * n₀) (opened k.enc b) 480
  unfolding stored
  store_is = ap (λ (s : List ℕ). paste x.store (480 * n₀) s 480) opened_is

  store_length : length (kept_after x b).store ≡ length x.store
  store_length = ap length store_is ∙ length-paste x.store (480 * n₀) (opened k.enc b) 480 place (omega (arith, opened_size))

  here : n₀ / 8 < length x.map
  here = omega (arith, met.below, v.map_room)

  small : (head_of_lem b).len ≤ 480
  small = fits_le n₀ (head_of_lem b).count (head_of_lem b).len met.len_fits

  few : x.receiver.receipt.held ≤ 65535
  few = omega (arith, v.held_is, bits_most x.map count, v.count_high)

  one_more : bits_below (bit_put x.map n₀) count ≡ bits_below x.map count + 1
  one_more = bits_put x.map n₀ count v.map_bytes here met.below t.not_held

  none : numbered n₀ bs ≡ []
  none = v.has_not n₀ met.below t.not_held

  longer : lengths_below (b ∷ bs) count ≡ lengths_below bs count + (head_of_lem b).len
  longer = lengths_more b bs count met.below none

  other : (n : ℕ) → (n ≡ n₀ → ⊥) → bit (bit_put x.map n₀) n ≡ bit x.map n
  other n o = bit-put x.map n₀ n v.map_bytes here ∙ rw (ne_eqb n n₀ o)

  same : (n : ℕ) → n ≡ n₀ → bit (bit_put x.map n₀) n ≡ 1
  same n e = bit-put x.map n₀ n v.map_bytes here ∙ rw (eq-eqb n n₀ e)

  beside : (n : ℕ) → (n ≡ n₀ → ⊥) → (480 * n + 480 ≤ 480 * n₀) ⊎ (480 * n₀ + 480 ≤ 480 * n)
  beside n o = ⊎_elim (λ l. inl (omega arith)) (λ l. ⊎_elim (λ e. absurd (o (sym e))) (λ m. inr (omega arith)) (eq-or-lt_of_le {n = n₀} {m = n} l)) (lt_or_le n n₀)

  has_now : (n : ℕ) → n < count → bit (bit_put x.map n₀) n ≡ 1 → HeldAt k count release (kept_after x b).store n (numbered n (b ∷ bs))
  has_now n h e = go (eqb n n₀) refl
    where
      go : (u : Bool) → eqb n n₀ ≡ u → HeldAt k count release (kept_after x b).store n (numbered n (b ∷ bs))
      go true q =
          let w = eqb-true n n₀ q in
          subst (HeldAt k count release (kept_after x b).store n) (sym (numbered_same n b bs (sym w)))
          (record {
            octets = record { size = met.size; bytes = bb };
            met = met;
            number = sym w;
            in_store = ap₂ (λ (m : ℕ) (s : List ℕ). take 480 (drop (480 * m) s)) w store_is ∙ put_inside x.store (480 * n₀) (opened k.enc b) place opened_size;
          })
      go false q =
          let o = eqb-false n n₀ q in
          let old = v.has n h (sym (other n o) ∙ e) in
          subst (HeldAt k count release (kept_after x b).store n) (sym (numbered_other n b bs (λ z. o (sym z))))
          (record {
            octets = old.octets;
            met = old.met;
            number = old.number;
            in_store = ap (λ (s : List ℕ). take 480 (drop (480 * n) s)) store_is ∙ put_beside x.store (480 * n₀) (opened k.enc b) (480 * n) place opened_size (beside n o) ∙ old.in_store;
          })

  has_not_now : (n : ℕ) → n < count → bit (bit_put x.map n₀) n ≡ 0 → numbered n (b ∷ bs) ≡ []
  has_not_now n h e = go (eqb n n₀) refl
    where
      go : (u : Bool) → eqb n n₀ ≡ u → numbered n (b ∷ bs) ≡ []
      go true q = absurd (omega (arith, same n (eqb-true n n₀ q)))
      go false q =
          let o = eqb-false n n₀ q in
          numbered_other n b bs (λ z. o (sym z)) ∙ v.has_not n h (sym (other n o) ∙ e)

  place_kept : (c : List ℕ) → (length c ≡ 512) × ((head_of_lem c).number < count) × (numbered (head_of_lem c).number bs ≡ c)
      → (length c ≡ 512) × ((head_of_lem c).number < count) × (numbered (head_of_lem c).number (b ∷ bs) ≡ c)
  place_kept c w =
      let o : (head_of_lem b).number ≡ (head_of_lem c).number → ⊥ = λ e.
      let z : c ≡ [] = sym w.2 ∙ ap (λ (n : ℕ). numbered n bs) (sym e) ∙ none in
      omega (arith, w.0, ap length z) in
      (w.0, w.1, numbered_other (head_of_lem c).number b bs o ∙ w.2)

  pub sound_taken : Sound ekey ckey count release (kept_after x b) (b ∷ bs)
  sound_taken = record {
    ekey_taken = v.ekey_taken;
    ckey_taken = v.ckey_taken;
    count_low = v.count_low;
    count_high = v.count_high;
    keys_are = v.keys_are;
    count_is = v.count_is;
    release_is = v.release_is;
    store_room = omega (arith, v.store_room, store_length);
    map_room = omega (arith, v.map_room, put_length x.map n₀);
    map_bytes = bit_put_bytes x.map n₀ v.map_bytes;
    held_is = omega (arith, v.held_is, one_more, few);
    bytes_is = omega (arith, v.bytes_is, v.bytes_few, longer, small, few);
    bytes_few = omega (arith, v.bytes_few, longer, small, few);
    as_many = omega (arith, v.as_many, few);
    has = has_now;
    has_not = has_not_now;
    in_place = (
      (met.size, met.below, numbered_same n₀ b bs refl),
      all_map (λ c. (length c ≡ 512) × ((head_of_lem c).number < count) × (numbered (head_of_lem c).number bs ≡ c)) (λ c. (length c ≡ 512) × ((head_of_lem c).number < count) × (numbered (head_of_lem c).number (b ∷ bs) ≡ c)) place_kept bs v.in_place,
    );
  }

pub ran_sound : (ekey ckey : List ℕ) (count release : ℕ) (x : Holding) (bs : List (List ℕ)) → Ran ekey ckey count release x bs → Sound ekey ckey count release x bs
ran_sound ekey ckey count release x bs (begun store map mb e) = sound_begun ekey ckey count release store map mb (begun_begins ekey ckey count release store map e)
ran_sound ekey ckey count release x bs (refused {x = y} {taken = ts} f b n) =
    subst (λ (z : Holding). Sound ekey ckey count release z ts) (sym (refused_after y b n)) (ran_sound ekey ckey count release y ts f)
ran_sound ekey ckey count release x bs (accepted {x = y} {taken = ts} f b bb e) =
    let t = acceptable_taken y b e in
    subst (λ (z : Holding). Sound ekey ckey count release z (b ∷ ts)) (sym (kept-after y b t)) (sound_taken ekey ckey count release y ts (ran_sound ekey ckey count release y ts f) b bb t)

-- ---- a complete receiver

pub full_held : (r : Receipt) → full r ≡ true → (0 < r.count) × (r.held ≡ r.count)
unfolding full
full_held r e = let a = and_true (ltb 0 r.count) (eqb r.held r.count) e in (ltb-true 0 r.count a.0, eqb-true r.held r.count a.1)

pub held_full : (r : Receipt) → 0 < r.count → r.held ≡ r.count → full r ≡ true
unfolding full
held_full r l e = rw (lt-ltb 0 r.count l) (eq-eqb r.held r.count e)

module _ (ekey ckey : List ℕ) (count release : ℕ) (x : Holding) (bs : List (List ℕ)) (v : Sound ekey ckey count release x bs) (all : (n : ℕ) → n < count → bit x.map n ≡ 1) where
  abbrev ek : BlockCipher
  ek = aes_of ekey

  abbrev ck : BlockCipher
  ck = aes_of ckey

  le : Lawful 16 ek
  le = key_lawful ekey v.ekey_taken

  at : (n : ℕ) → n < count → HeldAt (keys_under ekey ckey) count release x.store n (numbered n bs)
  at n h = v.has n h (all n h)

  order_blocks : (j m : ℕ) → m + j ≡ count → Blocks (in_order_of j m bs)
  order_blocks zero m e = tt
  order_blocks (suc j) m e = ((at m (omega arith)).octets, order_blocks j (suc m) (omega arith))

  order_passes : (j m : ℕ) → m + j ≡ count → (s : Progress) → s.next ≡ m → (0 < s.next → s.count ≡ count) → (0 < s.next → s.release ≡ release) → (j ≡ 0 → 0 < s.next)
      → Passes (keys_under ekey ckey) (always one) s (in_order_of j m bs)
  unfolding done
  order_passes zero m e s q c l z =
      let h = z refl in
      let t : eqb s.next s.count ≡ true = eq-eqb s.next s.count (omega (arith, c h)) in
      rw (lt-ltb 0 s.next h, t) refl
  order_passes (suc j) m e s q c l z =
      let y = at m (omega arith) in (
        met_accepted (keys_under ekey ckey) one s (numbered m bs) (receivable_met (keys_under ekey ckey) count release (numbered m bs) y.met s (y.number ∙ sym q) c l),
        order_passes j (suc m) (omega arith) (taken s (numbered m bs)) (omega arith) (λ h. y.met.same_count) (λ h. y.met.same_release) (λ h. omega arith),
      )

  order_stored : (j m : ℕ) → m + j ≡ count → take (480 * j) (drop (480 * m) x.store) ≡ plains ek (in_order_of j m bs)
  order_stored zero m e = refl
  order_stored (suc j) m e =
      let y = at m (omega arith) in
      let a : 480 * suc j ≡ 480 + 480 * j = omega arith in
      let d : 480 * m + 480 ≡ 480 * suc m = omega arith in
      ap (λ (n : ℕ). take n (drop (480 * m) x.store)) a ∙ take-add 480 (480 * j) (drop (480 * m) x.store)
      ∙ ap₂ ◌++◌ y.in_store (ap (take (480 * j)) (drop-drop 480 (480 * m) x.store ∙ ap (λ (n : ℕ). drop n x.store) d) ∙ order_stored j (suc m) (omega arith))

  -- what a block opens to, and how long its payload is
  module _ (m : ℕ) (h : m < count) where
    abbrev b : List ℕ
    b = numbered m bs

    abbrev before : Progress
    before = record { next = m; count = count; release = release; edition = 0; last = [] }

    met_here : Met (keys_under ekey ckey) one before b
    met_here = receivable_met (keys_under ekey ckey) count release b (at m h).met before (at m h).number (λ l. refl) (λ l. refl)

    sized : length (payload ek b) ≡ (head_of_lem b).len
    sized = payload_length (keys_under ekey ckey) le one before b (at m h).octets.size (at m h).octets.bytes met_here

    opens : opened ek b ≡ pad_to 480 (payload ek b)
    opens = sym (payload_filled (keys_under ekey ckey) le one before b (at m h).octets.size (at m h).octets.bytes met_here)

    full_length : (m + 1 ≡ count → ⊥) → length (payload ek b) ≡ 480
    full_length o = sized ∙ (fits_cases m count (head_of_lem b).len (ap₂ (λ (n c : ℕ). length_fits n c (head_of_lem b).len) (sym (at m h).number) (sym (at m h).met.same_count) ∙ (at m h).met.len_fits)).1 o

  order_padded : (j m : ℕ) → m + j ≡ count → plains ek (in_order_of j m bs) ≡ pad_to (480 * j) (parts ek (in_order_of j m bs))
  unfolding pad_to
  order_padded zero m e = refl
  order_padded (suc zero) m e =
      let p = payload ek (numbered m bs) in
      append-nil (opened ek (numbered m bs)) ∙ opens m (omega arith) ∙ ap (pad_to 480) (sym (append-nil p))
  order_padded (suc (suc j)) m e =
      let b = numbered m bs in
      let p = payload ek b in
      let q = parts ek (in_order_of (suc j) (suc m) bs) in
      let l : length p ≡ 480 = full_length m (omega arith) (λ z. omega arith) in
      let z : 480 - length p ≡ 0 = omega arith in
      let o : opened ek b ≡ p = opens m (omega arith) ∙ ap (λ (n : ℕ). p ++ replicate n 0) z ∙ append-nil p in
      let n : 480 * suc j - length q ≡ 480 * suc (suc j) - length (p ++ q) = omega (arith, length-append p q) in
      ap₂ ◌++◌ o (order_padded (suc j) (suc m) (omega arith)) ∙ sym (append_assoc p q (replicate (480 * suc j - length q) 0)) ∙ ap (λ (i : ℕ). (p ++ q) ++ replicate i 0) n

  order_bytes : (j m : ℕ) → m + j ≡ count → length (parts ek (in_order_of j m bs)) + lengths_below bs m ≡ lengths_below bs (m + j)
  unfolding lengths_below
  order_bytes zero m e = zero-add (lengths_below bs m) ∙ ap (lengths_below bs) (sym (add-zero m))
  order_bytes (suc j) m e =
      let p = payload ek (numbered m bs) in
      let q = parts ek (in_order_of j (suc m) bs) in
      let i : suc m + j ≡ m + suc j = omega arith in
      let ih : length q + (lengths_below bs m + (head_of_lem (numbered m bs)).len) ≡ lengths_below bs (m + suc j) = order_bytes j (suc m) (omega arith) ∙ ap (lengths_below bs) i in
      omega (arith, ih, length-append p q, sized m (omega arith))

  passes : Passes (keys_under ekey ckey) (always one) fresh (in_order_of count 0 bs)
  passes = order_passes count 0 (zero-add count) fresh refl (λ h. absurd (omega arith)) (λ h. absurd (omega arith)) (λ h. omega (arith, v.count_low))

  -- they are the image of one payload, of this release
  pub held_image : ImageOf one ek ck (in_order_of count 0 bs)
  held_image =
      let t = passes_image one ek ck le (in_order_of count 0 bs) (order_blocks count 0 (zero-add count)) passes in
      record { payload = parts ek (in_order_of count 0 bs); release = release_of (in_order_of count 0 bs); payload_bytes = t.2; payload_fits = t.1; release_fits = t.0; is_image = t.3 }

  pub held_release : release_of (in_order_of count 0 bs) ≡ release
  held_release = go count (omega (arith, v.count_low)) refl
    where
      go : (c : ℕ) → 0 < c → c ≡ count → release_of (in_order_of c 0 bs) ≡ release
      go zero h e = absurd (omega arith)
      go (suc c) h e = (at 0 (omega arith)).met.same_release

  pub held_in_store : take (480 * count) x.store ≡ pad_to (480 * count) (parts ek (in_order_of count 0 bs))
  held_in_store = order_stored count 0 (zero-add count) ∙ order_padded count 0 (zero-add count)

  pub held_bytes : x.receiver.receipt.bytes ≡ length (parts ek (in_order_of count 0 bs))
  unfolding lengths_below
  held_bytes = v.bytes_is ∙ sym (sym (add-zero (length (parts ek (in_order_of count 0 bs)))) ∙ order_bytes count 0 (zero-add count) ∙ ap (lengths_below bs) (zero-add count))

  pub held-length : length (in_order_of count 0 bs) ≡ count
  held-length = order_length count 0 bs
