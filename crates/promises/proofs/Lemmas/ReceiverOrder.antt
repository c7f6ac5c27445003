-- Two parts of a store that do not meet, and any order of blocks that a receiver takes. Assumes nothing.
use mathlib.Core.Path.{◌≡◌, refl, sym, ap, ap₂, subst, ◌∙◌}
use mathlib.Core.Bool.{Bool, true, false, cond}
use mathlib.Core.List.{List, [], ◌∷◌, ◌++◌, append_assoc, Permᴰ}
use mathlib.Core.Logic.{⊎_elim}
use Prim.Native.Nat.{ℕ, zero, suc, ◌+◌, ◌-◌, ◌*◌, ◌/◌, ◌%◌, ◌≤◌, ◌<◌, min}
use native.Mathlib.Nat.{eq-or-lt_of_le}
use native.Mathlib.Omega.{arith}
use borrow.Author.Tests.{ne_eqb}
use lib.Dec.{eqb}
use lib.ListN.{length, get_or, take, drop, length-append, length-take, length-drop, length-set, get_or-append}
use lib.Seq.{paste, length-paste, ext_get_or, get_or-take, get_or-drop, get_or-append-add, length-take-le}
use Rattle.octets.specs.Octets.{Bytes}
use Rattle.octets.proofs.Xor.{lt_or_le}
use Rattle.image_layout.specs.Layout.{head_of_lem}
use Rattle.image_spec.specs.Sealed.{opened}
use Rattle.image_spec.specs.Judge.{Keys}
use Rattle.image_receiver_map.specs.Map.{bit, bit_put, map_size, with_bit}
use Rattle.image_receiver_map.proofs.Laws.{bit-put, bit_put_order, bit_put_bytes}
use Rattle.image_receiver_answer.specs.Answers.{receive_number, accepted}
use Rattle.image_receiver_answer.specs.declared.Receipt.{Receipt}
use Rattle.image_receiver_answer.specs.declared.ReceiveAnswer.{ReceiveAnswer}
use Rattle.image_receiver_answer.specs.declared.ReceiveAnswer.TheVariants.{Received}
use Rattle.image_receiver_block.specs.Receive.{receive_answer, capped, counted_with, stored, answered_with, received_under}
use Rattle.image_receiver_block.specs.declared.BlockReceived.{BlockReceived}
use Rattle.image_receiver.specs.Calls.{receiver_keys, handed, receive_of}
use Rattle.image_receiver.specs.declared.Receiver.{Receiver}
use Rattle.image_receiver.specs.declared.ReceiveDone.{ReceiveDone}
use Rattle.promises.proofs.Receiver.Words.{Receivable, Roomy, Taken, Holding, answer_to, after, after_all, All, OtherNumber, Distinct, Acceptable}
use Rattle.promises.proofs.Lemmas.ReceiverTold.{received_taken, taken_received, taken_leaves, refused_leaves, accepts_zero, refuses_nonzero}

-- ---- a part put into a list

module _ (d : List ℕ) (at : ℕ) (s : List ℕ) (n : ℕ) (hd : at + n ≤ length d) (hs : length s ≡ n) where
  pub at_before : (k : ℕ) → k < at → get_or (paste d at s n) k 0 ≡ get_or d k 0
  at_before k h =
      let l : length (take at d) ≡ at = length-take-le at d (omega arith) in
      ap (λ (x : List ℕ). get_or x k 0) (append_assoc (take at d) (take n s) (drop (at + n) d)) ∙ get_or-append (take at d) (take n s ++ drop (at + n) d) 0 k (omega arith) ∙ get_or-take at d k 0 h

  pub at_inside : (k : ℕ) → k < n → get_or (paste d at s n) (at + k) 0 ≡ get_or s k 0
  at_inside k h =
      let l : length (take at d) ≡ at = length-take-le at d (omega arith) in
      let e : at + k ≡ length (take at d) + k = omega arith in
      ap (λ (x : List ℕ). get_or x (at + k) 0) (append_assoc (take at d) (take n s) (drop (at + n) d)) ∙ ap (λ (j : ℕ). get_or (take at d ++ (take n s ++ drop (at + n) d)) j 0) e ∙ get_or-append-add (take at d) (take n s ++ drop (at + n) d) k 0
      ∙ get_or-append (take n s) (drop (at + n) d) 0 k (omega (arith, length-take n s)) ∙ get_or-take n s k 0 h

  pub at_behind : (k : ℕ) → at + n ≤ k → get_or (paste d at s n) k 0 ≡ get_or d k 0
  at_behind k h =
      let l : length (take at d ++ take n s) ≡ at + n = omega (arith, length-append (take at d) (take n s), length-take at d, length-take n s) in
      let e : k ≡ length (take at d ++ take n s) + (k - (at + n)) = omega arith in
      let f : at + n + (k - (at + n)) ≡ k = omega arith in
      ap (λ (j : ℕ). get_or (paste d at s n) j 0) e ∙ get_or-append-add (take at d ++ take n s) (drop (at + n) d) (k - (at + n)) 0 ∙ get_or-drop (at + n) d (k - (at + n)) 0 ∙ ap (λ (j : ℕ). get_or d j 0) f

-- the first before the second
apart : (d : List ℕ) (at to : ℕ) (x y : List ℕ) (n : ℕ) → at + n ≤ to → to + n ≤ length d → length x ≡ n → length y ≡ n
    → paste (paste d at x n) to y n ≡ paste (paste d to y n) at x n
apart d at to x y n h r hx hy =
    let lx = length-paste d at x n (omega arith) (omega arith) in
    let ly = length-paste d to y n (omega arith) (omega arith) in
    let lxy = length-paste (paste d at x n) to y n (omega arith) (omega arith) in
    let lyx = length-paste (paste d to y n) at x n (omega arith) (omega arith) in
    ext_get_or 0 (paste (paste d at x n) to y n) (paste (paste d to y n) at x n) (omega arith)
    (λ k l.
    let dx = paste d at x n in
    let dy = paste d to y n in
    ⊎_elim
    (λ a. at_before dx to y n (omega arith) hy k (omega arith) ∙ at_before d at x n (omega arith) hx k a ∙ sym (at_before dy at x n (omega arith) hx k a ∙ at_before d to y n r hy k (omega arith)))
    (λ a. ⊎_elim
    (λ b.
    let e : at + (k - at) ≡ k = omega arith in
    let p : get_or dx k 0 ≡ get_or x (k - at) 0 = ap (λ (j : ℕ). get_or dx j 0) (sym e) ∙ at_inside d at x n (omega arith) hx (k - at) (omega arith) in
    let q : get_or (paste dy at x n) k 0 ≡ get_or x (k - at) 0 = ap (λ (j : ℕ). get_or (paste dy at x n) j 0) (sym e) ∙ at_inside dy at x n (omega arith) hx (k - at) (omega arith) in
    at_before dx to y n (omega arith) hy k (omega arith) ∙ p ∙ sym q)
    (λ b. ⊎_elim
    (λ t. at_before dx to y n (omega arith) hy k t ∙ at_behind d at x n (omega arith) hx k b ∙ sym (at_behind dy at x n (omega arith) hx k b ∙ at_before d to y n r hy k t))
    (λ t. ⊎_elim
    (λ u.
    let e : to + (k - to) ≡ k = omega arith in
    let p : get_or (paste dx to y n) k 0 ≡ get_or y (k - to) 0 = ap (λ (j : ℕ). get_or (paste dx to y n) j 0) (sym e) ∙ at_inside dx to y n (omega arith) hy (k - to) (omega arith) in
    let q : get_or dy k 0 ≡ get_or y (k - to) 0 = ap (λ (j : ℕ). get_or dy j 0) (sym e) ∙ at_inside d to y n r hy (k - to) (omega arith) in
    p ∙ sym (at_behind dy at x n (omega arith) hx k b ∙ q))
    (λ u. at_behind dx to y n (omega arith) hy k u ∙ at_behind d at x n (omega arith) hx k b ∙ sym (at_behind dy at x n (omega arith) hx k b ∙ at_behind d to y n r hy k u))
    (lt_or_le k (to + n)))
    (lt_or_le k to))
    (lt_or_le k (at + n)))
    (lt_or_le k at))

either_way : (d : List ℕ) (i j : ℕ) (x y : List ℕ) (c : ℕ) → (i ≡ j → ⊥) → i < c → j < c → 480 * c ≤ length d → length x ≡ 480 → length y ≡ 480
    → paste (paste d (480 * i) x 480) (480 * j) y 480 ≡ paste (paste d (480 * j) y 480) (480 * i) x 480
either_way d i j x y c o hi hj r hx hy =
    ⊎_elim (λ l. apart d (480 * i) (480 * j) x y 480 (omega arith) (omega arith) hx hy)
    (λ l. ⊎_elim (λ e. absurd (o (sym e))) (λ m. sym (apart d (480 * j) (480 * i) y x 480 (omega arith) (omega arith) hy hx)) (eq-or-lt_of_le {n = j} {m = i} l))
    (lt_or_le i j)

-- ---- one block

-- what a caller has after a block that was taken
abbrev pub kept_after : Holding → List ℕ → Holding
kept_after x b = record {
  receiver = record { keys = x.receiver.keys; receipt = counted_with x.receiver.receipt (head_of_lem b).len };
  store = stored (receiver_keys x.receiver).enc b x.store;
  map = bit_put x.map (head_of_lem b).number;
}

-- the answer of the call is that of the tests, whatever it leaves
pub leaves_answer : (k : Keys) (r : Receipt) (b store map : List ℕ) → (received_under k r b store map).0.answer ≡ receive_answer k r b store map
unfolding received_under
leaves_answer k r b store map = go (accepted (receive_answer k r b store map))
  where
    go : (t : Bool) → (cond {A = BlockReceived × List ℕ × List ℕ} t (answered_with (receive_answer k r b store map) (counted_with r (head_of_lem b).len), stored k.enc b store, bit_put map (head_of_lem b).number)
        (answered_with (receive_answer k r b store map) r, store, map)).0.answer ≡ receive_answer k r b store map
    go true = refl
    go false = refl

pub answer_is : (x : Holding) (b : List ℕ) → answer_to x b ≡ receive_answer (receiver_keys x.receiver) x.receiver.receipt b x.store x.map
unfolding receive_of
answer_is x b = leaves_answer (receiver_keys x.receiver) x.receiver.receipt b x.store x.map

pub acceptable_taken : (x : Holding) (b : List ℕ) → Acceptable x b → Taken (receiver_keys x.receiver) x.receiver.receipt b x.store x.map
acceptable_taken x b e =
    received_taken (receiver_keys x.receiver) x.receiver.receipt b x.store x.map
    (accepts_zero (receive_answer (receiver_keys x.receiver) x.receiver.receipt b x.store x.map) (sym (ap receive_number (answer_is x b)) ∙ e))

pub taken_acceptable : (x : Holding) (b : List ℕ) → Taken (receiver_keys x.receiver) x.receiver.receipt b x.store x.map → answer_to x b ≡ Received
taken_acceptable x b t = answer_is x b ∙ taken_received (receiver_keys x.receiver) x.receiver.receipt b x.store x.map t

pub kept-after : (x : Holding) (b : List ℕ) → Taken (receiver_keys x.receiver) x.receiver.receipt b x.store x.map → after x b ≡ kept_after x b
unfolding receive_of
kept-after x b t =
    ap (λ (d : BlockReceived × List ℕ × List ℕ). record { receiver = (handed x.receiver d).0.receiver; store = d.1; map = d.2 })
    (taken_leaves (receiver_keys x.receiver) x.receiver.receipt b x.store x.map t)

-- a refused one leaves everything
pub refused_after : (x : Holding) (b : List ℕ) → (receive_number (answer_to x b) ≡ 0 → ⊥) → after x b ≡ x
unfolding receive_of
refused_after x b n =
    let a = receive_answer (receiver_keys x.receiver) x.receiver.receipt b x.store x.map in
    let f : accepted a ≡ false = refuses_nonzero a (λ e. n (ap receive_number (answer_is x b) ∙ e)) in
    ap (λ (d : BlockReceived × List ℕ × List ℕ). record { receiver = (handed x.receiver d).0.receiver; store = d.1; map = d.2 })
    (refused_leaves (receiver_keys x.receiver) x.receiver.receipt b x.store x.map f)

-- ---- two blocks

pub put_length : (m : List ℕ) (n : ℕ) → length (bit_put m n) ≡ length m
unfolding bit_put
put_length m n = length-set m (n / 8) (with_bit (get_or m (n / 8) 0) (n % 8))

module _ (x : Holding) (sized : (b : List ℕ) → length b ≡ 512 → Bytes b → length (opened (receiver_keys x.receiver).enc b) ≡ 480) (mb : Bytes x.map) where
  abbrev k : Keys
  k = receiver_keys x.receiver

  abbrev r : Receipt
  r = x.receiver.receipt

  pub stored_length : (b : List ℕ) → Bytes b → Taken k r b x.store x.map → length (stored k.enc b x.store) ≡ length x.store
  unfolding stored
  stored_length b bb t =
      length-paste x.store (480 * (head_of_lem b).number) (opened k.enc b) 480 (omega (arith, t.roomy.store_room, t.receivable.below)) (omega (arith, sized b t.receivable.size bb))

  pub still_taken : (a b : List ℕ) → Bytes a → Taken k r a x.store x.map → Taken k r b x.store x.map → OtherNumber a b
      → Taken k (kept_after x a).receiver.receipt b (kept_after x a).store (kept_after x a).map
  still_taken a b ba p q o =
      let e : eqb (head_of_lem b).number (head_of_lem a).number ≡ false = ne_eqb (head_of_lem b).number (head_of_lem a).number (λ z. o (sym z)) in
      record {
        receivable = q.receivable;
        roomy = record { store_room = omega (arith, q.roomy.store_room, stored_length a ba p); map_room = omega (arith, q.roomy.map_room, put_length x.map (head_of_lem a).number) };
        not_held = bit-put x.map (head_of_lem a).number (head_of_lem b).number mb (omega (arith, p.roomy.map_room, p.receivable.below)) ∙ rw e q.not_held;
      }

  same_either_way : (a b : List ℕ) → Bytes a → Bytes b → Taken k r a x.store x.map → Taken k r b x.store x.map → OtherNumber a b → kept_after (kept_after x a) b ≡ kept_after (kept_after x b) a
  unfolding stored
  same_either_way a b ba bb p q o =
      let s = either_way x.store (head_of_lem a).number (head_of_lem b).number (opened k.enc a) (opened k.enc b) r.count o p.receivable.below q.receivable.below p.roomy.store_room
      (sized a p.receivable.size ba) (sized b q.receivable.size bb) in
      let m = bit_put_order x.map (head_of_lem a).number (head_of_lem b).number mb in
      let c : capped (capped r.bytes (head_of_lem a).len) (head_of_lem b).len ≡ capped (capped r.bytes (head_of_lem b).len) (head_of_lem a).len = omega arith in
      rw (s, m, c)

  pub in_either_order : (a b : List ℕ) → Bytes a → Bytes b → Acceptable x a → Acceptable x b → OtherNumber a b → after (after x a) b ≡ after (after x b) a
  in_either_order a b ba bb pa pb o =
      let p = acceptable_taken x a pa in
      let q = acceptable_taken x b pb in
      ap (λ (y : Holding). after y b) (kept-after x a p) ∙ kept-after (kept_after x a) b (still_taken a b ba p q o)
      ∙ same_either_way a b ba bb p q o
      ∙ sym (ap (λ (y : Holding). after y a) (kept-after x b q) ∙ kept-after (kept_after x b) a (still_taken b a bb q p (λ e. o (sym e))))

-- ---- any number of them

all_order : (P : List ℕ → Type 0) {bs cs : List (List ℕ)} → Permᴰ bs cs → All P bs → All P cs
all_order P Permᴰ.nil w = tt
all_order P (Permᴰ.cons {a = a} {b = b} e d) w = (subst P e w.0, all_order P d w.1)
all_order P (Permᴰ.swap e f) w = (subst P f w.1.0, (subst P e w.0, w.1.1))
all_order P (Permᴰ.trans d f) w = all_order P f (all_order P d w)

distinct_order : {bs cs : List (List ℕ)} → Permᴰ bs cs → Distinct bs → Distinct cs
distinct_order Permᴰ.nil w = tt
distinct_order (Permᴰ.cons {a = a} {b = b} {l₂ = l} e d) w = (subst (λ (x : List ℕ). All (OtherNumber x) l) e (all_order (OtherNumber a) d w.0), distinct_order d w.1)
distinct_order (Permᴰ.swap {a = a} {b = b} {a' = a'} {b' = b'} {l = l} e f) w = (
  (subst (λ (x : List ℕ). OtherNumber a' x) e (subst (λ (x : List ℕ). OtherNumber x a) f (λ q. w.0.0 (sym q))), subst (λ (x : List ℕ). All (OtherNumber x) l) f w.1.0),
  (subst (λ (x : List ℕ). All (OtherNumber x) l) e w.0.1, w.1.1),
)
distinct_order (Permᴰ.trans d f) w = distinct_order f (distinct_order d w)

-- a state whose blocks open to 480 bytes, with a map of bytes
pub record Able (x : Holding) : Type 0 where
  pub sized : (b : List ℕ) → length b ≡ 512 → Bytes b → length (opened (receiver_keys x.receiver).enc b) ≡ 480
  pub map_bytes : Bytes x.map

pub able_after : (x : Holding) (b : List ℕ) → Able x → Acceptable x b → Able (after x b)
able_after x b v p =
    subst Able (sym (kept-after x b (acceptable_taken x b p)))
    (record { sized = v.sized; map_bytes = bit_put_bytes x.map (head_of_lem b).number v.map_bytes })

stay : (x : Holding) (a : List ℕ) (bs : List (List ℕ)) → Able x → Bytes a → Acceptable x a → All (Acceptable x) bs → All (OtherNumber a) bs → All (Acceptable (after x a)) bs
stay x a [] v ba p w o = tt
stay x a (b ∷ bs) v ba p w o =
    let t = acceptable_taken x a p in (
      subst (λ (y : Holding). Acceptable y b) (sym (kept-after x a t)) (ap receive_number (taken_acceptable (kept_after x a) b (still_taken x v.sized v.map_bytes a b ba t (acceptable_taken x b w.0) o.0))),
      stay x a bs v ba p w.1 o.1,
    )

pub in_any_order : (x : Holding) {bs cs : List (List ℕ)} → Permᴰ bs cs → Able x → All Bytes bs → All (Acceptable x) bs → Distinct bs → after_all x bs ≡ after_all x cs
in_any_order x Permᴰ.nil v u w o = refl
in_any_order x (Permᴰ.cons {a = a} {b = b} {l₁ = l} {l₂ = l'} e d) v u w o =
    in_any_order (after x a) d (able_after x a v w.0) u.1 (stay x a l v u.0 w.0 w.1 o.0) o.1
    ∙ ap (λ (y : List ℕ). after_all (after x y) l') e
in_any_order x (Permᴰ.swap {a = a} {b = b} {a' = a'} {b' = b'} {l = l} e f) v u w o =
    ap (λ (y : Holding). after_all y l) (in_either_order x v.sized v.map_bytes a b u.0 u.1.0 w.0 w.1.0 o.0.0)
    ∙ ap₂ (λ (y z : List ℕ). after_all (after (after x y) z) l) f e
in_any_order x (Permᴰ.trans d f) v u w o =
    in_any_order x d v u w o ∙ in_any_order x f v (all_order Bytes d u) (all_order (Acceptable x) d w) (distinct_order d o)
