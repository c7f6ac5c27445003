-- What a receiver's answers say: each test of a block, and of a start. Assumes nothing.
use mathlib.Core.Path.{◌≡◌, refl, sym, ap, ap₂, subst, ◌∙◌}
use mathlib.Core.Logic.{⊎_elim}
use mathlib.Core.Bool.{Bool, true, false, ◌&&◌, not, true≢false, cond}
use mathlib.Core.List.{List, [], ◌∷◌, ◌++◌}
use Prim.Native.Nat.{ℕ, zero, suc, ◌+◌, ◌-◌, ◌*◌, ◌≤◌, ◌<◌}
use native.Mathlib.Nat.{eq-or-lt_of_le}
use native.Mathlib.Omega.{arith}
use borrow.Author.Tests.{eqb-true, eqb-false, eq-eqb, ne_eqb, ltb-true, ltb-false, lt-ltb, le-ltb, leb-true, le-leb, not-true, not-false}
use lib.Dec.{eqb, ltb, leb}
use lib.ListN.{length, replicate}
use Rattle.octets.specs.Blocks.{BlockCipher}
use Rattle.octets.proofs.Both.{and_true}
use Rattle.aes_sbox.specs.Sbox.{s_box}
use Rattle.aes_schedule.specs.Schedule.{schedule_of}
use Rattle.image_layout.specs.Layout.{head_of_lem}
use Rattle.image_layout.specs.declared.Head.{Head}
use Rattle.image_limits.specs.Fits.{count_fits_of, length_fits}
use Rattle.image_reasons.specs.declared.Reason.{Reason}
use Rattle.image_reasons.specs.declared.Reason.TheVariants.{AfterLast, CheckWrong, Count, Number, OtherCount, OtherRelease, Length, Reserved, FillNotZero}
use Rattle.image_spec.specs.Sealed.{checks, fill_zero}
use Rattle.image_spec.specs.Judge.{Keys}
use Rattle.image_spec.specs.KeyPair.{both_taken, pair_of}
use Rattle.image_spec.specs.Sealed.{is_block}
use Rattle.image_receiver_map.specs.Map.{map_size, bit, bit_at, bit_put, cleared}
use Rattle.image_receiver_map.proofs.Laws.{bit_most}
use Rattle.image_receiver_answer.specs.Answers.{receive_number, begin_number, accepted, room_for, first_told, header_tests}
use Rattle.image_receiver_answer.specs.declared.Receipt.{Receipt}
use Rattle.image_receiver_answer.specs.declared.ReceiveAnswer.{ReceiveAnswer}
use Rattle.image_receiver_answer.specs.declared.ReceiveAnswer.TheVariants.{Received, NotABlock, NoRoom, Because, NotBelow, AlreadyHeld}
use Rattle.image_receiver_answer.specs.declared.BeginAnswer.{BeginAnswer}
use Rattle.image_receiver_answer.specs.declared.BeginAnswer.TheVariants.{Begun, BeginKey, BeginCount, BeginRoom}
use Rattle.image_receiver_answer.proofs.Order.{Refuses, AllRefuse, AllFalse, all_false, all_accepted, header_refuses}
use Rattle.image_receiver_block.specs.Receive.{last_tests, receive_tests, receive_answer, counted_with, stored, answered_with, leaves, received_under}
use Rattle.image_receiver_block.specs.declared.BlockReceived.{BlockReceived}
use Rattle.image_receiver_block.proofs.Kept.{room_parts}
use Rattle.image_receiver.specs.Calls.{begun_with, begun_not, begin_by, begin_of}
use Rattle.image_receiver.specs.declared.ReceiveStarted.{ReceiveStarted}
use Rattle.promises.proofs.Aes.Keys.{KeyTaken}
use Rattle.promises.proofs.Receiver.Words.{Receivable, Roomy, ReceiveRow, receive_rank, HeaderRow, HeaderSays, Taken, FirstRow, ReceiveSays, Beginning, BeginSays}
use Rattle.promises.proofs.Lemmas.ImageJudge.{count_fits, fits_count}
use Rattle.promises.proofs.Lemmas.ImageCalls.{both-taken, taken_both}

-- ---- tests

clash : (t : Bool) → t ≡ true → t ≡ false → ⊥
clash t e f = true≢false (sym e ∙ f)

is_false : (t : Bool) → (t ≡ true → ⊥) → t ≡ false
is_false true n = absurd (n refl)
is_false false n = refl

pub roomy_parts : (count store map : ℕ) → room_for count store map ≡ true → Roomy count store map
roomy_parts count store map e = let a = room_parts count store map e in record { store_room = a.0; map_room = a.1 }

pub roomy_right : (count store map : ℕ) → Roomy count store map → room_for count store map ≡ true
unfolding room_for
roomy_right count store map r = rw (le-leb (480 * count) store r.store_room) (le-leb (map_size count) map r.map_room)

bit_clear : (m : List ℕ) (n : ℕ) → bit_at m n ≡ false → bit m n ≡ 0
bit_clear m n e = let x = eqb-false (bit m n) 1 e in omega (arith, bit_most m n)

clear_bit : (m : List ℕ) (n : ℕ) → bit m n ≡ 0 → bit_at m n ≡ false
clear_bit m n e = ne_eqb (bit m n) 1 (λ q. omega arith)

-- ---- accepted is what meets every test

module _ (k : Keys) (r : Receipt) (b store map : List ℕ) where
  abbrev h : Head
  h = head_of_lem b

  checked : Bool
  checked = k.usable && checks k.mac [] b

  tests_refuse : AllRefuse (receive_tests k r b store map)
  unfolding header_tests
  tests_refuse = (refl, (refl, (refl, (refl, (refl, (refl, (refl, (refl, (refl, (refl, (refl, tt)))))))))))

  pub received_taken : receive_answer k r b store map ≡ Received → Taken k r b store map
  unfolding receive_answer header_tests
  received_taken e =
      let a = all_false (receive_tests k r b store map) tests_refuse e in
      let c = and_true k.usable (checks k.mac [] b) (not-false (k.usable && checks k.mac [] b) a.1.1.0) in
      let f = count_fits h.count (not-false (count_fits_of h.count) a.1.1.1.0) in
      let s = eqb-true h.count r.count (not-false (eqb h.count r.count) a.1.1.1.1.0) in
      record {
        receivable = record {
          size = eqb-true (length b) 512 (not-false (is_block b) a.0);
          usable_keys = c.0;
          check_right = c.1;
          count_low = omega (arith, f.0);
          count_high = omega (arith, f.1);
          same_count = s;
          same_release = eqb-true h.release r.release (not-false (eqb h.release r.release) a.1.1.1.1.1.0);
          below = ltb-true h.number r.count (not-false (ltb h.number r.count) a.1.1.1.1.1.1.0);
          len_fits = not-false (length_fits h.number h.count h.len) a.1.1.1.1.1.1.1.0;
          marked = eqb-true h.reserved 0 (not-false (eqb h.reserved 0) a.1.1.1.1.1.1.1.1.0);
          fill-zero = not-false (fill_zero k.enc b) a.1.1.1.1.1.1.1.1.1.0;
        };
        roomy = roomy_parts r.count (length store) (length map) (not-false (room_for r.count (length store) (length map)) a.1.0);
        not_held = bit_clear map h.number a.1.1.1.1.1.1.1.1.1.1.0;
      }

  pub taken_received : Taken k r b store map → receive_answer k r b store map ≡ Received
  unfolding receive_answer header_tests
  taken_received t =
      let m = t.receivable in
      let u : (k.usable && checks k.mac [] b) ≡ true = rw m.usable_keys m.check_right in
      all_accepted (receive_tests k r b store map) (
        ap not (eq-eqb (length b) 512 m.size),
        (
          ap not (roomy_right r.count (length store) (length map) t.roomy),
          (
            ap not u,
            (
              ap not (fits_count h.count (omega (arith, m.same_count, m.count_low)) (omega (arith, m.same_count, m.count_high))),
              (
                ap not (eq-eqb h.count r.count m.same_count),
                (
                  ap not (eq-eqb h.release r.release m.same_release),
                  (
                    ap not (lt-ltb h.number r.count m.below),
                    (
                      ap not m.len_fits,
                      (
                        ap not (eq-eqb h.reserved 0 m.marked),
                        (
                          ap not m.fill-zero,
                          (clear_bit map h.number t.not_held, tt),
                        ),
                      ),
                    ),
                  ),
                ),
              ),
            ),
          ),
        ),
      )

  -- what each leaves
  pub taken_leaves : Taken k r b store map → received_under k r b store map ≡ (answered_with Received (counted_with r h.len), stored k.enc b store, bit_put map h.number)
  unfolding received_under
  taken_leaves t = rw (taken_received t)

  pub refused_leaves : accepted (receive_answer k r b store map) ≡ false → received_under k r b store map ≡ (answered_with (receive_answer k r b store map) r, store, map)
  unfolding received_under
  refused_leaves e = rw e

-- an answer accepts exactly where its number is 0
pub accepts_zero : (a : ReceiveAnswer) → receive_number a ≡ 0 → a ≡ Received
accepts_zero Received e = refl
accepts_zero NotABlock e = absurd (omega arith)
accepts_zero NoRoom e = absurd (omega arith)
accepts_zero (Because CheckWrong) e = absurd (omega arith)
accepts_zero (Because (Count v)) e = absurd (omega arith)
accepts_zero (Because (OtherCount v)) e = absurd (omega arith)
accepts_zero (Because (OtherRelease v)) e = absurd (omega arith)
accepts_zero (Because (Length v)) e = absurd (omega arith)
accepts_zero (Because (Reserved v)) e = absurd (omega arith)
accepts_zero (Because FillNotZero) e = absurd (omega arith)
accepts_zero (Because (Number v)) e = absurd (omega arith)
accepts_zero (Because AfterLast) e = absurd (omega arith)
accepts_zero NotBelow e = absurd (omega arith)
accepts_zero AlreadyHeld e = absurd (omega arith)

pub refuses_nonzero : (a : ReceiveAnswer) → (receive_number a ≡ 0 → ⊥) → accepted a ≡ false
refuses_nonzero Received n = absurd (n refl)
refuses_nonzero NotABlock n = refl
refuses_nonzero NoRoom n = refl
refuses_nonzero (Because reason) n = refl
refuses_nonzero NotBelow n = refl
refuses_nonzero AlreadyHeld n = refl

-- ---- every answer says what the table says of it, and that nothing asked before it holds

test_at : List (Bool × ReceiveAnswer) → ℕ → Bool
test_at [] n = false
test_at (t ∷ ts) zero = t.0
test_at (t ∷ ts) (suc n) = test_at ts n

-- tests in the order of their ranks, from i on: each that holds gives its row
abbrev Ranked : (ReceiveAnswer → Type 0) → ℕ → List (Bool × ReceiveAnswer) → Type 0
Ranked R i [] = Unit {0}
Ranked R i (t ∷ ts) = (receive_rank t.1 ≡ i) × (t.0 ≡ true → R t.1) × Ranked R (suc i) ts

-- the first that holds
first-told : (R : ReceiveAnswer → Type 0) (i : ℕ) (ts : List (Bool × ReceiveAnswer)) → Ranked R i ts → ((q : ReceiveAnswer) → R q → i ≤ receive_rank q → test_at ts (receive_rank q - i) ≡ true)
    → ((q : ReceiveAnswer) → receive_rank q < i → R q → ⊥) → (r : ReceiveAnswer) → accepted r ≡ false → first_told ts ≡ r → R r × ((q : ReceiveAnswer) → receive_rank q < receive_rank r → R q → ⊥)
unfolding first_told test_at
first-told R i [] w holds none r f e = absurd (clash (accepted r) (ap accepted (sym e)) f)
first-told R i (t ∷ ts) w holds none r f e = go t.0 refl e (first-told R (suc i) ts w.2 further)
  where
    further : (q : ReceiveAnswer) → R q → suc i ≤ receive_rank q → test_at ts (receive_rank q - suc i) ≡ true
    further q x h = let z : receive_rank q - i ≡ suc (receive_rank q - suc i) = omega arith in ap (test_at (t ∷ ts)) (sym z) ∙ holds q x (omega arith)

    here : (q : ReceiveAnswer) → receive_rank q ≡ i → R q → t.0 ≡ true
    here q h x = let z : receive_rank q - i ≡ 0 = omega arith in ap (test_at (t ∷ ts)) (sym z) ∙ holds q x (omega arith)

    go : (b : Bool) → t.0 ≡ b → cond b t.1 (first_told ts) ≡ r
        → (((q : ReceiveAnswer) → receive_rank q < suc i → R q → ⊥) → (r : ReceiveAnswer) → accepted r ≡ false → first_told ts ≡ r → R r × ((q : ReceiveAnswer) → receive_rank q < receive_rank r → R q → ⊥))
        → R r × ((q : ReceiveAnswer) → receive_rank q < receive_rank r → R q → ⊥)
    go true g same rest =
        let n : receive_rank r ≡ i = ap receive_rank (sym same) ∙ w.0 in
        (subst R same (w.1 g), λ q h. none q (omega arith))
    go false g same rest = rest (λ q h x. ⊎_elim (λ z. clash t.0 (here q z x) g) (λ l. none q l x) (eq-or-lt_of_le {n = receive_rank q} {m = i} (omega arith))) r f same

module _ (k : Keys) (r : Receipt) (b store map : List ℕ) where
  ranked : Ranked (ReceiveRow k r b store map) 0 (receive_tests k r b store map)
  unfolding header_tests
  ranked =
      let h = head_of_lem b in (
        refl,
        λ e. eqb-false (length b) 512 (not-true (is_block b) e),
        (
          refl,
          λ e y. clash (room_for r.count (length store) (length map)) (roomy_right r.count (length store) (length map) y) (not-true (room_for r.count (length store) (length map)) e),
          (
            refl,
            λ e. not-true (k.usable && checks k.mac [] b) e,
            (
              refl,
              λ e. (refl, λ l m. clash (count_fits_of h.count) (fits_count h.count l m) (not-true (count_fits_of h.count) e)),
              (
                refl,
                λ e. (refl, eqb-false h.count r.count (not-true (eqb h.count r.count) e)),
                (
                  refl,
                  λ e. (refl, eqb-false h.release r.release (not-true (eqb h.release r.release) e)),
                  (
                    refl,
                    λ e. ltb-false h.number r.count (not-true (ltb h.number r.count) e),
                    (
                      refl,
                      λ e. (refl, not-true (length_fits h.number h.count h.len) e),
                      (
                        refl,
                        λ e. (refl, eqb-false h.reserved 0 (not-true (eqb h.reserved 0) e)),
                        (
                          refl,
                          λ e. not-true (fill_zero k.enc b) e,
                          (refl, λ e. eqb-true (bit map h.number) 1 e, tt),
                        ),
                      ),
                    ),
                  ),
                ),
              ),
            ),
          ),
        ),
      )

  -- a row that holds is a test that does
  row_test : (q : ReceiveAnswer) → ReceiveRow k r b store map q → 0 ≤ receive_rank q → test_at (receive_tests k r b store map) (receive_rank q - 0) ≡ true
  unfolding test_at header_tests
  row_test Received x l = absurd x
  row_test NotABlock x l = ap not (ne_eqb (length b) 512 x)
  row_test NoRoom x l = ap not (is_false (room_for r.count (length store) (length map)) (λ e. x (roomy_parts r.count (length store) (length map) e)))
  row_test (Because CheckWrong) x l = ap not x
  row_test (Because (Count v)) x l = ap not (is_false (count_fits_of (head_of_lem b).count) (λ e. let c = count_fits (head_of_lem b).count e in x.1 (omega (arith, x.0, c.0)) (omega (arith, x.0, c.1))))
  row_test (Because (OtherCount v)) x l = ap not (ne_eqb (head_of_lem b).count r.count (λ e. x.1 (x.0 ∙ e)))
  row_test (Because (OtherRelease v)) x l = ap not (ne_eqb (head_of_lem b).release r.release (λ e. x.1 (x.0 ∙ e)))
  row_test NotBelow x l = ap not (le-ltb (head_of_lem b).number r.count x)
  row_test (Because (Length v)) x l = ap not (ap (length_fits (head_of_lem b).number (head_of_lem b).count) (sym x.0) ∙ x.1)
  row_test (Because (Reserved v)) x l = ap not (ne_eqb (head_of_lem b).reserved 0 (λ e. x.1 (x.0 ∙ e)))
  row_test (Because FillNotZero) x l = ap not x
  row_test AlreadyHeld x l = eq-eqb (bit map (head_of_lem b).number) 1 x
  row_test (Because (Number v)) x l = absurd x
  row_test (Because AfterLast) x l = absurd x

  row_first : (a : ReceiveAnswer) → accepted a ≡ false → receive_answer k r b store map ≡ a → FirstRow k r b store map a
  unfolding receive_answer
  row_first a f e = first-told (ReceiveRow k r b store map) 0 (receive_tests k r b store map) ranked row_test (λ q l. absurd (omega arith)) a f e

  pub answer_says : (a : ReceiveAnswer) → receive_answer k r b store map ≡ a → ReceiveSays k r b store map a
  answer_says Received e = received_taken k r b store map e
  answer_says NotABlock e = row_first NotABlock refl e
  answer_says NoRoom e = row_first NoRoom refl e
  answer_says (Because reason) e = row_first (Because reason) refl e
  answer_says NotBelow e = row_first NotBelow refl e
  answer_says AlreadyHeld e = row_first AlreadyHeld refl e

  pub no_row_received : ((q : ReceiveAnswer) → ReceiveRow k r b store map q → ⊥) → receive_answer k r b store map ≡ Received
  no_row_received n = go (receive_answer k r b store map) refl
    where
      go : (a : ReceiveAnswer) → receive_answer k r b store map ≡ a → a ≡ Received
      go Received e = refl
      go NotABlock e = absurd (n NotABlock (row_first NotABlock refl e).0)
      go NoRoom e = absurd (n NoRoom (row_first NoRoom refl e).0)
      go (Because reason) e = absurd (n (Because reason) (row_first (Because reason) refl e).0)
      go NotBelow e = absurd (n NotBelow (row_first NotBelow refl e).0)
      go AlreadyHeld e = absurd (n AlreadyHeld (row_first AlreadyHeld refl e).0)

-- ---- a header alone

module _ (r : Receipt) (h : Head) where
  header_ranked : Ranked (HeaderRow r h) 3 (header_tests r h)
  unfolding header_tests
  header_ranked = (
    refl,
    λ e. (refl, λ l m. clash (count_fits_of h.count) (fits_count h.count l m) (not-true (count_fits_of h.count) e)),
    (
      refl,
      λ e. (refl, eqb-false h.count r.count (not-true (eqb h.count r.count) e)),
      (
        refl,
        λ e. (refl, eqb-false h.release r.release (not-true (eqb h.release r.release) e)),
        (
          refl,
          λ e. ltb-false h.number r.count (not-true (ltb h.number r.count) e),
          (
            refl,
            λ e. (refl, not-true (length_fits h.number h.count h.len) e),
            (refl, λ e. (refl, eqb-false h.reserved 0 (not-true (eqb h.reserved 0) e)), tt),
          ),
        ),
      ),
    ),
  )

  header_test : (q : ReceiveAnswer) → HeaderRow r h q → 3 ≤ receive_rank q → test_at (header_tests r h) (receive_rank q - 3) ≡ true
  unfolding test_at header_tests
  header_test (Because (Count v)) x l = ap not (is_false (count_fits_of h.count) (λ e. let c = count_fits h.count e in x.1 (omega (arith, x.0, c.0)) (omega (arith, x.0, c.1))))
  header_test (Because (OtherCount v)) x l = ap not (ne_eqb h.count r.count (λ e. x.1 (x.0 ∙ e)))
  header_test (Because (OtherRelease v)) x l = ap not (ne_eqb h.release r.release (λ e. x.1 (x.0 ∙ e)))
  header_test NotBelow x l = ap not (le-ltb h.number r.count x)
  header_test (Because (Length v)) x l = ap not (ap (length_fits h.number h.count) (sym x.0) ∙ x.1)
  header_test (Because (Reserved v)) x l = ap not (ne_eqb h.reserved 0 (λ e. x.1 (x.0 ∙ e)))
  header_test Received x l = absurd x
  header_test NotABlock x l = absurd x
  header_test NoRoom x l = absurd x
  header_test AlreadyHeld x l = absurd x
  header_test (Because CheckWrong) x l = absurd x
  header_test (Because FillNotZero) x l = absurd x
  header_test (Because (Number v)) x l = absurd x
  header_test (Because AfterLast) x l = absurd x

  header_early : (q : ReceiveAnswer) → receive_rank q < 3 → HeaderRow r h q → ⊥
  header_early (Because (Count v)) l x = omega arith
  header_early (Because (OtherCount v)) l x = omega arith
  header_early (Because (OtherRelease v)) l x = omega arith
  header_early NotBelow l x = omega arith
  header_early (Because (Length v)) l x = omega arith
  header_early (Because (Reserved v)) l x = omega arith
  header_early Received l x = x
  header_early NotABlock l x = x
  header_early NoRoom l x = x
  header_early AlreadyHeld l x = x
  header_early (Because CheckWrong) l x = x
  header_early (Because FillNotZero) l x = x
  header_early (Because (Number v)) l x = x
  header_early (Because AfterLast) l x = x

  pub header_says : (a : ReceiveAnswer) → first_told (header_tests r h) ≡ a → HeaderSays r h a
  header_says a e = record {
    refused_by = λ n. told (refuses_nonzero a n);
    passed = λ n. go (accepted a) refl n;
  }
    where
      told : accepted a ≡ false → HeaderRow r h a × ((q : ReceiveAnswer) → receive_rank q < receive_rank a → HeaderRow r h q → ⊥)
      told f = first-told (HeaderRow r h) 3 (header_tests r h) header_ranked header_test header_early a f e

      number : (x : ReceiveAnswer) → accepted x ≡ true → receive_number x ≡ 0
      number Received f = refl
      number NotABlock f = absurd (true≢false (sym f))
      number NoRoom f = absurd (true≢false (sym f))
      number (Because reason) f = absurd (true≢false (sym f))
      number NotBelow f = absurd (true≢false (sym f))
      number AlreadyHeld f = absurd (true≢false (sym f))

      go : (t : Bool) → accepted a ≡ t → ((q : ReceiveAnswer) → HeaderRow r h q → ⊥) → receive_number a ≡ 0
      go true f n = number a f
      go false f n = absurd (n a (told f).0)

-- ---- the start

module _ (ekey ckey : List ℕ) (count release : ℕ) (store map : List ℕ) where
  by_begin : (P : ReceiveStarted × List ℕ → Type 0)
      → (both_taken (schedule_of s_box ekey) (schedule_of s_box ckey) ≡ false → P (begun_not BeginKey, map))
      → (both_taken (schedule_of s_box ekey) (schedule_of s_box ckey) ≡ true → count_fits_of count ≡ false → P (begun_not (BeginCount count), map))
      → (both_taken (schedule_of s_box ekey) (schedule_of s_box ckey) ≡ true → count_fits_of count ≡ true → room_for count (length store) (length map) ≡ false → P (begun_not BeginRoom, map))
      → (both_taken (schedule_of s_box ekey) (schedule_of s_box ckey) ≡ true → count_fits_of count ≡ true → room_for count (length store) (length map) ≡ true
      → P (begun_with Begun (pair_of (schedule_of s_box ekey) (schedule_of s_box ckey)) count release, cleared (map_size count) map))
      → P (begin_of ekey ckey count release store map)
  unfolding begin_of
  by_begin P p1 p2 p3 p4 = go (both_taken (schedule_of s_box ekey) (schedule_of s_box ckey)) (count_fits_of count) (room_for count (length store) (length map)) refl refl refl
    where
      go : (a c d : Bool) → both_taken (schedule_of s_box ekey) (schedule_of s_box ckey) ≡ a → count_fits_of count ≡ c → room_for count (length store) (length map) ≡ d
          → P (cond (not a) (begun_not BeginKey, map) (cond (not c) (begun_not (BeginCount count), map) (cond (not d) (begun_not BeginRoom, map)
          (begun_with Begun (pair_of (schedule_of s_box ekey) (schedule_of s_box ckey)) count release, cleared (map_size count) map))))
      go false c d e f g = p1 e
      go true false d e f g = p2 e f
      go true true false e f g = p3 e f g
      go true true true e f g = p4 e f g

  pub begin_says : BeginSays ekey ckey count (length store) (length map) (begin_of ekey ckey count release store map).0.answer
  begin_says =
      by_begin (λ (x : ReceiveStarted × List ℕ). BeginSays ekey ckey count (length store) (length map) x.0.answer)
      (λ e te tc. true≢false (sym (taken_both (schedule_of s_box ekey) (schedule_of s_box ckey) te tc) ∙ e))
      (λ e f. let t = keys e in (t.0, t.1, refl, λ l m. clash (count_fits_of count) (fits_count count l m) f))
      (λ e f g. let t = keys e in let c = count_fits count f in (t.0, t.1, c.0, c.1, λ y. clash (room_for count (length store) (length map)) (roomy_right count (length store) (length map) y) g))
      (λ e f g. let t = keys e in let c = count_fits count f in record { ekey_taken = t.0; ckey_taken = t.1; count_low = c.0; count_high = c.1; roomy = roomy_parts count (length store) (length map) g })
    where
      keys : both_taken (schedule_of s_box ekey) (schedule_of s_box ckey) ≡ true → KeyTaken ekey × KeyTaken ckey
      keys e = both-taken (schedule_of s_box ekey) (schedule_of s_box ckey) e

  -- where all holds that it asks
  pub begin_done : Beginning ekey ckey count (length store) (length map)
      → begin_of ekey ckey count release store map ≡ (begun_with Begun (pair_of (schedule_of s_box ekey) (schedule_of s_box ckey)) count release, cleared (map_size count) map)
  unfolding begin_of
  begin_done x =
      rw (taken_both (schedule_of s_box ekey) (schedule_of s_box ckey) x.ekey_taken x.ckey_taken, fits_count count x.count_low x.count_high, roomy_right count (length store) (length map) x.roomy)

  pub begun_begins : begin_number (begin_of ekey ckey count release store map).0.answer ≡ 0 → Beginning ekey ckey count (length store) (length map)
  begun_begins = go (begin_of ekey ckey count release store map).0.answer begin_says
    where
      go : (a : BeginAnswer) → BeginSays ekey ckey count (length store) (length map) a → begin_number a ≡ 0 → Beginning ekey ckey count (length store) (length map)
      go Begun x e = x
      go BeginKey x e = absurd (omega arith)
      go (BeginCount v) x e = absurd (omega arith)
      go BeginRoom x e = absurd (omega arith)

  -- refused, it gives zeros and leaves the map
  pub begin_keeps : (begin_number (begin_of ekey ckey count release store map).0.answer ≡ 0 → ⊥)
      → ((begin_of ekey ckey count release store map).1 ≡ map)
      × ((begin_of ekey ckey count release store map).0.receiver ≡ record {
        keys = record { enc = record { words = replicate 60 0; rounds = 0 }; chk = record { words = replicate 60 0; rounds = 0 } };
        receipt = record { count = 0; release = 0; held = 0; bytes = 0 };
      })
  begin_keeps =
      by_begin (λ (x : ReceiveStarted × List ℕ). (begin_number x.0.answer ≡ 0 → ⊥) → (x.1 ≡ map) × (x.0.receiver ≡ record {
        keys = record { enc = record { words = replicate 60 0; rounds = 0 }; chk = record { words = replicate 60 0; rounds = 0 } };
        receipt = record { count = 0; release = 0; held = 0; bytes = 0 };
      }))
      (λ e n. (refl, refl)) (λ e f n. (refl, refl)) (λ e f g n. (refl, refl)) (λ e f g n. absurd (n refl))
