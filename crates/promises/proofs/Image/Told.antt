-- Of the calls of images that judge alone: each answer names the row of the table that holds and says that no earlier one does, and
-- where none holds the call is done. Then what a turn leaves, over the contracts of the calls. Assumes nothing.
use mathlib.Core.Path.{◌≡◌, refl, sym, ap, subst, ◌∙◌}
use mathlib.Core.Bool.{Bool, true, false}
use mathlib.Core.Logic.{◌⊎◌}
use mathlib.Core.List.{List, []}
use Prim.Native.Nat.{ℕ, ◌-◌, ◌*◌, ◌≤◌, ◌<◌}
use borrow.Author.Tests.{lt-ltb, le-ltb}
use lib.ListN.{length, get_or, take, drop}
use Rattle.octets.specs.Octets.{Bytes, over}
use Rattle.octets.specs.Blocks.{BlockCipher}
use Rattle.image_limits.specs.Fits.{length_fits}
use Rattle.image_limits.specs.Marks.{is_edition}
use Rattle.image_writer_answer.specs.Answers.{write_number, write_ruled}
use Rattle.image_writer_answer.specs.declared.WriteAnswer.{WriteAnswer}
use Rattle.image_writer_answer.specs.declared.WriteAnswer.TheVariants.{Written, WriteKey, WriteCount, WriteNumber, WriteLength, WriteEdition, WriteRoom}
use Rattle.image_writer_answer.specs.declared.Numbers.{Numbers}
use Rattle.image_writer.specs.Calls.{write_output}
use Rattle.image_reasons.specs.Reasons.{verdict_number}
use Rattle.image_reasons.specs.declared.Reason.{Reason}
use Rattle.image_reasons.specs.declared.Verdict.{Verdict}
use Rattle.image_reasons.specs.declared.Verdict.TheVariants.{Accepted, Refused}
use Rattle.image_spec.specs.Sealed.{opened}
use Rattle.image_spec.specs.KeyPair.{pair_keys}
use Rattle.image_reader.specs.declared.Reader.{Reader}
use Rattle.image_reader.specs.declared.Turn.{Turn}
use Rattle.image_reader.specs.Calls.{keys_of, turn_of}
use Rattle.promises.proofs.Image.Words.{HeadRow, HeadSays, given, plains, parts, AllFilled}
use Rattle.promises.proofs.Image.Statements.{previous_unused, turn_puts, turn_output, turn_fills}
use Rattle.promises.proofs.Image.Calls.{turn_is_the_readers}
use Rattle.promises.proofs.Lemmas.ImageJudge.{fits_count, head_says}
use Rattle.promises.proofs.Lemmas.ImageCalls.{write-ruled}
use Rattle.image_writer_answer.proofs.judge_write.Reads as judge_write
use Rattle.image_rules.proofs.judge_head.Reads as judge_head
use Rattle.image_writer.proofs.write.Reads as write
use Rattle.image_reader.proofs.read_turn.Reads as read_turn
use Rattle.image_reader_turn.proofs.turn.Reads as turn

-- ---- the writer's judge, of whether the keys were taken, the numbers, and the lengths of payload and output: 1, 7, 8, 12, 13, 4

pub record WriteFits (keys : Bool) (n : Numbers) (len room : ℕ) : Type 0 where
  pub keys_taken : keys ≡ true
  pub count_low : 0 < n.count
  pub count_high : n.count ≤ 65535
  pub below : n.number < n.count
  pub len_fits : length_fits n.number n.count len ≡ true
  pub known : is_edition n.edition ≡ true
  pub roomy : 512 ≤ room

abbrev pub WriteJudged : (keys : Bool) → Numbers → (len room : ℕ) → WriteAnswer → Type 0
WriteJudged keys n len room Written = WriteFits keys n len room
WriteJudged keys n len room WriteKey = keys ≡ false
WriteJudged keys n len room WriteCount = (keys ≡ true) × (0 < n.count → n.count ≤ 65535 → ⊥)
WriteJudged keys n len room WriteNumber = (keys ≡ true) × (0 < n.count) × (n.count ≤ 65535) × (n.count ≤ n.number)
WriteJudged keys n len room WriteLength = (keys ≡ true) × (n.count ≤ 65535) × (n.number < n.count) × (length_fits n.number n.count len ≡ false)
WriteJudged keys n len room WriteEdition = (keys ≡ true) × (n.count ≤ 65535) × (n.number < n.count) × (length_fits n.number n.count len ≡ true) × (is_edition n.edition ≡ false)
WriteJudged keys n len room WriteRoom = (keys ≡ true) × (n.count ≤ 65535) × (n.number < n.count) × (length_fits n.number n.count len ≡ true) × (is_edition n.edition ≡ true) × (room < 512)

pub judge_write_as_told : (κs : _) (a : _) (r : _) (s : _) → judge_write.Post κs a r s → WriteJudged a.0 a.1.0 a.1.1.0 a.1.1.1.0 r
judge_write_as_told κs a r s p =
    subst (WriteJudged a.0 a.1.0 a.1.1.0 a.1.1.1.0) (sym p)
    (write-ruled a.0 a.1.0 a.1.1.0 a.1.1.1.0 (WriteJudged a.0 a.1.0 a.1.1.0 a.1.1.1.0)
    (λ k. k) (λ k c. (k, c)) (λ k c h l. (k, c, h, l)) (λ k h l f. (k, h, l, f)) (λ k h l f i. (k, h, l, f, i)) (λ k h l f i m. (k, h, l, f, i, m))
    (λ k c h l f i m. record { keys_taken = k; count_low = c; count_high = h; below = l; len_fits = f; known = i; roomy = m }))

pub judge_write_done : (κs : _) (a : _) (r : _) (s : _) → judge_write.Post κs a r s → WriteFits a.0 a.1.0 a.1.1.0 a.1.1.1.0 → write_number r ≡ 0
unfolding write_ruled
judge_write_done κs a r s p f =
    ap write_number p
    ∙ rw (f.keys_taken, fits_count a.1.0.count f.count_low f.count_high, lt-ltb a.1.0.number a.1.0.count f.below, f.len_fits, f.known, le-ltb a.1.1.1.0 512 f.roomy)

-- ---- the judge of a header: 7, 8, 9, 10, 12, 13

pub judge_head_as_told : (κs : _) (a : _) (r : _) (s : _) → judge_head.Post κs a r s → HeadSays a.1.1.0 a.0 a.1.0 r
judge_head_as_told κs a r s p = head_says a.1.1.0 a.0 a.1.0 r (sym p)

pub judge_head_done : (κs : _) (a : _) (r : _) (s : _) → judge_head.Post κs a r s → ((q : Reason) → HeadRow a.1.1.0 a.0 a.1.0 q → ⊥) → verdict_number r ≡ 0
judge_head_done κs a r s p n = go r (judge_head_as_told κs a r s p)
  where
    go : (v : Verdict) → HeadSays a.1.1.0 a.0 a.1.0 v → verdict_number v ≡ 0
    go Accepted t = refl
    go (Refused q) t = absurd (n q t.0)

-- ---- what the writer takes the check before for, over two calls: in edition 1, and for number 0, none

pub write_previous_unused : (κs : _) (a : _) (r : _) (s : _) → write.Post κs a r s → (κs' : _) (a' : _) (r' : _) (s' : _) → write.Post κs' a' r' s'
    → (a.1.1.0.edition ≡ 1) ⊎ (a.1.1.0.number ≡ 0)
    → a'.0.now ≡ a.0.now → a'.1.0.now ≡ a.1.0.now → a'.1.1.0 ≡ a.1.1.0 → a'.1.1.1.1.0.now ≡ a.1.1.1.1.0.now → a'.1.1.1.1.1.0.now ≡ a.1.1.1.1.1.0.now
    → (r' ≡ r) × (s'.1.1.1.1.1.0.now ≡ s.1.1.1.1.1.0.now)
write_previous_unused κs a r s p κs' a' r' s' q which ek ck en ep eo =
    let ekey = a.0.now in
    let ckey = a.1.0.now in
    let n = a.1.1.0 in
    let payload = a.1.1.1.1.0.now in
    let out = a.1.1.1.1.1.0.now in
    let e : r' ≡ r = q.0 ∙ rw (ek, ck, en, ep, eo) (sym p.0) in
    (e, q.1 ∙ rw (e, ek, ck, en, ep, eo) (same_output r ekey ckey n a'.1.1.1.0 a.1.1.1.0 payload out which ∙ sym p.1))
  where
    same_output : (x : WriteAnswer) (ekey ckey : List ℕ) (n : Numbers) (previous other payload out : List ℕ) → (n.edition ≡ 1) ⊎ (n.number ≡ 0)
        → write_output x ekey ckey n previous payload out ≡ write_output x ekey ckey n other payload out
    same_output Written ekey ckey n previous other payload out h = ap (λ (b : List ℕ). over b out) (previous_unused ekey ckey n previous other payload h)
    same_output WriteKey ekey ckey n previous other payload out h = refl
    same_output WriteCount ekey ckey n previous other payload out h = refl
    same_output WriteNumber ekey ckey n previous other payload out h = refl
    same_output WriteLength ekey ckey n previous other payload out h = refl
    same_output WriteEdition ekey ckey n previous other payload out h = refl
    same_output WriteRoom ekey ckey n previous other payload out h = refl

-- ---- what a turn leaves, over the contracts of `read_turn` and of `turn`, which is under schedules that are lent

module _ (r : Reader) (lent : List ℕ) (asked : ℕ) (out : List ℕ) (t : Turn × List ℕ) (e : t ≡ turn_of r lent asked out) (bytes : Bytes lent) where
  puts : (j : ℕ) → j < t.0.accepted → take 480 (drop (480 * j) t.1) ≡ opened (keys_of r).enc (get_or (given lent asked) j [])
  puts =
      subst (λ (x : Turn × List ℕ). (j : ℕ) → j < x.0.accepted → take 480 (drop (480 * j) x.1) ≡ opened (keys_of r).enc (get_or (given lent asked) j [])) (sym e)
      (turn_puts r lent asked out bytes)

  leaves : (take (480 * t.0.accepted) t.1 ≡ plains (keys_of r).enc (take t.0.accepted (given lent asked)))
      × (drop (480 * t.0.accepted) t.1 ≡ drop (480 * t.0.accepted) out)
      × (length t.1 ≡ length out)
  leaves =
      subst
      (λ (x : Turn × List ℕ). (take (480 * x.0.accepted) x.1 ≡ plains (keys_of r).enc (take x.0.accepted (given lent asked)))
      × (drop (480 * x.0.accepted) x.1 ≡ drop (480 * x.0.accepted) out) × (length x.1 ≡ length out))
      (sym e) (turn_output r lent asked out bytes)

  fills : AllFilled (keys_of r).enc (take t.0.accepted (given lent asked)) × (t.0.bytes ≡ length (parts (keys_of r).enc (take t.0.accepted (given lent asked))))
  fills =
      subst
      (λ (x : Turn × List ℕ). AllFilled (keys_of r).enc (take x.0.accepted (given lent asked)) × (x.0.bytes ≡ length (parts (keys_of r).enc (take x.0.accepted (given lent asked)))))
      (sym e) (turn_fills r lent asked out bytes)

module _ (κs : _) (a : _) (r : _) (s : _) (p : read_turn.Post κs a r s) (bytes : Bytes a.1.0.now) where
  -- accepted block j puts its 480 decrypted bytes at 480j
  pub read_turn_puts : (j : ℕ) → j < r.accepted → take 480 (drop (480 * j) s.1.1.1.0.now) ≡ opened (keys_of a.0).enc (get_or (given a.1.0.now a.1.1.0) j [])
  read_turn_puts = puts a.0 a.1.0.now a.1.1.0 a.1.1.1.0.now (r, s.1.1.1.0.now) p bytes

  -- they are all that is written, and the rest of the output stays
  pub read_turn_output : (take (480 * r.accepted) s.1.1.1.0.now ≡ plains (keys_of a.0).enc (take r.accepted (given a.1.0.now a.1.1.0)))
      × (drop (480 * r.accepted) s.1.1.1.0.now ≡ drop (480 * r.accepted) a.1.1.1.0.now)
      × (length s.1.1.1.0.now ≡ length a.1.1.1.0.now)
  read_turn_output = leaves a.0 a.1.0.now a.1.1.0 a.1.1.1.0.now (r, s.1.1.1.0.now) p bytes

  -- each is a payload as long as the header says, and zero fill; the bytes counted are the payloads'
  pub read_turn_fills : AllFilled (keys_of a.0).enc (take r.accepted (given a.1.0.now a.1.1.0))
      × (r.bytes ≡ length (parts (keys_of a.0).enc (take r.accepted (given a.1.0.now a.1.1.0))))
  read_turn_fills = fills a.0 a.1.0.now a.1.1.0 a.1.1.1.0.now (r, s.1.1.1.0.now) p bytes

module _ (κs : _) (a : _) (r : _) (s : _) (p : turn.Post κs a r s) (bytes : Bytes a.1.1.0.now) where
  -- the cipher of the schedule that is lent to decrypt with
  abbrev under : BlockCipher
  under = (pair_keys a.0.now).enc

  -- the blocks that it handles
  abbrev offered : List (List ℕ)
  offered = given a.1.1.0.now a.1.1.1.0

  pub turn_under_puts : (j : ℕ) → j < r.accepted → take 480 (drop (480 * j) s.1.1.1.1.0.now) ≡ opened under (get_or offered j [])
  turn_under_puts = puts _ a.1.1.0.now a.1.1.1.0 a.1.1.1.1.0.now _ (turn_is_the_readers κs a r s p) bytes

  pub turn_under_output : (take (480 * r.accepted) s.1.1.1.1.0.now ≡ plains under (take r.accepted offered))
      × (drop (480 * r.accepted) s.1.1.1.1.0.now ≡ drop (480 * r.accepted) a.1.1.1.1.0.now)
      × (length s.1.1.1.1.0.now ≡ length a.1.1.1.1.0.now)
  turn_under_output = leaves _ a.1.1.0.now a.1.1.1.0 a.1.1.1.1.0.now _ (turn_is_the_readers κs a r s p) bytes

  pub turn_under_fills : AllFilled under (take r.accepted offered) × (r.bytes ≡ length (parts under (take r.accepted offered)))
  turn_under_fills = fills _ a.1.1.0.now a.1.1.1.0 a.1.1.1.1.0.now _ (turn_is_the_readers κs a r s p) bytes
