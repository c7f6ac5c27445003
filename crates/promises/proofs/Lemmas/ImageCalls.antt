-- The writer's and the reader's calls by what they rest on: keys that were taken, blocks that were sealed, runs over lent blocks. Assumes nothing.
use mathlib.Core.Path.{◌≡◌, refl, sym, ap, ap₂, subst, ◌∙◌}
use mathlib.Core.Bool.{Bool, true, false, ◌&&◌, not, true≢false, cond}
use mathlib.Core.List.{List, [], ◌∷◌, append-nil}
use Prim.Native.Nat.{ℕ, zero, suc, ◌*◌, ◌%◌, ◌≤◌, ◌<◌}
use native.Mathlib.Nat.{add-zero}
use native.Mathlib.Omega.{arith}
use borrow.Author.Tests.{eqb-true, eqb-false, eq-eqb, ltb-true, ltb-false, lt-ltb, le-ltb, le-leb, leb-true}
use lib.Dec.{eqb, ltb, leb}
use lib.ListN.{length, take, drop, length-drop, replicate}
use lib.Seq.{take_at, drop_at, take_all}
use Rattle.octets.proofs.Both.{and_true}
use Rattle.octets.specs.Octets.{Octets, Bytes, over}
use Rattle.octets.specs.Blocks.{Lawful}
use Rattle.octets.proofs.Blocks.{take_octets, drop_bytes}
use Rattle.aes_sbox.specs.Sbox.{s_box}
use Rattle.aes_schedule.specs.Schedule.{schedule_of, key_number, round_count}
use Rattle.aes_schedule.specs.Schedule as schedule
use Rattle.aes_schedule.specs.declared.Expanded.{Expanded}
use Rattle.aes_spec.specs.Cipher.{aes_of, standard}
use Rattle.aes_spec.proofs.Aes.{aes_lawful, key_lawful}
use Rattle.cmac_spec.specs.Cmac.{cmac}
use Rattle.image_layout.specs.Layout.{head_of_lem}
use Rattle.image_limits.specs.Fits.{count_fits_of, length_fits}
use Rattle.image_limits.specs.Marks.{is_edition}
use Rattle.image_reasons.specs.declared.Verdict.TheVariants.{Accepted}
use Rattle.image_layout.proofs.Laws.{Wide}
use Rattle.image_spec.specs.Edition.{tail_of, edition}
use Rattle.image_spec.specs.Sealed.{head_for, opened}
use Rattle.image_spec.specs.Judge.{Keys, either, fresh, taken}
use Rattle.image_spec.specs.KeyPair.{both_taken}
use Rattle.image_reader_turn.specs.Turn.{Reading, read_blocks, cut, handled, whole, blocks_read, turn_under}
use Rattle.image_writer_answer.specs.Answers.{last_for, write_ruled}
use Rattle.image_writer.specs.Calls.{block_of, write_answer, write_output}
use Rattle.image_reader.specs.Calls.{started_by, start_of}
use Rattle.image_reader.specs.Calls.{keys_of, blocks_by, turn_after, turn_of}
use Rattle.image_reader_tally.specs.declared.BlocksRead.{BlocksRead}
use Rattle.image_writer_answer.specs.declared.WriteAnswer.{WriteAnswer}
use Rattle.image_writer_answer.specs.declared.WriteAnswer.TheVariants.{Written, WriteKey, WriteCount, WriteNumber, WriteLength, WriteEdition, WriteRoom}
use Rattle.image_writer_answer.specs.declared.Numbers.{Numbers}
use Rattle.image_reader.specs.declared.Reader.{Reader}
use Rattle.image_reader_tally.specs.declared.Stop.TheVariants.{End, Asked, Lent, Room}
use Rattle.image_reader.specs.declared.Turn.{Turn}
use Rattle.image_spec.proofs.Editions.{tail_bytes}
use Rattle.image_writer.proofs.Calls.{last_bytes, last_size, mark_small}
use Rattle.promises.proofs.Image.Words.{Blocks, Fit, WriteSays, in_state, reading_of, given, Fair, StopSays}
use Rattle.promises.proofs.Aes.Keys.{KeyTaken}
use Rattle.promises.proofs.Lemmas.ImageSealed.{sealed_size}
use Rattle.promises.proofs.Lemmas.ImageJudge.{fits_le, count_fits, fits_count}
use Rattle.promises.proofs.Lemmas.ImageTurn.{ran_accepted, out_length, none_accepted, no_keys_none, accepted_le}

-- ---- keys

-- what a reader with both keys judges by
abbrev pub keys_under : (ekey ckey : List ℕ) → Keys
keys_under ekey ckey = record { enc = aes_of ekey; mac = cmac (aes_of ckey); usable = true }

pub key_known : (key : List ℕ) → KeyTaken key → round_count (schedule_of s_box key).schedule.rounds ≡ true
unfolding schedule_of schedule.taken schedule.refused
key_known key = each (eqb (length key) 16) (eqb (length key) 24) (eqb (length key) 32)
  where
    made : Bool → Bool → Bool → Expanded
    made a b c = cond a (schedule.taken s_box key 4 10) (cond b (schedule.taken s_box key 6 12) (cond c (schedule.taken s_box key 8 14) schedule.refused))

    each : (a b c : Bool) → key_number (made a b c).answer ≡ 0 → round_count (made a b c).schedule.rounds ≡ true
    each true b c e = refl
    each false true c e = refl
    each false false true e = refl
    each false false false e = absurd (omega arith)

pub both-taken : (e c : Expanded) → both_taken e c ≡ true → (key_number e.answer ≡ 0) × (key_number c.answer ≡ 0)
both-taken e c h =
    let a = and_true (eqb (key_number e.answer) 0) (eqb (key_number c.answer) 0) h in
    (eqb-true (key_number e.answer) 0 a.0, eqb-true (key_number c.answer) 0 a.1)

pub taken_both : (e c : Expanded) → key_number e.answer ≡ 0 → key_number c.answer ≡ 0 → both_taken e c ≡ true
taken_both e c h g = rw (h, g)

-- a start whose answer is 0 took both keys
pub start_keys : (ekey ckey : List ℕ) → key_number (start_of ekey ckey).answer ≡ 0 → KeyTaken ekey × KeyTaken ckey
unfolding start_of
start_keys ekey ckey h = go (both_taken (schedule_of s_box ekey) (schedule_of s_box ckey)) refl h
  where
    go : (t : Bool) → both_taken (schedule_of s_box ekey) (schedule_of s_box ckey) ≡ t → key_number (started_by (schedule_of s_box ekey) (schedule_of s_box ckey)).answer ≡ 0 → KeyTaken ekey × KeyTaken ckey
    go true e q = both-taken (schedule_of s_box ekey) (schedule_of s_box ckey) e
    go false e q =
        let w : ◌≡◌ {A = ℕ} 1 0 = rw e at q in
        absurd (omega arith)

-- and gives a fresh reader, whose keys are AES under the two
pub start_fresh : (ekey ckey : List ℕ) → KeyTaken ekey → KeyTaken ckey
    → (key_number (start_of ekey ckey).answer ≡ 0)
    × (keys_of (start_of ekey ckey).reader ≡ keys_under ekey ckey) × ((start_of ekey ckey).reader.progress ≡ fresh)
unfolding start_of
start_fresh ekey ckey h g =
    rw (taken_both (schedule_of s_box ekey) (schedule_of s_box ckey) h g) (refl, ap (λ (u : Bool). record { enc = aes_of ekey; mac = cmac (aes_of ckey); usable = u }) known, refl)
  where
    known : (round_count (schedule_of s_box ekey).schedule.rounds && round_count (schedule_of s_box ckey).schedule.rounds) ≡ true
    known = rw (key_known ekey h) (key_known ckey g)

-- whatever the keys, it begins before the first block
pub fresh_start : (ekey ckey : List ℕ) → (start_of ekey ckey).reader.progress ≡ fresh
unfolding start_of
fresh_start ekey ckey = go (both_taken (schedule_of s_box ekey) (schedule_of s_box ckey)) refl
  where
    go : (t : Bool) → both_taken (schedule_of s_box ekey) (schedule_of s_box ckey) ≡ t → (started_by (schedule_of s_box ekey) (schedule_of s_box ckey)).reader.progress ≡ fresh
    go true e = rw e
    go false e = rw e

-- one whose answer is 1 gives a reader without usable keys
pub start_refused : (ekey ckey : List ℕ) → key_number (start_of ekey ckey).answer ≡ 1
    → ((keys_of (start_of ekey ckey).reader).usable ≡ false) × ((start_of ekey ckey).reader.progress ≡ fresh)
unfolding start_of
start_refused ekey ckey h = go (both_taken (schedule_of s_box ekey) (schedule_of s_box ckey)) refl h
  where
    go : (t : Bool) → both_taken (schedule_of s_box ekey) (schedule_of s_box ckey) ≡ t → key_number (started_by (schedule_of s_box ekey) (schedule_of s_box ckey)).answer ≡ 1
        → ((keys_of (started_by (schedule_of s_box ekey) (schedule_of s_box ckey)).reader).usable ≡ false) × ((started_by (schedule_of s_box ekey) (schedule_of s_box ckey)).reader.progress ≡ fresh)
    go true e q =
        let w : ◌≡◌ {A = ℕ} 0 1 = rw e at q in
        absurd (omega arith)
    go false e q = rw e (refl, refl)

-- and is zeros all over
pub start_zeros : (ekey ckey : List ℕ) → key_number (start_of ekey ckey).answer ≡ 1
    → (start_of ekey ckey).reader ≡ record {
      keys = record { enc = record { words = replicate 60 0; rounds = 0 }; chk = record { words = replicate 60 0; rounds = 0 } };
      progress = record { next = 0; count = 0; release = 0; edition = 0; last = replicate 16 0 };
    }
unfolding start_of
start_zeros ekey ckey h = go (both_taken (schedule_of s_box ekey) (schedule_of s_box ckey)) refl h
  where
    go : (t : Bool) → both_taken (schedule_of s_box ekey) (schedule_of s_box ckey) ≡ t → key_number (started_by (schedule_of s_box ekey) (schedule_of s_box ckey)).answer ≡ 1
        → (started_by (schedule_of s_box ekey) (schedule_of s_box ckey)).reader ≡ record {
          keys = record { enc = record { words = replicate 60 0; rounds = 0 }; chk = record { words = replicate 60 0; rounds = 0 } };
          progress = record { next = 0; count = 0; release = 0; edition = 0; last = replicate 16 0 };
        }
    go true e q =
        let w : ◌≡◌ {A = ℕ} 0 1 = rw e at q in
        absurd (omega arith)
    go false e q = rw e

-- usable schedules make lawful ciphers, whatever their words
pub usable_lawful : (r : Reader) → (keys_of r).usable ≡ true → Lawful 16 (keys_of r).enc × Lawful 16 (standard r.keys.chk.words r.keys.chk.rounds)
usable_lawful r h =
    let a = and_true (round_count r.keys.enc.rounds) (round_count r.keys.chk.rounds) h in
    (aes_lawful r.keys.enc.words r.keys.enc.rounds a.0, aes_lawful r.keys.chk.words r.keys.chk.rounds a.1)

-- ---- the writer

-- a number that is no edition is neither 1 nor 2
no_edition : (n : ℕ) → is_edition n ≡ false → (n ≡ 1 → ⊥) × (n ≡ 2 → ⊥)
unfolding is_edition
no_edition n e = (λ q. unlike (sym (rw q refl) ∙ e), λ q. unlike (sym (rw q refl) ∙ e))
  where
    unlike : true ≡ false → ⊥
    unlike e = let y : ◌≡◌ {A = ℕ} 0 1 = cc in omega arith

-- every answer says what the table says of it
-- of whether the keys were taken, the numbers, and the lengths of payload and output
pub write-ruled : (keys : Bool) (n : Numbers) (len room : ℕ) (P : WriteAnswer → Type 0)
    → (keys ≡ false → P WriteKey) → (keys ≡ true → (0 < n.count → n.count ≤ 65535 → ⊥) → P WriteCount)
    → (keys ≡ true → 0 < n.count → n.count ≤ 65535 → n.count ≤ n.number → P WriteNumber)
    → (keys ≡ true → n.count ≤ 65535 → n.number < n.count → length_fits n.number n.count len ≡ false → P WriteLength)
    → (keys ≡ true → n.count ≤ 65535 → n.number < n.count → length_fits n.number n.count len ≡ true → is_edition n.edition ≡ false → P WriteEdition)
    → (keys ≡ true → n.count ≤ 65535 → n.number < n.count → length_fits n.number n.count len ≡ true → is_edition n.edition ≡ true → room < 512 → P WriteRoom)
    → (keys ≡ true → 0 < n.count → n.count ≤ 65535 → n.number < n.count → length_fits n.number n.count len ≡ true → is_edition n.edition ≡ true → 512 ≤ room → P Written)
    → P (write_ruled keys n len room)
unfolding write_ruled
write-ruled keys n len room P k c m l e o d =
    go keys (count_fits_of n.count) (ltb n.number n.count) (length_fits n.number n.count len) (is_edition n.edition) (ltb room 512) refl refl refl refl refl refl
  where
    go : (a b u v i w : Bool) → keys ≡ a → count_fits_of n.count ≡ b → ltb n.number n.count ≡ u → length_fits n.number n.count len ≡ v → is_edition n.edition ≡ i → ltb room 512 ≡ w
        → P (cond (not a) WriteKey (cond (not b) WriteCount (cond (not u) WriteNumber (cond (not v) WriteLength (cond (not i) WriteEdition (cond w WriteRoom Written))))))
    go false b u v i w ea eb eu ev ei ew = k ea
    go true false u v i w ea eb eu ev ei ew = c ea (λ x y. true≢false (sym (fits_count n.count x y) ∙ eb))
    go true true false v i w ea eb eu ev ei ew = let f = count_fits n.count eb in m ea f.0 f.1 (ltb-false n.number n.count eu)
    go true true true false i w ea eb eu ev ei ew = l ea (count_fits n.count eb).1 (ltb-true n.number n.count eu) ev
    go true true true true false w ea eb eu ev ei ew = e ea (count_fits n.count eb).1 (ltb-true n.number n.count eu) ev ei
    go true true true true true true ea eb eu ev ei ew = o ea (count_fits n.count eb).1 (ltb-true n.number n.count eu) ev ei (ltb-true room 512 ew)
    go true true true true true false ea eb eu ev ei ew = let f = count_fits n.count eb in d ea f.0 f.1 (ltb-true n.number n.count eu) ev ei (ltb-false room 512 ew)

pub answer_says : (ekey ckey : List ℕ) (n : Numbers) (p out : List ℕ) → WriteSays ekey ckey n (length p) (length out) (write_answer ekey ckey n p out)
unfolding write_answer
answer_says ekey ckey n p out =
    write-ruled (both_taken (schedule_of s_box ekey) (schedule_of s_box ckey)) n (length p) (length out) (WriteSays ekey ckey n (length p) (length out))
    (λ e te tc. true≢false (sym (taken_both (schedule_of s_box ekey) (schedule_of s_box ckey) te tc) ∙ e))
    (λ e c. let k = keys e in (k.0, k.1, c))
    (λ e l h b. let k = keys e in (k.0, k.1, l, h, b))
    (λ e h b f. let k = keys e in (k.0, k.1, h, b, f))
    (λ e h b f i. let k = keys e in let x = no_edition n.edition i in (k.0, k.1, h, b, f, x.0, x.1))
    (λ e h b f i m. let k = keys e in (k.0, k.1, h, b, f, i, m))
    (λ e l h b f i m. let k = keys e in record { ekey_taken = k.0; ckey_taken = k.1; count_low = l; count_high = h; below = b; len_fits = f; known = i; roomy = m })
  where
    keys : both_taken (schedule_of s_box ekey) (schedule_of s_box ckey) ≡ true → KeyTaken ekey × KeyTaken ckey
    keys e = both-taken (schedule_of s_box ekey) (schedule_of s_box ckey) e

-- it writes where all that it asks holds, and only there
pub written_fit : (ekey ckey : List ℕ) (n : Numbers) (p out : List ℕ) → write_answer ekey ckey n p out ≡ Written → Fit ekey ckey n (length p) (length out)
written_fit ekey ckey n p out e = subst (WriteSays ekey ckey n (length p) (length out)) e (answer_says ekey ckey n p out)

pub fit_written : (ekey ckey : List ℕ) (n : Numbers) (p out : List ℕ) → Fit ekey ckey n (length p) (length out) → write_answer ekey ckey n p out ≡ Written
unfolding write_answer write_ruled
fit_written ekey ckey n p out f =
    rw (
      taken_both (schedule_of s_box ekey) (schedule_of s_box ckey) f.ekey_taken f.ckey_taken,
      fits_count n.count f.count_low f.count_high,
      lt-ltb n.number n.count f.below,
      f.len_fits,
      f.known,
      le-ltb (length out) 512 f.roomy,
    )

-- ---- the block that it writes

pub last_octets : (number : ℕ) (previous : List ℕ) → Octets 16 previous → Octets 16 (last_for number previous)
last_octets number previous o = record { size = last_size number previous o.size; bytes = last_bytes number previous o.bytes }

module _ (ekey ckey : List ℕ) (n : Numbers) (previous p out : List ℕ) (bv : Bytes previous) (bp : Bytes p) (w : write_answer ekey ckey n p out ≡ Written) where
  abbrev fit : Fit ekey ckey n (length p) (length out)
  fit = written_fit ekey ckey n p out w

  pub small : length p ≤ 480
  small = fits_le n.number n.count (length p) fit.len_fits

  -- what its check covers besides is bytes
  pub tail_is : Bytes (tail_of n.edition (last_for n.number previous))
  tail_is = tail_bytes n.edition (last_for n.number previous) (last_bytes n.number previous bv)

  block_size : length (block_of ekey ckey n previous p) ≡ 512
  block_size =
      sealed_size (aes_of ekey) (aes_of ckey) (key_lawful ekey fit.ekey_taken) (key_lawful ckey fit.ckey_taken) (head_for (edition n.edition) n.number n.count n.release (length p)) p small bp
      (tail_of n.edition (last_for n.number previous)) tail_is

  -- the first 512 bytes of the output are the block, and the rest stays
  pub output_block : take 512 (write_output Written ekey ckey n previous p out) ≡ block_of ekey ckey n previous p
  output_block = take_at (block_of ekey ckey n previous p) (drop (length (block_of ekey ckey n previous p)) out) 512 block_size

  pub output_rest : drop 512 (write_output Written ekey ckey n previous p out) ≡ drop 512 out
  output_rest =
      drop_at (block_of ekey ckey n previous p) (drop (length (block_of ekey ckey n previous p)) out) 512 block_size
      ∙ ap (λ (m : ℕ). drop m out) block_size

  pub block_wide : n.release < 4294967296 → Wide (head_for (edition n.edition) n.number n.count n.release (length p))
  block_wide hr = record {
    number_wide = omega (arith, fit.below, fit.count_high);
    count_wide = omega (arith, fit.count_high);
    release_wide = hr;
    len_wide = omega (arith, small);
    reserved_wide = mark_small n.edition fit.known;
  }

-- ---- lent blocks

pub cut_length : (n : ℕ) (s : List ℕ) → length (cut n s) ≡ n
unfolding cut
cut_length zero s = refl
cut_length (suc n) s = ap suc (cut_length n (drop 512 s))

cut_blocks : (n : ℕ) (s : List ℕ) → n * 512 ≤ length s → Bytes s → Blocks (cut n s)
unfolding cut
cut_blocks zero s h b = tt
cut_blocks (suc n) s h b = (take_octets 512 s (omega arith) b, cut_blocks n (drop 512 s) (omega (arith, length-drop 512 s)) (drop_bytes 512 s b))

pub given_blocks : (lent : List ℕ) (asked : ℕ) → Bytes lent → Blocks (given lent asked)
given_blocks lent asked b = cut_blocks (handled lent asked) lent (omega arith) b

-- ---- a turn

module _ (r : Reader) (lent : List ℕ) (asked : ℕ) (out : List ℕ) where
  -- a turn that is not refused as a whole is the run over the blocks handled
  pub fair_turn : Fair lent asked out → turn_of r lent asked out ≡ (turn_after r (blocks_read (reading_of r lent asked)), over (reading_of r lent asked).out out)
  unfolding turn_of turn_under
  fair_turn f =
      rw (
        lt-ltb 0 asked f.some_asked,
        le-leb asked 128 f.few_asked,
        eq-eqb (length lent % 512) 0 f.blocks_lent,
        le-ltb (length out) (handled lent asked * 480) (omega (arith, f.room)),
      )

  -- every turn is refused as a whole, by 5, 6 or 4, where the table says so, or is that run
  pub told_turn : (P : Turn × List ℕ → Type 0)
      → (StopSays r lent asked out Asked → P (turn_after r (whole r.progress Asked), out)) → (StopSays r lent asked out Lent → P (turn_after r (whole r.progress Lent), out)) → (StopSays r lent asked out Room → P (turn_after r (whole r.progress Room), out))
      → (Fair lent asked out → P (turn_after r (blocks_read (reading_of r lent asked)), over (reading_of r lent asked).out out)) → P (turn_of r lent asked out)
  unfolding turn_of turn_under
  told_turn P a l o f = go (ltb 0 asked && leb asked 128) (eqb (length lent % 512) 0) (ltb (length out) (handled lent asked * 480)) refl refl refl
    where
      all : (x y z : Bool) → BlocksRead × List ℕ
      all x y z = cond (not x) (whole r.progress Asked, out) (cond (not y) (whole r.progress Lent, out) (cond z (whole r.progress Room, out) (blocks_read (reading_of r lent asked), over (reading_of r lent asked).out out)))

      bad : (ltb 0 asked && leb asked 128) ≡ false → 0 < asked → asked ≤ 128 → ⊥
      bad e p q =
          let y : true ≡ false = sym (rw (lt-ltb 0 asked p) (le-leb asked 128 q)) ∙ e in
          let z : ◌≡◌ {A = ℕ} 0 1 = cc in omega arith

      some : (ltb 0 asked && leb asked 128) ≡ true → (0 < asked) × (asked ≤ 128)
      some e = let x = and_true (ltb 0 asked) (leb asked 128) e in (ltb-true 0 asked x.0, leb-true asked 128 x.1)

      go : (x y z : Bool) → (ltb 0 asked && leb asked 128) ≡ x → eqb (length lent % 512) 0 ≡ y → ltb (length out) (handled lent asked * 480) ≡ z
          → P (turn_after r (all x y z).0, (all x y z).1)
      go false y z ex ey ez = a (bad ex)
      go true false z ex ey ez = let x = some ex in l (x.0, x.1, eqb-false (length lent % 512) 0 ey)
      go true true true ex ey ez =
          let x = some ex in
          let h : length out < handled lent asked * 480 = ltb-true (length out) (handled lent asked * 480) ez in
          o (x.0, x.1, eqb-true (length lent % 512) 0 ey, omega arith)
      go true true false ex ey ez =
          let x = some ex in
          let h : handled lent asked * 480 ≤ length out = ltb-false (length out) (handled lent asked * 480) ez in
          f (record { some_asked = x.0; few_asked = x.1; blocks_lent = eqb-true (length lent % 512) 0 ey; room = omega arith })

  pub by_turn : (P : Turn × List ℕ → Type 0) → P (turn_after r (whole r.progress Asked), out) → P (turn_after r (whole r.progress Lent), out) → P (turn_after r (whole r.progress Room), out)
      → (Fair lent asked out → P (turn_after r (blocks_read (reading_of r lent asked)), over (reading_of r lent asked).out out)) → P (turn_of r lent asked out)
  by_turn P a l o f = told_turn P (λ x. a) (λ x. l) (λ x. o) f

  -- 480 bytes are handed out of each accepted block, whatever the reader
  pub reading_length : Bytes lent → length (reading_of r lent asked).out ≡ 480 * (reading_of r lent asked).accepted
  reading_length b = go (keys_of r).usable refl
    where
      go : (u : Bool) → (keys_of r).usable ≡ u → length (reading_of r lent asked).out ≡ 480 * (reading_of r lent asked).accepted
      go true e = out_length (keys_of r) either (usable_lawful r e).0 r.progress (given lent asked) (given_blocks lent asked b)
      go false e =
          let n = no_keys_none (keys_of r) either e r.progress (given lent asked) in
          let o = none_accepted (blocks_by r) r.progress (given lent asked) n in
          ap length o.2 ∙ sym (ap (480 *◌) n)

  pub reading_le : (reading_of r lent asked).accepted ≤ handled lent asked
  reading_le = subst (λ (n : ℕ). (reading_of r lent asked).accepted ≤ n) (cut_length (handled lent asked) lent) (accepted_le (blocks_by r) r.progress (given lent asked))

-- a reader offered one block that it accepts
pub one_accepted : (r : Reader) (b : List ℕ) (asked : ℕ) (out : List ℕ) → length b ≡ 512 → 0 < asked → asked ≤ 128 → 480 ≤ length out
    → (blocks_by r).verdict r.progress b ≡ Accepted
    → turn_of r b asked out
    ≡ (record { reader = in_state r (taken r.progress b); accepted = 1; bytes = (head_of_lem b).len; stop = End }, over (opened (keys_of r).enc b) out)
unfolding cut read_blocks
one_accepted r b asked out lb la ha lo e =
    fair_turn r b asked out (record { some_asked = la; few_asked = ha; blocks_lent = omega arith; room = omega (arith, n) })
    ∙ ap (λ (t : Reading). (turn_after r (blocks_read t), over t.out out)) (ap (read_blocks (blocks_by r) r.progress) c ∙ ran_accepted (blocks_by r) r.progress b [] e)
    ∙ ap₂ (λ (m : ℕ) (x : List ℕ). (record { reader = in_state r (taken r.progress b); accepted = 1; bytes = m; stop = End }, over x out))
    (add-zero (head_of_lem b).len) (append-nil (opened (keys_of r).enc b))
  where
    n : handled b asked ≡ 1
    n = omega arith

    c : given b asked ≡ b ∷ []
    c = ap (λ (m : ℕ). cut m b) n ∙ ap (λ (x : List ℕ). x ∷ []) (take_all 512 b (omega arith))
