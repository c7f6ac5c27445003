-- Document 02, E13: the Monte Carlo chain is AESAVS's, and a record is answered with 0 exactly if it is what is computed. Assumes nothing.
use mathlib.Core.Path.{◌≡◌, refl, ap, ◌∙◌}
use mathlib.Core.Bool.{Bool, true, false, not, cond, ◌||◌}
use mathlib.Core.List.{List, ◌++◌}
use Prim.Native.Nat.{ℕ, suc, ◌%◌, ◌≤◌}
use native.Mathlib.Omega.{arith}
use borrow.Author.Tests.{eq-eqb, le-ltb}
use lib.ListN.{length, take, drop}
use lib.Seq.{take_at}
use Rattle.std.specs.Prelude.{Option, Some, None}
use Rattle.octets.specs.Octets.{Bytes, same, over}
use Rattle.octets.specs.Blocks.{◌⊕◌}
use Rattle.octets.proofs.Same.{same_true, same_refl}
use Rattle.aes_sbox.specs.Sbox.{s_box}
use Rattle.aes_schedule.specs.Schedule.{schedule_of, key_number}
use Rattle.aes_spec.specs.Cipher.{aes_of}
use Rattle.aes_spec.proofs.Aes.{key_lawful}
use Rattle.modes_spec.specs.Modes.{iv_length, any_length, Unless, moded}
use Rattle.modes_spec.proofs.Sixteen.{length_16}
use Rattle.modes_run.proofs.Agree.{iv_is_chain}
use Rattle.modes_answer.specs.Answers.{judged}
use Rattle.modes_answer.specs.declared.ModeAnswer.TheVariants.{Done}
use Rattle.modes_answer.proofs.Answers.{none_left}
use Rattle.modes.specs.Calls.{mode_answer}
use Rattle.aesavs_line.specs.declared.Way.{Way}
use Rattle.aesavs_line.specs.declared.Way.TheVariants.{Encrypting, Decrypting}
use Rattle.aesavs_line.specs.declared.Field.{Field}
use Rattle.aesavs_line.specs.declared.Field.TheVariants.{Key, Iv, Plaintext, Ciphertext}
use Rattle.aesavs_line.specs.declared.Run.{Run}
use Rattle.aesavs_record.specs.Records.{role_of, follows, size_fits_of}
use Rattle.aesavs_record.specs.declared.Role.{Role}
use Rattle.aesavs_record.specs.declared.Role.TheVariants.{KeyOf, IvOf, FirstText, SecondText}
use Rattle.aesavs_record.specs.declared.Stage.TheVariants.{AtKey, AtIv, AtFirst, AtSecond}
use Rattle.aesavs_monte.specs.Chain.{operation_of, text_at, output_at, next_key, ran_of, link_at}
use Rattle.aesavs_monte.specs.declared.Link.{Link}
use Rattle.aesavs_monte.proofs.Equations as equations
use Rattle.aesavs_monte.proofs.Pins as pins
use Rattle.aesavs_record.proofs.Pins as form
use Rattle.aesavs.specs.Replay.{first_field, second_field, second_verdict, computed, known_answer, key_of, start_verdict, earlier, from_link, monte_carlo}

-- ---- the chain, by AESAVS's indices: a text and its output, and what the next record starts from

pub ecb_chain_encrypting : (key iv text : List ℕ) (j : ℕ) → (text_at Encrypting false key iv text 0 ≡ text)
    × (output_at Encrypting false key iv text j ≡ (aes_of key).enc (text_at Encrypting false key iv text j))
    × (text_at Encrypting false key iv text (suc j) ≡ output_at Encrypting false key iv text j)
ecb_chain_encrypting = equations.ecb_encrypts

pub ecb_chain_decrypting : (key iv text : List ℕ) (j : ℕ) → (text_at Decrypting false key iv text 0 ≡ text)
    × (output_at Decrypting false key iv text j ≡ (aes_of key).dec (text_at Decrypting false key iv text j))
    × (text_at Decrypting false key iv text (suc j) ≡ output_at Decrypting false key iv text j)
ecb_chain_decrypting = equations.ecb_decrypts

pub cbc_chain_encrypting_first : (key iv text : List ℕ) → (text_at Encrypting true key iv text 0 ≡ text)
    × (output_at Encrypting true key iv text 0 ≡ (aes_of key).enc (text ⊕ iv)) × (text_at Encrypting true key iv text 1 ≡ iv)
cbc_chain_encrypting_first = equations.cbc_encrypts_first

pub cbc_chain_encrypting : (key iv text : List ℕ) (j : ℕ)
    → (output_at Encrypting true key iv text (suc j) ≡ (aes_of key).enc (text_at Encrypting true key iv text (suc j) ⊕ output_at Encrypting true key iv text j))
    × (text_at Encrypting true key iv text (suc (suc j)) ≡ output_at Encrypting true key iv text j)
cbc_chain_encrypting = equations.cbc_encrypts

pub cbc_chain_decrypting_first : (key iv text : List ℕ) → (text_at Decrypting true key iv text 0 ≡ text)
    × (output_at Decrypting true key iv text 0 ≡ (aes_of key).dec text ⊕ iv) × (text_at Decrypting true key iv text 1 ≡ iv)
cbc_chain_decrypting_first = equations.cbc_decrypts_first

pub cbc_chain_decrypting : (key iv text : List ℕ) (j : ℕ)
    → (output_at Decrypting true key iv text (suc j) ≡ (aes_of key).dec (text_at Decrypting true key iv text (suc j)) ⊕ text_at Decrypting true key iv text j)
    × (text_at Decrypting true key iv text (suc (suc j)) ≡ output_at Decrypting true key iv text j)
cbc_chain_decrypting = equations.cbc_decrypts

-- a record's answer is output 999, after a thousand steps
pub a_record_is_output_999 : (w : Way) (l : Link) (ch : Bool) → (ran_of w ch l).output ≡ output_at w ch (key_of l) l.iv l.text 999
a_record_is_output_999 = pins.a_record

pub the_next_key_of_a_record : (w : Way) (l : Link) (ch : Bool) → (ran_of w ch l).next.key
    ≡ over (next_key (key_of l) (output_at w ch (key_of l) l.iv l.text 998) (output_at w ch (key_of l) l.iv l.text 999)) l.key
the_next_key_of_a_record = pins.the_next_key

pub the_next_in_ecb : (w : Way) (l : Link) → ((ran_of w false l).next.text ≡ output_at w false (key_of l) l.iv l.text 999) × ((ran_of w false l).next.size ≡ l.size)
the_next_in_ecb = pins.the_next_in_ecb

pub the_next_in_cbc : (w : Way) (l : Link) → ((ran_of w true l).next.iv ≡ output_at w true (key_of l) l.iv l.text 999)
    × ((ran_of w true l).next.text ≡ output_at w true (key_of l) l.iv l.text 998) × ((ran_of w true l).next.size ≡ l.size)
the_next_in_cbc = pins.the_next_in_cbc

-- the next key, for each size: the last bytes of output 998 joined to output 999 are added
pub next_key_128 : (key before last : List ℕ) → length before ≡ 16 → length key ≡ 16 → next_key key before last ≡ key ⊕ last
next_key_128 = pins.next_key_128

pub next_key_192 : (key before last : List ℕ) → length before ≡ 16 → length key ≡ 24 → next_key key before last ≡ key ⊕ (drop 8 before ++ last)
next_key_192 = pins.next_key_192

pub next_key_256 : (key before last : List ℕ) → length before ≡ 16 → length key ≡ 32 → next_key key before last ≡ key ⊕ (before ++ last)
next_key_256 = pins.next_key_256

-- ---- the form: which text is first, the order of the fields, and their sizes

pub the_two_texts : (role_of Encrypting Plaintext ≡ FirstText) × (role_of Encrypting Ciphertext ≡ SecondText)
    × (role_of Decrypting Ciphertext ≡ FirstText) × (role_of Decrypting Plaintext ≡ SecondText)
the_two_texts = form.the_two_texts

pub a_size_that_fits : (r : Run) (f : Role) (n text : ℕ) → (size_fits_of r f n text ≡ true → form.Size r f n text) × (form.Size r f n text → size_fits_of r f n text ≡ true)
a_size_that_fits r f n text = (form.a_size_that_fits r f n text, form.a_size_fits r f n text)

pub the_order : (follows AtKey KeyOf ≡ true) × (follows AtKey IvOf ≡ false) × (follows AtKey FirstText ≡ false) × (follows AtKey SecondText ≡ false)
    × (follows AtIv KeyOf ≡ false) × (follows AtIv IvOf ≡ true) × (follows AtIv FirstText ≡ true) × (follows AtIv SecondText ≡ false)
    × (follows AtFirst KeyOf ≡ false) × (follows AtFirst IvOf ≡ false) × (follows AtFirst FirstText ≡ true) × (follows AtFirst SecondText ≡ false)
    × (follows AtSecond KeyOf ≡ false) × (follows AtSecond IvOf ≡ false) × (follows AtSecond FirstText ≡ false) × (follows AtSecond SecondText ≡ true)
the_order = form.the_order_of_fields

-- ---- known answers

-- what a record of known answers has, once all its lines were taken: a key that is taken, an IV or none, and whole pieces
pub record Complete (w : Way) (ch : Bool) (key iv first out : List ℕ) : Type 0 where
  pub key_taken : key_number (schedule_of s_box key).answer ≡ 0
  pub iv_right : length iv ≡ iv_length 16 (operation_of w ch)
  pub whole : length first % 16 ≡ 0
  pub room : length first ≤ length out
  pub iv_bytes : Bytes iv
  pub first_bytes : Bytes first

whole_pieces : (w : Way) (ch : Bool) (n : ℕ) → n % 16 ≡ 0 → Unless (any_length (operation_of w ch)) (n % 16 ≡ 0)
whole_pieces Encrypting true n e = e
whole_pieces Encrypting false n e = e
whole_pieces Decrypting true n e = e
whole_pieces Decrypting false n e = e

module _ (w : Way) (ch : Bool) (key iv first second out : List ℕ) (c : Complete w ch key iv first out) where
  done : mode_answer (operation_of w ch) key iv first out ≡ Done
  unfolding mode_answer judged
  done = rw (c.key_taken, eq-eqb _ _ c.iv_right, none_left (operation_of w ch) (length first) (whole_pieces w ch (length first) c.whole), le-ltb _ _ c.room)

  is_moded : take (length first) (computed w ch key iv first out) ≡ moded 16 (aes_of key) (operation_of w ch) iv first
  unfolding computed
  is_moded =
      rw done
      (take_at (moded 16 (aes_of key) (operation_of w ch) iv first) _ (length first)
      (length_16 (aes_of key) (key_lawful key c.key_taken) (operation_of w ch) iv first (iv_is_chain (operation_of w ch) iv c.iv_right c.iv_bytes) c.first_bytes
      (whole_pieces w ch (length first) c.whole)))

  -- the answer goes by the mode of the first text and the second text alone
  pub a_known_answer_is_the_mode : known_answer w ch key iv first second out ≡ second_verdict w (moded 16 (aes_of key) (operation_of w ch) iv first) second
  unfolding known_answer
  a_known_answer_is_the_mode = rw (done, is_moded)

-- ---- a section of a Monte Carlo run

-- what a record is compared with: the key, the IV in CBC and the first text that its chain has come to, and the output
pub record Same (w : Way) (ch : Bool) (own given : Link) (second : List ℕ) : Type 0 where
  pub same_key : key_of own ≡ key_of given
  pub same_iv : ch ≡ true → own.iv ≡ given.iv
  pub same_text : own.text ≡ given.text
  pub same_output : (ran_of w ch own).output ≡ second

second_agrees : (w : Way) (x y : List ℕ) → second_verdict w x y ≡ None → x ≡ y
unfolding second_verdict
second_agrees w x y = go (same x y) refl
  where
    go : (b : Bool) → same x y ≡ b → cond b None (Some (second_field w)) ≡ None → x ≡ y
    go true e h = same_true x y e
    go false e h = absurd (let z : ◌≡◌ {A = ℕ} 0 1 = cc in omega arith)

agree_second : (w : Way) (x y : List ℕ) → x ≡ y → second_verdict w x y ≡ None
unfolding second_verdict
agree_second w x y e = rw (e, same_refl y)

both_agree : (a b : Option Field) → earlier a b ≡ None → (a ≡ None) × (b ≡ None)
both_agree None b e = (refl, e)
both_agree (Some f) b e = absurd (let z : ◌≡◌ {A = ℕ} 0 1 = cc in omega arith)

-- the next record's start is computed from this one's, whatever the record itself says
pub it_goes_on_from_its_own_values : (w : Way) (ch : Bool) (own given : Link) (second : List ℕ) → (monte_carlo w ch false own given second).next ≡ (ran_of w ch own).next
unfolding monte_carlo from_link
it_goes_on_from_its_own_values w ch own given second = refl

-- and the first record of a section starts the chain
pub the_first_starts_it : (w : Way) (ch : Bool) (own given : Link) (second : List ℕ) → (monte_carlo w ch true own given second).next ≡ (ran_of w ch given).next
unfolding monte_carlo from_link
the_first_starts_it w ch own given second = refl

-- so record n of a section, from 0, is held to link n of the chain that its first record starts
pub the_chain_of_a_section : (w : Way) (ch : Bool) (first own given : Link) (second : List ℕ) (n : ℕ) → own ≡ link_at w ch first n
    → (monte_carlo w ch false own given second).next ≡ link_at w ch first (suc n)
unfolding link_at
the_chain_of_a_section w ch first own given second n e = it_goes_on_from_its_own_values w ch own given second ∙ rw e

-- every other record: 0 exactly where key, IV, first text and second text are those computed
start_agrees : (w : Way) (ch : Bool) (own given : Link) → start_verdict w ch own given ≡ None
    → (key_of own ≡ key_of given) × ((not ch || same own.iv given.iv) ≡ true) × (own.text ≡ given.text)
unfolding start_verdict
start_agrees w ch own given = go (same (key_of own) (key_of given)) (not ch || same own.iv given.iv) (same own.text given.text) refl refl refl
  where
    go : (a b d : Bool) → same (key_of own) (key_of given) ≡ a → (not ch || same own.iv given.iv) ≡ b → same own.text given.text ≡ d
        → cond a (cond b (cond d None (Some (first_field w))) (Some Iv)) (Some Key) ≡ None
        → (key_of own ≡ key_of given) × ((not ch || same own.iv given.iv) ≡ true) × (own.text ≡ given.text)
    go true true true e f g h = (same_true (key_of own) (key_of given) e, f, same_true own.text given.text g)
    go true true false e f g h = absurd (let z : ◌≡◌ {A = ℕ} 0 1 = cc in omega arith)
    go true false d e f g h = absurd (let z : ◌≡◌ {A = ℕ} 0 1 = cc in omega arith)
    go false b d e f g h = absurd (let z : ◌≡◌ {A = ℕ} 0 1 = cc in omega arith)

chained_iv : (ch : Bool) (x y : List ℕ) → (not ch || same x y) ≡ true → ch ≡ true → x ≡ y
chained_iv true x y e h = same_true x y e
chained_iv false x y e h = absurd (let z : ◌≡◌ {A = ℕ} 0 1 = cc in omega arith)

iv_chained : (ch : Bool) (x y : List ℕ) → (ch ≡ true → x ≡ y) → (not ch || same x y) ≡ true
iv_chained true x y h = rw (h refl) (same_refl y)
iv_chained false x y h = refl

pub a_record_agrees_then : (w : Way) (ch : Bool) (own given : Link) (second : List ℕ) → (monte_carlo w ch false own given second).verdict ≡ None → Same w ch own given second
unfolding monte_carlo from_link
a_record_agrees_then w ch own given second e =
    let b = both_agree (start_verdict w ch own given) (second_verdict w (ran_of w ch own).output second) e in
    let s = start_agrees w ch own given b.0 in
    record { same_key = s.0; same_iv = chained_iv ch own.iv given.iv s.1; same_text = s.2; same_output = second_agrees w (ran_of w ch own).output second b.1 }

agree_start : (w : Way) (ch : Bool) (own given : Link) → key_of own ≡ key_of given → (ch ≡ true → own.iv ≡ given.iv) → own.text ≡ given.text → start_verdict w ch own given ≡ None
unfolding start_verdict
agree_start w ch own given k i t =
    let a : same (key_of own) (key_of given) ≡ true = ap (λ (x : List ℕ). same x (key_of given)) k ∙ same_refl (key_of given) in
    let b : same own.text given.text ≡ true = ap (λ (x : List ℕ). same x given.text) t ∙ same_refl given.text in
    rw (a, iv_chained ch own.iv given.iv i, b)

pub a_record_that_is_computed_agrees : (w : Way) (ch : Bool) (own given : Link) (second : List ℕ) → Same w ch own given second → (monte_carlo w ch false own given second).verdict ≡ None
unfolding monte_carlo from_link
a_record_that_is_computed_agrees w ch own given second s =
    rw (agree_start w ch own given s.same_key s.same_iv s.same_text) (agree_second w (ran_of w ch own).output second s.same_output)

-- the field named is the first that differs: KEY before IV before the first text before the second
pub the_first_field_that_differs : (w : Way) (ch : Bool) (own given : Link)
    → (same (key_of own) (key_of given) ≡ false → start_verdict w ch own given ≡ Some Key)
    × (same (key_of own) (key_of given) ≡ true → (not ch || same own.iv given.iv) ≡ false → start_verdict w ch own given ≡ Some Iv)
    × (same (key_of own) (key_of given) ≡ true → (not ch || same own.iv given.iv) ≡ true → same own.text given.text ≡ false → start_verdict w ch own given ≡ Some (first_field w))
unfolding start_verdict
the_first_field_that_differs w ch own given = (λ e. rw e, λ e f. rw (e, f), λ e f g. rw (e, f, g))

pub a_start_that_differs_is_told_first : (w : Way) (ch : Bool) (own given : Link) (second : List ℕ) (f : Field) → start_verdict w ch own given ≡ Some f
    → (monte_carlo w ch false own given second).verdict ≡ Some f
unfolding monte_carlo from_link
a_start_that_differs_is_told_first w ch own given second f e = rw e

-- of the first record the second text alone is compared
pub the_first_agrees_exactly : (w : Way) (ch : Bool) (own given : Link) (second : List ℕ)
    → ((monte_carlo w ch true own given second).verdict ≡ None → (ran_of w ch given).output ≡ second)
    × ((ran_of w ch given).output ≡ second → (monte_carlo w ch true own given second).verdict ≡ None)
unfolding monte_carlo from_link
the_first_agrees_exactly w ch own given second = (second_agrees w (ran_of w ch given).output second, agree_second w (ran_of w ch given).output second)
