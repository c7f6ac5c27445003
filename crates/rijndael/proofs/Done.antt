-- From what the parts of a call give to what the call is to give. Assumes nothing.
use mathlib.Core.Path.{◌≡◌, refl, sym, ap, ap₂, ◌∙◌}
use mathlib.Core.Bool.{Bool, true, false, cond}
use mathlib.Core.List.{List, ◌++◌}
use Prim.Native.Nat.{ℕ, zero, suc, ◌*◌, ◌/◌, ◌%◌, ◌≤◌, ◌<◌}
use native.Mathlib.Nat.{div-add-mod'}
use native.Mathlib.Omega.{arith}
use borrow.Author.Tests.{ne_eqb, lt-ltb, le-ltb}
use lib.Dec.{eqb, ltb}
use lib.ListN.{length, take, drop, replicate}
use lib.Seq.{take_all}
use Rattle.octets.specs.Octets.{Bytes, Octets}
use Rattle.octets.specs.Blocks.{BlockCipher}
use Rattle.aes_sbox.specs.Sbox.{inv_s_box}
use Rattle.aes_sbox.proofs.Laws.{inv_s_box_lt}
use Rattle.aes_spec.specs.Model.{equivalent_words}
use Rattle.aes_spec.proofs.Equivalent.{eq-inv-cipher, words_back_of}
use Rattle.modes_spec.specs.Pieces.{Machine, output_of, after, ran, piece_count}
use Rattle.modes_spec.specs.Modes.{machine, iv_length, any_length, chains, Unless, moded}
use Rattle.modes_spec.specs.declared.Operation.TheVariants.{EcbEncrypt, EcbDecrypt, CbcEncrypt, CbcDecrypt}
use Rattle.modes_spec.proofs.Pieces.{count_whole}
use Rattle.modes_spec.proofs.Undo.{ChainOf, moded_length}
use Rattle.modes_spec.proofs.Same.{moded_same, handed_same}
use Rattle.modes_answer.specs.Answers.{mode_number, judged}
use Rattle.modes_answer.specs.declared.ModeAnswer.{ModeAnswer}
use Rattle.modes_answer.specs.declared.ModeAnswer.TheVariants.{Done, BadKey, BadIv, NotPieces, OutputShort}
use Rattle.modes_answer.proofs.Answers.{met}
use Rattle.rijndael_spec.specs.Rijndael.{shape_of, block_size, key_words, rounds_of, rijndael, takes_key, wide_words, wide_rounds, wide_decrypt}
use Rattle.rijndael_spec.specs.Model.{wide_inverse}
use Rattle.rijndael_spec.specs.Operations.{mode_of}
use Rattle.rijndael_spec.specs.declared.Width.{Width}
use Rattle.rijndael_spec.specs.declared.Width.TheVariants.{Six, Eight}
use Rattle.rijndael_spec.specs.declared.WideOperation.{WideOperation}
use Rattle.rijndael_spec.specs.declared.WideOperation.TheVariants.{EncryptEcb, DecryptEcb, EncryptCbc, DecryptCbc}
use Rattle.rijndael_spec.proofs.Laws.{wide_lawful, rounds_known, under_encrypts, under_decrypts, wide_length, wide-round-count}
use Rattle.rijndael.specs.Model.{way_of, words_for, eq_wide_decrypt, equivalent_wide, wide_one_way}
use Rattle.rijndael.specs.Calls.{wide_answer, wide_output, wide_next, answer24, answer32}
use Rattle.rijndael.specs.declared.Applied24.{Applied24}
use Rattle.rijndael.specs.declared.Applied32.{Applied32}

-- ---- an answer that is not the first case

pub refused_keeps : (a : ModeAnswer) (v : Width) (o : WideOperation) (key iv inp out : List ℕ)
    → (a ≡ Done → ⊥) → wide_output a v o key iv inp out ≡ out
refused_keeps Done v o key iv inp out h = absurd (h refl)
refused_keeps BadKey v o key iv inp out h = refl
refused_keeps BadIv v o key iv inp out h = refl
refused_keeps NotPieces v o key iv inp out h = refl
refused_keeps OutputShort v o key iv inp out h = refl

pub refused_zeros : (a : ModeAnswer) (v : Width) (o : WideOperation) (key iv inp : List ℕ)
    → (a ≡ Done → ⊥) → wide_next a v o key iv inp ≡ replicate (block_size v) 0
refused_zeros Done v o key iv inp h = absurd (h refl)
refused_zeros BadKey v o key iv inp h = refl
refused_zeros BadIv v o key iv inp h = refl
refused_zeros NotPieces v o key iv inp h = refl
refused_zeros OutputShort v o key iv inp h = refl

-- the same of an answer by its number
pub kept : (a : ModeAnswer) (v : Width) (o : WideOperation) (key iv inp out : List ℕ) → (mode_number a ≡ 0 → ⊥) → wide_output a v o key iv inp out ≡ out
kept Done v o key iv inp out h = absurd (h refl)
kept BadKey v o key iv inp out h = refl
kept BadIv v o key iv inp out h = refl
kept NotPieces v o key iv inp out h = refl
kept OutputShort v o key iv inp out h = refl

pub zeros : (a : ModeAnswer) (v : Width) (o : WideOperation) (key iv inp : List ℕ) → (mode_number a ≡ 0 → ⊥) → wide_next a v o key iv inp ≡ replicate (block_size v) 0
zeros Done v o key iv inp h = absurd (h refl)
zeros BadKey v o key iv inp h = refl
zeros BadIv v o key iv inp h = refl
zeros NotPieces v o key iv inp h = refl
zeros OutputShort v o key iv inp h = refl

-- ---- the answer

-- an answer and a chaining value, each as told
pub same_24 : (a b : ModeAnswer) (x : List ℕ) (o : WideOperation) (key iv inp : List ℕ) → a ≡ b → x ≡ wide_next a Six o key iv inp
    → ◌≡◌ {A = Applied24} (record { answer = a; next = x }) (answer24 b o key iv inp)
same_24 a b x o key iv inp e q = rw (q, e)

pub same_32 : (a b : ModeAnswer) (x : List ℕ) (o : WideOperation) (key iv inp : List ℕ) → a ≡ b → x ≡ wide_next a Eight o key iv inp
    → ◌≡◌ {A = Applied32} (record { answer = a; next = x }) (answer32 b o key iv inp)
same_32 a b x o key iv inp e q = rw (q, e)

-- the key's number, from the number of rounds
rounds_number : (v : Width) (key : List ℕ) → ◌≡◌ {A = ℕ} (cond (eqb (wide_rounds v key) 0) 1 0) (cond (takes_key (length key)) 0 1)
unfolding wide_rounds
rounds_number v key = on (takes_key (length key))
  where
    on : (k : Bool) → ◌≡◌ {A = ℕ} (cond (eqb (cond k (rounds_of (key_words key) (shape_of v).columns) 0) 0) 1 0) (cond k 0 1)
    on true = rw (ne_eqb (rounds_of (key_words key) (shape_of v).columns) 0 (λ e. omega arith))
    on false = refl

key_known : (k : Bool) → ◌≡◌ {A = ℕ} (cond k 0 1) 0 → k ≡ true
key_known true e = refl
key_known false e = absurd (omega arith)

-- r is the answer that the call is given, nr the number of rounds that its key gives
module _ (v : Width) (o : WideOperation) (key iv inp out : List ℕ) (nr : ℕ) (r : ModeAnswer) (pn : nr ≡ wide_rounds v key)
    (pr : r ≡ judged (cond (eqb nr 0) 1 0) (iv_length (block_size v) (mode_of o)) (length iv) (length inp % block_size v) (length inp) (length out)) where
  pub answered : r ≡ wide_answer v o key iv inp out
  unfolding wide_answer
  answered = pr ∙ rw (pn, rounds_number v key)

  -- what a call that is carried out meets
  pub record Right : Type 0 where
    pub known : takes_key (length key) ≡ true
    pub iv_right : length iv ≡ iv_length (block_size v) (mode_of o)
    pub whole : length inp % block_size v ≡ 0
    pub room : length inp ≤ length out

  pub right : r ≡ Done → Right
  unfolding wide_answer
  right d =
      let f = met (cond (takes_key (length key)) 0 1) (iv_length (block_size v) (mode_of o)) (length iv) (length inp % block_size v) (length inp) (length out) (sym answered ∙ d) in
      record { known = key_known (takes_key (length key)) f.key_taken; iv_right = f.iv_right; whole = f.taken; room = f.room }

-- ---- the cipher of either way is Rijndael's

module _ (v : Width) (key : List ℕ) (known : takes_key (length key) ≡ true) where
  abbrev w : List ℕ
  w = wide_words v key

  abbrev nr : ℕ
  nr = wide_rounds v key

  back_same : (x : List ℕ) → Octets (block_size v) x → eq_wide_decrypt v (wide_inverse v w nr) nr x ≡ wide_decrypt v w nr x
  unfolding eq_wide_decrypt wide_inverse wide_decrypt
  back_same x o =
      let k = rounds_known key known v in
      let r = wide-round-count v nr k in
      let z = shape_of v in
      rw k (eq-inv-cipher z inv_s_box inv_s_box_lt w (equivalent_words z w nr) nr (words_back_of z w nr r.0 (rw (wide_length v key) r.2)) r.0 o)

  decrypts : (x : List ℕ) → Octets (block_size v) x → eq_wide_decrypt v (wide_inverse v w nr) nr x ≡ (rijndael (shape_of v) key).dec x
  decrypts x o = back_same x o ∙ under_decrypts key known v x

  -- an operation goes one way only, so the schedule of that way serves
  one_way : (o : WideOperation) → machine (wide_one_way v (words_for (way_of o) v w nr) nr) (mode_of o) ≡ machine (equivalent_wide v w (wide_inverse v w nr) nr) (mode_of o)
  one_way EncryptEcb = refl
  one_way DecryptEcb = refl
  one_way EncryptCbc = refl
  one_way DecryptCbc = refl

-- ---- the IV

whole_only : (o : WideOperation) (P : Type 0) → P → Unless (any_length (mode_of o)) P
whole_only EncryptEcb P p = p
whole_only DecryptEcb P p = p
whole_only EncryptCbc P p = p
whole_only DecryptCbc P p = p

size_pos : (v : Width) → 0 < block_size v
size_pos Six = omega arith
size_pos Eight = omega arith

-- ECB has no chaining value, so any serves, and it hands on the one that it was given
module _ (z : ℕ) (m : Machine) (stays : (st p : List ℕ) → m.next st p ≡ st) (any : (st st' p : List ℕ) → m.out st p ≡ m.out st' p) where
  ecb_any : (st st' : List ℕ) (n : ℕ) (s : List ℕ) → output_of z m st n s ≡ output_of z m st' n s
  unfolding output_of
  ecb_any st st' zero s = refl
  ecb_any st st' (suc n) s =
      ap₂ ◌++◌ (any st st' (take z s))
      (ap (λ (t : List ℕ). output_of z m t n (drop z s)) (stays st (take z s)) ∙ ecb_any st st' n (drop z s)
      ∙ ap (λ (t : List ℕ). output_of z m t n (drop z s)) (sym (stays st' (take z s))))

  ecb_after : (st : List ℕ) (n : ℕ) (s : List ℕ) → after z m st n s ≡ st
  unfolding after
  ecb_after st zero s = refl
  ecb_after st (suc n) s = ecb_after (m.next st (take z s)) n (drop z s) ∙ stays st (take z s)

-- st is what a call begins with, from an IV of the right length
pub record Started (v : Width) (o : WideOperation) (iv st : List ℕ) : Type 0 where
  pub chain : Bytes iv → ChainOf (block_size v) (mode_of o) st
  pub same_out : (c : BlockCipher) (n : ℕ) (s : List ℕ) → output_of (block_size v) (machine c (mode_of o)) st n s ≡ output_of (block_size v) (machine c (mode_of o)) iv n s
  pub same_next : (c : BlockCipher) (n : ℕ) (s : List ℕ)
      → after (block_size v) (machine c (mode_of o)) st n s ≡ cond (chains (mode_of o)) (after (block_size v) (machine c (mode_of o)) iv n s) (replicate (block_size v) 0)

module _ (v : Width) (iv st : List ℕ) (e : st ≡ cond (ltb (length iv) (block_size v)) (replicate (block_size v) 0) (take (block_size v) iv)) where
  none_loaded : length iv ≡ 0 → st ≡ replicate (block_size v) 0
  none_loaded h = e ∙ rw (lt-ltb (length iv) (block_size v) (omega (arith, size_pos v)))

  loaded : length iv ≡ block_size v → st ≡ iv
  loaded h = e ∙ rw (le-ltb (length iv) (block_size v) (omega arith)) (take_all (block_size v) iv (omega arith))

  pub started : (o : WideOperation) → length iv ≡ iv_length (block_size v) (mode_of o) → Started v o iv st
  started EncryptEcb h = record {
    chain = λ b. tt;
    same_out = λ c n s. ecb_any (block_size v) (machine c EcbEncrypt) (λ x p. refl) (λ x y p. refl) st iv n s;
    same_next = λ c n s. ecb_after (block_size v) (machine c EcbEncrypt) (λ x p. refl) (λ x y p. refl) st n s ∙ none_loaded h;
  }
  started DecryptEcb h = record {
    chain = λ b. tt;
    same_out = λ c n s. ecb_any (block_size v) (machine c EcbDecrypt) (λ x p. refl) (λ x y p. refl) st iv n s;
    same_next = λ c n s. ecb_after (block_size v) (machine c EcbDecrypt) (λ x p. refl) (λ x y p. refl) st n s ∙ none_loaded h;
  }
  started EncryptCbc h = record {
    chain = λ b. rw (loaded h) (record { size = h; bytes = b });
    same_out = λ c n s. ap (λ (x : List ℕ). output_of (block_size v) (machine c CbcEncrypt) x n s) (loaded h);
    same_next = λ c n s. ap (λ (x : List ℕ). after (block_size v) (machine c CbcEncrypt) x n s) (loaded h);
  }
  started DecryptCbc h = record {
    chain = λ b. rw (loaded h) (record { size = h; bytes = b });
    same_out = λ c n s. ap (λ (x : List ℕ). output_of (block_size v) (machine c CbcDecrypt) x n s) (loaded h);
    same_next = λ c n s. ap (λ (x : List ℕ). after (block_size v) (machine c CbcDecrypt) x n s) (loaded h);
  }

-- ---- a call that is carried out

module _ (v : Width) (o : WideOperation) (key iv inp out st : List ℕ) (known : takes_key (length key) ≡ true) (g : Started v o iv st)
    (bi : Bytes iv) (bs : Bytes inp) (right : length iv ≡ iv_length (block_size v) (mode_of o)) (pieces : length inp % block_size v ≡ 0) where
  pub finished : (ch x : List ℕ)
      → (ch, x) ≡ ran (block_size v) (machine (wide_one_way v (words_for (way_of o) v (wide_words v key) (wide_rounds v key)) (wide_rounds v key)) (mode_of o)) st (length inp / block_size v) inp out
      → (ch ≡ wide_next Done v o key iv inp) × (x ≡ wide_output Done v o key iv inp out)
  finished ch x p =
      let z = block_size v in
      let n = length inp / z in
      let m = mode_of o in
      let c = equivalent_wide v (wide_words v key) (wide_inverse v (wide_words v key) (wide_rounds v key)) (wide_rounds v key) in
      let d = rijndael (shape_of v) key in
      let l = wide_lawful v key in
      let some = size_pos v in
      let e : length inp ≡ n * z = omega (arith, div-add-mod' (length inp) z) in
      let u = whole_only o (length inp ≡ n * z) e in
      let count = count_whole z n inp some e in
      let enc : (y : List ℕ) → Octets z y → c.enc y ≡ d.enc y = λ y b. under_encrypts key known v y in
      let dec = decrypts v key known in
      let q : (ch, x) ≡ ran z (machine c m) st n inp out = p ∙ ap (λ (k : Machine). ran z k st n inp out) (one_way v key known o) in
      let ms : output_of z (machine c m) st n inp ≡ output_of z (machine d m) st n inp = rw count at (moded_same z c d enc dec l m n st inp some (g.chain bi) bs u) in
      let hs : after z (machine c m) st n inp ≡ after z (machine d m) st n inp = rw count at (handed_same z c d enc dec l m n st inp some (g.chain bi) bs u) in
      let lm : length (moded z d m st inp) ≡ length inp = moded_length z d l m n st inp some (g.chain bi) bs u in
      let same : moded z d m st inp ≡ moded z d m iv inp = g.same_out d (piece_count z inp) inp in
      let made : output_of z (machine c m) st n inp ≡ moded z d m iv inp = ms ∙ g.same_out d n inp ∙ rw count in (
        ap (λ (t : List ℕ × List ℕ). t.0) q ∙ hs ∙ g.same_next d n inp ∙ rw count,
        ap (λ (t : List ℕ × List ℕ). t.1) q ∙ ap₂ (λ (y : List ℕ) (k : ℕ). y ++ drop k out) made (sym e ∙ sym lm ∙ ap length same),
      )
