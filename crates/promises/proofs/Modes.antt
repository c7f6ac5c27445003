-- Demands 1, 2 and 3 for the modes. Assumes nothing.
use mathlib.Core.Path.{◌≡◌, refl, sym, ap, ap₂, subst, ◌∙◌}
use mathlib.Core.Bool.{Bool, true, false, true≢false, cond}
use mathlib.Core.Logic.{◌⊎◌, ⊎_elim}
use mathlib.Core.List.{List, ◌++◌}
use Prim.Native.Nat.{ℕ, ◌+◌, ◌*◌, ◌/◌, ◌%◌, ◌≤◌, ◌<◌, min, ◌-◌}
use native.Mathlib.Nat.{zero-lt-suc}
use native.Mathlib.Omega.{arith}
use borrow.Author.Tests.{eqb-true, eqb-false, ltb-true, ltb-false, eq-eqb, le-ltb}
use lib.Dec.{eqb, ltb}
use lib.ListN.{length, take, drop, replicate, length-append, length-drop}
use lib.Seq.{take_at, drop_at}
use Rattle.octets.specs.Octets.{over, joined, Bytes, Octets}
use Rattle.octets.specs.Blocks.{BlockCipher, Lawful}
use Rattle.octets.proofs.Blocks.{append_bytes}
use Rattle.aes_sbox.specs.Sbox.{s_box}
use Rattle.aes_schedule.specs.Schedule.{schedule_of, key_number, round_count}
use Rattle.aes_spec.specs.Cipher.{standard, aes_of}
use Rattle.aes_spec.specs.Model.{equivalent_cipher, inverse_words, one_way}
use Rattle.aes_spec.proofs.Equivalent.{equivalent_agrees}
use Rattle.aes_spec.proofs.Aes.{aes_lawful, key_lawful}
use Rattle.modes_spec.specs.Pieces.{output_of}
use Rattle.modes_spec.specs.Modes.{other, inverts, iv_length, any_length, chains, Unless, moded, handed_on, in_parts, handed_along, WholeParts}
use Rattle.modes_spec.specs.Equations.{Equation, Handed}
use Rattle.modes_spec.specs.declared.Operation.{Operation}
use Rattle.modes_spec.specs.declared.Operation.TheVariants.{EcbEncrypt, EcbDecrypt, CbcEncrypt, CbcDecrypt, CfbEncrypt, CfbDecrypt, Ofb}
use Rattle.modes_spec.proofs.Undo.{ChainOf, moded_undone}
use Rattle.modes_spec.proofs.Sixteen.{by_sixteen, pieces_16, length_16, undone_16, handed_16, chain_block}
use Rattle.modes_spec.proofs.Equations.{equation, handed-on}
use Rattle.modes_spec.proofs.HandedOn as cuts
use Rattle.modes_spec.proofs.Pins.{all_but_ecb_chain, ecb_chains_nothing}
use Rattle.modes_run.specs.Model.{reach, run_over}
use Rattle.modes_run.proofs.Agree.{iv_is_chain, through_forward, through_backward, through_mode}
use Rattle.modes_answer.specs.Answers.{mode_number, left_over, judged}
use Rattle.modes_answer.specs.declared.ModeAnswer.{ModeAnswer}
use Rattle.modes_answer.specs.declared.ModeAnswer.TheVariants.{Done, BadKey, BadIv, NotPieces, OutputShort}
use Rattle.modes_answer.proofs.Answers.{left_none, none_left}
use Rattle.modes.specs.Calls.{mode_answer, mode_output, mode_next}
use Rattle.modes.specs.declared.Applied.{Applied}
use Rattle.modes.proofs.Calls.{kept, zeros}
use Rattle.modes.proofs.Pins.{hands_on}
use Rattle.promises.proofs.Aes.Keys.{KeyTaken, taken_key}
use Rattle.modes_answer.proofs.judge.Reads as judge_mode
use Rattle.modes_answer.proofs.any_length.Reads as any-length
use Rattle.modes.proofs.apply.Reads as apply
use Rattle.modes_step.proofs.step.Reads as step
use Rattle.modes_whole.proofs.whole_pieces.Reads as whole_pieces
use Rattle.modes_run.proofs.run.Reads as run
use Rattle.modes_answer.proofs.ModeAnswer.number.Reads as mode-number
use Rattle.aes_schedule.specs.declared.KeyAnswer.{KeyAnswer}
use Rattle.aes_schedule.specs.declared.KeyAnswer.TheVariants.{Taken}

-- ---- the words of this page

-- the lengths of input that an operation takes: OFB any, the others those of whole pieces
abbrev pub Takes : Operation → ℕ → Type 0
Takes o n = Unless (any_length o) (n % 16 ≡ 0)

-- neither of ECB's two operations: CBC, CFB or OFB, each of which hands on a chaining value
abbrev pub NotEcb : Operation → Type 0
NotEcb o = (o ≡ EcbEncrypt → ⊥) × (o ≡ EcbDecrypt → ⊥)

-- what a call asks, in the order of the table: 1, 2, 3, 4 come where one of these fails
pub record Fit (o : Operation) (key iv inp out : List ℕ) : Type 0 where
  pub key_taken : KeyTaken key
  pub iv_right : length iv ≡ iv_length 16 o
  pub pieces : Takes o (length inp)
  pub room : length inp ≤ length out

-- what each answer says: that its row of the table holds, and that no earlier one does
abbrev pub Says : Operation → (key iv inp out : List ℕ) → ModeAnswer → Type 0
Says o key iv inp out Done = Fit o key iv inp out
Says o key iv inp out BadKey = KeyTaken key → ⊥
Says o key iv inp out BadIv = KeyTaken key × (length iv ≡ iv_length 16 o → ⊥)
Says o key iv inp out NotPieces = KeyTaken key × (length iv ≡ iv_length 16 o) × (Takes o (length inp) → ⊥)
Says o key iv inp out OutputShort = KeyTaken key × (length iv ≡ iv_length 16 o) × Takes o (length inp) × (length out < length inp)

-- ---- demand 1

pub apply_asks_nothing : (κs : _) (a : _) → apply.Asked κs a
apply_asks_nothing κs a = tt

pub apply_determined : (κs : _) (a : _) (r r' : _) (s s' : _) → apply.Post κs a r s → apply.Post κs a r' s'
    → (r ≡ r') × (s.1.1.1.1.0.now ≡ s'.1.1.1.1.0.now)
apply_determined κs a r r' s s' p q =
    let e : r ≡ r' = p.0 ∙ sym q.0 in
    (e, p.1 ∙ rw e (sym q.1))

pub apply_refused_keeps : (κs : _) (a : _) (r : _) (s : _) → apply.Post κs a r s → (mode_number r.answer ≡ 0 → ⊥)
    → s.1.1.1.1.0.now ≡ a.1.1.1.1.0.now
apply_refused_keeps κs a r s p h = p.1 ∙ kept r.answer a.0 a.1.0.now a.1.1.0.now a.1.1.1.0.now a.1.1.1.1.0.now h

-- what stands beside an answer is the chaining value that goes with it; a refused call has zeros there
pub apply_next : (κs : _) (a : _) (r : _) (s : _) → apply.Post κs a r s → r.next ≡ mode_next r.answer a.0 a.1.0.now a.1.1.0.now a.1.1.1.0.now
apply_next κs a r s p = rw p.0

pub apply_refused_zeros : (κs : _) (a : _) (r : _) (s : _) → apply.Post κs a r s → (mode_number r.answer ≡ 0 → ⊥) → r.next ≡ replicate 16 0
apply_refused_zeros κs a r s p h = apply_next κs a r s p ∙ zeros r.answer a.0 a.1.0.now a.1.1.0.now a.1.1.1.0.now h

pub step_asks_nothing : (κs : _) (a : _) → step.Asked κs a
step_asks_nothing κs a = tt

pub step_determined : (κs : _) (a : _) (r r' : _) (s s' : _) → step.Post κs a r s → step.Post κs a r' s' → r ≡ r'
step_determined κs a r r' s s' p q = p ∙ sym q

pub judge_mode_asks_nothing : (κs : _) (a : _) → judge_mode.Asked κs a
judge_mode_asks_nothing κs a = tt

pub judge_mode_determined : (κs : _) (a : _) (r r' : _) (s s' : _) → judge_mode.Post κs a r s → judge_mode.Post κs a r' s' → r ≡ r'
judge_mode_determined κs a r r' s s' p q = p ∙ sym q

pub any_length_asks_nothing : (κs : _) (a : _) → any-length.Asked κs a
any_length_asks_nothing κs a = tt

pub any_length_determined : (κs : _) (a : _) (r r' : _) (s s' : _) → any-length.Post κs a r s → any-length.Post κs a r' s' → r ≡ r'
any_length_determined κs a r r' s s' p q = p ∙ sym q

pub whole_pieces_asks_nothing : (κs : _) (a : _) → whole_pieces.Asked κs a
whole_pieces_asks_nothing κs a = tt

pub whole_pieces_determined : (κs : _) (a : _) (r r' : _) (s s' : _) → whole_pieces.Post κs a r s → whole_pieces.Post κs a r' s'
    → (r ≡ r') × (s.1.1.1.1.0.now ≡ s'.1.1.1.1.0.now)
whole_pieces_determined κs a r r' s s' p q = let e = p ∙ sym q in (ap (λ (x : List ℕ × List ℕ). x.0) e, ap (λ (x : List ℕ × List ℕ). x.1) e)

-- a run through whole pieces refuses nothing; where input and output have none in common it leaves the output as it was
pub whole_pieces_refused_keeps : (κs : _) (a : _) (r : _) (s : _) → whole_pieces.Post κs a r s
    → min (length a.1.1.1.0.now) (length a.1.1.1.1.0.now) / 16 ≡ 0
    → s.1.1.1.1.0.now ≡ a.1.1.1.1.0.now
unfolding output_of
whole_pieces_refused_keeps κs a r s p e = ap (λ (x : List ℕ × List ℕ). x.1) p ∙ rw e

pub run_asks_nothing : (κs : _) (a : _) → run.Asked κs a
run_asks_nothing κs a = tt

pub run_determined : (κs : _) (a : _) (r r' : _) (s s' : _) → run.Post κs a r s → run.Post κs a r' s'
    → (r ≡ r') × (s.1.1.1.1.0.now ≡ s'.1.1.1.1.0.now)
run_determined κs a r r' s s' p q = let e = p ∙ sym q in (ap (λ (x : List ℕ × List ℕ). x.0) e, ap (λ (x : List ℕ × List ℕ). x.1) e)

-- a run refuses nothing; where input and output have nothing in common that it takes it leaves the output as it was
pub run_refused_keeps : (κs : _) (a : _) (r : _) (s : _) → run.Post κs a r s
    → reach a.1.0 (length a.1.1.1.0.now) (length a.1.1.1.1.0.now) ≡ 0
    → s.1.1.1.1.0.now ≡ a.1.1.1.1.0.now
unfolding run_over output_of
run_refused_keeps κs a r s p e = ap (λ (x : List ℕ × List ℕ). x.1) p ∙ rw e

-- ---- each answer says what the table says, in its order; and where nothing is refused the call is done

-- the judge's order, of the key's number and the lengths
pub judged_says : (key : ℕ) (o : Operation) (iv inp out : ℕ) (P : ModeAnswer → Type 0)
    → ((key ≡ 0 → ⊥) → P BadKey) → (key ≡ 0 → (iv ≡ iv_length 16 o → ⊥) → P BadIv) → (key ≡ 0 → iv ≡ iv_length 16 o → (Takes o inp → ⊥) → P NotPieces)
    → (key ≡ 0 → iv ≡ iv_length 16 o → Takes o inp → out < inp → P OutputShort) → (key ≡ 0 → iv ≡ iv_length 16 o → Takes o inp → inp ≤ out → P Done)
    → P (judged key (iv_length 16 o) iv (left_over o inp) inp out)
unfolding judged
judged_says key o iv inp out P k i t l d = each (eqb key 0) (eqb iv (iv_length 16 o)) (eqb (left_over o inp) 0) (ltb out inp) refl refl refl refl
  where
    took : eqb (left_over o inp) 0 ≡ true → Takes o inp
    took e = left_none o inp (eqb-true _ _ e)

    each : (p q u v : Bool) → eqb key 0 ≡ p → eqb iv (iv_length 16 o) ≡ q → eqb (left_over o inp) 0 ≡ u → ltb out inp ≡ v
        → P (cond p (cond q (cond u (cond v OutputShort Done) NotPieces) BadIv) BadKey)
    each true true true true ep eq eu ev = l (eqb-true _ _ ep) (eqb-true _ _ eq) (took eu) (ltb-true _ _ ev)
    each true true true false ep eq eu ev = d (eqb-true _ _ ep) (eqb-true _ _ eq) (took eu) (ltb-false _ _ ev)
    each true true false v ep eq eu ev = t (eqb-true _ _ ep) (eqb-true _ _ eq) (λ x. eqb-false _ _ eu (none_left o inp x))
    each true false u v ep eq eu ev = i (eqb-true _ _ ep) (eqb-false _ _ eq)
    each false q u v ep eq eu ev = k (eqb-false _ _ ep)

tell : (o : Operation) (key iv inp out : List ℕ) → Says o key iv inp out (mode_answer o key iv inp out)
unfolding mode_answer
tell o key iv inp out =
    judged_says (key_number (schedule_of s_box key).answer) o (length iv) (length inp) (length out) (Says o key iv inp out)
    (λ k. k) (λ k i. (k, i)) (λ k i t. (k, i, t)) (λ k i t l. (k, i, t, l)) (λ k i t l. record { key_taken = k; iv_right = i; pieces = t; room = l })

-- an answer that a call which fits gives
fit_done : (o : Operation) (key iv inp out : List ℕ) → Fit o key iv inp out → (r : ModeAnswer) → Says o key iv inp out r → r ≡ Done
fit_done o key iv inp out f Done t = refl
fit_done o key iv inp out f BadKey t = absurd (t f.key_taken)
fit_done o key iv inp out f BadIv t = absurd (t.1 f.iv_right)
fit_done o key iv inp out f NotPieces t = absurd (t.2 f.pieces)
fit_done o key iv inp out f OutputShort t = let h = t.3 in let k = f.room in absurd (omega arith)

pub apply_as_told : (κs : _) (a : _) (r : _) (s : _) → apply.Post κs a r s
    → Says a.0 a.1.0.now a.1.1.0.now a.1.1.1.0.now a.1.1.1.1.0.now r.answer
apply_as_told κs a r s p =
    let o = a.0 in
    let key = a.1.0.now in
    let iv = a.1.1.0.now in
    let inp = a.1.1.1.0.now in
    let out = a.1.1.1.1.0.now in
    subst (Says o key iv inp out) (ap (λ (x : Applied). x.answer) (sym p.0)) (tell o key iv inp out)

pub apply_done : (κs : _) (a : _) (r : _) (s : _) → apply.Post κs a r s
    → Fit a.0 a.1.0.now a.1.1.0.now a.1.1.1.0.now a.1.1.1.1.0.now → mode_number r.answer ≡ 0
apply_done κs a r s p f = ap mode_number (fit_done _ _ _ _ _ f r.answer (apply_as_told κs a r s p))

-- 3 never comes from OFB
pub not_pieces_not_ofb : (κs : _) (a : _) (r : _) (s : _) → apply.Post κs a r s → mode_number r.answer ≡ 3 → a.0 ≡ Ofb → ⊥
not_pieces_not_ofb κs a r s p e ofb = told r.answer e (apply_as_told κs a r s p) (rw ofb tt)
  where
    told : (r : ModeAnswer) → mode_number r ≡ 3 → Says a.0 a.1.0.now a.1.1.0.now a.1.1.1.0.now a.1.1.1.1.0.now r
        → Takes a.0 (length a.1.1.1.0.now) → ⊥
    told Done e t = absurd (omega arith)
    told BadKey e t = absurd (omega arith)
    told BadIv e t = absurd (omega arith)
    told NotPieces e t = t.2
    told OutputShort e t = absurd (omega arith)

-- ---- what a call that fits wrote

module _ (o : Operation) (key iv inp out : List ℕ) (bi : Bytes iv) (bs : Bytes inp) (f : Fit o key iv inp out) where
  lawful : Lawful 16 (aes_of key)
  lawful = key_lawful key f.key_taken

  chain : ChainOf 16 o iv
  chain = iv_is_chain o iv f.iv_right bi

  long : length (moded 16 (aes_of key) o iv inp) ≡ length inp
  long = length_16 (aes_of key) lawful o iv inp chain bs f.pieces

  back : moded 16 (aes_of key) (other o) iv (moded 16 (aes_of key) o iv inp) ≡ inp
  back = undone_16 (aes_of key) lawful o iv inp chain bs f.pieces

  wrote : (r : ModeAnswer) → Says o key iv inp out r → mode_output r o key iv inp out ≡ over (moded 16 (aes_of key) o iv inp) out
  wrote r t = rw (fit_done o key iv inp out f r t)

  hands : NotEcb o → (r : ModeAnswer) → Says o key iv inp out r → mode_next r o key iv inp ≡ handed_on 16 (aes_of key) o iv inp
  hands k r t = rw (fit_done o key iv inp out f r t) (hands_on o k.0 k.1 key iv inp)

  rest_kept : (x : List ℕ) → x ≡ over (moded 16 (aes_of key) o iv inp) out → (drop (length inp) x ≡ drop (length inp) out) × (length x ≡ length out)
  rest_kept x e =
      let m = moded 16 (aes_of key) o iv inp in
      let h = f.room in (
        ap (drop (length inp)) (e ∙ rw long) ∙ drop_at m (drop (length inp) out) (length inp) long,
        ap length e ∙ length-append m (drop (length m) out) ∙ omega (arith, long, length-drop (length m) out),
      )

rest_of : (o : Operation) (key iv inp out : List ℕ) → Bytes iv → Bytes inp → (r : ModeAnswer) → Says o key iv inp out r → (x : List ℕ) → x ≡ mode_output r o key iv inp out
    → (drop (length inp) x ≡ drop (length inp) out) × (length x ≡ length out)
rest_of o key iv inp out bi bs Done t x e = rest_kept o key iv inp out bi bs t x e
rest_of o key iv inp out bi bs BadKey t x e = (ap (drop (length inp)) e, ap length e)
rest_of o key iv inp out bi bs BadIv t x e = (ap (drop (length inp)) e, ap length e)
rest_of o key iv inp out bi bs NotPieces t x e = (ap (drop (length inp)) e, ap length e)
rest_of o key iv inp out bi bs OutputShort t x e = (ap (drop (length inp)) e, ap length e)

-- bytes of the output past the input's length stay, and so does its length, whatever the answer
pub apply_keeps_the_rest : (κs : _) (a : _) (r : _) (s : _) → apply.Post κs a r s → Bytes a.1.1.0.now → Bytes a.1.1.1.0.now
    → (drop (length a.1.1.1.0.now) s.1.1.1.1.0.now ≡ drop (length a.1.1.1.0.now) a.1.1.1.1.0.now)
    × (length s.1.1.1.1.0.now ≡ length a.1.1.1.1.0.now)
apply_keeps_the_rest κs a r s p bi bs = rest_of a.0 a.1.0.now a.1.1.0.now a.1.1.1.0.now a.1.1.1.1.0.now bi bs r.answer (apply_as_told κs a r s p) _ p.1

-- ---- demand 2: every piece of the output's first bytes, as many as the input has, is as the standard's equation says,
-- for each operation; in OFB a short last piece too

pub apply_is_sp_800_38a : (κs : _) (a : _) (r : _) (s : _) → apply.Post κs a r s
    → Fit a.0 a.1.0.now a.1.1.0.now a.1.1.1.0.now a.1.1.1.1.0.now
    → Bytes a.1.1.0.now → Bytes a.1.1.1.0.now → (i : ℕ) → i * 16 < length a.1.1.1.0.now
    → Equation 16 (aes_of a.1.0.now) a.0 a.1.1.0.now a.1.1.1.0.now (take (length a.1.1.1.0.now) s.1.1.1.1.0.now) i
apply_is_sp_800_38a κs a r s p f bi bs i h =
    let o = a.0 in
    let key = a.1.0.now in
    let iv = a.1.1.0.now in
    let inp = a.1.1.1.0.now in
    let out = a.1.1.1.1.0.now in
    let m = moded 16 (aes_of key) o iv inp in
    let e : take (length inp) s.1.1.1.1.0.now ≡ m =
    ap (take (length inp)) (p.1 ∙ wrote o key iv inp out bi bs f r.answer (apply_as_told κs a r s p))
    ∙ take_at m (drop (length m) out) (length inp) (long o key iv inp out bi bs f) in
    rw e
    (equation 16 (aes_of key) (lawful o key iv inp out bi bs f) (length inp / 16) (zero-lt-suc 15) iv inp bs o (chain o key iv inp out bi bs f)
    (pieces_16 (any_length o) (length inp) f.pieces) i h)

-- the schedule that an operation goes by, for a schedule w of nr rounds
pub record Lends (o : Operation) (w : List ℕ) (nr : ℕ) (words : List ℕ) : Type 0 where
  pub forth : inverts o ≡ false → words ≡ w
  pub back : inverts o ≡ true → words ≡ inverse_words w nr

lent_through : (o : Operation) (w : List ℕ) (nr : ℕ) (words : List ℕ) → Lends o w nr words → (iv inp out : List ℕ)
    → run_over (one_way words nr) o iv inp out ≡ run_over (equivalent_cipher w (inverse_words w nr) nr) o iv inp out
lent_through o w nr words l iv inp out = by (inverts o) refl
  where
    by : (k : Bool) → inverts o ≡ k → run_over (one_way words nr) o iv inp out ≡ run_over (equivalent_cipher w (inverse_words w nr) nr) o iv inp out
    by true e = rw (l.back e) (through_backward w (inverse_words w nr) nr o iv inp out e)
    by false e = rw (l.forth e) (through_forward w (inverse_words w nr) nr o iv inp out e)

-- with that one lent, a run over an input that the operation takes is the operation under AES; it hands on the chaining value
pub run_is_the_mode : (κs : _) (a : _) (r : _) (s : _) → run.Post κs a r s → (w : List ℕ) → length w ≡ 60 → round_count a.0.now.rounds ≡ true
    → Lends a.1.0 w a.0.now.rounds a.0.now.words → ChainOf 16 a.1.0 a.1.1.0
    → Bytes a.1.1.1.0.now → Takes a.1.0 (length a.1.1.1.0.now) → length a.1.1.1.0.now ≤ length a.1.1.1.1.0.now
    → (r ≡ handed_on 16 (standard w a.0.now.rounds) a.1.0 a.1.1.0 a.1.1.1.0.now)
    × (s.1.1.1.1.0.now ≡ over (moded 16 (standard w a.0.now.rounds) a.1.0 a.1.1.0 a.1.1.1.0.now) a.1.1.1.1.0.now)
run_is_the_mode κs a r s p w size known l g b h room =
    let nr = a.0.now.rounds in
    let o = a.1.0 in
    let iv = a.1.1.0 in
    let inp = a.1.1.1.0.now in
    let out = a.1.1.1.1.0.now in
    let c = equivalent_cipher w (inverse_words w nr) nr in
    let q : (r, s.1.1.1.1.0.now) ≡ run_over c o iv inp out = p ∙ lent_through o w nr a.0.now.words l iv inp out in
    let e = q ∙ through_mode c (standard w nr) (equivalent_agrees w size nr) (aes_lawful w nr known) o iv inp g b h out room in
    (ap (λ (x : List ℕ × List ℕ). x.0) e, ap (λ (x : List ℕ × List ℕ). x.1) e)

-- ---- demand 3: every operation is undone by the other way of its mode, on whole pieces; OFB by itself, on every length

-- for the definitions, over every lawful block cipher of any width, on n whole pieces where those are asked
pub each_operation_is_undone : (z : ℕ) (c : BlockCipher) → Lawful z c → (o : Operation) (n : ℕ) (iv s : List ℕ) → 0 < z → ChainOf z o iv → Bytes s
    → Unless (any_length o) (length s ≡ n * z)
    → moded z c (other o) iv (moded z c o iv s) ≡ s
each_operation_is_undone z c l o n iv s h g b e = moded_undone z c l o n iv s h g b e

-- OFB twice, at every length
pub ofb_undoes_itself : (z : ℕ) (c : BlockCipher) → Lawful z c → (iv s : List ℕ) → 0 < z → Octets z iv → Bytes s
    → moded z c Ofb iv (moded z c Ofb iv s) ≡ s
ofb_undoes_itself z c l iv s h g b = moded_undone z c l Ofb 0 iv s h g b tt

-- an operation and the one that undoes it take the same lengths of IV and input
other_takes : (o : Operation) → (iv_length 16 o ≡ iv_length 16 (other o)) × (any_length (other o) ≡ any_length o)
other_takes EcbEncrypt = (refl, refl)
other_takes EcbDecrypt = (refl, refl)
other_takes CbcEncrypt = (refl, refl)
other_takes CbcDecrypt = (refl, refl)
other_takes CfbEncrypt = (refl, refl)
other_takes CfbDecrypt = (refl, refl)
other_takes Ofb = (refl, refl)

-- for the calls: what undoes an operation, under the same key and IV, over what a call that fits wrote, writes what that call was given
pub apply_undoes_apply : (κs : _) (a : _) (r : _) (s : _) → apply.Post κs a r s → (κs' : _) (a' : _) (r' : _) (s' : _) → apply.Post κs' a' r' s'
    → Fit a.0 a.1.0.now a.1.1.0.now a.1.1.1.0.now a.1.1.1.1.0.now
    → a'.0 ≡ other a.0 → a'.1.0.now ≡ a.1.0.now → a'.1.1.0.now ≡ a.1.1.0.now
    → a'.1.1.1.0.now ≡ take (length a.1.1.1.0.now) s.1.1.1.1.0.now → length a.1.1.1.0.now ≤ length a'.1.1.1.1.0.now
    → Bytes a.1.1.0.now → Bytes a.1.1.1.0.now → take (length a.1.1.1.0.now) s'.1.1.1.1.0.now ≡ a.1.1.1.0.now
apply_undoes_apply κs a r s p κs' a' r' s' q f eo ek ei es room bi bs =
    let o = a.0 in
    let key = a.1.0.now in
    let iv = a.1.1.0.now in
    let inp = a.1.1.1.0.now in
    let out = a.1.1.1.1.0.now in
    let out' = a'.1.1.1.1.0.now in
    let m = moded 16 (aes_of key) o iv inp in
    let n = long o key iv inp out bi bs f in
    let made_is : a'.1.1.1.0.now ≡ m =
    es ∙ ap (take (length inp)) (p.1 ∙ wrote o key iv inp out bi bs f r.answer (apply_as_told κs a r s p)) ∙ take_at m (drop (length m) out) (length inp) n in
    let f' : Fit a'.0 a'.1.0.now a'.1.1.0.now a'.1.1.1.0.now out' =
    rw (eo, ek, ei, made_is) (record { key_taken = f.key_taken; iv_right = f.iv_right ∙ (other_takes o).0; pieces = rw (n, (other_takes o).1) f.pieces; room = omega (arith, n) }) in
    let d : r'.answer ≡ Done = fit_done _ _ _ _ _ f' r'.answer (apply_as_told κs' a' r' s' q) in
    let over_is : s'.1.1.1.1.0.now ≡ over inp out' = q.1 ∙ rw (d, eo, ek, ei, made_is, back o key iv inp out bi bs f) in
    ap (take (length inp)) over_is ∙ take_at inp (drop (length inp) out') (length inp) refl

-- two calls of OFB with one key and IV, of any length, return the input
pub ofb_twice_returns_the_input : (κs : _) (a : _) (r : _) (s : _) → apply.Post κs a r s → (κs' : _) (a' : _) (r' : _) (s' : _) → apply.Post κs' a' r' s'
    → a.0 ≡ Ofb → a'.0 ≡ Ofb → KeyTaken a.1.0.now → length a.1.1.0.now ≡ 16 → length a.1.1.1.0.now ≤ length a.1.1.1.1.0.now
    → a'.1.0.now ≡ a.1.0.now → a'.1.1.0.now ≡ a.1.1.0.now
    → a'.1.1.1.0.now ≡ take (length a.1.1.1.0.now) s.1.1.1.1.0.now → length a.1.1.1.0.now ≤ length a'.1.1.1.1.0.now
    → Bytes a.1.1.0.now → Bytes a.1.1.1.0.now → take (length a.1.1.1.0.now) s'.1.1.1.1.0.now ≡ a.1.1.1.0.now
ofb_twice_returns_the_input κs a r s p κs' a' r' s' q eo eo' key iv room ek ei es room' bi bs =
    let f : Fit a.0 a.1.0.now a.1.1.0.now a.1.1.1.0.now a.1.1.1.1.0.now =
    rw eo (record { key_taken = key; iv_right = iv; pieces = tt; room = room }) in
    apply_undoes_apply κs a r s p κs' a' r' s' q f (eo' ∙ ap other (sym eo)) ek ei es room' bi bs

-- ---- request E4 (docs/REQUIREMENTS.md): what is handed on, and inputs in parts

-- what a call that fits made, and what it handed on; ECB has nothing to hand on
pub apply_gives : (κs : _) (a : _) (r : _) (s : _) → apply.Post κs a r s
    → Fit a.0 a.1.0.now a.1.1.0.now a.1.1.1.0.now a.1.1.1.1.0.now
    → Bytes a.1.1.0.now → Bytes a.1.1.1.0.now → NotEcb a.0
    → (take (length a.1.1.1.0.now) s.1.1.1.1.0.now ≡ moded 16 (aes_of a.1.0.now) a.0 a.1.1.0.now a.1.1.1.0.now)
    × (r.next ≡ handed_on 16 (aes_of a.1.0.now) a.0 a.1.1.0.now a.1.1.1.0.now)
apply_gives κs a r s p f bi bs k =
    let o = a.0 in
    let key = a.1.0.now in
    let iv = a.1.1.0.now in
    let inp = a.1.1.1.0.now in
    let out = a.1.1.1.1.0.now in
    let m = moded 16 (aes_of key) o iv inp in
    let t = apply_as_told κs a r s p in (
      ap (take (length inp)) (p.1 ∙ wrote o key iv inp out bi bs f r.answer t) ∙ take_at m (drop (length m) out) (length inp) (long o key iv inp out bi bs f),
      apply_next κs a r s p ∙ hands o key iv inp out bi bs f k r.answer t,
    )

-- it is the last block of the ciphertext, in OFB the last output block, all 16 bytes, and the IV where the input is empty
pub apply_hands_on : (κs : _) (a : _) (r : _) (s : _) → apply.Post κs a r s
    → Fit a.0 a.1.0.now a.1.1.0.now a.1.1.1.0.now a.1.1.1.1.0.now
    → Bytes a.1.1.0.now → Bytes a.1.1.1.0.now → NotEcb a.0
    → Handed 16 (aes_of a.1.0.now) a.0 a.1.1.0.now a.1.1.1.0.now (take (length a.1.1.1.0.now) s.1.1.1.1.0.now) r.next
apply_hands_on κs a r s p f bi bs k =
    let o = a.0 in
    let key = a.1.0.now in
    let iv = a.1.1.0.now in
    let inp = a.1.1.1.0.now in
    let out = a.1.1.1.1.0.now in
    let e = apply_gives κs a r s p f bi bs k in
    rw (e.0, e.1)
    (handed-on 16 (aes_of key) (lawful o key iv inp out bi bs f) (length inp / 16) (zero-lt-suc 15) iv inp bs o (chain o key iv inp out bi bs f)
    (pieces_16 (any_length o) (length inp) f.pieces))

no_chain : (a : ModeAnswer) (o : Operation) (key iv inp : List ℕ) → chains o ≡ false → mode_next a o key iv inp ≡ replicate 16 0
no_chain Done o key iv inp e = rw e
no_chain BadKey o key iv inp e = refl
no_chain BadIv o key iv inp e = refl
no_chain NotPieces o key iv inp e = refl
no_chain OutputShort o key iv inp e = refl

pub ecb_hands_on_zeros : (κs : _) (a : _) (r : _) (s : _) → apply.Post κs a r s → (a.0 ≡ EcbEncrypt) ⊎ (a.0 ≡ EcbDecrypt) → r.next ≡ replicate 16 0
ecb_hands_on_zeros κs a r s p e =
    apply_next κs a r s p
    ∙ no_chain r.answer a.0 a.1.0.now a.1.1.0.now a.1.1.1.0.now (⊎_elim (λ z. ap chains z ∙ ecb_chains_nothing.0) (λ z. ap chains z ∙ ecb_chains_nothing.1) e)

-- for the definitions, over every block cipher of any width: two inputs joined, of which the first is n whole pieces, are the first and
-- then, with the value handed on, the second; and so is the value at the end
pub joined_is_one_after_the_other : (z : ℕ) (c : BlockCipher) (o : Operation) → 0 < z → (n : ℕ) (iv a b : List ℕ) → length a ≡ n * z
    → (moded z c o iv (a ++ b) ≡ moded z c o iv a ++ moded z c o (handed_on z c o iv a) b)
    × (handed_on z c o iv (a ++ b) ≡ handed_on z c o (handed_on z c o iv a) b)
joined_is_one_after_the_other z c o some n iv a b e = (cuts.moded_joined z c o some n iv a b e, cuts.handed_joined z c o some n iv a b e)

-- so for any number of cuts, each behind whole pieces
pub any_number_of_cuts : (z : ℕ) (c : BlockCipher) (o : Operation) → 0 < z → (parts : List (List ℕ)) (iv last : List ℕ) → WholeParts z parts
    → (moded z c o iv (joined parts ++ last) ≡ in_parts z c o iv parts ++ moded z c o (handed_along z c o iv parts) last)
    × (handed_on z c o iv (joined parts ++ last) ≡ handed_on z c o (handed_along z c o iv parts) last)
any_number_of_cuts z c o some parts iv last w = cuts.cut_anywhere z c o some parts iv last w

-- what is left behind whole pieces is taken where all of it is, and whole pieces always are
rest_taken : (k : Bool) (n m : ℕ) → n % 16 ≡ 0 → Unless k ((n + m) % 16 ≡ 0) → Unless k (m % 16 ≡ 0)
rest_taken true n m h t = tt
rest_taken false n m h t = omega arith

whole_taken : (k : Bool) (n : ℕ) → n % 16 ≡ 0 → Unless k (n % 16 ≡ 0)
whole_taken true n h = tt
whole_taken false n h = h

chained_iv : (o : Operation) → chains o ≡ true → iv_length 16 o ≡ 16
chained_iv EcbEncrypt e = absurd (true≢false (sym e))
chained_iv EcbDecrypt e = absurd (true≢false (sym e))
chained_iv CbcEncrypt e = refl
chained_iv CbcDecrypt e = refl
chained_iv CfbEncrypt e = refl
chained_iv CfbDecrypt e = refl
chained_iv Ofb e = refl

-- for three calls under one key: one over an input of whole pieces, one over another input with the value that the first handed on, and
-- one that fits over both joined; the third wrote what the first two wrote, and handed on what the second did
pub two_calls_are_one : (κs : _) (a : _) (r : _) (s : _) → apply.Post κs a r s → (κs' : _) (a' : _) (r' : _) (s' : _) → apply.Post κs' a' r' s'
    → (κs'' : _) (a'' : _) (r'' : _) (s'' : _) → apply.Post κs'' a'' r'' s''
    → Fit a''.0 a''.1.0.now a''.1.1.0.now a''.1.1.1.0.now a''.1.1.1.1.0.now → NotEcb a''.0
    → a.0 ≡ a''.0 → a.1.0.now ≡ a''.1.0.now → a.1.1.0.now ≡ a''.1.1.0.now
    → a'.0 ≡ a''.0 → a'.1.0.now ≡ a''.1.0.now → a'.1.1.0.now ≡ r.next
    → a''.1.1.1.0.now ≡ a.1.1.1.0.now ++ a'.1.1.1.0.now → length a.1.1.1.0.now % 16 ≡ 0
    → length a.1.1.1.0.now ≤ length a.1.1.1.1.0.now → length a'.1.1.1.0.now ≤ length a'.1.1.1.1.0.now
    → Bytes a''.1.1.0.now → Bytes a.1.1.1.0.now → Bytes a'.1.1.1.0.now
    → (take (length a''.1.1.1.0.now) s''.1.1.1.1.0.now
    ≡ take (length a.1.1.1.0.now) s.1.1.1.1.0.now ++ take (length a'.1.1.1.0.now) s'.1.1.1.1.0.now)
    × (r''.next ≡ r'.next)
two_calls_are_one κs a r s p κs' a' r' s' p' κs'' a'' r'' s'' p'' f k eo ek ei eo' ek' ei' es whole room room' bi ba bb =
    let o = a''.0 in
    let key = a''.1.0.now in
    let iv = a''.1.1.0.now in
    let x = a.1.1.1.0.now in
    let y = a'.1.1.1.0.now in
    let c = aes_of key in
    let chain = all_but_ecb_chain o k.0 k.1 in
    let f1 : Fit a.0 a.1.0.now a.1.1.0.now x a.1.1.1.1.0.now =
    rw (eo, ek, ei) (record { key_taken = f.key_taken; iv_right = f.iv_right; pieces = whole_taken (any_length o) (length x) whole; room = room }) in
    let g1 = apply_gives κs a r s p f1 (rw ei bi) ba (rw eo k) in
    let w1 : take (length x) s.1.1.1.1.0.now ≡ moded 16 c o iv x = g1.0 ∙ rw (eo, ek, ei) in
    let n1 : r.next ≡ handed_on 16 c o iv x = g1.1 ∙ rw (eo, ek, ei) in
    let st : Octets 16 r.next =
    rw n1
    (chain_block o (handed_on 16 c o iv x) chain
    (handed_16 c (key_lawful key f.key_taken) o iv x (iv_is_chain o iv f.iv_right bi) ba (whole_taken (any_length o) (length x) whole))) in
    let all : Takes o (length x + length y) = subst (λ (i : ℕ). Takes o i) (ap length es ∙ length-append x y) f.pieces in
    let f2 : Fit a'.0 a'.1.0.now a'.1.1.0.now y a'.1.1.1.1.0.now =
    rw (eo', ek', ei')
    (record { key_taken = f.key_taken; iv_right = st.size ∙ sym (chained_iv o chain); pieces = rest_taken (any_length o) (length x) (length y) whole all; room = room' }) in
    let g2 = apply_gives κs' a' r' s' p' f2 (rw ei' st.bytes) bb (rw eo' k) in
    let w2 : take (length y) s'.1.1.1.1.0.now ≡ moded 16 c o r.next y = g2.0 ∙ rw (eo', ek', ei') in
    let n2 : r'.next ≡ handed_on 16 c o r.next y = g2.1 ∙ rw (eo', ek', ei') in
    let g3 = apply_gives κs'' a'' r'' s'' p'' f bi (rw es (append_bytes x y ba bb)) k in
    let e = joined_is_one_after_the_other 16 c o (zero-lt-suc 15) (length x / 16) iv x y (by_sixteen (length x) whole) in (
      g3.0 ∙ ap (moded 16 c o iv) es ∙ e.0 ∙ ap (λ (v : List ℕ). moded 16 c o iv x ++ moded 16 c o v y) (sym n1) ∙ sym (ap₂ ◌++◌ w1 w2),
      g3.1 ∙ ap (handed_on 16 c o iv) es ∙ e.1 ∙ ap (λ (v : List ℕ). handed_on 16 c o v y) (sym n1) ∙ sym n2,
    )

pub mode_number_asks_nothing : (κs : _) (a : _) → mode-number.Asked κs a
mode_number_asks_nothing κs a = tt

pub mode_number_determined : (κs : _) (a : _) (r r' : _) (s s' : _) → mode-number.Post κs a r s → mode-number.Post κs a r' s' → r ≡ r'
mode_number_determined κs a r r' s s' p q = p ∙ sym q

-- ---- the modes' judge, of the answer for the key and the lengths of IV, input and output: 1, 2, 3, 4

abbrev pub ModeSays : KeyAnswer → Operation → (iv inp out : ℕ) → ModeAnswer → Type 0
ModeSays key o iv inp out Done = (key ≡ Taken) × (iv ≡ iv_length 16 o) × Takes o inp × (inp ≤ out)
ModeSays key o iv inp out BadKey = key ≡ Taken → ⊥
ModeSays key o iv inp out BadIv = (key ≡ Taken) × (iv ≡ iv_length 16 o → ⊥)
ModeSays key o iv inp out NotPieces = (key ≡ Taken) × (iv ≡ iv_length 16 o) × (Takes o inp → ⊥)
ModeSays key o iv inp out OutputShort = (key ≡ Taken) × (iv ≡ iv_length 16 o) × Takes o inp × (out < inp)

pub judge_mode_as_told : (κs : _) (a : _) (r : _) (s : _) → judge_mode.Post κs a r s → ModeSays a.0 a.1.0 a.1.1.0 a.1.1.1.0 a.1.1.1.1.0 r
judge_mode_as_told κs a r s p =
    subst (ModeSays a.0 a.1.0 a.1.1.0 a.1.1.1.0 a.1.1.1.1.0) (sym p)
    (judged_says (key_number a.0) a.1.0 a.1.1.0 a.1.1.1.0 a.1.1.1.1.0 (ModeSays a.0 a.1.0 a.1.1.0 a.1.1.1.0 a.1.1.1.1.0)
    (λ n e. n (ap key_number e)) (λ k n. (taken_key a.0 k, n)) (λ k i n. (taken_key a.0 k, i, n)) (λ k i t l. (taken_key a.0 k, i, t, l)) (λ k i t l. (taken_key a.0 k, i, t, l)))

pub judge_mode_done : (κs : _) (a : _) (r : _) (s : _) → judge_mode.Post κs a r s
    → a.0 ≡ Taken → a.1.1.0 ≡ iv_length 16 a.1.0 → Takes a.1.0 a.1.1.1.0 → a.1.1.1.0 ≤ a.1.1.1.1.0 → mode_number r ≡ 0
unfolding judged
judge_mode_done κs a r s p k i t l =
    ap mode_number p ∙ rw (eq-eqb (key_number a.0) 0 (ap key_number k), eq-eqb a.1.1.0 (iv_length 16 a.1.0) i, eq-eqb (left_over a.1.0 a.1.1.1.0) 0 (none_left a.1.0 a.1.1.1.0 t), le-ltb a.1.1.1.1.0 a.1.1.1.0 l)
