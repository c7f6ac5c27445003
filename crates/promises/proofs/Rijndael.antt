-- Demands 1, 2 and 3 for the calls over blocks of 24 and 32 bytes: request E6 (docs/REQUIREMENTS.md). Assumes nothing.
use mathlib.Core.Path.{◌≡◌, refl, sym, ap, ap₂, subst, ◌∙◌}
use mathlib.Core.Bool.{Bool, true, false, true≢false, cond}
use mathlib.Core.Logic.{◌⊎◌, inl, inr, ⊎_elim}
use mathlib.Core.List.{List, ◌++◌, [], ◌∷◌}
use Prim.Native.Nat.{ℕ, ◌+◌, ◌*◌, ◌/◌, ◌%◌, ◌≤◌, ◌<◌}
use native.Mathlib.Nat.{div-add-mod'}
use native.Mathlib.Omega.{arith}
use borrow.Author.Tests.{eqb-true, eqb-false, ltb-true, ltb-false}
use lib.Dec.{eqb, ltb}
use lib.ListN.{length, take, drop, replicate, length-append, length-drop}
use lib.Seq.{take_at, drop_at}
use Rattle.octets.specs.Octets.{over, joined, tabulate, Bytes, Octets}
use Rattle.octets.specs.Blocks.{BlockCipher, Lawful}
use Rattle.octets.proofs.Blocks.{append_bytes}
use Rattle.field.specs.Field.{x_power}
use Rattle.aes_spec.specs.State.{Shape, aes}
use Rattle.aes_spec.specs.Cipher.{aes_of}
use Rattle.aes_spec.proofs.State.{Regular}
use Rattle.modes_spec.specs.Pieces.{piece_count}
use Rattle.modes_spec.specs.Modes.{machine, iv_length, any_length, chains, Unless, moded, handed_on, other}
use Rattle.modes_spec.specs.Equations.{Equation, Handed}
use Rattle.modes_spec.specs.declared.Operation.TheVariants.{EcbEncrypt, EcbDecrypt, CbcEncrypt, CbcDecrypt}
use Rattle.modes_spec.proofs.Pieces.{after_kept}
use Rattle.modes_spec.proofs.Undo.{ChainOf, PieceOf, keeps, moded_undone, moded_length}
use Rattle.modes_spec.proofs.Undo as undo
use Rattle.modes_spec.proofs.Equations.{equation, handed-on}
use Rattle.modes_spec.proofs.HandedOn as cuts
use Rattle.modes_answer.specs.Answers.{mode_number, judged}
use Rattle.modes_answer.specs.declared.ModeAnswer.{ModeAnswer}
use Rattle.modes_answer.specs.declared.ModeAnswer.TheVariants.{Done, BadKey, BadIv, NotPieces, OutputShort}
use Rattle.rijndael_spec.specs.Rijndael.{shape_of, block_size, rounds_of, rijndael, takes_key, wide_round_count, wide_encrypt, wide_decrypt}
use Rattle.rijndael_spec.specs.Operations.{mode_of, wide_other}
use Rattle.rijndael_spec.specs.declared.Width.{Width}
use Rattle.rijndael_spec.specs.declared.Width.TheVariants.{Six, Eight}
use Rattle.rijndael_spec.specs.declared.WideOperation.{WideOperation}
use Rattle.rijndael_spec.specs.declared.WideOperation.TheVariants.{EncryptEcb, DecryptEcb, EncryptCbc, DecryptCbc}
use Rattle.rijndael_spec.proofs.Laws as laws
use Rattle.rijndael_spec.proofs.Pins as pins
use Rattle.rijndael_spec.specs.Model.{wide_inverse}
use Rattle.rijndael.specs.Calls.{wide_answer, wide_output, wide_next, answer24, answer32}
use Rattle.rijndael.specs.declared.Applied24.{Applied24}
use Rattle.rijndael.specs.declared.Applied32.{Applied32}
use Rattle.rijndael.proofs.Done.{kept, zeros}
use Rattle.rijndael.proofs.apply_24.Reads as apply_24
use Rattle.rijndael.proofs.apply_32.Reads as apply_32
use Rattle.rijndael_schedule.proofs.schedule_into.Reads as wide_schedule_into
use Rattle.rijndael_schedule.proofs.invert.Reads as wide_invert
use Rattle.rijndael_schedule.proofs.columns.Reads as wide_columns
use Rattle.rijndael_schedule.proofs.is_round_count.Reads as wide_is_round_count
use Rattle.rijndael_rounds.proofs.table_into.Reads as table_into
use Rattle.rijndael_rounds.proofs.through.Reads as through
use Rattle.promises.proofs.Aes.Keys.{IsKeySize}

-- ---- the cipher, by its definition

-- over every shape that is regular, for every key, blocks go to blocks and each way undoes the other
pub rijndael_is_undone : (z : Shape) → Regular z → (key : List ℕ) → Lawful (4 * z.columns) (rijndael z key)
rijndael_is_undone z g key = laws.lawful z g key

-- six and eight columns are such shapes
pub wide_is_undone : (v : Width) (key : List ℕ) → Lawful (block_size v) (rijndael (shape_of v) key)
wide_is_undone v key = laws.wide_lawful v key

-- and AES is the case of four columns
pub aes_is_the_case_of_four : (key x : List ℕ) → IsKeySize (length key) → ((aes_of key).enc x ≡ (rijndael aes key).enc x) × ((aes_of key).dec x ≡ (rijndael aes key).dec x)
aes_is_the_case_of_four key x s = laws.aes_is_four key x s

-- the columns, the bytes, the shifts, the rounds and the key constants that the papers name
pub wide_columns_and_bytes : ((shape_of Six).columns ≡ 6) × (block_size Six ≡ 24) × ((shape_of Eight).columns ≡ 8) × (block_size Eight ≡ 32)
wide_columns_and_bytes = pins.columns_and_bytes

pub wide_row_shifts : (tabulate 4 (shape_of Six).shift ≡ 0 ∷ 1 ∷ 2 ∷ 3 ∷ []) × (tabulate 4 (shape_of Eight).shift ≡ 0 ∷ 1 ∷ 3 ∷ 4 ∷ [])
wide_row_shifts = pins.row_shifts

pub wide_round_numbers : (tabulate 3 (λ k. rounds_of (4 + k + k) 6) ≡ 12 ∷ 12 ∷ 14 ∷ []) × (tabulate 3 (λ k. rounds_of (4 + k + k) 8) ≡ 14 ∷ 14 ∷ 14 ∷ [])
    × (tabulate 3 (λ k. rounds_of (4 + k + k) 4) ≡ 10 ∷ 12 ∷ 14 ∷ [])
wide_round_numbers = pins.round_numbers

pub wide_key_constants : tabulate 19 (λ k. x_power (k + 10))
    ≡ 0x6c ∷ 0xd8 ∷ 0xab ∷ 0x4d ∷ 0x9a ∷ 0x2f ∷ 0x5e ∷ 0xbc ∷ 0x63 ∷ 0xc6 ∷ 0x97 ∷ 0x35 ∷ 0x6a ∷ 0xd4 ∷ 0xb3 ∷ 0x7d ∷ 0xfa ∷ 0xef ∷ 0xc5 ∷ []
wide_key_constants = pins.constants_past_the_tenth

-- a schedule whose number of rounds no key gives makes zeros of the width, each way
pub wide_no_rounds_zeros : (v : Width) (w : List ℕ) (nr : ℕ) (b : List ℕ) → wide_round_count v nr ≡ false
    → (wide_encrypt v w nr b ≡ replicate (block_size v) 0) × (wide_decrypt v w nr b ≡ replicate (block_size v) 0)
unfolding wide_encrypt wide_decrypt
wide_no_rounds_zeros v w nr b e = (rw e, rw e)

-- ---- the words of this page

-- what a call asks, in the order of the table: 1, 2, 3, 4 come where one of these fails; 2 and 3 go by the block's own size
pub record WideFit (v : Width) (o : WideOperation) (key iv inp out : List ℕ) : Type 0 where
  pub key_taken : IsKeySize (length key)
  pub iv_right : length iv ≡ iv_length (block_size v) (mode_of o)
  pub pieces : length inp % block_size v ≡ 0
  pub room : length inp ≤ length out

-- what each answer says: that its row of the table holds, and that no earlier one does
abbrev pub WideSays : Width → WideOperation → (key iv inp out : List ℕ) → ModeAnswer → Type 0
WideSays v o key iv inp out Done = WideFit v o key iv inp out
WideSays v o key iv inp out BadKey = IsKeySize (length key) → ⊥
WideSays v o key iv inp out BadIv = IsKeySize (length key) × (length iv ≡ iv_length (block_size v) (mode_of o) → ⊥)
WideSays v o key iv inp out NotPieces = IsKeySize (length key) × (length iv ≡ iv_length (block_size v) (mode_of o)) × (length inp % block_size v ≡ 0 → ⊥)
WideSays v o key iv inp out OutputShort = IsKeySize (length key) × (length iv ≡ iv_length (block_size v) (mode_of o)) × (length inp % block_size v ≡ 0) × (length out < length inp)

-- ---- for either width, of a call with these inputs, its answer, the value beside it and the output afterwards

pub record Called (v : Width) (o : WideOperation) (key iv inp out : List ℕ) (r : ModeAnswer) (next made : List ℕ) : Type 0 where
  pub answer : r ≡ wide_answer v o key iv inp out
  pub value : next ≡ wide_next r v o key iv inp
  pub output : made ≡ wide_output r v o key iv inp out

-- a key's number is 0 for a key of 16, 24 or 32 bytes, and for no other
size_known : (n : ℕ) (k : Bool) → takes_key n ≡ k → ◌≡◌ {A = ℕ} (cond k 0 1) 0 → IsKeySize n
size_known n true e h = laws.key_sizes n e
size_known n false e h = absurd (omega arith)

known_size : (n : ℕ) → IsKeySize n → ◌≡◌ {A = ℕ} (cond (takes_key n) 0 1) 0
known_size n h = rw (laws.size_taken n h)

tell : (v : Width) (o : WideOperation) (key iv inp out : List ℕ) → WideSays v o key iv inp out (wide_answer v o key iv inp out)
unfolding wide_answer judged
tell v o key iv inp out = each (eqb number 0) (eqb (length iv) wanted) (eqb left 0) (ltb (length out) (length inp)) refl refl refl refl
  where
    number : ℕ
    number = cond (takes_key (length key)) 0 1

    wanted : ℕ
    wanted = iv_length (block_size v) (mode_of o)

    left : ℕ
    left = length inp % block_size v

    size : eqb number 0 ≡ true → IsKeySize (length key)
    size e = size_known (length key) (takes_key (length key)) refl (eqb-true number 0 e)

    each : (p q u t : Bool) → eqb number 0 ≡ p → eqb (length iv) wanted ≡ q → eqb left 0 ≡ u → ltb (length out) (length inp) ≡ t
        → WideSays v o key iv inp out (cond p (cond q (cond u (cond t OutputShort Done) NotPieces) BadIv) BadKey)
    each true true true true ep eq eu et = (size ep, eqb-true _ _ eq, eqb-true _ _ eu, ltb-true _ _ et)
    each true true true false ep eq eu et = record { key_taken = size ep; iv_right = eqb-true _ _ eq; pieces = eqb-true _ _ eu; room = ltb-false _ _ et }
    each true true false t ep eq eu et = (size ep, eqb-true _ _ eq, eqb-false _ _ eu)
    each true false u t ep eq eu et = (size ep, eqb-false _ _ eq)
    each false q u t ep eq eu et = λ k. eqb-false number 0 ep (known_size (length key) k)

whole_only : (o : WideOperation) (P : Type 0) → P → Unless (any_length (mode_of o)) P
whole_only EncryptEcb P p = p
whole_only DecryptEcb P p = p
whole_only EncryptCbc P p = p
whole_only DecryptCbc P p = p

some_bytes : (v : Width) → 0 < block_size v
some_bytes Six = omega arith
some_bytes Eight = omega arith

chain_of : (v : Width) (o : WideOperation) (iv : List ℕ) → length iv ≡ iv_length (block_size v) (mode_of o) → Bytes iv → ChainOf (block_size v) (mode_of o) iv
chain_of v EncryptEcb iv e b = tt
chain_of v DecryptEcb iv e b = tt
chain_of v EncryptCbc iv e b = record { size = e; bytes = b }
chain_of v DecryptCbc iv e b = record { size = e; bytes = b }

other_mode : (o : WideOperation) → (other (mode_of o) ≡ mode_of (wide_other o))
other_mode EncryptEcb = refl
other_mode DecryptEcb = refl
other_mode EncryptCbc = refl
other_mode DecryptCbc = refl

other_iv : (v : Width) (o : WideOperation) → iv_length (block_size v) (mode_of (wide_other o)) ≡ iv_length (block_size v) (mode_of o)
other_iv v EncryptEcb = refl
other_iv v DecryptEcb = refl
other_iv v EncryptCbc = refl
other_iv v DecryptCbc = refl

-- a call that fits is carried out
fit_done : (v : Width) (o : WideOperation) (key iv inp out : List ℕ) → WideFit v o key iv inp out → (r : ModeAnswer) → WideSays v o key iv inp out r → r ≡ Done
fit_done v o key iv inp out f Done t = refl
fit_done v o key iv inp out f BadKey t = absurd (t f.key_taken)
fit_done v o key iv inp out f BadIv t = absurd (t.1 f.iv_right)
fit_done v o key iv inp out f NotPieces t = absurd (t.2 f.pieces)
fit_done v o key iv inp out f OutputShort t = let h = t.3 in let k = f.room in absurd (omega arith)

module _ (v : Width) (o : WideOperation) (key iv inp out : List ℕ) (r : ModeAnswer) (next made : List ℕ) (c : Called v o key iv inp out r next made) where
  as_told : WideSays v o key iv inp out r
  as_told = subst (WideSays v o key iv inp out) (sym c.answer) (tell v o key iv inp out)

  module _ (bi : Bytes iv) (bs : Bytes inp) (f : WideFit v o key iv inp out) where
    abbrev z : ℕ
    z = block_size v

    abbrev d : BlockCipher
    d = rijndael (shape_of v) key

    is_done : r ≡ Done
    is_done = fit_done v o key iv inp out f r as_told

    pieces_of : length inp ≡ length inp / z * z
    pieces_of = let h = f.pieces in omega (arith, div-add-mod' (length inp) z)

    whole : Unless (any_length (mode_of o)) (length inp ≡ length inp / z * z)
    whole = whole_only o (length inp ≡ length inp / z * z) pieces_of

    long : length (moded z d (mode_of o) iv inp) ≡ length inp
    long = moded_length z d (laws.wide_lawful v key) (mode_of o) (length inp / z) iv inp (some_bytes v) (chain_of v o iv f.iv_right bi) bs whole

    -- what was written, and what was handed on
    wrote : take (length inp) made ≡ moded z d (mode_of o) iv inp
    wrote =
        let m = moded z d (mode_of o) iv inp in
        ap (take (length inp)) (c.output ∙ ap (λ (x : ModeAnswer). wide_output x v o key iv inp out) is_done) ∙ take_at m (drop (length m) out) (length inp) long

    handed : next ≡ cond (chains (mode_of o)) (handed_on z d (mode_of o) iv inp) (replicate z 0)
    handed = c.value ∙ ap (λ (x : ModeAnswer). wide_next x v o key iv inp) is_done

    rest_kept : (drop (length inp) made ≡ drop (length inp) out) × (length made ≡ length out)
    rest_kept =
        let m = moded z d (mode_of o) iv inp in
        let e : made ≡ over m out = c.output ∙ ap (λ (x : ModeAnswer). wide_output x v o key iv inp out) is_done in
        let h = f.room in (
          ap (drop (length inp)) (e ∙ rw long) ∙ drop_at m (drop (length inp) out) (length inp) long,
          ap length e ∙ length-append m (drop (length m) out) ∙ omega (arith, long, length-drop (length m) out),
        )

    -- every piece is as the standard's equation says, over the wide cipher
    by_equation : (i : ℕ) → i * z < length inp → Equation z d (mode_of o) iv inp (take (length inp) made) i
    by_equation i h =
        rw wrote (equation z d (laws.wide_lawful v key) (length inp / z) (some_bytes v) iv inp bs (mode_of o) (chain_of v o iv f.iv_right bi) whole i h)

    undone : moded z d (mode_of (wide_other o)) iv (moded z d (mode_of o) iv inp) ≡ inp
    undone =
        rw (← other_mode o)
        (moded_undone z d (laws.wide_lawful v key) (mode_of o) (length inp / z) iv inp (some_bytes v) (chain_of v o iv f.iv_right bi) bs whole)

    -- what undoes the operation, under the same key and IV, over what was written, writes what was given
    undoes : (out' : List ℕ) (r' : ModeAnswer) (next' made' : List ℕ) → Called v (wide_other o) key iv (take (length inp) made) out' r' next' made'
        → length inp ≤ length out' → take (length inp) made' ≡ inp
    undoes out' r' next' made' c' room =
        let m = moded z d (mode_of o) iv inp in
        let c'' : Called v (wide_other o) key iv m out' r' next' made' = rw wrote at c' in
        let f' : WideFit v (wide_other o) key iv m out' =
        record { key_taken = f.key_taken; iv_right = f.iv_right ∙ sym (other_iv v o); pieces = rw long f.pieces; room = omega (arith, long) } in
        let told : WideSays v (wide_other o) key iv m out' r' = subst (WideSays v (wide_other o) key iv m out') (sym c''.answer) (tell v (wide_other o) key iv m out') in
        let e : r' ≡ Done = fit_done v (wide_other o) key iv m out' f' r' told in
        let w : made' ≡ over inp out' = c''.output ∙ ap (λ (x : ModeAnswer). wide_output x v (wide_other o) key iv m out') e ∙ rw undone in
        ap (take (length inp)) w ∙ take_at inp (drop (length inp) out') (length inp) refl

-- ---- two calls in CBC, the second with the value that the first handed on, are one over both inputs joined

rest_whole : (v : Width) (n m : ℕ) → (n + m) % block_size v ≡ 0 → n % block_size v ≡ 0 → m % block_size v ≡ 0
rest_whole Six n m h k = omega arith
rest_whole Eight n m h k = omega arith

-- an operation that chains takes a block as its IV, and hands one on
chained_iv : (v : Width) (o : WideOperation) → chains (mode_of o) ≡ true → iv_length (block_size v) (mode_of o) ≡ block_size v
chained_iv v EncryptEcb e = absurd (true≢false (sym e))
chained_iv v DecryptEcb e = absurd (true≢false (sym e))
chained_iv v EncryptCbc e = refl
chained_iv v DecryptCbc e = refl

chain_block : (v : Width) (o : WideOperation) (st : List ℕ) → chains (mode_of o) ≡ true → ChainOf (block_size v) (mode_of o) st → Octets (block_size v) st
chain_block v EncryptEcb st e g = absurd (true≢false (sym e))
chain_block v DecryptEcb st e g = absurd (true≢false (sym e))
chain_block v EncryptCbc st e g = g
chain_block v DecryptCbc st e g = g

joins : (v : Width) (o : WideOperation) (key iv x y out out' out'' : List ℕ) (r r' r'' : ModeAnswer) (next next' next'' made made' made'' : List ℕ)
    → chains (mode_of o) ≡ true → Called v o key iv x out r next made → Called v o key next y out' r' next' made' → Called v o key iv (x ++ y) out'' r'' next'' made''
    → WideFit v o key iv (x ++ y) out'' → length x % block_size v ≡ 0 → length x ≤ length out → length y ≤ length out' → Bytes iv → Bytes x → Bytes y
    → (take (length (x ++ y)) made'' ≡ take (length x) made ++ take (length y) made') × (next'' ≡ next')
joins v o key iv x y out out' out'' r r' r'' next next' next'' made made' made'' k c c' c'' f whole room room' bi bx by =
    let z = block_size v in
    let d = rijndael (shape_of v) key in
    let m = mode_of o in
    let f1 : WideFit v o key iv x out = record { key_taken = f.key_taken; iv_right = f.iv_right; pieces = whole; room = room } in
    let w1 = wrote v o key iv x out r next made c bi bx f1 in
    let h1 : next ≡ handed_on z d m iv x = handed v o key iv x out r next made c bi bx f1 ∙ rw k in
    let n = length x / z in
    let e : length x ≡ n * z = omega (arith, div-add-mod' (length x) z) in
    let l = laws.wide_lawful v key in
    let st : Octets z next =
    rw h1
    (chain_block v o (handed_on z d m iv x) k
    (after_kept z (machine d m) (ChainOf z m) (PieceOf z m) (keeps z d l m) (piece_count z x) iv x (chain_of v o iv f.iv_right bi)
    (undo.whole z d l m n iv x (some_bytes v) (chain_of v o iv f.iv_right bi) bx (whole_only o (length x ≡ n * z) e)))) in
    let all : (length x + length y) % z ≡ 0 = subst (λ (i : ℕ). i % z ≡ 0) (length-append x y) f.pieces in
    let f2 : WideFit v o key next y out' =
    record { key_taken = f.key_taken; iv_right = st.size ∙ sym (chained_iv v o k); pieces = rest_whole v (length x) (length y) all whole; room = room' } in
    let w2 = wrote v o key next y out' r' next' made' c' st.bytes by f2 in
    let h2 : next' ≡ handed_on z d m next y = handed v o key next y out' r' next' made' c' st.bytes by f2 ∙ rw k in
    let bxy = append_bytes x y bx by in
    let w3 = wrote v o key iv (x ++ y) out'' r'' next'' made'' c'' bi bxy f in
    let h3 : next'' ≡ handed_on z d m iv (x ++ y) = handed v o key iv (x ++ y) out'' r'' next'' made'' c'' bi bxy f ∙ rw k in (
      w3 ∙ cuts.moded_joined z d m (some_bytes v) n iv x y e ∙ ap (λ (i : List ℕ). moded z d m iv x ++ moded z d m i y) (sym h1) ∙ sym (ap₂ ◌++◌ w1 w2),
      h3 ∙ cuts.handed_joined z d m (some_bytes v) n iv x y e ∙ ap (λ (i : List ℕ). handed_on z d m i y) (sym h1) ∙ sym h2,
    )

-- ---- demand 1, and each call as it is told

pub apply_24_asks_nothing : (κs : _) (a : _) → apply_24.Asked κs a
apply_24_asks_nothing κs a = tt

pub apply_24_determined : (κs : _) (a : _) (r r' : _) (s s' : _) → apply_24.Post κs a r s → apply_24.Post κs a r' s'
    → (r ≡ r') × (s.1.1.1.1.0.now ≡ s'.1.1.1.1.0.now)
apply_24_determined κs a r r' s s' p q =
    let e : r ≡ r' = p.0 ∙ sym q.0 in
    (e, p.1 ∙ rw e (sym q.1))

pub apply_24_refused_keeps : (κs : _) (a : _) (r : _) (s : _) → apply_24.Post κs a r s → (mode_number r.answer ≡ 0 → ⊥)
    → s.1.1.1.1.0.now ≡ a.1.1.1.1.0.now
apply_24_refused_keeps κs a r s p h = p.1 ∙ kept r.answer Six a.0 a.1.0.now a.1.1.0.now a.1.1.1.0.now a.1.1.1.1.0.now h

-- what the call is, in its parts
called_24 : (κs : _) (a : _) (r : _) (s : _) → apply_24.Post κs a r s → Called Six a.0 a.1.0.now a.1.1.0.now a.1.1.1.0.now a.1.1.1.1.0.now r.answer r.next s.1.1.1.1.0.now
called_24 κs a r s p = record { answer = ap (λ (x : Applied24). x.answer) p.0; value = rw p.0; output = p.1 }

-- a refused call hands on zeros, and so does ECB
pub apply_24_refused_zeros : (κs : _) (a : _) (r : _) (s : _) → apply_24.Post κs a r s → (mode_number r.answer ≡ 0 → ⊥) → r.next ≡ replicate 24 0
apply_24_refused_zeros κs a r s p h = (called_24 κs a r s p).value ∙ zeros r.answer Six a.0 a.1.0.now a.1.1.0.now a.1.1.1.0.now h

pub apply_24_as_told : (κs : _) (a : _) (r : _) (s : _) → apply_24.Post κs a r s → WideSays Six a.0 a.1.0.now a.1.1.0.now a.1.1.1.0.now a.1.1.1.1.0.now r.answer
apply_24_as_told κs a r s p = as_told Six a.0 a.1.0.now a.1.1.0.now a.1.1.1.0.now a.1.1.1.1.0.now r.answer r.next s.1.1.1.1.0.now (called_24 κs a r s p)

pub apply_24_done : (κs : _) (a : _) (r : _) (s : _) → apply_24.Post κs a r s → WideFit Six a.0 a.1.0.now a.1.1.0.now a.1.1.1.0.now a.1.1.1.1.0.now → mode_number r.answer ≡ 0
apply_24_done κs a r s p f = ap mode_number (fit_done Six a.0 a.1.0.now a.1.1.0.now a.1.1.1.0.now a.1.1.1.1.0.now f r.answer (apply_24_as_told κs a r s p))

-- demand 2: every piece of the output's first bytes, as many as the input has, is as the standard's equation says, over the wide cipher
pub apply_24_is_the_mode : (κs : _) (a : _) (r : _) (s : _) → apply_24.Post κs a r s → WideFit Six a.0 a.1.0.now a.1.1.0.now a.1.1.1.0.now a.1.1.1.1.0.now
    → Bytes a.1.1.0.now → Bytes a.1.1.1.0.now → (i : ℕ) → i * 24 < length a.1.1.1.0.now
    → Equation 24 (rijndael (shape_of Six) a.1.0.now) (mode_of a.0) a.1.1.0.now a.1.1.1.0.now (take (length a.1.1.1.0.now) s.1.1.1.1.0.now) i
apply_24_is_the_mode κs a r s p f bi bs i h = by_equation Six a.0 a.1.0.now a.1.1.0.now a.1.1.1.0.now a.1.1.1.1.0.now r.answer r.next s.1.1.1.1.0.now (called_24 κs a r s p) bi bs f i h

-- bytes of the output past the input's length stay, and so does its length
pub apply_24_keeps_the_rest : (κs : _) (a : _) (r : _) (s : _) → apply_24.Post κs a r s → WideFit Six a.0 a.1.0.now a.1.1.0.now a.1.1.1.0.now a.1.1.1.1.0.now → Bytes a.1.1.0.now → Bytes a.1.1.1.0.now
    → (drop (length a.1.1.1.0.now) s.1.1.1.1.0.now ≡ drop (length a.1.1.1.0.now) a.1.1.1.1.0.now)
    × (length s.1.1.1.1.0.now ≡ length a.1.1.1.1.0.now)
apply_24_keeps_the_rest κs a r s p f bi bs = rest_kept Six a.0 a.1.0.now a.1.1.0.now a.1.1.1.0.now a.1.1.1.1.0.now r.answer r.next s.1.1.1.1.0.now (called_24 κs a r s p) bi bs f

-- what a call that fits made, and what CBC handed on
pub apply_24_gives : (κs : _) (a : _) (r : _) (s : _) → apply_24.Post κs a r s → WideFit Six a.0 a.1.0.now a.1.1.0.now a.1.1.1.0.now a.1.1.1.1.0.now → Bytes a.1.1.0.now → Bytes a.1.1.1.0.now
    → (take (length a.1.1.1.0.now) s.1.1.1.1.0.now ≡ moded 24 (rijndael (shape_of Six) a.1.0.now) (mode_of a.0) a.1.1.0.now a.1.1.1.0.now)
    × (r.next ≡ cond (chains (mode_of a.0)) (handed_on 24 (rijndael (shape_of Six) a.1.0.now) (mode_of a.0) a.1.1.0.now a.1.1.1.0.now) (replicate 24 0))
apply_24_gives κs a r s p f bi bs =
    let c = called_24 κs a r s p in (
      wrote Six a.0 a.1.0.now a.1.1.0.now a.1.1.1.0.now a.1.1.1.1.0.now r.answer r.next s.1.1.1.1.0.now c bi bs f,
      handed Six a.0 a.1.0.now a.1.1.0.now a.1.1.1.0.now a.1.1.1.1.0.now r.answer r.next s.1.1.1.1.0.now c bi bs f,
    )

-- demand 3: what undoes an operation, under the same key and IV, over what a call that fits wrote, writes what that call was given
pub apply_24_undoes_apply_24 : (κs : _) (a : _) (r : _) (s : _) → apply_24.Post κs a r s → (κs' : _) (a' : _) (r' : _) (s' : _) → apply_24.Post κs' a' r' s' → WideFit Six a.0 a.1.0.now a.1.1.0.now a.1.1.1.0.now a.1.1.1.1.0.now
    → a'.0 ≡ wide_other a.0 → a'.1.0.now ≡ a.1.0.now → a'.1.1.0.now ≡ a.1.1.0.now
    → a'.1.1.1.0.now ≡ take (length a.1.1.1.0.now) s.1.1.1.1.0.now → length a.1.1.1.0.now ≤ length a'.1.1.1.1.0.now
    → Bytes a.1.1.0.now → Bytes a.1.1.1.0.now → take (length a.1.1.1.0.now) s'.1.1.1.1.0.now ≡ a.1.1.1.0.now
apply_24_undoes_apply_24 κs a r s p κs' a' r' s' q f eo ek ei es room bi bs =
    let c = rw (eo, ek, ei, es) at (called_24 κs' a' r' s' q) in
    undoes Six a.0 a.1.0.now a.1.1.0.now a.1.1.1.0.now a.1.1.1.1.0.now r.answer r.next s.1.1.1.1.0.now (called_24 κs a r s p) bi bs f a'.1.1.1.1.0.now r'.answer r'.next s'.1.1.1.1.0.now c room

pub apply_32_asks_nothing : (κs : _) (a : _) → apply_32.Asked κs a
apply_32_asks_nothing κs a = tt

pub apply_32_determined : (κs : _) (a : _) (r r' : _) (s s' : _) → apply_32.Post κs a r s → apply_32.Post κs a r' s'
    → (r ≡ r') × (s.1.1.1.1.0.now ≡ s'.1.1.1.1.0.now)
apply_32_determined κs a r r' s s' p q =
    let e : r ≡ r' = p.0 ∙ sym q.0 in
    (e, p.1 ∙ rw e (sym q.1))

pub apply_32_refused_keeps : (κs : _) (a : _) (r : _) (s : _) → apply_32.Post κs a r s → (mode_number r.answer ≡ 0 → ⊥)
    → s.1.1.1.1.0.now ≡ a.1.1.1.1.0.now
apply_32_refused_keeps κs a r s p h = p.1 ∙ kept r.answer Eight a.0 a.1.0.now a.1.1.0.now a.1.1.1.0.now a.1.1.1.1.0.now h

-- what the call is, in its parts
called_32 : (κs : _) (a : _) (r : _) (s : _) → apply_32.Post κs a r s → Called Eight a.0 a.1.0.now a.1.1.0.now a.1.1.1.0.now a.1.1.1.1.0.now r.answer r.next s.1.1.1.1.0.now
called_32 κs a r s p = record { answer = ap (λ (x : Applied32). x.answer) p.0; value = rw p.0; output = p.1 }

-- a refused call hands on zeros, and so does ECB
pub apply_32_refused_zeros : (κs : _) (a : _) (r : _) (s : _) → apply_32.Post κs a r s → (mode_number r.answer ≡ 0 → ⊥) → r.next ≡ replicate 32 0
apply_32_refused_zeros κs a r s p h = (called_32 κs a r s p).value ∙ zeros r.answer Eight a.0 a.1.0.now a.1.1.0.now a.1.1.1.0.now h

pub apply_32_as_told : (κs : _) (a : _) (r : _) (s : _) → apply_32.Post κs a r s → WideSays Eight a.0 a.1.0.now a.1.1.0.now a.1.1.1.0.now a.1.1.1.1.0.now r.answer
apply_32_as_told κs a r s p = as_told Eight a.0 a.1.0.now a.1.1.0.now a.1.1.1.0.now a.1.1.1.1.0.now r.answer r.next s.1.1.1.1.0.now (called_32 κs a r s p)

pub apply_32_done : (κs : _) (a : _) (r : _) (s : _) → apply_32.Post κs a r s → WideFit Eight a.0 a.1.0.now a.1.1.0.now a.1.1.1.0.now a.1.1.1.1.0.now → mode_number r.answer ≡ 0
apply_32_done κs a r s p f = ap mode_number (fit_done Eight a.0 a.1.0.now a.1.1.0.now a.1.1.1.0.now a.1.1.1.1.0.now f r.answer (apply_32_as_told κs a r s p))

-- demand 2: every piece of the output's first bytes, as many as the input has, is as the standard's equation says, over the wide cipher
pub apply_32_is_the_mode : (κs : _) (a : _) (r : _) (s : _) → apply_32.Post κs a r s → WideFit Eight a.0 a.1.0.now a.1.1.0.now a.1.1.1.0.now a.1.1.1.1.0.now
    → Bytes a.1.1.0.now → Bytes a.1.1.1.0.now → (i : ℕ) → i * 32 < length a.1.1.1.0.now
    → Equation 32 (rijndael (shape_of Eight) a.1.0.now) (mode_of a.0) a.1.1.0.now a.1.1.1.0.now (take (length a.1.1.1.0.now) s.1.1.1.1.0.now) i
apply_32_is_the_mode κs a r s p f bi bs i h = by_equation Eight a.0 a.1.0.now a.1.1.0.now a.1.1.1.0.now a.1.1.1.1.0.now r.answer r.next s.1.1.1.1.0.now (called_32 κs a r s p) bi bs f i h

-- bytes of the output past the input's length stay, and so does its length
pub apply_32_keeps_the_rest : (κs : _) (a : _) (r : _) (s : _) → apply_32.Post κs a r s → WideFit Eight a.0 a.1.0.now a.1.1.0.now a.1.1.1.0.now a.1.1.1.1.0.now → Bytes a.1.1.0.now → Bytes a.1.1.1.0.now
    → (drop (length a.1.1.1.0.now) s.1.1.1.1.0.now ≡ drop (length a.1.1.1.0.now) a.1.1.1.1.0.now)
    × (length s.1.1.1.1.0.now ≡ length a.1.1.1.1.0.now)
apply_32_keeps_the_rest κs a r s p f bi bs = rest_kept Eight a.0 a.1.0.now a.1.1.0.now a.1.1.1.0.now a.1.1.1.1.0.now r.answer r.next s.1.1.1.1.0.now (called_32 κs a r s p) bi bs f

-- what a call that fits made, and what CBC handed on
pub apply_32_gives : (κs : _) (a : _) (r : _) (s : _) → apply_32.Post κs a r s → WideFit Eight a.0 a.1.0.now a.1.1.0.now a.1.1.1.0.now a.1.1.1.1.0.now → Bytes a.1.1.0.now → Bytes a.1.1.1.0.now
    → (take (length a.1.1.1.0.now) s.1.1.1.1.0.now ≡ moded 32 (rijndael (shape_of Eight) a.1.0.now) (mode_of a.0) a.1.1.0.now a.1.1.1.0.now)
    × (r.next ≡ cond (chains (mode_of a.0)) (handed_on 32 (rijndael (shape_of Eight) a.1.0.now) (mode_of a.0) a.1.1.0.now a.1.1.1.0.now) (replicate 32 0))
apply_32_gives κs a r s p f bi bs =
    let c = called_32 κs a r s p in (
      wrote Eight a.0 a.1.0.now a.1.1.0.now a.1.1.1.0.now a.1.1.1.1.0.now r.answer r.next s.1.1.1.1.0.now c bi bs f,
      handed Eight a.0 a.1.0.now a.1.1.0.now a.1.1.1.0.now a.1.1.1.1.0.now r.answer r.next s.1.1.1.1.0.now c bi bs f,
    )

-- demand 3: what undoes an operation, under the same key and IV, over what a call that fits wrote, writes what that call was given
pub apply_32_undoes_apply_32 : (κs : _) (a : _) (r : _) (s : _) → apply_32.Post κs a r s → (κs' : _) (a' : _) (r' : _) (s' : _) → apply_32.Post κs' a' r' s' → WideFit Eight a.0 a.1.0.now a.1.1.0.now a.1.1.1.0.now a.1.1.1.1.0.now
    → a'.0 ≡ wide_other a.0 → a'.1.0.now ≡ a.1.0.now → a'.1.1.0.now ≡ a.1.1.0.now
    → a'.1.1.1.0.now ≡ take (length a.1.1.1.0.now) s.1.1.1.1.0.now → length a.1.1.1.0.now ≤ length a'.1.1.1.1.0.now
    → Bytes a.1.1.0.now → Bytes a.1.1.1.0.now → take (length a.1.1.1.0.now) s'.1.1.1.1.0.now ≡ a.1.1.1.0.now
apply_32_undoes_apply_32 κs a r s p κs' a' r' s' q f eo ek ei es room bi bs =
    let c = rw (eo, ek, ei, es) at (called_32 κs' a' r' s' q) in
    undoes Eight a.0 a.1.0.now a.1.1.0.now a.1.1.1.0.now a.1.1.1.1.0.now r.answer r.next s.1.1.1.1.0.now (called_32 κs a r s p) bi bs f a'.1.1.1.1.0.now r'.answer r'.next s'.1.1.1.1.0.now c room

-- two calls in CBC that are one: the second begins with what the first handed on
pub apply_24_joins : (κs : _) (a : _) (r : _) (s : _) → apply_24.Post κs a r s → (κs' : _) (a' : _) (r' : _) (s' : _) → apply_24.Post κs' a' r' s'
    → (κs'' : _) (a'' : _) (r'' : _) (s'' : _) → apply_24.Post κs'' a'' r'' s''
    → WideFit Six a''.0 a''.1.0.now a''.1.1.0.now a''.1.1.1.0.now a''.1.1.1.1.0.now → (a''.0 ≡ EncryptCbc) ⊎ (a''.0 ≡ DecryptCbc)
    → a.0 ≡ a''.0 → a.1.0.now ≡ a''.1.0.now → a.1.1.0.now ≡ a''.1.1.0.now
    → a'.0 ≡ a''.0 → a'.1.0.now ≡ a''.1.0.now → a'.1.1.0.now ≡ r.next
    → a''.1.1.1.0.now ≡ a.1.1.1.0.now ++ a'.1.1.1.0.now → length a.1.1.1.0.now % 24 ≡ 0
    → length a.1.1.1.0.now ≤ length a.1.1.1.1.0.now → length a'.1.1.1.0.now ≤ length a'.1.1.1.1.0.now
    → Bytes a''.1.1.0.now → Bytes a.1.1.1.0.now → Bytes a'.1.1.1.0.now
    → (take (length a''.1.1.1.0.now) s''.1.1.1.1.0.now
    ≡ take (length a.1.1.1.0.now) s.1.1.1.1.0.now ++ take (length a'.1.1.1.0.now) s'.1.1.1.1.0.now)
    × (r''.next ≡ r'.next)
apply_24_joins κs a r s p κs' a' r' s' q κs'' a'' r'' s'' u f cbc eo ek ei eo' ek' ei' es whole room room' bi bx by =
    let c = rw (eo, ek, ei) at (called_24 κs a r s p) in
    let c' = rw (eo', ek', ei') at (called_24 κs' a' r' s' q) in
    let c'' = rw es at (called_24 κs'' a'' r'' s'' u) in
    let f'' = rw es at f in
    let k : chains (mode_of a''.0) ≡ true = ⊎_elim (λ e. rw e) (λ e. rw e) cbc in
    rw es
    (joins Six a''.0 a''.1.0.now a''.1.1.0.now a.1.1.1.0.now a'.1.1.1.0.now a.1.1.1.1.0.now a'.1.1.1.1.0.now a''.1.1.1.1.0.now
    r.answer r'.answer r''.answer r.next r'.next r''.next s.1.1.1.1.0.now s'.1.1.1.1.0.now s''.1.1.1.1.0.now k c c' c'' f'' whole room room' bi bx by)

-- two calls in CBC that are one: the second begins with what the first handed on
pub apply_32_joins : (κs : _) (a : _) (r : _) (s : _) → apply_32.Post κs a r s → (κs' : _) (a' : _) (r' : _) (s' : _) → apply_32.Post κs' a' r' s'
    → (κs'' : _) (a'' : _) (r'' : _) (s'' : _) → apply_32.Post κs'' a'' r'' s''
    → WideFit Eight a''.0 a''.1.0.now a''.1.1.0.now a''.1.1.1.0.now a''.1.1.1.1.0.now → (a''.0 ≡ EncryptCbc) ⊎ (a''.0 ≡ DecryptCbc)
    → a.0 ≡ a''.0 → a.1.0.now ≡ a''.1.0.now → a.1.1.0.now ≡ a''.1.1.0.now
    → a'.0 ≡ a''.0 → a'.1.0.now ≡ a''.1.0.now → a'.1.1.0.now ≡ r.next
    → a''.1.1.1.0.now ≡ a.1.1.1.0.now ++ a'.1.1.1.0.now → length a.1.1.1.0.now % 32 ≡ 0
    → length a.1.1.1.0.now ≤ length a.1.1.1.1.0.now → length a'.1.1.1.0.now ≤ length a'.1.1.1.1.0.now
    → Bytes a''.1.1.0.now → Bytes a.1.1.1.0.now → Bytes a'.1.1.1.0.now
    → (take (length a''.1.1.1.0.now) s''.1.1.1.1.0.now
    ≡ take (length a.1.1.1.0.now) s.1.1.1.1.0.now ++ take (length a'.1.1.1.0.now) s'.1.1.1.1.0.now)
    × (r''.next ≡ r'.next)
apply_32_joins κs a r s p κs' a' r' s' q κs'' a'' r'' s'' u f cbc eo ek ei eo' ek' ei' es whole room room' bi bx by =
    let c = rw (eo, ek, ei) at (called_32 κs a r s p) in
    let c' = rw (eo', ek', ei') at (called_32 κs' a' r' s' q) in
    let c'' = rw es at (called_32 κs'' a'' r'' s'' u) in
    let f'' = rw es at f in
    let k : chains (mode_of a''.0) ≡ true = ⊎_elim (λ e. rw e) (λ e. rw e) cbc in
    rw es
    (joins Eight a''.0 a''.1.0.now a''.1.1.0.now a.1.1.1.0.now a'.1.1.1.0.now a.1.1.1.1.0.now a'.1.1.1.1.0.now a''.1.1.1.1.0.now
    r.answer r'.answer r''.answer r.next r'.next r''.next s.1.1.1.1.0.now s'.1.1.1.1.0.now s''.1.1.1.1.0.now k c c' c'' f'' whole room room' bi bx by)

-- ---- the parts of a call

pub wide_schedule_into_asks_nothing : (κs : _) (a : _) → wide_schedule_into.Asked κs a
wide_schedule_into_asks_nothing κs a = tt

-- exception: rijndael_schedule::schedule_into: it writes all 120 words, zeros for a key that is refused, and what was there plays no part
pub wide_schedule_into_determined : (κs : _) (a : _) (r r' : _) (s s' : _) → wide_schedule_into.Post κs a r s → wide_schedule_into.Post κs a r' s'
    → (r ≡ r') × (s.1.1.0.now ≡ s'.1.1.0.now)
wide_schedule_into_determined κs a r r' s s' p q = (p.0 ∙ sym q.0, p.1 ∙ sym q.1)

pub wide_invert_asks_nothing : (κs : _) (a : _) → wide_invert.Asked κs a
wide_invert_asks_nothing κs a = tt

pub wide_invert_determined : (κs : _) (a : _) (r r' : _) (s s' : _) → wide_invert.Post κs a r s → wide_invert.Post κs a r' s' → s.1.1.0.now ≡ s'.1.1.0.now
wide_invert_determined κs a r r' s s' p q = p ∙ sym q

pub wide_invert_refused_keeps : (κs : _) (a : _) (r : _) (s : _) → wide_invert.Post κs a r s → wide_round_count a.0 a.1.0 ≡ false → s.1.1.0.now ≡ a.1.1.0.now
unfolding wide_inverse
wide_invert_refused_keeps κs a r s p e = p ∙ rw e

pub wide_columns_asks_nothing : (κs : _) (a : _) → wide_columns.Asked κs a
wide_columns_asks_nothing κs a = tt

pub wide_columns_determined : (κs : _) (a : _) (r r' : _) (s s' : _) → wide_columns.Post κs a r s → wide_columns.Post κs a r' s' → r ≡ r'
wide_columns_determined κs a r r' s s' p q = p ∙ sym q

pub wide_is_round_count_asks_nothing : (κs : _) (a : _) → wide_is_round_count.Asked κs a
wide_is_round_count_asks_nothing κs a = tt

pub wide_is_round_count_determined : (κs : _) (a : _) (r r' : _) (s s' : _) → wide_is_round_count.Post κs a r s → wide_is_round_count.Post κs a r' s' → r ≡ r'
wide_is_round_count_determined κs a r r' s s' p q = p ∙ sym q

pub table_into_asks_nothing : (κs : _) (a : _) → table_into.Asked κs a
table_into_asks_nothing κs a = tt

-- exception: rijndael_rounds::table_into: it refuses nothing and writes all 256 words, and what was there plays no part
pub table_into_determined : (κs : _) (a : _) (r r' : _) (s s' : _) → table_into.Post κs a r s → table_into.Post κs a r' s' → s.1.0.now ≡ s'.1.0.now
table_into_determined κs a r r' s s' p q = p ∙ sym q

pub through_asks_nothing : (κs : _) (a : _) → through.Asked κs a
through_asks_nothing κs a = tt

pub through_determined : (κs : _) (a : _) (r r' : _) (s s' : _) → through.Post κs a r s → through.Post κs a r' s' → r ≡ r'
through_determined κs a r r' s s' p q = p ∙ sym q
