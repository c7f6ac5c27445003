-- From what the parts of a call give to what the call is to give. Assumes nothing.
use mathlib.Core.Path.{◌≡◌, refl, sym, ap, ◌∙◌}
use mathlib.Core.Bool.{Bool, true, false, cond}
use mathlib.Core.List.{List}
use Prim.Native.Nat.{ℕ, ◌+◌, ◌-◌, ◌%◌, ◌≤◌}
use native.Mathlib.Omega.{arith}
use borrow.Author.Tests.{eqb-true, ltb-false}
use lib.Dec.{eqb, ltb}
use lib.ListN.{length, drop}
use Rattle.octets.specs.Octets.{Bytes, same, over}
use Rattle.octets.specs.Blocks.{Lawful}
use Rattle.aes_sbox.specs.Sbox.{s_box}
use Rattle.aes_schedule.specs.Schedule.{schedule_of, key_number}
use Rattle.aes_schedule.specs.declared.Expanded.{Expanded}
use Rattle.aes_schedule.specs.declared.KeySchedule.{KeySchedule}
use Rattle.aes_schedule.proofs.Laws.{schedule_length}
use Rattle.aes_spec.specs.Cipher.{aes_of, standard}
use Rattle.aes_spec.specs.Model.{one_way, inverse_words, inverse_schedule}
use Rattle.aes_spec.proofs.Equivalent.{equivalent_agrees}
use Rattle.aes_spec.proofs.Aes.{key_lawful}
use Rattle.wrap_spec.specs.Wrap.{initial, register, wrapped, unwrapped}
use Rattle.wrap_answer.proofs.Sizes.{wrapped_size_parts}
use Rattle.wrap_spec.proofs.Agree.{unwrapped_same}
use Rattle.wrap_answer.specs.Answers.{wrapped_size_fits, size_fits_of, wrap_ruled}
use Rattle.wrap.specs.Calls.{wrap_answer, wrap_output, opening, unwrap_answer, unwrap_output}
use Rattle.wrap.specs.Model.{opened_over}
use Rattle.wrap_answer.specs.declared.WrapAnswer.{WrapAnswer}
use Rattle.wrap_answer.specs.declared.WrapAnswer.TheVariants.{WrapDone, WrapKey, WrapSize, WrapRoom, WrongInitial}
use Rattle.wrap_answer.proofs.Sizes.{size_parts}

-- an answer that is not the first case
abbrev pub Refused : WrapAnswer → Type 0
Refused a = a ≡ WrapDone → ⊥

-- an answer that is not the first case leaves the output as it was
pub wrap_kept : (a : WrapAnswer) (key dat out : List ℕ) → Refused a → out ≡ wrap_output a key dat out
wrap_kept WrapDone key dat out h = absurd (h refl)
wrap_kept WrapKey key dat out h = refl
wrap_kept WrapSize key dat out h = refl
wrap_kept WrapRoom key dat out h = refl
wrap_kept WrongInitial key dat out h = refl

pub unwrap_kept : (a : WrapAnswer) (key dat out : List ℕ) → Refused a → out ≡ unwrap_output a key dat out
unwrap_kept WrapDone key dat out h = absurd (h refl)
unwrap_kept WrapKey key dat out h = refl
unwrap_kept WrapSize key dat out h = refl
unwrap_kept WrapRoom key dat out h = refl
unwrap_kept WrongInitial key dat out h = refl

-- ---- the tests, in their order

-- what they have shown of a call that is not refused
record Passed (key : ℕ) (size : Bool) (result out : ℕ) : Type 0 where
  key_taken : key ≡ 0
  size_right : size ≡ true
  room : result ≤ out

module _ (key : ℕ) (size : Bool) (result out : ℕ) where
  chosen : (k s r : Bool) → cond k (cond s (cond r WrapRoom WrapDone) WrapSize) WrapKey ≡ WrapDone → (k ≡ true) × (s ≡ true) × (r ≡ false)
  chosen true true false e = (refl, refl, refl)
  chosen true true true e = let y : ◌≡◌ {A = ℕ} 0 1 = cc in absurd (omega arith)
  chosen true false r e = let y : ◌≡◌ {A = ℕ} 0 1 = cc in absurd (omega arith)
  chosen false s r e = let y : ◌≡◌ {A = ℕ} 0 1 = cc in absurd (omega arith)

  passed : wrap_ruled key size result out WrapDone ≡ WrapDone → Passed key size result out
  unfolding wrap_ruled
  passed e =
      let t = chosen (eqb key 0) size (ltb out result) e in
      record { key_taken = eqb-true key 0 t.0; size_right = t.1; room = ltb-false out result t.2 }

  -- what comes after them counts where they pass, and only there
  ruled_through : (z : WrapAnswer) → wrap_ruled key size result out WrapDone ≡ WrapDone → wrap_ruled key size result out z ≡ z
  unfolding wrap_ruled
  ruled_through z e = let t = chosen (eqb key 0) size (ltb out result) e in rw (t.0, t.1, t.2)

  ruled_refused : (z a : WrapAnswer) → a ≡ wrap_ruled key size result out WrapDone → Refused a → a ≡ wrap_ruled key size result out z
  unfolding wrap_ruled
  ruled_refused z a e h = go (eqb key 0) size (ltb out result) e
    where
      go : (k s r : Bool) → a ≡ cond k (cond s (cond r WrapRoom WrapDone) WrapSize) WrapKey → a ≡ cond k (cond s (cond r WrapRoom z) WrapSize) WrapKey
      go true true false f = absurd (h f)
      go true true true f = f
      go true false r f = f
      go false s r f = f

-- ---- the calls

module _ (key : List ℕ) (x : Expanded) (px : x ≡ schedule_of s_box key) (dat out : List ℕ) (a : WrapAnswer) where
  lawful : key_number x.answer ≡ 0 → Lawful 16 (aes_of key)
  lawful e = key_lawful key (ap (λ (y : Expanded). key_number y.answer) (sym px) ∙ e)

  module _ (pa : a ≡ wrap_ruled (key_number x.answer) (size_fits_of (length dat)) (length dat + 8) (length out) WrapDone) where
    pub wrap_answered : a ≡ wrap_answer key dat out
    unfolding wrap_answer
    wrap_answered = pa ∙ ap (λ (y : Expanded). wrap_ruled (key_number y.answer) (size_fits_of (length dat)) (length dat + 8) (length out) WrapDone) px

    module _ (q : a ≡ WrapDone) where
      wrap_passed : Passed (key_number x.answer) (size_fits_of (length dat)) (length dat + 8) (length out)
      wrap_passed = passed (key_number x.answer) (size_fits_of (length dat)) (length dat + 8) (length out) (sym pa ∙ q)

      pub wrap_fits : (16 ≤ length dat) × (length dat ≤ 64) × (length dat % 8 ≡ 0) × (length dat + 8 ≤ length out)
      wrap_fits = let s = size_parts (length dat) wrap_passed.size_right in (s.0, s.1, s.2, wrap_passed.room)

      pub wrapped_by : (o : List ℕ) → o ≡ over (wrapped (standard x.schedule.words x.schedule.rounds) dat) out → o ≡ wrap_output a key dat out
      wrapped_by o po = po ∙ rw (q, px)

  module _ (pa : a ≡ wrap_ruled (key_number x.answer) (wrapped_size_fits (length dat)) (length dat - 8) (length out) WrapDone) where
    pub unwrap_refused : Refused a → a ≡ unwrap_answer key dat out
    unfolding unwrap_answer
    unwrap_refused h =
        ruled_refused (key_number x.answer) (wrapped_size_fits (length dat)) (length dat - 8) (length out) (opening (aes_of key) dat) a pa h
        ∙ ap (λ (y : Expanded). wrap_ruled (key_number y.answer) (wrapped_size_fits (length dat)) (length dat - 8) (length out) (opening (aes_of key) dat)) px

    module _ (q : a ≡ WrapDone) where
      unwrap_passed : Passed (key_number x.answer) (wrapped_size_fits (length dat)) (length dat - 8) (length out)
      unwrap_passed = passed (key_number x.answer) (wrapped_size_fits (length dat)) (length dat - 8) (length out) (sym pa ∙ q)

      pub unwrap_fits : (24 ≤ length dat) × (length dat ≤ 72) × (length dat % 8 ≡ 0) × (length dat ≤ length out + 8)
      unwrap_fits =
          let s = wrapped_size_parts (length dat) unwrap_passed.size_right in
          (s.0, s.1, s.2, omega (arith, unwrap_passed.room))

      module _ (v : KeySchedule) (pv : v ≡ inverse_schedule x.schedule) (b : Bytes dat) where
        unwrapped_is : unwrapped (one_way v.words v.rounds) dat ≡ unwrapped (aes_of key) dat
        unwrapped_is =
            let w = (schedule_of s_box key).schedule.words in
            let nr = (schedule_of s_box key).schedule.rounds in
            let f = unwrap_fits in
            rw (pv, px) (unwrapped_same (one_way (inverse_words w nr) nr) (aes_of key) (equivalent_agrees w (schedule_length s_box key) nr).dec_same (lawful unwrap_passed.key_taken) dat (omega (arith, f.0)) f.2 b)

        module _ (r : WrapAnswer) (pr : r ≡ opening (one_way v.words v.rounds) dat) where
          opening_is : r ≡ opening (aes_of key) dat
          opening_is = pr ∙ ap (λ (u : List ℕ). cond (same (register u 0) initial) WrapDone WrongInitial) unwrapped_is

          pub unwrap_answered : r ≡ unwrap_answer key dat out
          unfolding unwrap_answer
          unwrap_answered =
              opening_is
              ∙ sym (ruled_through (key_number x.answer) (wrapped_size_fits (length dat)) (length dat - 8) (length out) (opening (aes_of key) dat) (sym pa ∙ q))
              ∙ ap (λ (y : Expanded). wrap_ruled (key_number y.answer) (wrapped_size_fits (length dat)) (length dat - 8) (length out) (opening (aes_of key) dat)) px

          pub unwrapped_by : (o : List ℕ) → o ≡ opened_over (one_way v.words v.rounds) dat out → o ≡ unwrap_output r key dat out
          unwrapped_by o po =
              po ∙ ap (λ (u : List ℕ). cond (same (register u 0) initial) (over (drop 8 u) out) out) unwrapped_is
              ∙ each (same (register (unwrapped (aes_of key) dat) 0) initial)
              ∙ ap (λ (z : WrapAnswer). unwrap_output z key dat out) (sym opening_is)
            where
              each : (s : Bool) → cond s (over (drop 8 (unwrapped (aes_of key) dat)) out) out ≡ unwrap_output (cond s WrapDone WrongInitial) key dat out
              each true = refl
              each false = refl
