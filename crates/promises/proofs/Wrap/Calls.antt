-- Demand 1 for the key wrap's calls, then demands 2 and 3 for what they answer and write. Assumes nothing.
use mathlib.Core.Path.{◌≡◌, refl, sym, ap, ap₂, subst, ◌∙◌}
use mathlib.Core.Bool.{false, Bool, true}
use mathlib.Core.List.{List}
use Prim.Native.Nat.{ℕ, ◌+◌, ◌≤◌, ◌-◌, ◌<◌}
use native.Mathlib.Omega.{arith}
use lib.ListN.{length, take, drop}
use Rattle.octets.specs.Octets.{Bytes}
use Rattle.aes_spec.specs.Cipher.{aes_of}
use Rattle.wrap_spec.specs.Wrap.{wrapped}
use Rattle.wrap_answer.specs.Answers.{wrap_number, wrapped_size_fits, size_fits_of, wrap_ruled}
use Rattle.wrap.specs.Calls.{wrap_output, unwrap_answer, unwrap_output}
use Rattle.wrap_answer.specs.declared.WrapAnswer.{WrapAnswer}
use Rattle.wrap_answer.specs.declared.WrapAnswer.TheVariants.{WrapDone, WrapKey, WrapSize, WrapRoom, WrongInitial}
use Rattle.promises.proofs.Aes.Keys.{KeyTaken, taken_key}
use Rattle.promises.proofs.Wrap.Words.{after_wrap, after_unwrap, WrapFit, WrapSays, UnwrapFit, UnwrapSays, WrappingOf}
use Rattle.promises.proofs.Lemmas.WrapLaws.{wrap_keeps, unwrap_keeps, ruled_says, ruled_through}
use Rattle.promises.proofs.Wrap.Statements.{wrap_answer_as_told, unwrap_answer_as_told, wrap_never_19, fit_is_wrapped, fit_is_unwrapped, key_data_is_wrapped, unwrap_after_wrap, accepted_exactly_wrappings, accepted_is_handed_out}
use Rattle.wrap_registers.specs.Model.{passed_over, unpassed_over}
use Rattle.wrap_answer.proofs.wrapped_size_fits.Reads as wrapped-size-fits
use Rattle.wrap_answer.proofs.is_initial.Reads as is_initial
use Rattle.wrap_answer.proofs.judge_wrap.Reads as judge_wrap
use Rattle.wrap_answer.proofs.judge_unwrap.Reads as judge_unwrap
use Rattle.wrap_registers.proofs.passes.Reads as passes
use Rattle.wrap_registers.proofs.unpasses.Reads as unpasses
use Rattle.wrap.proofs.wrap.Reads as wrap
use Rattle.wrap.proofs.unwrap.Reads as unwrap
use Rattle.wrap_answer.proofs.WrapAnswer.number.Reads as wrap-number
use Rattle.aes_schedule.specs.Schedule.{key_number}
use Rattle.aes_schedule.specs.declared.KeyAnswer.{KeyAnswer}
use Rattle.aes_schedule.specs.declared.KeyAnswer.TheVariants.{Taken}

-- ---- demand 1

pub wrapped_size_fits_asks_nothing : (κs : _) (a : _) → wrapped-size-fits.Asked κs a
wrapped_size_fits_asks_nothing κs a = tt

pub wrapped_size_fits_determined : (κs : _) (a : _) (r r' : _) (s s' : _) → wrapped-size-fits.Post κs a r s → wrapped-size-fits.Post κs a r' s' → r ≡ r'
wrapped_size_fits_determined κs a r r' s s' p q = p ∙ sym q

pub is_initial_asks_nothing : (κs : _) (a : _) → is_initial.Asked κs a
is_initial_asks_nothing κs a = tt

pub is_initial_determined : (κs : _) (a : _) (r r' : _) (s s' : _) → is_initial.Post κs a r s → is_initial.Post κs a r' s' → r ≡ r'
is_initial_determined κs a r r' s s' p q = p ∙ sym q

pub judge_wrap_asks_nothing : (κs : _) (a : _) → judge_wrap.Asked κs a
judge_wrap_asks_nothing κs a = tt

pub judge_wrap_determined : (κs : _) (a : _) (r r' : _) (s s' : _) → judge_wrap.Post κs a r s → judge_wrap.Post κs a r' s' → r ≡ r'
judge_wrap_determined κs a r r' s s' p q = p ∙ sym q

pub judge_unwrap_asks_nothing : (κs : _) (a : _) → judge_unwrap.Asked κs a
judge_unwrap_asks_nothing κs a = tt

pub judge_unwrap_determined : (κs : _) (a : _) (r r' : _) (s s' : _) → judge_unwrap.Post κs a r s → judge_unwrap.Post κs a r' s' → r ≡ r'
judge_unwrap_determined κs a r r' s s' p q = p ∙ sym q

pub passes_asks_nothing : (κs : _) (a : _) → passes.Asked κs a
passes_asks_nothing κs a = tt

pub passes_determined : (κs : _) (a : _) (r r' : _) (s s' : _) → passes.Post κs a r s → passes.Post κs a r' s'
    → s.1.0.now ≡ s'.1.0.now
passes_determined κs a r r' s s' p q = p ∙ sym q

-- registers of no size in the rule stay as they are
pub passes_refused_keeps : (κs : _) (a : _) (r : _) (s : _) → passes.Post κs a r s → wrapped_size_fits (length a.1.0.now) ≡ false
    → s.1.0.now ≡ a.1.0.now
unfolding passed_over
passes_refused_keeps κs a r s p e = p ∙ rw e

pub unpasses_asks_nothing : (κs : _) (a : _) → unpasses.Asked κs a
unpasses_asks_nothing κs a = tt

pub unpasses_determined : (κs : _) (a : _) (r r' : _) (s s' : _) → unpasses.Post κs a r s → unpasses.Post κs a r' s'
    → s.1.0.now ≡ s'.1.0.now
unpasses_determined κs a r r' s s' p q = p ∙ sym q

pub unpasses_refused_keeps : (κs : _) (a : _) (r : _) (s : _) → unpasses.Post κs a r s → wrapped_size_fits (length a.1.0.now) ≡ false
    → s.1.0.now ≡ a.1.0.now
unfolding unpassed_over
unpasses_refused_keeps κs a r s p e = p ∙ rw e

pub wrap_asks_nothing : (κs : _) (a : _) → wrap.Asked κs a
wrap_asks_nothing κs a = tt

pub wrap_determined : (κs : _) (a : _) (r r' : _) (s s' : _) → wrap.Post κs a r s → wrap.Post κs a r' s'
    → (r ≡ r') × (s.1.1.0.now ≡ s'.1.1.0.now)
wrap_determined κs a r r' s s' p q =
    let e : r ≡ r' = p.0 ∙ sym q.0 in
    (e, p.1 ∙ rw e (sym q.1))

pub wrap_refused_keeps : (κs : _) (a : _) (r : _) (s : _) → wrap.Post κs a r s → (wrap_number r ≡ 0 → ⊥)
    → s.1.1.0.now ≡ a.1.1.0.now
wrap_refused_keeps κs a r s p h = p.1 ∙ wrap_keeps r a.0.now a.1.0.now a.1.1.0.now h

pub unwrap_asks_nothing : (κs : _) (a : _) → unwrap.Asked κs a
unwrap_asks_nothing κs a = tt

pub unwrap_determined : (κs : _) (a : _) (r r' : _) (s s' : _) → unwrap.Post κs a r s → unwrap.Post κs a r' s'
    → (r ≡ r') × (s.1.1.0.now ≡ s'.1.1.0.now)
unwrap_determined κs a r r' s s' p q =
    let e : r ≡ r' = p.0 ∙ sym q.0 in
    (e, p.1 ∙ rw e (sym q.1))

pub unwrap_refused_keeps : (κs : _) (a : _) (r : _) (s : _) → unwrap.Post κs a r s → (wrap_number r ≡ 0 → ⊥)
    → s.1.1.0.now ≡ a.1.1.0.now
unwrap_refused_keeps κs a r s p h = p.1 ∙ unwrap_keeps r a.0.now a.1.0.now a.1.1.0.now h

-- ---- demand 2: the answers say what the table says, and wrapping is never refused by 19

pub wrap_as_told : (κs : _) (a : _) (r : _) (s : _) → wrap.Post κs a r s
    → WrapSays a.0.now (length a.1.0.now) (length a.1.1.0.now) r × (wrap_number r ≡ 19 → ⊥)
wrap_as_told κs a r s p =
    let key = a.0.now in
    let dat = a.1.0.now in
    let out = a.1.1.0.now in
    (subst (WrapSays key (length dat) (length out)) (sym p.0) (wrap_answer_as_told key dat out), λ e. wrap_never_19 key dat out (sym (ap wrap_number p.0) ∙ e))

pub unwrap_as_told : (κs : _) (a : _) (r : _) (s : _) → unwrap.Post κs a r s → UnwrapSays a.0.now a.1.0.now (length a.1.1.0.now) r
unwrap_as_told κs a r s p =
    let key = a.0.now in
    let dat = a.1.0.now in
    let out = a.1.1.0.now in
    subst (UnwrapSays key dat (length out)) (sym p.0) (unwrap_answer_as_told key dat out)

-- where no rule fails, the call is done
pub wrap_done : (κs : _) (a : _) (r : _) (s : _) → wrap.Post κs a r s → WrapFit a.0.now (length a.1.0.now) (length a.1.1.0.now) → wrap_number r ≡ 0
wrap_done κs a r s p f = ap wrap_number (p.0 ∙ fit_is_wrapped a.0.now a.1.0.now a.1.1.0.now f)

pub unwrap_done : (κs : _) (a : _) (r : _) (s : _) → unwrap.Post κs a r s → UnwrapFit a.0.now a.1.0.now (length a.1.1.0.now) → wrap_number r ≡ 0
unwrap_done κs a r s p f = ap wrap_number (p.0 ∙ fit_is_unwrapped a.0.now a.1.0.now a.1.1.0.now f)

-- ---- demands 2 and 3: what a call that fits wrote

done : (r : WrapAnswer) → wrap_number r ≡ 0 → r ≡ WrapDone
done WrapDone e = refl
done WrapKey e = absurd (omega arith)
done WrapSize e = absurd (omega arith)
done WrapRoom e = absurd (omega arith)
done WrongInitial e = absurd (omega arith)

module _ (κs : _) (a : _) (r : _) (s : _) (p : wrap.Post κs a r s) (fit : WrapFit a.0.now (length a.1.0.now) (length a.1.1.0.now))
    (bytes : Bytes a.1.0.now) where
  left : s.1.1.0.now ≡ after_wrap a.0.now a.1.0.now a.1.1.0.now
  left = p.1 ∙ ap (λ (x : WrapAnswer). wrap_output x a.0.now a.1.0.now a.1.1.0.now) p.0

  -- the wrapping of its data under its key, and the rest as it was
  pub wrap_is_rfc_3394 : (take (length a.1.0.now + 8) s.1.1.0.now ≡ wrapped (aes_of a.0.now) a.1.0.now)
      × (drop (length a.1.0.now + 8) s.1.1.0.now ≡ drop (length a.1.0.now + 8) a.1.1.0.now)
  wrap_is_rfc_3394 =
      let n = length a.1.0.now + 8 in
      let w = key_data_is_wrapped a.0.now a.1.0.now fit.key_taken bytes fit.size_fits a.1.1.0.now fit.roomy in
      (ap (take n) left ∙ w.1, ap (drop n) left ∙ w.2)

  -- `unwrap` under the same key over what it wrote, into an output that has room, is done, and hands out what `wrap` was given
  pub unwrap_undoes_wrap : (κs' : _) (a' : _) (r' : _) (s' : _) → unwrap.Post κs' a' r' s'
      → a'.0.now ≡ a.0.now → a'.1.0.now ≡ take (length a.1.0.now + 8) s.1.1.0.now → length a.1.0.now ≤ length a'.1.1.0.now
      → (wrap_number r' ≡ 0)
      × (take (length a.1.0.now) s'.1.1.0.now ≡ a.1.0.now)
      × (drop (length a.1.0.now) s'.1.1.0.now ≡ drop (length a.1.0.now) a'.1.1.0.now)
  unwrap_undoes_wrap κs' a' r' s' q same_key offered room =
      let key = a.0.now in
      let dat = a.1.0.now in
      let out = a.1.1.0.now in
      let out' = a'.1.1.0.now in
      let n = length dat in
      let d = take (n + 8) (after_wrap key dat out) in
      let e : a'.1.0.now ≡ d = offered ∙ ap (take (n + 8)) left in
      let answer : r' ≡ unwrap_answer key d out' = q.0 ∙ ap₂ (λ (k x : List ℕ). unwrap_answer k x out') same_key e in
      let output : s'.1.1.0.now ≡ after_unwrap key d out' =
      q.1 ∙ ap₂ (λ (k x : List ℕ). unwrap_output r' k x out') same_key e ∙ ap (λ (x : WrapAnswer). unwrap_output x key d out') answer in
      let w = unwrap_after_wrap key dat fit.key_taken bytes fit.size_fits out out' fit.roomy room in
      (ap wrap_number (answer ∙ w.0), ap (take n) output ∙ w.1, ap (drop n) output ∙ w.2)

-- `unwrap`, under a key that is taken and with room, accepts exactly the wrappings, under its key, of key data of a size in the rule
pub unwrap_accepts_exactly : (κs : _) (a : _) (r : _) (s : _) → unwrap.Post κs a r s
    → KeyTaken a.0.now → Bytes a.1.0.now → length a.1.0.now ≤ length a.1.1.0.now + 8
    → (wrap_number r ≡ 0 → WrappingOf a.0.now a.1.0.now) × (WrappingOf a.0.now a.1.0.now → wrap_number r ≡ 0)
unwrap_accepts_exactly κs a r s p taken bytes room =
    let x = accepted_exactly_wrappings a.0.now a.1.0.now a.1.1.0.now taken bytes room in
    (λ z. x.0 (sym p.0 ∙ done r z), λ y. ap wrap_number (p.0 ∙ x.1 y))

-- and hands out the key data whose wrapping it is
module _ (κs : _) (a : _) (r : _) (s : _) (p : unwrap.Post κs a r s) (z : wrap_number r ≡ 0) where
  pub unwrap_hands_out : (x : WrappingOf a.0.now a.1.0.now)
      → (length x.plain + 8 ≡ length a.1.0.now)
      × (take (length x.plain) s.1.1.0.now ≡ x.plain)
      × (drop (length x.plain) s.1.1.0.now ≡ drop (length x.plain) a.1.1.0.now)
  unwrap_hands_out x =
      let key = a.0.now in
      let dat = a.1.0.now in
      let out = a.1.1.0.now in
      let output : s.1.1.0.now ≡ after_unwrap key dat out = p.1 ∙ ap (λ (y : WrapAnswer). unwrap_output y key dat out) p.0 in
      let w = accepted_is_handed_out key dat out (sym p.0 ∙ done r z) x in
      (w.0, ap (take (length x.plain)) output ∙ w.1, ap (drop (length x.plain)) output ∙ w.2)

pub wrap_number_asks_nothing : (κs : _) (a : _) → wrap-number.Asked κs a
wrap_number_asks_nothing κs a = tt

pub wrap_number_determined : (κs : _) (a : _) (r r' : _) (s s' : _) → wrap-number.Post κs a r s → wrap-number.Post κs a r' s' → r ≡ r'
wrap_number_determined κs a r r' s s' p q = p ∙ sym q

-- ---- the judges of the key wrap, of the answer for the key, the length of the data and that of the output: 1, 18, 4

-- where the lengths in the rule are so many, and the result is so long
abbrev pub WrapJudged : KeyAnswer → (fitting : Bool) (result room : ℕ) → WrapAnswer → Type 0
WrapJudged key fitting result room WrapDone = (key ≡ Taken) × (fitting ≡ true) × (result ≤ room)
WrapJudged key fitting result room WrapKey = key ≡ Taken → ⊥
WrapJudged key fitting result room WrapSize = (key ≡ Taken) × (fitting ≡ false)
WrapJudged key fitting result room WrapRoom = (key ≡ Taken) × (fitting ≡ true) × (room < result)
WrapJudged key fitting result room WrongInitial = ⊥

wrap_judged : (key : KeyAnswer) (fitting : Bool) (result room : ℕ) (r : WrapAnswer) → r ≡ wrap_ruled (key_number key) fitting result room WrapDone → WrapJudged key fitting result room r
wrap_judged key fitting result room r p =
    subst (WrapJudged key fitting result room) (sym p)
    (ruled_says (key_number key) fitting result room WrapDone (WrapJudged key fitting result room)
    (λ n e. n (ap key_number e)) (λ k f. (taken_key key k, f)) (λ k f l. (taken_key key k, f, l)) (λ k f l. (taken_key key k, f, l)))

wrap_fitting : (key : KeyAnswer) (fitting : Bool) (result room : ℕ) (r : WrapAnswer) → r ≡ wrap_ruled (key_number key) fitting result room WrapDone
    → key ≡ Taken → fitting ≡ true → result ≤ room → wrap_number r ≡ 0
wrap_fitting key fitting result room r p k f l = ap wrap_number (p ∙ ruled_through (key_number key) fitting result room WrapDone (ap key_number k) f l)

pub judge_wrap_as_told : (κs : _) (a : _) (r : _) (s : _) → judge_wrap.Post κs a r s → WrapJudged a.0 (size_fits_of a.1.0) (a.1.0 + 8) a.1.1.0 r
judge_wrap_as_told κs a r s p = wrap_judged a.0 (size_fits_of a.1.0) (a.1.0 + 8) a.1.1.0 r p

pub judge_wrap_done : (κs : _) (a : _) (r : _) (s : _) → judge_wrap.Post κs a r s → a.0 ≡ Taken → size_fits_of a.1.0 ≡ true → a.1.0 + 8 ≤ a.1.1.0 → wrap_number r ≡ 0
judge_wrap_done κs a r s p = wrap_fitting a.0 (size_fits_of a.1.0) (a.1.0 + 8) a.1.1.0 r p

pub judge_unwrap_as_told : (κs : _) (a : _) (r : _) (s : _) → judge_unwrap.Post κs a r s → WrapJudged a.0 (wrapped_size_fits a.1.0) (a.1.0 - 8) a.1.1.0 r
judge_unwrap_as_told κs a r s p = wrap_judged a.0 (wrapped_size_fits a.1.0) (a.1.0 - 8) a.1.1.0 r p

pub judge_unwrap_done : (κs : _) (a : _) (r : _) (s : _) → judge_unwrap.Post κs a r s → a.0 ≡ Taken → wrapped_size_fits a.1.0 ≡ true → a.1.0 - 8 ≤ a.1.1.0 → wrap_number r ≡ 0
judge_unwrap_done κs a r s p = wrap_fitting a.0 (wrapped_size_fits a.1.0) (a.1.0 - 8) a.1.1.0 r p
