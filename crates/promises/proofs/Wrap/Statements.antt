-- Demands 2 and 3 for the key wrap: what is wrapped unwraps, exactly wrappings are accepted, and refusals come as told. Assumes nothing.
use mathlib.Core.Path.{◌≡◌, refl, sym, ap, subst, ◌∙◌}
use mathlib.Core.Bool.{true, false}
use mathlib.Core.List.{List, ◌++◌}
use Prim.Native.Nat.{ℕ, ◌+◌, ◌-◌, ◌*◌, ◌%◌, ◌≤◌}
use native.Mathlib.Omega.{arith}
use lib.ListN.{length, take, drop}
use lib.Seq.{take_at, drop_at}
use Rattle.octets.specs.Octets.{Bytes, Octets}
use Rattle.octets.specs.Blocks.{BlockCipher, Lawful}
use Rattle.aes_spec.specs.Cipher.{aes_of}
use Rattle.aes_spec.proofs.Aes.{key_lawful}
use Rattle.wrap_spec.specs.Wrap.{initial, register, step, pass, passes, wrapped, unstep, unpass, unpasses, unwrapped}
use Rattle.wrap_answer.specs.Answers.{wrapped_size_fits, wrap_number, size_fits_of}
use Rattle.wrap.specs.Calls.{wrap_answer, unwrap_answer, wrap_output, unwrap_output}
use Rattle.wrap_answer.specs.declared.WrapAnswer.{WrapAnswer}
use Rattle.wrap_answer.specs.declared.WrapAnswer.TheVariants.{WrapDone, WrapKey, WrapSize, WrapRoom, WrongInitial}
use Rattle.promises.proofs.Aes.Keys.{KeyTaken}
use Rattle.promises.proofs.Wrap.Words.{after_wrap, after_unwrap, WrapFit, WrapSays, UnwrapFit, UnwrapSays, WrappingOf}
use Rattle.wrap_answer.proofs.Sizes.{size_parts, size_right, wrapped_size_parts, wrapped_size_right}
use Rattle.promises.proofs.Lemmas.WrapLaws.{step_octets, unstep_octets, unstep_step, step_unstep, pass_octets, unpass_octets, unpass_pass, pass_unpass, passes_octets, unpasses_octets, unpasses_passes, passes_unpasses, wrapped_octets, unwrapped_wrapped, opened_octets, wrapped_unwrapped, size_wraps, size_unwraps, wrap_says, unwrap_says, wrap_fits, unwrap_fits, done_fits, wrap_keeps, unwrap_keeps, over_first}

-- ---- demand 3, over every lawful block cipher: each way undoes the other

module _ (c : BlockCipher) (l : Lawful 16 c) where
  -- a step, with any number t, at any register from 1 to n, of n + 1 registers of eight bytes each
  pub each_step_is_undone : (n t i : ℕ) → 1 ≤ i → i ≤ n → (w : List ℕ) → Octets (8 * (n + 1)) w
      → (unstep c t i (step c t i w) ≡ w) × (step c t i (unstep c t i w) ≡ w)
      × Octets (8 * (n + 1)) (step c t i w) × Octets (8 * (n + 1)) (unstep c t i w)
  each_step_is_undone n t i low high w o =
      (unstep_step c l n t i low high w o, step_unstep c l n t i low high w o, step_octets c l n t i low high w o, unstep_octets c l n t i low high w o)

  -- m steps of a pass
  pub each_pass_is_undone : (n j m : ℕ) → m ≤ n → (w : List ℕ) → Octets (8 * (n + 1)) w
      → (unpass c n j m (pass c n j m w) ≡ w) × (pass c n j m (unpass c n j m w) ≡ w)
      × Octets (8 * (n + 1)) (pass c n j m w) × Octets (8 * (n + 1)) (unpass c n j m w)
  each_pass_is_undone n j m h w o = (unpass_pass c l n j m h w o, pass_unpass c l n j m h w o, pass_octets c l n j m h w o, unpass_octets c l n j m h w o)

  -- k passes
  pub all_passes_are_undone : (n k : ℕ) (w : List ℕ) → Octets (8 * (n + 1)) w
      → (unpasses c n k (passes c n k w) ≡ w) × (passes c n k (unpasses c n k w) ≡ w)
      × Octets (8 * (n + 1)) (passes c n k w) × Octets (8 * (n + 1)) (unpasses c n k w)
  all_passes_are_undone n k w o = (unpasses_passes c l n k w o, passes_unpasses c l n k w o, passes_octets c l n k w o, unpasses_octets c l n k w o)

  -- key data of any number of whole registers is wrapped in eight bytes more, and unwraps to the initial value and itself
  pub wrapped_unwraps : (p : List ℕ) → Bytes p → length p % 8 ≡ 0
      → Octets (length p + 8) (wrapped c p) × (unwrapped c (wrapped c p) ≡ initial ++ p)
  wrapped_unwraps p b e = (wrapped_octets c l p b e, unwrapped_wrapped c l p b e)

  -- data of whole registers that unwraps to the initial value is the wrapping of what follows it
  pub unwrapped_wraps : (d : List ℕ) → Bytes d → length d % 8 ≡ 0 → 8 ≤ length d → register (unwrapped c d) 0 ≡ initial
      → Octets (length d - 8) (drop 8 (unwrapped c d)) × (wrapped c (drop 8 (unwrapped c d)) ≡ d)
  unwrapped_wraps d b e h q = (opened_octets c l d b e h, wrapped_unwrapped c l d b e h q)

  -- no two key data have the same wrapping
  pub wrapped_injective : (p q : List ℕ) → Bytes p → Bytes q → length p % 8 ≡ 0 → length q % 8 ≡ 0 → wrapped c p ≡ wrapped c q → p ≡ q
  wrapped_injective p q bp bq ep eq e =
      let s : initial ++ p ≡ initial ++ q = sym (unwrapped_wrapped c l p bp ep) ∙ ap (unwrapped c) e ∙ unwrapped_wrapped c l q bq eq in
      sym (drop_at initial p 8 refl) ∙ ap (drop 8) s ∙ drop_at initial q 8 refl

-- ---- demand 2: refusals come where the table says, and only there

-- the sizes in the rule
pub size_as_told : (n : ℕ) → size_fits_of n ≡ true → (16 ≤ n) × (n ≤ 64) × (n % 8 ≡ 0)
size_as_told n e = size_parts n e

pub size_in_rule : (n : ℕ) → 16 ≤ n → n ≤ 64 → n % 8 ≡ 0 → size_fits_of n ≡ true
size_in_rule n l h e = size_right n l h e

pub wrapped_size_as_told : (n : ℕ) → wrapped_size_fits n ≡ true → (24 ≤ n) × (n ≤ 72) × (n % 8 ≡ 0)
wrapped_size_as_told n e = wrapped_size_parts n e

pub wrapped_size_in_rule : (n : ℕ) → 24 ≤ n → n ≤ 72 → n % 8 ≡ 0 → wrapped_size_fits n ≡ true
wrapped_size_in_rule n l h e = wrapped_size_right n l h e

-- every answer says what the table says of it; where no test fails, the call is done
pub wrap_answer_as_told : (key dat out : List ℕ) → WrapSays key (length dat) (length out) (wrap_answer key dat out)
wrap_answer_as_told key dat out = wrap_says key dat out

pub fit_is_wrapped : (key dat out : List ℕ) → WrapFit key (length dat) (length out) → wrap_answer key dat out ≡ WrapDone
fit_is_wrapped key dat out f = wrap_fits key dat out f

pub unwrap_answer_as_told : (key dat out : List ℕ) → UnwrapSays key dat (length out) (unwrap_answer key dat out)
unwrap_answer_as_told key dat out = unwrap_says key dat out

pub fit_is_unwrapped : (key dat out : List ℕ) → UnwrapFit key dat (length out) → unwrap_answer key dat out ≡ WrapDone
fit_is_unwrapped key dat out f = unwrap_fits key dat out f

-- wrapping is never refused by 19
pub wrap_never_19 : (key dat out : List ℕ) → wrap_number (wrap_answer key dat out) ≡ 19 → ⊥
wrap_never_19 key dat out = go (wrap_answer key dat out) (wrap_says key dat out)
  where
    go : (r : WrapAnswer) → WrapSays key (length dat) (length out) r → wrap_number r ≡ 19 → ⊥
    go WrapDone s e = omega arith
    go WrapKey s e = omega arith
    go WrapSize s e = omega arith
    go WrapRoom s e = omega arith
    go WrongInitial s e = s

-- what is refused leaves the output as it was
pub wrap_refusal_keeps : (key dat out : List ℕ) → (wrap_number (wrap_answer key dat out) ≡ 0 → ⊥) → after_wrap key dat out ≡ out
wrap_refusal_keeps key dat out h = wrap_keeps (wrap_answer key dat out) key dat out h

pub unwrap_refusal_keeps : (key dat out : List ℕ) → (wrap_number (unwrap_answer key dat out) ≡ 0 → ⊥) → after_unwrap key dat out ≡ out
unwrap_refusal_keeps key dat out h = unwrap_keeps (unwrap_answer key dat out) key dat out h

-- ---- demand 3, under a key that is taken

module _ (key p : List ℕ) (taken : KeyTaken key) (b : Bytes p) (size : size_fits_of (length p) ≡ true) where
  lawful : Lawful 16 (aes_of key)
  lawful = key_lawful key taken

  whole : length p % 8 ≡ 0
  whole = (size_parts (length p) size).2

  octets : Octets (length p + 8) (wrapped (aes_of key) p)
  octets = wrapped_octets (aes_of key) lawful p b whole

  -- key data of a size in the rule is wrapped: the first bytes of the output are the wrapping, and the rest stays
  pub key_data_is_wrapped : (out : List ℕ) → length p + 8 ≤ length out
      → (wrap_answer key p out ≡ WrapDone)
      × (take (length p + 8) (after_wrap key p out) ≡ wrapped (aes_of key) p)
      × (drop (length p + 8) (after_wrap key p out) ≡ drop (length p + 8) out)
  key_data_is_wrapped out room =
      let a : wrap_answer key p out ≡ WrapDone = wrap_fits key p out (record { key_taken = taken; size_fits = size; roomy = room }) in
      let o = over_first (length p + 8) (wrapped (aes_of key) p) out octets.size in
      let f : after_wrap key p out ≡ wrap_output WrapDone key p out = ap (λ (r : WrapAnswer). wrap_output r key p out) a in
      (a, ap (take (length p + 8)) f ∙ o.0, ap (drop (length p + 8)) f ∙ o.1)

  -- its wrapping is unwrapped: the first bytes of the output are the key data, and the rest stays
  pub wrapping_is_unwrapped : (out : List ℕ) → length p ≤ length out
      → (unwrap_answer key (wrapped (aes_of key) p) out ≡ WrapDone)
      × (take (length p) (after_unwrap key (wrapped (aes_of key) p) out) ≡ p)
      × (drop (length p) (after_unwrap key (wrapped (aes_of key) p) out) ≡ drop (length p) out)
  wrapping_is_unwrapped out room =
      let d = wrapped (aes_of key) p in
      let u : unwrapped (aes_of key) d ≡ initial ++ p = unwrapped_wrapped (aes_of key) lawful p b whole in
      let a : unwrap_answer key d out ≡ WrapDone = unwrap_fits key d out (record {
        key_taken = taken;
        size_fits = ap wrapped_size_fits octets.size ∙ size_wraps (length p) size;
        roomy = omega (arith, octets.size);
        initial_right = ap (take 8) u ∙ take_at initial p 8 refl;
      }) in
      let q : drop 8 (unwrapped (aes_of key) d) ≡ p = ap (drop 8) u ∙ drop_at initial p 8 refl in
      let o = over_first (length p) (drop 8 (unwrapped (aes_of key) d)) out (ap length q) in
      let f : after_unwrap key d out ≡ unwrap_output WrapDone key d out = ap (λ (r : WrapAnswer). unwrap_output r key d out) a in
      (a, ap (take (length p)) f ∙ o.0 ∙ q, ap (drop (length p)) f ∙ o.1)

  -- so what the one call wrote, the other reads back
  pub unwrap_after_wrap : (out out' : List ℕ) → length p + 8 ≤ length out → length p ≤ length out'
      → (unwrap_answer key (take (length p + 8) (after_wrap key p out)) out' ≡ WrapDone)
      × (take (length p) (after_unwrap key (take (length p + 8) (after_wrap key p out)) out') ≡ p)
      × (drop (length p) (after_unwrap key (take (length p + 8) (after_wrap key p out)) out') ≡ drop (length p) out')
  unwrap_after_wrap out out' room room' =
      subst (λ (d : List ℕ). (unwrap_answer key d out' ≡ WrapDone) × (take (length p) (after_unwrap key d out') ≡ p) × (drop (length p) (after_unwrap key d out') ≡ drop (length p) out'))
      (sym (key_data_is_wrapped out room).1) (wrapping_is_unwrapped out' room')

-- ---- demand 3: data is accepted exactly where it is the wrapping, under that key, of key data of a size in the rule

pub accepted_is_a_wrapping : (key dat out : List ℕ) → Bytes dat → unwrap_answer key dat out ≡ WrapDone → WrappingOf key dat
accepted_is_a_wrapping key dat out b e =
    let f = done_fits key dat out e in
    let r = wrapped_size_parts (length dat) f.size_fits in
    let l = key_lawful key f.key_taken in
    let o = opened_octets (aes_of key) l dat b r.2 (omega (arith, r.0)) in
    record {
      plain = drop 8 (unwrapped (aes_of key) dat);
      plain_bytes = o.bytes;
      plain_size = ap size_fits_of o.size ∙ size_unwraps (length dat) f.size_fits;
      is_wrapped = sym (wrapped_unwrapped (aes_of key) l dat b r.2 (omega (arith, r.0)) f.initial_right);
    }

pub a_wrapping_is_accepted : (key dat out : List ℕ) → KeyTaken key → (x : WrappingOf key dat) → length dat ≤ length out + 8 → unwrap_answer key dat out ≡ WrapDone
a_wrapping_is_accepted key dat out taken x room =
    let o = octets key x.plain taken x.plain_bytes x.plain_size in
    ap (λ (d : List ℕ). unwrap_answer key d out) x.is_wrapped
    ∙ (wrapping_is_unwrapped key x.plain taken x.plain_bytes x.plain_size out (omega (arith, room, ap length x.is_wrapped, o.size))).0

pub accepted_exactly_wrappings : (key dat out : List ℕ) → KeyTaken key → Bytes dat → length dat ≤ length out + 8
    → (unwrap_answer key dat out ≡ WrapDone → WrappingOf key dat) × (WrappingOf key dat → unwrap_answer key dat out ≡ WrapDone)
accepted_exactly_wrappings key dat out taken b room = (accepted_is_a_wrapping key dat out b, λ x. a_wrapping_is_accepted key dat out taken x room)

-- and what is none, of a size in the rule and where there is room, is refused by 19
pub no_wrapping_is_refused : (key dat out : List ℕ) → KeyTaken key → Bytes dat → wrapped_size_fits (length dat) ≡ true → length dat ≤ length out + 8
    → (WrappingOf key dat → ⊥) → unwrap_answer key dat out ≡ WrongInitial
no_wrapping_is_refused key dat out taken b size room none = go (unwrap_answer key dat out) (unwrap_says key dat out) refl
  where
    go : (r : WrapAnswer) → UnwrapSays key dat (length out) r → unwrap_answer key dat out ≡ r → r ≡ WrongInitial
    go WrapDone s e = absurd (none (accepted_is_a_wrapping key dat out b e))
    go WrapKey s e = absurd (s taken)
    go WrapSize s e =
        let z : true ≡ false = sym size ∙ s.1 in
        let y : ◌≡◌ {A = ℕ} 0 1 = cc in absurd (omega arith)
    go WrapRoom s e = absurd (omega (arith, s.2))
    go WrongInitial s e = refl

-- it is the wrapping of no other key data
pub a_wrapping_of_one : (key dat : List ℕ) → KeyTaken key → (x y : WrappingOf key dat) → x.plain ≡ y.plain
a_wrapping_of_one key dat taken x y =
    wrapped_injective (aes_of key) (key_lawful key taken) x.plain y.plain x.plain_bytes y.plain_bytes
    (size_parts (length x.plain) x.plain_size).2 (size_parts (length y.plain) y.plain_size).2 (sym x.is_wrapped ∙ y.is_wrapped)

-- and that key data is handed out: the first bytes of the output are it, and the rest stays
pub accepted_is_handed_out : (key dat out : List ℕ) → unwrap_answer key dat out ≡ WrapDone → (x : WrappingOf key dat)
    → (length x.plain + 8 ≡ length dat)
    × (take (length x.plain) (after_unwrap key dat out) ≡ x.plain)
    × (drop (length x.plain) (after_unwrap key dat out) ≡ drop (length x.plain) out)
accepted_is_handed_out key dat out e x =
    let f = done_fits key dat out e in
    let p = x.plain in
    let o = octets key p f.key_taken x.plain_bytes x.plain_size in
    let s : length p + 8 ≡ length dat = sym (ap length x.is_wrapped ∙ o.size) in
    let w = wrapping_is_unwrapped key p f.key_taken x.plain_bytes x.plain_size out (omega (arith, f.roomy, s)) in
    subst (λ (d : List ℕ). (length p + 8 ≡ length dat) × (take (length p) (after_unwrap key d out) ≡ p) × (drop (length p) (after_unwrap key d out) ≡ drop (length p) out))
    (sym x.is_wrapped) (s, w.1, w.2)
