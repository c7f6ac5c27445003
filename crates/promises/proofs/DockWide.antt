-- The calls over wide blocks as C has them: they ask nothing, are determined, and keep what was lent where they refuse. Assumes nothing.
use mathlib.Core.Path.{◌≡◌, sym, ◌∙◌}
use mathlib.Core.List.{List}
use Prim.Native.Nat.{ℕ}
use Rattle.modes_answer.specs.Answers.{mode_number}
use Rattle.rijndael_spec.specs.declared.Width.{Width}
use Rattle.rijndael_spec.specs.declared.Width.TheVariants.{Six, Eight}
use Rattle.rijndael_spec.specs.declared.WideOperation.{WideOperation}
use Rattle.rijndael_spec.specs.declared.WideOperation.TheVariants.{EncryptEcb, DecryptEcb, EncryptCbc, DecryptCbc}
use Rattle.rijndael.specs.Calls.{wide_answer, wide_output, wide_next}
use Rattle.rijndael.proofs.Done.{kept}
use Rattle.dock.specs.Wide.{wide24_applied, wide32_applied, chain24_answer, chain32_answer, after_wide}
use Rattle.dock.specs.declared.Chain24Answer.{Chain24Answer}
use Rattle.dock.specs.declared.Chain32Answer.{Chain32Answer}
use Rattle.dock.proofs.dock_wide24_ecb_encrypt.Reads as dock_wide24_ecb_encrypt
use Rattle.dock.proofs.dock_wide24_ecb_decrypt.Reads as dock_wide24_ecb_decrypt
use Rattle.dock.proofs.dock_wide24_cbc_encrypt.Reads as dock_wide24_cbc_encrypt
use Rattle.dock.proofs.dock_wide24_cbc_decrypt.Reads as dock_wide24_cbc_decrypt
use Rattle.dock.proofs.dock_wide32_ecb_encrypt.Reads as dock_wide32_ecb_encrypt
use Rattle.dock.proofs.dock_wide32_ecb_decrypt.Reads as dock_wide32_ecb_decrypt
use Rattle.dock.proofs.dock_wide32_cbc_encrypt.Reads as dock_wide32_cbc_encrypt
use Rattle.dock.proofs.dock_wide32_cbc_decrypt.Reads as dock_wide32_cbc_decrypt

-- what a call gives, by the definitions of the wide calls: its number, in CBC the chaining value too, and the output
abbrev pub EcbGives : Width → WideOperation → (key iv inp out : List ℕ) → ℕ → List ℕ → Type 0
EcbGives v o key iv inp out number made = (number ≡ mode_number (wide_answer v o key iv inp out)) × (made ≡ wide_output (wide_answer v o key iv inp out) v o key iv inp out)

abbrev pub CbcGives : Width → WideOperation → (key iv inp out : List ℕ) → ℕ → (next made : List ℕ) → Type 0
CbcGives v o key iv inp out number next made =
    ((number ≡ mode_number (wide_answer v o key iv inp out)) × (next ≡ wide_next (wide_answer v o key iv inp out) v o key iv inp)) × (made ≡ wide_output (wide_answer v o key iv inp out) v o key iv inp out)

keeps : (v : Width) (o : WideOperation) (key iv inp out made : List ℕ) → made ≡ after_wide v o key iv inp out → (mode_number (wide_answer v o key iv inp out) ≡ 0 → ⊥) → made ≡ out
unfolding after_wide
keeps v o key iv inp out made e h = e ∙ kept (wide_answer v o key iv inp out) v o key iv inp out h

-- the number is that of the call's answer, and so is what stands beside it
number_24 : (o : WideOperation) (key iv inp out : List ℕ) (r : Chain24Answer) → r ≡ chain24_answer (wide24_applied o key iv inp out)
    → (r.number ≡ mode_number (wide_answer Six o key iv inp out)) × (r.next ≡ wide_next (wide_answer Six o key iv inp out) Six o key iv inp)
unfolding wide24_applied
number_24 o key iv inp out r e = (rw e, rw e)

number_32 : (o : WideOperation) (key iv inp out : List ℕ) (r : Chain32Answer) → r ≡ chain32_answer (wide32_applied o key iv inp out)
    → (r.number ≡ mode_number (wide_answer Eight o key iv inp out)) × (r.next ≡ wide_next (wide_answer Eight o key iv inp out) Eight o key iv inp)
unfolding wide32_applied
number_32 o key iv inp out r e = (rw e, rw e)

pub dock_wide24_ecb_encrypt_asks_nothing : (κs : _) (a : _) → dock_wide24_ecb_encrypt.Asked κs a
dock_wide24_ecb_encrypt_asks_nothing κs a = tt

pub dock_wide24_ecb_encrypt_determined : (κs : _) (a : _) (r r' : _) (s s' : _) → dock_wide24_ecb_encrypt.Post κs a r s → dock_wide24_ecb_encrypt.Post κs a r' s'
    → (r ≡ r') × (s.1.1.1.0.now ≡ s'.1.1.1.0.now)
dock_wide24_ecb_encrypt_determined κs a r r' s s' p q = (p.0 ∙ sym q.0, p.1 ∙ sym q.1)

pub dock_wide24_ecb_encrypt_refused_keeps : (κs : _) (a : _) (r : _) (s : _) → dock_wide24_ecb_encrypt.Post κs a r s → (r ≡ 0 → ⊥) → s.1.1.1.0.now ≡ a.1.1.1.0.now
dock_wide24_ecb_encrypt_refused_keeps κs a r s p h = keeps Six EncryptEcb a.0.now a.1.0.now a.1.1.0.now a.1.1.1.0.now _ p.1 (λ z. h (p.0 ∙ z))

-- the call is apply-24's
pub dock_wide24_ecb_encrypt_is_apply : (κs : _) (a : _) (r : _) (s : _) → dock_wide24_ecb_encrypt.Post κs a r s
    → EcbGives Six EncryptEcb a.0.now a.1.0.now a.1.1.0.now a.1.1.1.0.now r s.1.1.1.0.now
unfolding after_wide
dock_wide24_ecb_encrypt_is_apply κs a r s p = (p.0, p.1)

pub dock_wide24_ecb_decrypt_asks_nothing : (κs : _) (a : _) → dock_wide24_ecb_decrypt.Asked κs a
dock_wide24_ecb_decrypt_asks_nothing κs a = tt

pub dock_wide24_ecb_decrypt_determined : (κs : _) (a : _) (r r' : _) (s s' : _) → dock_wide24_ecb_decrypt.Post κs a r s → dock_wide24_ecb_decrypt.Post κs a r' s'
    → (r ≡ r') × (s.1.1.1.0.now ≡ s'.1.1.1.0.now)
dock_wide24_ecb_decrypt_determined κs a r r' s s' p q = (p.0 ∙ sym q.0, p.1 ∙ sym q.1)

pub dock_wide24_ecb_decrypt_refused_keeps : (κs : _) (a : _) (r : _) (s : _) → dock_wide24_ecb_decrypt.Post κs a r s → (r ≡ 0 → ⊥) → s.1.1.1.0.now ≡ a.1.1.1.0.now
dock_wide24_ecb_decrypt_refused_keeps κs a r s p h = keeps Six DecryptEcb a.0.now a.1.0.now a.1.1.0.now a.1.1.1.0.now _ p.1 (λ z. h (p.0 ∙ z))

-- the call is apply-24's
pub dock_wide24_ecb_decrypt_is_apply : (κs : _) (a : _) (r : _) (s : _) → dock_wide24_ecb_decrypt.Post κs a r s
    → EcbGives Six DecryptEcb a.0.now a.1.0.now a.1.1.0.now a.1.1.1.0.now r s.1.1.1.0.now
unfolding after_wide
dock_wide24_ecb_decrypt_is_apply κs a r s p = (p.0, p.1)

pub dock_wide24_cbc_encrypt_asks_nothing : (κs : _) (a : _) → dock_wide24_cbc_encrypt.Asked κs a
dock_wide24_cbc_encrypt_asks_nothing κs a = tt

pub dock_wide24_cbc_encrypt_determined : (κs : _) (a : _) (r r' : _) (s s' : _) → dock_wide24_cbc_encrypt.Post κs a r s → dock_wide24_cbc_encrypt.Post κs a r' s'
    → (r ≡ r') × (s.1.1.1.0.now ≡ s'.1.1.1.0.now)
dock_wide24_cbc_encrypt_determined κs a r r' s s' p q = (p.0 ∙ sym q.0, p.1 ∙ sym q.1)

pub dock_wide24_cbc_encrypt_refused_keeps : (κs : _) (a : _) (r : _) (s : _) → dock_wide24_cbc_encrypt.Post κs a r s → (r.number ≡ 0 → ⊥) → s.1.1.1.0.now ≡ a.1.1.1.0.now
dock_wide24_cbc_encrypt_refused_keeps κs a r s p h = keeps Six EncryptCbc a.0.now a.1.0.now a.1.1.0.now a.1.1.1.0.now _ p.1 (λ z. h ((number_24 EncryptCbc a.0.now a.1.0.now a.1.1.0.now a.1.1.1.0.now r p.0).0 ∙ z))

-- the call is apply-24's
pub dock_wide24_cbc_encrypt_is_apply : (κs : _) (a : _) (r : _) (s : _) → dock_wide24_cbc_encrypt.Post κs a r s
    → CbcGives Six EncryptCbc a.0.now a.1.0.now a.1.1.0.now a.1.1.1.0.now r.number r.next s.1.1.1.0.now
unfolding after_wide
dock_wide24_cbc_encrypt_is_apply κs a r s p = (number_24 EncryptCbc a.0.now a.1.0.now a.1.1.0.now a.1.1.1.0.now r p.0, p.1)

pub dock_wide24_cbc_decrypt_asks_nothing : (κs : _) (a : _) → dock_wide24_cbc_decrypt.Asked κs a
dock_wide24_cbc_decrypt_asks_nothing κs a = tt

pub dock_wide24_cbc_decrypt_determined : (κs : _) (a : _) (r r' : _) (s s' : _) → dock_wide24_cbc_decrypt.Post κs a r s → dock_wide24_cbc_decrypt.Post κs a r' s'
    → (r ≡ r') × (s.1.1.1.0.now ≡ s'.1.1.1.0.now)
dock_wide24_cbc_decrypt_determined κs a r r' s s' p q = (p.0 ∙ sym q.0, p.1 ∙ sym q.1)

pub dock_wide24_cbc_decrypt_refused_keeps : (κs : _) (a : _) (r : _) (s : _) → dock_wide24_cbc_decrypt.Post κs a r s → (r.number ≡ 0 → ⊥) → s.1.1.1.0.now ≡ a.1.1.1.0.now
dock_wide24_cbc_decrypt_refused_keeps κs a r s p h = keeps Six DecryptCbc a.0.now a.1.0.now a.1.1.0.now a.1.1.1.0.now _ p.1 (λ z. h ((number_24 DecryptCbc a.0.now a.1.0.now a.1.1.0.now a.1.1.1.0.now r p.0).0 ∙ z))

-- the call is apply-24's
pub dock_wide24_cbc_decrypt_is_apply : (κs : _) (a : _) (r : _) (s : _) → dock_wide24_cbc_decrypt.Post κs a r s
    → CbcGives Six DecryptCbc a.0.now a.1.0.now a.1.1.0.now a.1.1.1.0.now r.number r.next s.1.1.1.0.now
unfolding after_wide
dock_wide24_cbc_decrypt_is_apply κs a r s p = (number_24 DecryptCbc a.0.now a.1.0.now a.1.1.0.now a.1.1.1.0.now r p.0, p.1)

pub dock_wide32_ecb_encrypt_asks_nothing : (κs : _) (a : _) → dock_wide32_ecb_encrypt.Asked κs a
dock_wide32_ecb_encrypt_asks_nothing κs a = tt

pub dock_wide32_ecb_encrypt_determined : (κs : _) (a : _) (r r' : _) (s s' : _) → dock_wide32_ecb_encrypt.Post κs a r s → dock_wide32_ecb_encrypt.Post κs a r' s'
    → (r ≡ r') × (s.1.1.1.0.now ≡ s'.1.1.1.0.now)
dock_wide32_ecb_encrypt_determined κs a r r' s s' p q = (p.0 ∙ sym q.0, p.1 ∙ sym q.1)

pub dock_wide32_ecb_encrypt_refused_keeps : (κs : _) (a : _) (r : _) (s : _) → dock_wide32_ecb_encrypt.Post κs a r s → (r ≡ 0 → ⊥) → s.1.1.1.0.now ≡ a.1.1.1.0.now
dock_wide32_ecb_encrypt_refused_keeps κs a r s p h = keeps Eight EncryptEcb a.0.now a.1.0.now a.1.1.0.now a.1.1.1.0.now _ p.1 (λ z. h (p.0 ∙ z))

-- the call is apply-32's
pub dock_wide32_ecb_encrypt_is_apply : (κs : _) (a : _) (r : _) (s : _) → dock_wide32_ecb_encrypt.Post κs a r s
    → EcbGives Eight EncryptEcb a.0.now a.1.0.now a.1.1.0.now a.1.1.1.0.now r s.1.1.1.0.now
unfolding after_wide
dock_wide32_ecb_encrypt_is_apply κs a r s p = (p.0, p.1)

pub dock_wide32_ecb_decrypt_asks_nothing : (κs : _) (a : _) → dock_wide32_ecb_decrypt.Asked κs a
dock_wide32_ecb_decrypt_asks_nothing κs a = tt

pub dock_wide32_ecb_decrypt_determined : (κs : _) (a : _) (r r' : _) (s s' : _) → dock_wide32_ecb_decrypt.Post κs a r s → dock_wide32_ecb_decrypt.Post κs a r' s'
    → (r ≡ r') × (s.1.1.1.0.now ≡ s'.1.1.1.0.now)
dock_wide32_ecb_decrypt_determined κs a r r' s s' p q = (p.0 ∙ sym q.0, p.1 ∙ sym q.1)

pub dock_wide32_ecb_decrypt_refused_keeps : (κs : _) (a : _) (r : _) (s : _) → dock_wide32_ecb_decrypt.Post κs a r s → (r ≡ 0 → ⊥) → s.1.1.1.0.now ≡ a.1.1.1.0.now
dock_wide32_ecb_decrypt_refused_keeps κs a r s p h = keeps Eight DecryptEcb a.0.now a.1.0.now a.1.1.0.now a.1.1.1.0.now _ p.1 (λ z. h (p.0 ∙ z))

-- the call is apply-32's
pub dock_wide32_ecb_decrypt_is_apply : (κs : _) (a : _) (r : _) (s : _) → dock_wide32_ecb_decrypt.Post κs a r s
    → EcbGives Eight DecryptEcb a.0.now a.1.0.now a.1.1.0.now a.1.1.1.0.now r s.1.1.1.0.now
unfolding after_wide
dock_wide32_ecb_decrypt_is_apply κs a r s p = (p.0, p.1)

pub dock_wide32_cbc_encrypt_asks_nothing : (κs : _) (a : _) → dock_wide32_cbc_encrypt.Asked κs a
dock_wide32_cbc_encrypt_asks_nothing κs a = tt

pub dock_wide32_cbc_encrypt_determined : (κs : _) (a : _) (r r' : _) (s s' : _) → dock_wide32_cbc_encrypt.Post κs a r s → dock_wide32_cbc_encrypt.Post κs a r' s'
    → (r ≡ r') × (s.1.1.1.0.now ≡ s'.1.1.1.0.now)
dock_wide32_cbc_encrypt_determined κs a r r' s s' p q = (p.0 ∙ sym q.0, p.1 ∙ sym q.1)

pub dock_wide32_cbc_encrypt_refused_keeps : (κs : _) (a : _) (r : _) (s : _) → dock_wide32_cbc_encrypt.Post κs a r s → (r.number ≡ 0 → ⊥) → s.1.1.1.0.now ≡ a.1.1.1.0.now
dock_wide32_cbc_encrypt_refused_keeps κs a r s p h = keeps Eight EncryptCbc a.0.now a.1.0.now a.1.1.0.now a.1.1.1.0.now _ p.1 (λ z. h ((number_32 EncryptCbc a.0.now a.1.0.now a.1.1.0.now a.1.1.1.0.now r p.0).0 ∙ z))

-- the call is apply-32's
pub dock_wide32_cbc_encrypt_is_apply : (κs : _) (a : _) (r : _) (s : _) → dock_wide32_cbc_encrypt.Post κs a r s
    → CbcGives Eight EncryptCbc a.0.now a.1.0.now a.1.1.0.now a.1.1.1.0.now r.number r.next s.1.1.1.0.now
unfolding after_wide
dock_wide32_cbc_encrypt_is_apply κs a r s p = (number_32 EncryptCbc a.0.now a.1.0.now a.1.1.0.now a.1.1.1.0.now r p.0, p.1)

pub dock_wide32_cbc_decrypt_asks_nothing : (κs : _) (a : _) → dock_wide32_cbc_decrypt.Asked κs a
dock_wide32_cbc_decrypt_asks_nothing κs a = tt

pub dock_wide32_cbc_decrypt_determined : (κs : _) (a : _) (r r' : _) (s s' : _) → dock_wide32_cbc_decrypt.Post κs a r s → dock_wide32_cbc_decrypt.Post κs a r' s'
    → (r ≡ r') × (s.1.1.1.0.now ≡ s'.1.1.1.0.now)
dock_wide32_cbc_decrypt_determined κs a r r' s s' p q = (p.0 ∙ sym q.0, p.1 ∙ sym q.1)

pub dock_wide32_cbc_decrypt_refused_keeps : (κs : _) (a : _) (r : _) (s : _) → dock_wide32_cbc_decrypt.Post κs a r s → (r.number ≡ 0 → ⊥) → s.1.1.1.0.now ≡ a.1.1.1.0.now
dock_wide32_cbc_decrypt_refused_keeps κs a r s p h = keeps Eight DecryptCbc a.0.now a.1.0.now a.1.1.0.now a.1.1.1.0.now _ p.1 (λ z. h ((number_32 DecryptCbc a.0.now a.1.0.now a.1.1.0.now a.1.1.1.0.now r p.0).0 ∙ z))

-- the call is apply-32's
pub dock_wide32_cbc_decrypt_is_apply : (κs : _) (a : _) (r : _) (s : _) → dock_wide32_cbc_decrypt.Post κs a r s
    → CbcGives Eight DecryptCbc a.0.now a.1.0.now a.1.1.0.now a.1.1.1.0.now r.number r.next s.1.1.1.0.now
unfolding after_wide
dock_wide32_cbc_decrypt_is_apply κs a r s p = (number_32 DecryptCbc a.0.now a.1.0.now a.1.1.0.now a.1.1.1.0.now r p.0, p.1)
