-- The tables of the form (docs/REPLAY.md), of the definitions. Assumes nothing.
use mathlib.Core.Path.{◌≡◌, refl, sym}
use mathlib.Core.Bool.{Bool, true, false, not, ◌&&◌, ◌||◌, true≢false}
use mathlib.Core.Logic.{◌⊎◌, inl, inr, ⊎_elim}
use Prim.Native.Nat.{ℕ, ◌%◌, ◌<◌}
use native.Mathlib.Omega.{arith}
use borrow.Author.Tests.{eqb-true, eqb-false, eq-eqb, ne_eqb}
use lib.Dec.{eqb}
use Rattle.std.specs.Prelude.{None, Some}
use Rattle.aesavs_line.specs.declared.Run.{Run}
use Rattle.aesavs_line.specs.declared.Run.TheVariants.{Known, Monte}
use Rattle.aesavs_line.specs.declared.Way.TheVariants.{Encrypting, Decrypting}
use Rattle.aesavs_line.specs.declared.Field.TheVariants.{Plaintext, Ciphertext}
use Rattle.aesavs_record.specs.Records.{role_of, between, follows, size_fits_of, same_kind, kind_fits}
use Rattle.aesavs_record.specs.declared.Role.{Role}
use Rattle.aesavs_record.specs.declared.Role.TheVariants.{KeyOf, IvOf, FirstText, SecondText}
use Rattle.aesavs_record.specs.declared.Stage.TheVariants.{AtStart, AtMark, AtRecord, AtKey, AtIv, AtFirst, AtSecond}
use Rattle.aesavs_record.specs.declared.Kind.TheVariants.{Ecb, Cbc}

-- PLAINTEXT then CIPHERTEXT under [ENCRYPT], CIPHERTEXT then PLAINTEXT under [DECRYPT]
pub the_two_texts : (role_of Encrypting Plaintext ≡ FirstText) × (role_of Encrypting Ciphertext ≡ SecondText)
    × (role_of Decrypting Ciphertext ≡ FirstText) × (role_of Decrypting Plaintext ≡ SecondText)
the_two_texts = (refl, refl, refl, refl)

-- behind COUNT the KEY alone; then IV or first text; behind the IV the first text alone; then the second alone; no field elsewhere
pub the_order_of_fields : (follows AtKey KeyOf ≡ true) × (follows AtKey IvOf ≡ false) × (follows AtKey FirstText ≡ false) × (follows AtKey SecondText ≡ false)
    × (follows AtIv KeyOf ≡ false) × (follows AtIv IvOf ≡ true) × (follows AtIv FirstText ≡ true) × (follows AtIv SecondText ≡ false)
    × (follows AtFirst KeyOf ≡ false) × (follows AtFirst IvOf ≡ false) × (follows AtFirst FirstText ≡ true) × (follows AtFirst SecondText ≡ false)
    × (follows AtSecond KeyOf ≡ false) × (follows AtSecond IvOf ≡ false) × (follows AtSecond FirstText ≡ false) × (follows AtSecond SecondText ≡ true)
the_order_of_fields = (refl, refl, refl, refl, refl, refl, refl, refl, refl, refl, refl, refl, refl, refl, refl, refl)

pub no_field_outside_a_record : (f : Role) → (follows AtStart f ≡ false) × (follows AtMark f ≡ false) × (follows AtRecord f ≡ false)
no_field_outside_a_record f = (refl, refl, refl)

-- a mark, or the end, where no record is open
pub a_mark_between_records : (between AtStart ≡ false) × (between AtMark ≡ true) × (between AtRecord ≡ true)
    × (between AtKey ≡ false) × (between AtIv ≡ false) × (between AtFirst ≡ false) × (between AtSecond ≡ false)
a_mark_between_records = (refl, refl, refl, refl, refl, refl, refl)

-- the sizes: KEY 16, 24 or 32 bytes, IV 16, a first text whole pieces and at least one, in a Monte Carlo run 16 bytes, a second text as the first
abbrev pub Size : Run → Role → (size text : ℕ) → Type 0
Size r KeyOf n text = (n ≡ 16) ⊎ ((n ≡ 24) ⊎ (n ≡ 32))
Size r IvOf n text = n ≡ 16
Size Known FirstText n text = (0 < n) × (n % 16 ≡ 0)
Size Monte FirstText n text = n ≡ 16
Size r SecondText n text = n ≡ text

key_size : (n : ℕ) (a b c : Bool) → eqb n 16 ≡ a → eqb n 24 ≡ b → eqb n 32 ≡ c → (a || (b || c)) ≡ true → (n ≡ 16) ⊎ ((n ≡ 24) ⊎ (n ≡ 32))
key_size n true b c e f g h = inl (eqb-true _ _ e)
key_size n false true c e f g h = inr (inl (eqb-true _ _ f))
key_size n false false true e f g h = inr (inr (eqb-true _ _ g))
key_size n false false false e f g h = absurd (true≢false (sym h))

text_size : (n : ℕ) (a b : Bool) → eqb n 0 ≡ a → eqb (n % 16) 0 ≡ b → (not a && b) ≡ true → (0 < n) × (n % 16 ≡ 0)
text_size n true b e f h = absurd (true≢false (sym h))
text_size n false true e f h = (let z = eqb-false n 0 e in omega arith, eqb-true _ _ f)
text_size n false false e f h = absurd (true≢false (sym h))

pub a_size_that_fits : (r : Run) (f : Role) (n text : ℕ) → size_fits_of r f n text ≡ true → Size r f n text
a_size_that_fits r KeyOf n text e = key_size n (eqb n 16) (eqb n 24) (eqb n 32) refl refl refl e
a_size_that_fits r IvOf n text e = eqb-true _ _ e
a_size_that_fits Known FirstText n text e = text_size n (eqb n 0) (eqb (n % 16) 0) refl refl e
a_size_that_fits Monte FirstText n text e = eqb-true _ _ e
a_size_that_fits r SecondText n text e = eqb-true _ _ e

pub a_size_fits : (r : Run) (f : Role) (n text : ℕ) → Size r f n text → size_fits_of r f n text ≡ true
a_size_fits r KeyOf n text h = ⊎_elim (λ e. rw e) (⊎_elim (λ e. rw e) (λ e. rw e)) h
a_size_fits r IvOf n text h = rw h
a_size_fits Known FirstText n text h = rw (ne_eqb n 0 (λ e. omega (arith, h.0)), h.1)
a_size_fits Monte FirstText n text h = rw h
a_size_fits r SecondText n text h = eq-eqb n text h

-- records of known answers stand alone; in a Monte Carlo run a record has an IV or none as its section's first has, told at its first text
pub the_kinds : (f : Role) (ch : Bool) → (kind_fits Monte FirstText (Some Ecb) ch ≡ same_kind (Some Ecb) ch) × (kind_fits Monte FirstText (Some Cbc) ch ≡ same_kind (Some Cbc) ch)
    × (same_kind (Some Ecb) true ≡ false) × (same_kind (Some Ecb) false ≡ true) × (same_kind (Some Cbc) true ≡ true) × (same_kind (Some Cbc) false ≡ false)
    × (kind_fits Monte FirstText None ch ≡ true) × (kind_fits Known f (Some Ecb) ch ≡ true) × (kind_fits Known f (Some Cbc) ch ≡ true)
the_kinds f ch = (refl, refl, refl, refl, refl, refl, refl, refl, refl)
