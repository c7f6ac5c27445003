-- Demands 2 and 3 for CCM: what is sealed opens, exactly sealed messages are accepted, and refusals come as told. Assumes nothing.
use mathlib.Core.Path.{◌≡◌, refl, sym, ap, subst, ◌∙◌}
use mathlib.Core.Bool.{true, false}
use mathlib.Core.List.{List, [], ◌∷◌, ◌++◌}
use Prim.Native.Nat.{ℕ, suc, ◌+◌, ◌-◌, ◌*◌, ◌/◌, ◌%◌, ◌≤◌, ◌<◌}
use native.Mathlib.Omega.{arith}
use lib.ListN.{length, take, drop}
use Rattle.octets.specs.Octets.{Bytes, Octets, pad_to}
use Rattle.octets.specs.Blocks.{◌⊕◌, BlockCipher, Lawful}
use Rattle.aes_spec.specs.Cipher.{aes_of}
use Rattle.aes_spec.proofs.Aes.{key_lawful}
use Rattle.modes_spec.specs.Pieces.{piece}
use Rattle.ccm_spec.specs.Ccm.{first, counter, encoded, formatted, streamed, sealed, opened, genuine}
use Rattle.ccm_spec.proofs.Exactly as exactly
use Rattle.ccm_spec.proofs.Pieces as blocks
use Rattle.ccm_spec.proofs.Pins as pins
use Rattle.ccm_answer.specs.Answers.{ccm_number, in_profile, sealed_in_profile}
use Rattle.ccm_answer.proofs.Sizes.{profile_parts, profile_right, sealed_parts, sealed_right}
use Rattle.ccm.specs.Calls.{seal_answer, seal_output, open_answer, open_output}
use Rattle.ccm_answer.specs.declared.CcmAnswer.{CcmAnswer}
use Rattle.ccm_answer.specs.declared.CcmAnswer.TheVariants.{CcmDone, CcmKey, CcmSize, CcmRoom, WrongTag}
use Rattle.promises.proofs.Aes.Keys.{KeyTaken}
use Rattle.promises.proofs.Ccm.Words.{after_seal, after_open, Fits, SealFit, SealSays, SealedFits, TagRight, OpenFit, OpenSays, SealedOf}
use Rattle.promises.proofs.Lemmas.WrapLaws.{over_first}
use Rattle.promises.proofs.Lemmas.CcmLaws.{seal_says, seal_fits, open_says, open_fits, open_done_fits, seal_keeps, open_keeps, sealed_of_fits, octets_of, opened_length, opened_bytes, one_tag}

-- ---- the standard's formatting, in bytes (appendix A)

-- B0: its flags say whether there is associated data, then the nonce and the length of the message
pub first_block_as_told : (nonce : List ℕ) (len : ℕ)
    → (first nonce [] len ≡ (8 * ((8 - 2) / 2) + (2 - 1)) ∷ (nonce ++ (len / 256 % 256 ∷ len % 256 ∷ [])))
    × ((a : List ℕ) → (length a ≡ 0 → ⊥) → first nonce a len ≡ (64 + 8 * ((8 - 2) / 2) + (2 - 1)) ∷ (nonce ++ (len / 256 % 256 ∷ len % 256 ∷ [])))
first_block_as_told = pins.first_block

-- the counter blocks
pub counter_block_as_told : (nonce : List ℕ) (i : ℕ) → counter nonce i ≡ (2 - 1) ∷ (nonce ++ (i / 256 % 256 ∷ i % 256 ∷ []))
counter_block_as_told = pins.counter_blocks

-- associated data has its length before it, and as few zeros as make whole blocks behind it; where there is none, it makes no block
pub associated_data_as_told : (encoded [] ≡ [])
    × ((a : List ℕ) → (length a ≡ 0 → ⊥) → encoded a ≡ pad_to ((length a + 17) / 16 * 16) (length a / 256 % 256 ∷ length a % 256 ∷ a))
associated_data_as_told = pins.associated_data

-- the message comes behind both, with as few zeros as make whole blocks
pub payload_as_told : (nonce a p : List ℕ) → formatted nonce a p ≡ first nonce a (length p) ++ (encoded a ++ pad_to ((length p + 15) / 16 * 16) p)
payload_as_told = pins.payload

-- ---- demand 3, over every lawful block cipher

module _ (c : BlockCipher) (l : Lawful 16 c) (nonce : List ℕ) (on : Octets 13 nonce) where
  -- piece i of the ciphertext is piece i of the message added to the cipher of counter block i + 1; pieces are counted from 0 here, from 1 in the standard
  pub ciphertext_pieces : (p : List ℕ) (i : ℕ) → i * 16 < length p → piece 16 (streamed c nonce p) i ≡ piece 16 p i ⊕ c.enc (counter nonce (suc i))
  ciphertext_pieces = blocks.streamed_piece nonce on c l

  -- the same stream takes itself off again, at every length
  pub ciphertext_is_undone : (p : List ℕ) → (length (streamed c nonce p) ≡ length p) × (streamed c nonce (streamed c nonce p) ≡ p)
  ciphertext_is_undone p = (exactly.streamed_length nonce on c l p, exactly.streamed_undone nonce on c l p)

  module _ (a : List ℕ) (ba : Bytes a) where
    -- what is sealed is 8 bytes longer, opens to the message, and its tag is right
    pub sealed_opens : (p : List ℕ) → Bytes p → (length (sealed c nonce a p) ≡ length p + 8) × (opened c nonce (sealed c nonce a p) ≡ p) × (genuine c nonce a (sealed c nonce a p) ≡ true)
    sealed_opens p b = (exactly.sealed_length nonce on c l a ba p b, exactly.sealed_opens nonce on c l a ba p b, exactly.sealed_genuine nonce on c l a ba p b)

    -- what has a right tag is the sealing of what it opens to
    pub right_tags_are_sealed : (s : List ℕ) → Bytes s → 8 ≤ length s → genuine c nonce a s ≡ true → s ≡ sealed c nonce a (opened c nonce s)
    right_tags_are_sealed = exactly.genuine_sealed nonce on c l a ba

    -- no two messages are sealed alike
    pub sealed_injective : (p q : List ℕ) → Bytes p → Bytes q → sealed c nonce a p ≡ sealed c nonce a q → p ≡ q
    sealed_injective = exactly.sealed_of_one nonce on c l a ba

-- ---- demand 2: refusals come where the table says, and only there

-- the lengths of the profile
pub profile_as_told : (nonce ad len : ℕ) → in_profile nonce ad len ≡ true → (nonce ≡ 13) × (ad ≤ 64) × (len ≤ 1024)
profile_as_told = profile_parts

pub in_the_profile : (nonce ad len : ℕ) → nonce ≡ 13 → ad ≤ 64 → len ≤ 1024 → in_profile nonce ad len ≡ true
in_the_profile = profile_right

pub sealed_profile_as_told : (nonce ad len : ℕ) → sealed_in_profile nonce ad len ≡ true → (nonce ≡ 13) × (ad ≤ 64) × (8 ≤ len) × (len ≤ 1032)
sealed_profile_as_told nonce ad len e =
    let s = sealed_parts nonce ad len e in
    let t = profile_parts nonce ad (len - 8) s.1 in
    (t.0, t.1, s.0, omega (arith, t.2))

pub sealed_in_the_profile : (nonce ad len : ℕ) → nonce ≡ 13 → ad ≤ 64 → 8 ≤ len → len ≤ 1032 → sealed_in_profile nonce ad len ≡ true
sealed_in_the_profile nonce ad len n a l h = sealed_right nonce ad len l (profile_right nonce ad (len - 8) n a (omega arith))

-- every answer says what the table says of it; where no test fails, the call is done
pub seal_answer_as_told : (key nonce a p out : List ℕ) → SealSays key nonce a p (length out) (seal_answer key nonce a p out)
seal_answer_as_told = seal_says

pub fit_is_sealed : (key nonce a p out : List ℕ) → SealFit key nonce a p (length out) → seal_answer key nonce a p out ≡ CcmDone
fit_is_sealed = seal_fits

pub open_answer_as_told : (key nonce a s out : List ℕ) → OpenSays key nonce a s (length out) (open_answer key nonce a s out)
open_answer_as_told = open_says

pub fit_is_opened : (key nonce a s out : List ℕ) → OpenFit key nonce a s (length out) → open_answer key nonce a s out ≡ CcmDone
fit_is_opened = open_fits

-- sealing is never refused by 24
pub seal_never_24 : (key nonce a p out : List ℕ) → ccm_number (seal_answer key nonce a p out) ≡ 24 → ⊥
seal_never_24 key nonce a p out = go (seal_answer key nonce a p out) (seal_says key nonce a p out)
  where
    go : (r : CcmAnswer) → SealSays key nonce a p (length out) r → ccm_number r ≡ 24 → ⊥
    go CcmDone s e = omega arith
    go CcmKey s e = omega arith
    go CcmSize s e = omega arith
    go CcmRoom s e = omega arith
    go WrongTag s e = s

-- what is refused leaves the output as it was
pub seal_refusal_keeps : (key nonce a p out : List ℕ) → (ccm_number (seal_answer key nonce a p out) ≡ 0 → ⊥) → after_seal key nonce a p out ≡ out
seal_refusal_keeps key nonce a p out h = seal_keeps (seal_answer key nonce a p out) key nonce a p out h

pub open_refusal_keeps : (key nonce a s out : List ℕ) → (ccm_number (open_answer key nonce a s out) ≡ 0 → ⊥) → after_open key nonce a s out ≡ out
open_refusal_keeps key nonce a s out h = open_keeps (open_answer key nonce a s out) key nonce a s out h

-- ---- demand 3, under a key that is taken

module _ (key nonce a p : List ℕ) (taken : KeyTaken key) (bn : Bytes nonce) (ba : Bytes a) (bp : Bytes p) (fits : Fits nonce a p) where
  lawful : Lawful 16 (aes_of key)
  lawful = key_lawful key taken

  on : Octets 13 nonce
  on = octets_of nonce a p fits bn

  size : length (sealed (aes_of key) nonce a p) ≡ length p + 8
  size = exactly.sealed_length nonce on (aes_of key) lawful a ba p bp

  -- a message of the profile is sealed: the first bytes of the output are ciphertext and tag, and the rest stays
  pub message_is_sealed : (out : List ℕ) → length p + 8 ≤ length out
      → (seal_answer key nonce a p out ≡ CcmDone)
      × (take (length p + 8) (after_seal key nonce a p out) ≡ sealed (aes_of key) nonce a p)
      × (drop (length p + 8) (after_seal key nonce a p out) ≡ drop (length p + 8) out)
  message_is_sealed out room =
      let e : seal_answer key nonce a p out ≡ CcmDone = seal_fits key nonce a p out (record { key_taken = taken; fits = fits; roomy = room }) in
      let o = over_first (length p + 8) (sealed (aes_of key) nonce a p) out size in
      let f : after_seal key nonce a p out ≡ seal_output CcmDone key nonce a p out = ap (λ (r : CcmAnswer). seal_output r key nonce a p out) e in
      (e, ap (take (length p + 8)) f ∙ o.0, ap (drop (length p + 8)) f ∙ o.1)

  -- what was sealed is opened: the first bytes of the output are the message, and the rest stays
  pub sealed_is_opened : (out : List ℕ) → length p ≤ length out
      → (open_answer key nonce a (sealed (aes_of key) nonce a p) out ≡ CcmDone)
      × (take (length p) (after_open key nonce a (sealed (aes_of key) nonce a p) out) ≡ p)
      × (drop (length p) (after_open key nonce a (sealed (aes_of key) nonce a p) out) ≡ drop (length p) out)
  sealed_is_opened out room =
      let s = sealed (aes_of key) nonce a p in
      let e : open_answer key nonce a s out ≡ CcmDone = open_fits key nonce a s out (record {
        key_taken = taken;
        fits = sealed_of_fits nonce a p s fits size;
        roomy = omega (arith, size);
        tag_right = exactly.sealed_genuine nonce on (aes_of key) lawful a ba p bp;
      }) in
      let q : opened (aes_of key) nonce s ≡ p = exactly.sealed_opens nonce on (aes_of key) lawful a ba p bp in
      let o = over_first (length p) (opened (aes_of key) nonce s) out (ap length q) in
      let f : after_open key nonce a s out ≡ open_output CcmDone key nonce a s out = ap (λ (r : CcmAnswer). open_output r key nonce a s out) e in
      (e, ap (take (length p)) f ∙ o.0 ∙ q, ap (drop (length p)) f ∙ o.1)

  -- so what the one call wrote, the other reads back
  pub open_after_seal : (out out' : List ℕ) → length p + 8 ≤ length out → length p ≤ length out'
      → (open_answer key nonce a (take (length p + 8) (after_seal key nonce a p out)) out' ≡ CcmDone)
      × (take (length p) (after_open key nonce a (take (length p + 8) (after_seal key nonce a p out)) out') ≡ p)
      × (drop (length p) (after_open key nonce a (take (length p + 8) (after_seal key nonce a p out)) out') ≡ drop (length p) out')
  open_after_seal out out' room room' =
      subst (λ (d : List ℕ). (open_answer key nonce a d out' ≡ CcmDone) × (take (length p) (after_open key nonce a d out') ≡ p) × (drop (length p) (after_open key nonce a d out') ≡ drop (length p) out'))
      (sym (message_is_sealed out room).1) (sealed_is_opened out' room')

-- ---- demand 3: what is accepted is exactly what sealing makes of messages of the profile, under that key, nonce and associated data

module _ (key nonce a s out : List ℕ) (bn : Bytes nonce) (ba : Bytes a) (bs : Bytes s) where
  pub accepted_was_sealed : open_answer key nonce a s out ≡ CcmDone → SealedOf key nonce a s
  accepted_was_sealed e =
      let f = open_done_fits key nonce a s out e in
      let t = sealed_parts (length nonce) (length a) (length s) f.fits in
      let o : Octets 13 nonce = record { size = (profile_parts (length nonce) (length a) (length s - 8) t.1).0; bytes = bn } in
      let l = key_lawful key f.key_taken in
      record {
        message = opened (aes_of key) nonce s;
        message_bytes = opened_bytes (aes_of key) l nonce o s bs;
        message_fits = ap (in_profile (length nonce) (length a)) (opened_length (aes_of key) l nonce o s t.0) ∙ t.1;
        is_sealed = exactly.genuine_sealed nonce o (aes_of key) l a ba s bs t.0 f.tag_right;
      }

  module _ (taken : KeyTaken key) (room : length s ≤ length out + 8) where
    pub sealed_is_accepted : SealedOf key nonce a s → open_answer key nonce a s out ≡ CcmDone
    sealed_is_accepted x =
        let n = size key nonce a x.message taken bn ba x.message_bytes x.message_fits in
        ap (λ (d : List ℕ). open_answer key nonce a d out) x.is_sealed
        ∙ (sealed_is_opened key nonce a x.message taken bn ba x.message_bytes x.message_fits out (omega (arith, room, ap length x.is_sealed, n))).0

    pub accepted_exactly_sealed : (open_answer key nonce a s out ≡ CcmDone → SealedOf key nonce a s) × (SealedOf key nonce a s → open_answer key nonce a s out ≡ CcmDone)
    accepted_exactly_sealed = (accepted_was_sealed, sealed_is_accepted)

    -- and what sealing makes of no such message, of a length in the profile and where there is room, is refused by 24
    pub not_sealed_is_refused : SealedFits nonce a s → (SealedOf key nonce a s → ⊥) → open_answer key nonce a s out ≡ WrongTag
    not_sealed_is_refused fits none = go (open_answer key nonce a s out) (open_says key nonce a s out) refl
      where
        go : (r : CcmAnswer) → OpenSays key nonce a s (length out) r → open_answer key nonce a s out ≡ r → r ≡ WrongTag
        go CcmDone w e = absurd (none (accepted_was_sealed e))
        go CcmKey w e = absurd (w taken)
        go CcmSize w e =
            let z : true ≡ false = sym fits ∙ w.1 in
            let y : ◌≡◌ {A = ℕ} 0 1 = cc in absurd (omega arith)
        go CcmRoom w e = absurd (omega (arith, w.2))
        go WrongTag w e = refl

  -- the message is the only one that is sealed so
  pub sealed_of_one_message : KeyTaken key → (x y : SealedOf key nonce a s) → x.message ≡ y.message
  sealed_of_one_message taken x y =
      exactly.sealed_of_one nonce (octets_of nonce a x.message x.message_fits bn) (aes_of key) (key_lawful key taken) a ba x.message y.message x.message_bytes y.message_bytes
      (sym x.is_sealed ∙ y.is_sealed)

  -- and it is handed out: the first bytes of the output are it, and the rest stays
  pub accepted_message_is_handed_out : open_answer key nonce a s out ≡ CcmDone → (x : SealedOf key nonce a s)
      → (length x.message + 8 ≡ length s)
      × (take (length x.message) (after_open key nonce a s out) ≡ x.message)
      × (drop (length x.message) (after_open key nonce a s out) ≡ drop (length x.message) out)
  accepted_message_is_handed_out e x =
      let f = open_done_fits key nonce a s out e in
      let p = x.message in
      let n : length p + 8 ≡ length s = sym (ap length x.is_sealed ∙ size key nonce a p f.key_taken bn ba x.message_bytes x.message_fits) in
      let w = sealed_is_opened key nonce a p f.key_taken bn ba x.message_bytes x.message_fits out (omega (arith, f.roomy, n)) in
      subst (λ (d : List ℕ). (length p + 8 ≡ length s) × (take (length p) (after_open key nonce a d out) ≡ p) × (drop (length p) (after_open key nonce a d out) ≡ drop (length p) out))
      (sym x.is_sealed) (n, w.1, w.2)

  -- damage inside the tag alone is refused by 24, always
  pub damaged_tag_is_refused : open_answer key nonce a s out ≡ CcmDone → (t : List ℕ) → Bytes t → length t ≡ length s → take (length s - 8) t ≡ take (length s - 8) s → (t ≡ s → ⊥)
      → open_answer key nonce a t out ≡ WrongTag
  damaged_tag_is_refused e t bt n q apart =
      let f = open_done_fits key nonce a s out e in
      let h = sealed_parts (length nonce) (length a) (length s) f.fits in
      let o : Octets 13 nonce = record { size = (profile_parts (length nonce) (length a) (length s - 8) h.1).0; bytes = bn } in
      let fits : SealedFits nonce a t = ap (sealed_in_profile (length nonce) (length a)) n ∙ f.fits in
      go f.key_taken fits (omega (arith, f.roomy)) (λ g. apart (one_tag (aes_of key) (key_lawful key f.key_taken) nonce o a ba s t bs bt h.0 n q f.tag_right g))
      (open_answer key nonce a t out) (open_says key nonce a t out)
    where
      go : KeyTaken key → SealedFits nonce a t → length t ≤ length out + 8 → (TagRight key nonce a t → ⊥) → (r : CcmAnswer) → OpenSays key nonce a t (length out) r → r ≡ WrongTag
      go k m room wrong CcmDone w = absurd (wrong w.tag_right)
      go k m room wrong CcmKey w = absurd (w k)
      go k m room wrong CcmSize w =
          let z : true ≡ false = sym m ∙ w.1 in
          let y : ◌≡◌ {A = ℕ} 0 1 = cc in absurd (omega arith)
      go k m room wrong CcmRoom w = absurd (omega (arith, w.2))
      go k m room wrong WrongTag w = refl
