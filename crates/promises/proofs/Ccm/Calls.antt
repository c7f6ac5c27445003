-- Demand 1 for CCM's calls, then demands 2 and 3 for what they answer and write. Assumes nothing.
use mathlib.Core.Path.{◌≡◌, refl, sym, ap, subst, ◌∙◌}
use mathlib.Core.Bool.{Bool, true, false}
use mathlib.Core.List.{List}
use Prim.Native.Nat.{ℕ, suc, ◌+◌, ◌-◌, ◌*◌, ◌≤◌, ◌<◌}
use native.Mathlib.Omega.{arith}
use borrow.Author.Tests.{lt-leb}
use lib.ListN.{length, take, drop}
use lib.Seq.{take-take, take_at}
use Rattle.octets.specs.Octets.{Bytes}
use Rattle.octets.specs.Blocks.{◌⊕◌}
use Rattle.aes_schedule.specs.Schedule.{key_number}
use Rattle.aes_schedule.specs.declared.KeyAnswer.{KeyAnswer}
use Rattle.aes_spec.specs.Cipher.{aes_of}
use Rattle.aes_spec.proofs.Aes.{key_lawful}
use Rattle.modes_spec.specs.Pieces.{piece}
use Rattle.ccm_spec.specs.Ccm.{counter, streamed, tag, mask, sealed}
use Rattle.ccm_spec.proofs.Exactly.{streamed_length}
use Rattle.ccm_answer.specs.Answers.{ccm_number, in_profile, sealed_in_profile, ccm_ruled}
use Rattle.ccm.specs.Calls.{seal_output, open_answer, open_output}
use Rattle.ccm_answer.specs.declared.CcmAnswer.{CcmAnswer}
use Rattle.ccm_answer.specs.declared.CcmAnswer.TheVariants.{CcmDone, CcmKey, CcmSize, CcmRoom, WrongTag}
use Rattle.ccm_stream.specs.Model.{streamed_over}
use Rattle.promises.proofs.Aes.Keys.{KeyTaken}
use Rattle.promises.proofs.Ccm.Words.{after_seal, after_open, SealFit, SealSays, OpenFit, OpenSays, SealedOf}
use Rattle.promises.proofs.Lemmas.CcmLaws.{ruled_says, ruled_through, seal_keeps, open_keeps, octets_of}
use Rattle.promises.proofs.Ccm.Statements.{seal_answer_as_told, open_answer_as_told, seal_never_24, fit_is_sealed, fit_is_opened, message_is_sealed, open_after_seal, accepted_exactly_sealed, accepted_message_is_handed_out, ciphertext_pieces, damaged_tag_is_refused}
use Rattle.cmac_chain.proofs.chained.Reads as chained
use Rattle.ccm_answer.proofs.CcmAnswer.number.Reads as ccm-number
use Rattle.ccm_answer.proofs.judge_seal.Reads as judge_seal
use Rattle.ccm_answer.proofs.judge_open.Reads as judge_open
use Rattle.ccm_answer.proofs.same_tag.Reads as same_tag
use Rattle.ccm_stream.proofs.flagged.Reads as flagged
use Rattle.ccm_stream.proofs.numbered.Reads as numbered
use Rattle.ccm_stream.proofs.leading_sum.Reads as leading_sum
use Rattle.ccm_stream.proofs.piece_count.Reads as piece_count
use Rattle.ccm_stream.proofs.stream.Reads as stream
use Rattle.ccm_chain.proofs.mac.Reads as mac
use Rattle.ccm_chain.proofs.opened_mac.Reads as opened_mac
use Rattle.ccm.proofs.seal.Reads as seal
use Rattle.ccm.proofs.open.Reads as open_call

-- ---- demand 1

pub chained_asks_nothing : (κs : _) (a : _) → chained.Asked κs a
chained_asks_nothing κs a = tt

pub chained_determined : (κs : _) (a : _) (r r' : _) (s s' : _) → chained.Post κs a r s → chained.Post κs a r' s' → r ≡ r'
chained_determined κs a r r' s s' p q = p ∙ sym q

pub ccm_number_asks_nothing : (κs : _) (a : _) → ccm-number.Asked κs a
ccm_number_asks_nothing κs a = tt

pub ccm_number_determined : (κs : _) (a : _) (r r' : _) (s s' : _) → ccm-number.Post κs a r s → ccm-number.Post κs a r' s' → r ≡ r'
ccm_number_determined κs a r r' s s' p q = p ∙ sym q

pub judge_seal_asks_nothing : (κs : _) (a : _) → judge_seal.Asked κs a
judge_seal_asks_nothing κs a = tt

pub judge_seal_determined : (κs : _) (a : _) (r r' : _) (s s' : _) → judge_seal.Post κs a r s → judge_seal.Post κs a r' s' → r ≡ r'
judge_seal_determined κs a r r' s s' p q = p ∙ sym q

pub judge_open_asks_nothing : (κs : _) (a : _) → judge_open.Asked κs a
judge_open_asks_nothing κs a = tt

pub judge_open_determined : (κs : _) (a : _) (r r' : _) (s s' : _) → judge_open.Post κs a r s → judge_open.Post κs a r' s' → r ≡ r'
judge_open_determined κs a r r' s s' p q = p ∙ sym q

pub same_tag_asks_nothing : (κs : _) (a : _) → same_tag.Asked κs a
same_tag_asks_nothing κs a = tt

pub same_tag_determined : (κs : _) (a : _) (r r' : _) (s s' : _) → same_tag.Post κs a r s → same_tag.Post κs a r' s' → r ≡ r'
same_tag_determined κs a r r' s s' p q = p ∙ sym q

pub flagged_asks_nothing : (κs : _) (a : _) → flagged.Asked κs a
flagged_asks_nothing κs a = tt

pub flagged_determined : (κs : _) (a : _) (r r' : _) (s s' : _) → flagged.Post κs a r s → flagged.Post κs a r' s' → r ≡ r'
flagged_determined κs a r r' s s' p q = p ∙ sym q

pub numbered_asks_nothing : (κs : _) (a : _) → numbered.Asked κs a
numbered_asks_nothing κs a = tt

pub numbered_determined : (κs : _) (a : _) (r r' : _) (s s' : _) → numbered.Post κs a r s → numbered.Post κs a r' s' → r ≡ r'
numbered_determined κs a r r' s s' p q = p ∙ sym q

pub leading_sum_asks_nothing : (κs : _) (a : _) → leading_sum.Asked κs a
leading_sum_asks_nothing κs a = tt

pub leading_sum_determined : (κs : _) (a : _) (r r' : _) (s s' : _) → leading_sum.Post κs a r s → leading_sum.Post κs a r' s' → r ≡ r'
leading_sum_determined κs a r r' s s' p q = p ∙ sym q

pub piece_count_asks_nothing : (κs : _) (a : _) → piece_count.Asked κs a
piece_count_asks_nothing κs a = tt

pub piece_count_determined : (κs : _) (a : _) (r r' : _) (s s' : _) → piece_count.Post κs a r s → piece_count.Post κs a r' s' → r ≡ r'
piece_count_determined κs a r r' s s' p q = p ∙ sym q

pub mac_asks_nothing : (κs : _) (a : _) → mac.Asked κs a
mac_asks_nothing κs a = tt

pub mac_determined : (κs : _) (a : _) (r r' : _) (s s' : _) → mac.Post κs a r s → mac.Post κs a r' s' → r ≡ r'
mac_determined κs a r r' s s' p q = p ∙ sym q

pub opened_mac_asks_nothing : (κs : _) (a : _) → opened_mac.Asked κs a
opened_mac_asks_nothing κs a = tt

pub opened_mac_determined : (κs : _) (a : _) (r r' : _) (s s' : _) → opened_mac.Post κs a r s → opened_mac.Post κs a r' s' → r ≡ r'
opened_mac_determined κs a r r' s s' p q = p ∙ sym q

pub stream_asks_nothing : (κs : _) (a : _) → stream.Asked κs a
stream_asks_nothing κs a = tt

pub stream_determined : (κs : _) (a : _) (r r' : _) (s s' : _) → stream.Post κs a r s → stream.Post κs a r' s' → s.1.1.1.0.now ≡ s'.1.1.1.0.now
stream_determined κs a r r' s s' p q = p ∙ sym q

-- an output that is shorter than the input stays
pub stream_refused_keeps : (κs : _) (a : _) (r : _) (s : _) → stream.Post κs a r s → length a.1.1.1.0.now < length a.1.1.0.now
    → s.1.1.1.0.now ≡ a.1.1.1.0.now
unfolding streamed_over
stream_refused_keeps κs a r s p h = p ∙ rw (lt-leb (length a.1.1.0.now) (length a.1.1.1.0.now) h)

pub seal_asks_nothing : (κs : _) (a : _) → seal.Asked κs a
seal_asks_nothing κs a = tt

pub seal_determined : (κs : _) (a : _) (r r' : _) (s s' : _) → seal.Post κs a r s → seal.Post κs a r' s'
    → (r ≡ r') × (s.1.1.1.1.0.now ≡ s'.1.1.1.1.0.now)
seal_determined κs a r r' s s' p q =
    let e : r ≡ r' = p.0 ∙ sym q.0 in
    (e, p.1 ∙ rw e (sym q.1))

pub seal_refused_keeps : (κs : _) (a : _) (r : _) (s : _) → seal.Post κs a r s → (ccm_number r ≡ 0 → ⊥)
    → s.1.1.1.1.0.now ≡ a.1.1.1.1.0.now
seal_refused_keeps κs a r s p h = p.1 ∙ seal_keeps r a.0.now a.1.0.now a.1.1.0.now a.1.1.1.0.now a.1.1.1.1.0.now h

pub open_asks_nothing : (κs : _) (a : _) → open_call.Asked κs a
open_asks_nothing κs a = tt

pub open_determined : (κs : _) (a : _) (r r' : _) (s s' : _) → open_call.Post κs a r s → open_call.Post κs a r' s'
    → (r ≡ r') × (s.1.1.1.1.0.now ≡ s'.1.1.1.1.0.now)
open_determined κs a r r' s s' p q =
    let e : r ≡ r' = p.0 ∙ sym q.0 in
    (e, p.1 ∙ rw e (sym q.1))

pub open_refused_keeps : (κs : _) (a : _) (r : _) (s : _) → open_call.Post κs a r s → (ccm_number r ≡ 0 → ⊥)
    → s.1.1.1.1.0.now ≡ a.1.1.1.1.0.now
open_refused_keeps κs a r s p h = p.1 ∙ open_keeps r a.0.now a.1.0.now a.1.1.0.now a.1.1.1.0.now a.1.1.1.1.0.now h

-- ---- demand 2: the answers say what the table says, in its order, and sealing is never refused by 24

pub seal_as_told : (κs : _) (a : _) (r : _) (s : _) → seal.Post κs a r s
    → SealSays a.0.now a.1.0.now a.1.1.0.now a.1.1.1.0.now (length a.1.1.1.1.0.now) r × (ccm_number r ≡ 24 → ⊥)
seal_as_told κs a r s p = (
  subst (SealSays a.0.now a.1.0.now a.1.1.0.now a.1.1.1.0.now (length a.1.1.1.1.0.now)) (sym p.0) (seal_answer_as_told a.0.now a.1.0.now a.1.1.0.now a.1.1.1.0.now a.1.1.1.1.0.now),
  λ e. seal_never_24 a.0.now a.1.0.now a.1.1.0.now a.1.1.1.0.now a.1.1.1.1.0.now (sym (ap ccm_number p.0) ∙ e),
)

pub open_as_told : (κs : _) (a : _) (r : _) (s : _) → open_call.Post κs a r s → OpenSays a.0.now a.1.0.now a.1.1.0.now a.1.1.1.0.now (length a.1.1.1.1.0.now) r
open_as_told κs a r s p = subst (OpenSays a.0.now a.1.0.now a.1.1.0.now a.1.1.1.0.now (length a.1.1.1.1.0.now)) (sym p.0) (open_answer_as_told a.0.now a.1.0.now a.1.1.0.now a.1.1.1.0.now a.1.1.1.1.0.now)

-- where no rule fails, the call is done
pub seal_done : (κs : _) (a : _) (r : _) (s : _) → seal.Post κs a r s → SealFit a.0.now a.1.0.now a.1.1.0.now a.1.1.1.0.now (length a.1.1.1.1.0.now) → ccm_number r ≡ 0
seal_done κs a r s p f = ap ccm_number (p.0 ∙ fit_is_sealed a.0.now a.1.0.now a.1.1.0.now a.1.1.1.0.now a.1.1.1.1.0.now f)

pub open_done : (κs : _) (a : _) (r : _) (s : _) → open_call.Post κs a r s → OpenFit a.0.now a.1.0.now a.1.1.0.now a.1.1.1.0.now (length a.1.1.1.1.0.now) → ccm_number r ≡ 0
open_done κs a r s p f = ap ccm_number (p.0 ∙ fit_is_opened a.0.now a.1.0.now a.1.1.0.now a.1.1.1.0.now a.1.1.1.1.0.now f)

-- the judges, of the answer for the key, the lengths and that of the output: 1, 23, 4
abbrev pub CcmJudged : KeyAnswer → (fitting : Bool) (result room : ℕ) → CcmAnswer → Type 0
CcmJudged key fitting result room CcmDone = (key_number key ≡ 0) × (fitting ≡ true) × (result ≤ room)
CcmJudged key fitting result room CcmKey = key_number key ≡ 0 → ⊥
CcmJudged key fitting result room CcmSize = (key_number key ≡ 0) × (fitting ≡ false)
CcmJudged key fitting result room CcmRoom = (key_number key ≡ 0) × (fitting ≡ true) × (room < result)
CcmJudged key fitting result room WrongTag = ⊥

judged : (key : KeyAnswer) (fitting : Bool) (result room : ℕ) (r : CcmAnswer) → r ≡ ccm_ruled (key_number key) fitting result room CcmDone → CcmJudged key fitting result room r
judged key fitting result room r p =
    subst (CcmJudged key fitting result room) (sym p)
    (ruled_says (key_number key) fitting result room CcmDone (CcmJudged key fitting result room) (λ k. k) (λ k s. (k, s)) (λ k s l. (k, s, l)) (λ k s l. (k, s, l)))

pub judge_seal_as_told : (κs : _) (a : _) (r : _) (s : _) → judge_seal.Post κs a r s
    → CcmJudged a.0 (in_profile a.1.0 a.1.1.0 a.1.1.1.0) (a.1.1.1.0 + 8) a.1.1.1.1.0 r
judge_seal_as_told κs a r s p = judged a.0 (in_profile a.1.0 a.1.1.0 a.1.1.1.0) (a.1.1.1.0 + 8) a.1.1.1.1.0 r p

pub judge_seal_done : (κs : _) (a : _) (r : _) (s : _) → judge_seal.Post κs a r s → key_number a.0 ≡ 0 → in_profile a.1.0 a.1.1.0 a.1.1.1.0 ≡ true
    → a.1.1.1.0 + 8 ≤ a.1.1.1.1.0 → ccm_number r ≡ 0
judge_seal_done κs a r s p k f l = ap ccm_number (p ∙ ruled_through (key_number a.0) (in_profile a.1.0 a.1.1.0 a.1.1.1.0) (a.1.1.1.0 + 8) a.1.1.1.1.0 CcmDone k f l)

pub judge_open_as_told : (κs : _) (a : _) (r : _) (s : _) → judge_open.Post κs a r s
    → CcmJudged a.0 (sealed_in_profile a.1.0 a.1.1.0 a.1.1.1.0) (a.1.1.1.0 - 8) a.1.1.1.1.0 r
judge_open_as_told κs a r s p = judged a.0 (sealed_in_profile a.1.0 a.1.1.0 a.1.1.1.0) (a.1.1.1.0 - 8) a.1.1.1.1.0 r p

pub judge_open_done : (κs : _) (a : _) (r : _) (s : _) → judge_open.Post κs a r s → key_number a.0 ≡ 0 → sealed_in_profile a.1.0 a.1.1.0 a.1.1.1.0 ≡ true
    → a.1.1.1.0 - 8 ≤ a.1.1.1.1.0 → ccm_number r ≡ 0
judge_open_done κs a r s p k f l = ap ccm_number (p ∙ ruled_through (key_number a.0) (sealed_in_profile a.1.0 a.1.1.0 a.1.1.1.0) (a.1.1.1.0 - 8) a.1.1.1.1.0 CcmDone k f l)

-- ---- demands 2 and 3: what a call that fits wrote

done : (r : CcmAnswer) → ccm_number r ≡ 0 → r ≡ CcmDone
done CcmDone e = refl
done CcmKey e = absurd (omega arith)
done CcmSize e = absurd (omega arith)
done CcmRoom e = absurd (omega arith)
done WrongTag e = absurd (omega arith)

front : (p t : List ℕ) (x : List ℕ) → take (length p + 8) x ≡ t → take (length p) x ≡ take (length p) t
front p t x e = sym (take-take (length p) (length p + 8) x (omega arith)) ∙ ap (take (length p)) e

module _ (κs : _) (a : _) (r : _) (s : _) (p : seal.Post κs a r s) (fit : SealFit a.0.now a.1.0.now a.1.1.0.now a.1.1.1.0.now (length a.1.1.1.1.0.now))
    (bytes_nonce : Bytes a.1.0.now) (bytes_ad : Bytes a.1.1.0.now) (bytes : Bytes a.1.1.1.0.now) where
  left : s.1.1.1.1.0.now ≡ after_seal a.0.now a.1.0.now a.1.1.0.now a.1.1.1.0.now a.1.1.1.1.0.now
  left = p.1 ∙ ap (λ (x : CcmAnswer). seal_output x a.0.now a.1.0.now a.1.1.0.now a.1.1.1.0.now a.1.1.1.1.0.now) p.0

  -- ciphertext and tag of its message under its key, nonce and associated data, and the rest as it was
  pub seal_is_sp_800_38c : (take (length a.1.1.1.0.now + 8) s.1.1.1.1.0.now ≡ sealed (aes_of a.0.now) a.1.0.now a.1.1.0.now a.1.1.1.0.now)
      × (drop (length a.1.1.1.0.now + 8) s.1.1.1.1.0.now ≡ drop (length a.1.1.1.0.now + 8) a.1.1.1.1.0.now)
  seal_is_sp_800_38c =
      let n = length a.1.1.1.0.now + 8 in
      let w = message_is_sealed a.0.now a.1.0.now a.1.1.0.now a.1.1.1.0.now fit.key_taken bytes_nonce bytes_ad bytes fit.fits a.1.1.1.1.0.now fit.roomy in
      (ap (take n) left ∙ w.1, ap (drop n) left ∙ w.2)

  -- piece i of what it wrote is piece i of the message added to the cipher of counter block i + 1
  pub seal_by_pieces : (i : ℕ) → i * 16 < length a.1.1.1.0.now
      → piece 16 (take (length a.1.1.1.0.now) s.1.1.1.1.0.now) i ≡ piece 16 a.1.1.1.0.now i ⊕ (aes_of a.0.now).enc (counter a.1.0.now (suc i))
  unfolding sealed
  seal_by_pieces i h =
      let m = a.1.1.1.0.now in
      let c = aes_of a.0.now in
      let l = key_lawful a.0.now fit.key_taken in
      let o = octets_of a.1.0.now a.1.1.0.now m fit.fits bytes_nonce in
      let e : take (length m) s.1.1.1.1.0.now ≡ streamed c a.1.0.now m =
      front m (sealed c a.1.0.now a.1.1.0.now m) s.1.1.1.1.0.now seal_is_sp_800_38c.0
      ∙ take_at (streamed c a.1.0.now m) (tag c a.1.0.now a.1.1.0.now m ⊕ mask c a.1.0.now) (length m) (streamed_length a.1.0.now o c l m) in
      ap (λ (x : List ℕ). piece 16 x i) e ∙ ciphertext_pieces c l a.1.0.now o m i h

  -- `open` under the same key, nonce and associated data over what it wrote, into an output that has room, is done, and hands out what `seal` was given
  pub open_undoes_seal : (κs' : _) (a' : _) (r' : _) (s' : _) → open_call.Post κs' a' r' s'
      → a'.0.now ≡ a.0.now → a'.1.0.now ≡ a.1.0.now → a'.1.1.0.now ≡ a.1.1.0.now
      → a'.1.1.1.0.now ≡ take (length a.1.1.1.0.now + 8) s.1.1.1.1.0.now → length a.1.1.1.0.now ≤ length a'.1.1.1.1.0.now
      → (ccm_number r' ≡ 0)
      × (take (length a.1.1.1.0.now) s'.1.1.1.1.0.now ≡ a.1.1.1.0.now)
      × (drop (length a.1.1.1.0.now) s'.1.1.1.1.0.now ≡ drop (length a.1.1.1.0.now) a'.1.1.1.1.0.now)
  open_undoes_seal κs' a' r' s' q same_key same-nonce same-ad offered room =
      let key = a.0.now in
      let nonce = a.1.0.now in
      let ad = a.1.1.0.now in
      let m = a.1.1.1.0.now in
      let out = a.1.1.1.1.0.now in
      let out' = a'.1.1.1.1.0.now in
      let n = length m in
      let d = take (n + 8) (after_seal key nonce ad m out) in
      let e : a'.1.1.1.0.now ≡ d = offered ∙ ap (take (n + 8)) left in
      let answer : r' ≡ open_answer key nonce ad d out' = q.0 ∙ rw (same_key, same-nonce, same-ad, e) in
      let output : s'.1.1.1.1.0.now ≡ after_open key nonce ad d out' = q.1 ∙ rw (same_key, same-nonce, same-ad, e, answer) in
      let w = open_after_seal key nonce ad m fit.key_taken bytes_nonce bytes_ad bytes fit.fits out out' fit.roomy room in
      (ap ccm_number (answer ∙ w.0), ap (take n) output ∙ w.1, ap (drop n) output ∙ w.2)

module _ (κs : _) (a : _) (r : _) (s : _) (p : open_call.Post κs a r s)
    (bytes_nonce : Bytes a.1.0.now) (bytes_ad : Bytes a.1.1.0.now) (bytes : Bytes a.1.1.1.0.now) where
  -- `open`, under a key that is taken and with room, accepts exactly messages of the profile that were sealed with that key, nonce and associated data
  pub open_accepts_exactly : KeyTaken a.0.now → length a.1.1.1.0.now ≤ length a.1.1.1.1.0.now + 8
      → (ccm_number r ≡ 0 → SealedOf a.0.now a.1.0.now a.1.1.0.now a.1.1.1.0.now) × (SealedOf a.0.now a.1.0.now a.1.1.0.now a.1.1.1.0.now → ccm_number r ≡ 0)
  open_accepts_exactly taken room =
      let x = accepted_exactly_sealed a.0.now a.1.0.now a.1.1.0.now a.1.1.1.0.now a.1.1.1.1.0.now bytes_nonce bytes_ad bytes taken room in
      (λ z. x.0 (sym p.0 ∙ done r z), λ y. ap ccm_number (p.0 ∙ x.1 y))

  -- and hands out the message that was sealed
  pub open_hands_out : ccm_number r ≡ 0 → (x : SealedOf a.0.now a.1.0.now a.1.1.0.now a.1.1.1.0.now)
      → (length x.message + 8 ≡ length a.1.1.1.0.now)
      × (take (length x.message) s.1.1.1.1.0.now ≡ x.message)
      × (drop (length x.message) s.1.1.1.1.0.now ≡ drop (length x.message) a.1.1.1.1.0.now)
  open_hands_out z x =
      let output : s.1.1.1.1.0.now ≡ after_open a.0.now a.1.0.now a.1.1.0.now a.1.1.1.0.now a.1.1.1.1.0.now = p.1 ∙ ap (λ (y : CcmAnswer). open_output y a.0.now a.1.0.now a.1.1.0.now a.1.1.1.0.now a.1.1.1.1.0.now) p.0 in
      let w = accepted_message_is_handed_out a.0.now a.1.0.now a.1.1.0.now a.1.1.1.0.now a.1.1.1.1.0.now bytes_nonce bytes_ad bytes (sym p.0 ∙ done r z) x in
      (w.0, ap (take (length x.message)) output ∙ w.1, ap (drop (length x.message)) output ∙ w.2)

  -- of what it accepted, damage inside the tag alone is refused by 24: another call with the same key, nonce, associated data, ciphertext and room
  pub open_refuses_a_damaged_tag : ccm_number r ≡ 0 → (κs' : _) (a' : _) (r' : _) (s' : _) → open_call.Post κs' a' r' s'
      → a'.0.now ≡ a.0.now → a'.1.0.now ≡ a.1.0.now → a'.1.1.0.now ≡ a.1.1.0.now → a'.1.1.1.1.0.now ≡ a.1.1.1.1.0.now
      → Bytes a'.1.1.1.0.now → length a'.1.1.1.0.now ≡ length a.1.1.1.0.now
      → take (length a.1.1.1.0.now - 8) a'.1.1.1.0.now ≡ take (length a.1.1.1.0.now - 8) a.1.1.1.0.now
      → (a'.1.1.1.0.now ≡ a.1.1.1.0.now → ⊥) → ccm_number r' ≡ 24
  open_refuses_a_damaged_tag z κs' a' r' s' q same_key same-nonce same-ad same-room b n body apart =
      let w = damaged_tag_is_refused a.0.now a.1.0.now a.1.1.0.now a.1.1.1.0.now a.1.1.1.1.0.now bytes_nonce bytes_ad bytes (sym p.0 ∙ done r z) a'.1.1.1.0.now b n body apart in
      let e : open_answer a'.0.now a'.1.0.now a'.1.1.0.now a'.1.1.1.0.now a'.1.1.1.1.0.now ≡ WrongTag = rw (same_key, same-nonce, same-ad, same-room) w in
      ap ccm_number (q.0 ∙ e)
