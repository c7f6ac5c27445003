-- What the rule on lengths says. Assumes nothing.
use mathlib.Core.Path.{◌≡◌, refl}
use mathlib.Core.Bool.{Bool, true, false, ◌&&◌}
use Prim.Native.Nat.{ℕ, ◌-◌, ◌≤◌}
use borrow.Author.Tests.{leb-true, eqb-true, eq-eqb, le-leb}
use lib.Dec.{eqb, leb}
use Rattle.octets.proofs.Both.{and_true}
use Rattle.ccm_answer.specs.Answers.{in_profile, sealed_in_profile, ccm_ruled}
use Rattle.ccm_answer.specs.declared.CcmAnswer.{CcmAnswer}

pub profile_parts : (nonce ad len : ℕ) → in_profile nonce ad len ≡ true → (nonce ≡ 13) × (ad ≤ 64) × (len ≤ 1024)
profile_parts nonce ad len e =
    let t = and_true (eqb nonce 13) (leb ad 64 && leb len 1024) e in
    let u = and_true (leb ad 64) (leb len 1024) t.1 in
    (eqb-true nonce 13 t.0, leb-true ad 64 u.0, leb-true len 1024 u.1)

pub profile_right : (nonce ad len : ℕ) → nonce ≡ 13 → ad ≤ 64 → len ≤ 1024 → in_profile nonce ad len ≡ true
profile_right nonce ad len e a l = rw (eq-eqb nonce 13 e, le-leb ad 64 a, le-leb len 1024 l)

pub sealed_parts : (nonce ad len : ℕ) → sealed_in_profile nonce ad len ≡ true → (8 ≤ len) × (in_profile nonce ad (len - 8) ≡ true)
sealed_parts nonce ad len e = let t = and_true (leb 8 len) (in_profile nonce ad (len - 8)) e in (leb-true 8 len t.0, t.1)

pub sealed_right : (nonce ad len : ℕ) → 8 ≤ len → in_profile nonce ad (len - 8) ≡ true → sealed_in_profile nonce ad len ≡ true
sealed_right nonce ad len l e = rw (le-leb 8 len l) e

-- what the result takes counts only where the lengths are in the profile
pub ruled_alike : (key : ℕ) (size : Bool) (a b out : ℕ) (answer : CcmAnswer) → (size ≡ true → a ≡ b) → ccm_ruled key size a out answer ≡ ccm_ruled key size b out answer
unfolding ccm_ruled
ruled_alike key true a b out answer h = rw (h refl)
ruled_alike key false a b out answer h = refl
