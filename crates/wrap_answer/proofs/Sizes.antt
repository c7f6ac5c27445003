-- What the rules on lengths say. Assumes nothing.
use mathlib.Core.Path.{◌≡◌, refl}
use mathlib.Core.Bool.{Bool, true, false, ◌&&◌}
use Prim.Native.Nat.{ℕ, ◌%◌, ◌≤◌}
use borrow.Author.Tests.{leb-true, eqb-true, le-leb}
use lib.Dec.{eqb, leb}
use Rattle.octets.proofs.Both.{and_true}
use Rattle.wrap_answer.specs.Answers.{wrapped_size_fits, size_fits_of, wrap_ruled}
use Rattle.wrap_answer.specs.declared.WrapAnswer.{WrapAnswer}

pub wrapped_size_parts : (n : ℕ) → wrapped_size_fits n ≡ true → (24 ≤ n) × (n ≤ 72) × (n % 8 ≡ 0)
wrapped_size_parts n e =
    let t = and_true (leb 24 n) (leb n 72 && eqb (n % 8) 0) e in
    let u = and_true (leb n 72) (eqb (n % 8) 0) t.1 in
    (leb-true 24 n t.0, leb-true n 72 u.0, eqb-true (n % 8) 0 u.1)

pub wrapped_size_right : (n : ℕ) → 24 ≤ n → n ≤ 72 → n % 8 ≡ 0 → wrapped_size_fits n ≡ true
wrapped_size_right n l h e = rw (le-leb 24 n l, le-leb n 72 h, e)

pub size_parts : (n : ℕ) → size_fits_of n ≡ true → (16 ≤ n) × (n ≤ 64) × (n % 8 ≡ 0)
size_parts n e =
    let t = and_true (leb 16 n) (leb n 64 && eqb (n % 8) 0) e in
    let u = and_true (leb n 64) (eqb (n % 8) 0) t.1 in
    (leb-true 16 n t.0, leb-true n 64 u.0, eqb-true (n % 8) 0 u.1)

pub size_right : (n : ℕ) → 16 ≤ n → n ≤ 64 → n % 8 ≡ 0 → size_fits_of n ≡ true
size_right n l h e = rw (le-leb 16 n l, le-leb n 64 h, e)

-- what the result takes counts only where the length of the data is in the rule
pub ruled_alike : (key : ℕ) (size : Bool) (a b out : ℕ) (answer : WrapAnswer) → (size ≡ true → a ≡ b) → wrap_ruled key size a out answer ≡ wrap_ruled key size b out answer
unfolding wrap_ruled
ruled_alike key true a b out answer h = rw (h refl)
ruled_alike key false a b out answer h = refl
