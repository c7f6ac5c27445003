-- A word twice in a row, shifted, is the word turned; and so is a byte's entry. Assumes nothing.
use mathlib.Core.Path.{◌≡◌, sym, ap, ◌∙◌}
use mathlib.Core.List.{List}
use Prim.Native.Nat.{ℕ, zero, suc, ◌+◌, ◌-◌, ◌*◌, ◌/◌, ◌%◌, ◌^◌, ◌<◌}
use native.Mathlib.Omega.{arith}
use Rattle.octets.specs.Octets.{entry}
use Rattle.octets.specs.Words.{byte}
use Rattle.octets.proofs.Words.{byte_lt}
use Rattle.octets.proofs.Arms.{arm_within}
use Rattle.aes_words.proofs.Rotate.{rot_one_code, rot_two_code, rot_three_code}
use Rattle.aes_model.specs.Turned.{turned}
use Rattle.octets.specs.Model.{arm, twice}

low : (p q : ℕ) → q < 4294967296 → (p * 4294967296 + q) % 4294967296 ≡ q
low p q h = omega arith

pub turn_law : (k x : ℕ) → k < 4 → x < 4294967296 → twice x / 2 ^ (8 * k) % 4294967296 ≡ turned k x
turn_law zero x l h = omega arith
turn_law (suc zero) x l h =
    let a : (x * 4294967296 + x) / 256 ≡ x / 256 * 4294967296 + (x / 256 + x % 256 * 16777216) = omega arith in
    let b : x / 256 + x % 256 * 16777216 < 4294967296 = omega arith in
    ap (λ (z : ℕ). z % 4294967296) a ∙ low (x / 256) (x / 256 + x % 256 * 16777216) b ∙ rot_three_code x h
turn_law (suc (suc zero)) x l h =
    let a : (x * 4294967296 + x) / 65536 ≡ x / 65536 * 4294967296 + (x / 65536 + x % 65536 * 65536) = omega arith in
    let b : x / 65536 + x % 65536 * 65536 < 4294967296 = omega arith in
    ap (λ (z : ℕ). z % 4294967296) a ∙ low (x / 65536) (x / 65536 + x % 65536 * 65536) b ∙ rot_two_code x h
turn_law (suc (suc (suc zero))) x l h =
    let a : (x * 4294967296 + x) / 16777216 ≡ x / 16777216 * 4294967296 + (x / 16777216 + x % 16777216 * 256) = omega arith in
    let b : x / 16777216 + x % 16777216 * 256 < 4294967296 = omega arith in
    ap (λ (z : ℕ). z % 4294967296) a ∙ low (x / 16777216) (x / 16777216 + x % 16777216 * 256) b ∙ rot_one_code x h
turn_law (suc (suc (suc (suc k)))) x l h = absurd (omega arith)

-- the byte that the code takes out
taken : (k x : ℕ) → k < 4 → x / 2 ^ (24 - 8 * k) % 256 + 256 - 256 ≡ byte k x
taken zero x l = omega arith
taken (suc zero) x l = omega arith
taken (suc (suc zero)) x l = omega arith
taken (suc (suc (suc zero))) x l = omega arith
taken (suc (suc (suc (suc k)))) x l = absurd (omega arith)

pub taken_law : (k x : ℕ) → k < 4 → arm (x / 2 ^ (24 - 8 * k) % 256 + 256) ≡ byte k x
taken_law k x l = arm_within (x / 2 ^ (24 - 8 * k) % 256 + 256) (omega arith) (omega arith) ∙ taken k x l

-- a list of words, each below 2^32, that holds what a rule says of each byte
pub row_law : (list : List ℕ) (rule : ℕ → ℕ) → ((k : ℕ) → k < 256 → entry list k ≡ rule k) → ((k : ℕ) → k < 256 → entry list k < 4294967296)
    → (k x y : ℕ) → k < 4 → y ≡ twice (entry list (arm (x / 2 ^ (24 - 8 * k) % 256 + 256)))
    → y / 2 ^ (8 * k) % 4294967296 ≡ turned k (rule (byte k x))
row_law list rule is lt k x y l e =
    ap (λ (z : ℕ). z / 2 ^ (8 * k) % 4294967296) (e ∙ ap (λ (z : ℕ). twice (entry list z)) (taken_law k x l))
    ∙ turn_law k (entry list (byte k x)) l (lt (byte k x) (byte_lt k x))
    ∙ ap (turned k) (is (byte k x) (byte_lt k x))

-- a list of bytes that holds what a rule says
pub last_row_law : (list : List ℕ) (rule : ℕ → ℕ) → ((k : ℕ) → k < 256 → entry list k ≡ rule k)
    → (k x y : ℕ) → k < 4 → y ≡ entry list (arm (x / 2 ^ (24 - 8 * k) % 256 + 256)) → y ≡ rule (byte k x)
last_row_law list rule is k x y l e = e ∙ ap (entry list) (taken_law k x l) ∙ is (byte k x) (byte_lt k x)
