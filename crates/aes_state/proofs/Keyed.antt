-- Four words with a round key added, and the columns of a substitution. Assumes nothing.
use mathlib.Core.Path.{◌≡◌, refl, sym, ap, ◌∙◌}
use mathlib.Core.List.{List}
use Prim.Native.Nat.{ℕ, ◌+◌, ◌*◌, ◌<◌}
use native.Mathlib.Nat.{add-zero}
use lib.ListN.{length, get_or}
use Rattle.octets.specs.Octets.{xor, tabulate}
use Rattle.octets.specs.Words.{byte, bytes_of}
use Rattle.octets.proofs.Words.{byte_lt}
use Rattle.octets.proofs.Fill.{is_tabulate}
use Rattle.aes_words.specs.Columns.{diagonal, IsDiagonal}
use Rattle.aes_words.proofs.Rotate.{is_diagonal}
use Rattle.aes_spec.specs.State.{aes, add_round_key}
use Rattle.aes_state.proofs.ByColumns.{four, same_four, add_law}

-- four words, one by one
pub words_four : (t : List ℕ) → length t ≡ 4 → four (get_or t 0 0) (get_or t 1 0) (get_or t 2 0) (get_or t 3 0) ≡ bytes_of t
words_four t e = ap bytes_of (sym (is_tabulate 4 (λ k. get_or t k 0) t e (λ k h. refl)))

pub substituted : (sub : ℕ → ℕ) → ((k : ℕ) → k < 256 → sub k < 256) → (a b c d : ℕ) → IsDiagonal sub a b c d (diagonal sub a b c d)
substituted sub lt a b c d =
    is_diagonal sub a b c d _ (lt (byte 0 a) (byte_lt 0 a)) (lt (byte 1 b) (byte_lt 1 b)) (lt (byte 2 c) (byte_lt 2 c)) (lt (byte 3 d) (byte_lt 3 d)) refl

-- word j of four, f j, with word j of round key n added
pub keyed : List ℕ → ℕ → (ℕ → ℕ) → ℕ → ℕ
keyed w n f j = xor (f j) (get_or w (4 * n + j) 0)

pub keyed_is : (w : List ℕ) (n : ℕ) (f : ℕ → ℕ) (i j r : ℕ) → i ≡ 4 * n → r ≡ f j → xor r (get_or w (i + j) 0) ≡ keyed w n f j
unfolding keyed
keyed_is w n f i j r e h = rw (e, h)

pub keyed_law : (w : List ℕ) (n : ℕ) (f : ℕ → ℕ) → bytes_of (tabulate 4 (keyed w n f)) ≡ add_round_key aes w n (four (f 0) (f 1) (f 2) (f 3))
unfolding keyed
keyed_law w n f = same_four (ap (λ (i : ℕ). xor (f 0) (get_or w i 0)) (add-zero (4 * n))) refl refl refl ∙ add_law w n (f 0) (f 1) (f 2) (f 3)
