-- The words of a key that are put over zeros are those of its schedule. Assumes nothing.
use mathlib.Core.Path.{◌≡◌, ap, ◌∙◌}
use mathlib.Core.Bool.{true}
use mathlib.Core.List.{List}
use mathlib.Core.Logic.{⊎_elim}
use Prim.Native.Nat.{ℕ, ◌+◌, ◌*◌, ◌/◌, ◌≤◌, ◌<◌}
use native.Mathlib.Omega.{arith}
use lib.ListN.{length, replicate}
use Rattle.octets.specs.Octets.{tabulate, pad_to, entry}
use Rattle.aes_sbox.specs.Sbox.{s_box}
use Rattle.aes_sbox.proofs.Laws.{entry_table}
use Rattle.aes_expand.specs.Expansion.{key_expansion, expanded_over}
use Rattle.aes_expand.proofs.Laws.{expansion_same, expanded-over, over_zeros}
use Rattle.rijndael_spec.specs.Rijndael.{shape_of, key_words, rounds_of, expanded, takes_key}
use Rattle.rijndael_spec.specs.declared.Width.{Width}
use Rattle.rijndael_spec.specs.declared.Width.TheVariants.{Six, Eight}
use Rattle.rijndael_spec.proofs.Laws.{key_sizes, words_room}

pub columns_few : (v : Width) → (5 < (shape_of v).columns) × ((shape_of v).columns < 9)
columns_few Six = (omega arith, omega arith)
columns_few Eight = (omega arith, omega arith)

pub words_few : (n : ℕ) → takes_key n ≡ true → (0 < n / 4) × (n / 4 < 9) × (n / 4 * 4 ≤ n)
words_few n e =
    ⊎_elim (λ k. (omega arith, omega arith, omega arith))
    (⊎_elim (λ k. (omega arith, omega arith, omega arith)) (λ k. (omega arith, omega arith, omega arith))) (key_sizes n e)

pub put_words : (v : Width) (key t : List ℕ) → takes_key (length key) ≡ true → t ≡ tabulate 256 s_box
    → expanded_over (entry t) key (key_words key) ((shape_of v).columns * (rounds_of (key_words key) (shape_of v).columns + 1)) (replicate 120 0)
    ≡ pad_to 120 (expanded (shape_of v) key)
unfolding expanded
put_words v key t e f =
    let n = (shape_of v).columns * (rounds_of (key_words key) (shape_of v).columns + 1) in
    let k = words_few (length key) e in
    rw f
    (expanded-over (entry (tabulate 256 s_box)) key (key_words key) n (replicate 120 0) k.0 k.2 (words_room key e v)
    ∙ over_zeros 120 (key_expansion (entry (tabulate 256 s_box)) key (key_words key) n)
    ∙ ap (pad_to 120) (expansion_same (entry (tabulate 256 s_box)) s_box (entry_table s_box) key (key_words key) n))
