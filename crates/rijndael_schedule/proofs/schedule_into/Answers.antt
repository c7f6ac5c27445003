use mathlib.Core.Path.{sym, ap, ap₂, ◌∙◌}
use Prim.Native.Nat.{ℕ, ◌+◌, ◌*◌, ◌/◌, max}
use native.Mathlib.Omega.{arith}
use lib.ListN.{length, replicate}
use Rattle.octets.specs.Octets.{entry}
use Rattle.aes_expand.specs.Expansion.{expanded_over}
use Rattle.rijndael_spec.specs.Rijndael.{key_words, wide_words, wide_rounds}
use Rattle.rijndael_schedule.proofs.Laws.{columns_few, words_few, put_words}
use Rattle.rijndael_schedule.proofs.schedule_into.Goals as goal

pub overflow_add-rounds : goal.overflow_add-rounds
overflow_add-rounds c = let b = c in
    let a = b.args in
    let few = words_few (length a.key.now) (sym b.takes_key.ensures ∙ b.if-takes_key.true) in
    omega (arith, few.1, (columns_few a.width).1, c.columns-nb.ensures, c.larger-rounds.ensures)

pub returns-then-takes_key : goal.returns-then-takes_key
unfolding wide_words wide_rounds
returns-then-takes_key c = let b = c in
    let a = b.args in
    let key = a.key.now in
    let known = sym b.takes_key.ensures ∙ b.if-takes_key.true in
    let nb = c.columns-nb.ensures in
    let r = c.larger-rounds.ensures ∙ ap (max (length key / 4)) nb in (
      rw known (ap (6 +◌) r),
      rw known (c.expand_into.ensures
          ∙ ap₂ (λ (m x : ℕ). expanded_over (entry c.table-sbox.result) key (key_words key) (m * (6 + x + 1)) (replicate 120 0)) nb r
          ∙ put_words a.width key c.table-sbox.result known c.table-sbox.ensures),
    )

pub returns : goal.returns
unfolding wide_words wide_rounds
returns c = let known = sym c.takes_key.ensures ∙ c.if-takes_key.false in
    (rw known, rw known)
