use Prim.Native.Nat.{ℕ, ◌+◌, ◌-◌}
use mathlib.Core.Path.{◌≡◌, ap, ap₂, ◌∙◌}
use mathlib.Core.List.{List}
use native.Mathlib.Omega.{arith}
use borrow.Author.Rules.{rules}
use Rattle.octets.specs.Words.{bytes_of}
use Rattle.aes_sbox.specs.Sbox.{s_box}
use Rattle.aes_spec.specs.State.{aes}
use Rattle.aes_spec.specs.Cipher.{one_round, rounds}
use Rattle.aes_rounds.proofs.Rounds.{rounds_none, rounds_next}
use Rattle.aes_rounds.proofs.loops.forth.Goals as goal

pub loop-n-init : goal.loop-n-init
loop-n-init c = (search rules, rounds_none _ _)

pub loop-n-preserved : goal.loop-n-preserved
loop-n-preserved c = let w = c.args.schedule.now.words in
    let s = bytes_of c.add_round_key-t.result in
    let l = c.loop-n in
    let back : l.n ≡ l.n + 1 - 1 = omega arith in (
      search rules,
      c.forth_columns-u.ensures ∙ ap (one_round aes s_box w l.n) l.invariant.1 ∙ rounds_next w s l.n (search rules)
          ∙ ap (λ (i : ℕ). rounds aes s_box w i s) back,
    )

pub returns : goal.returns
returns c = let l = c.loop-n in
    let a = c.args in
    let e : l.n ≡ a.schedule.now.rounds = omega arith in
    l.invariant.1 ∙ ap₂ (λ (i : ℕ) (x : List ℕ). rounds aes s_box a.schedule.now.words (i - 1) x) e c.add_round_key-t.ensures
