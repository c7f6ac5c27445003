use Prim.Native.Nat.{ℕ, ◌-◌}
use mathlib.Core.Path.{◌≡◌, refl, sym, ap, ◌∙◌}
use native.Mathlib.Omega.{arith}
use borrow.Author.Rules.{rules}
use Rattle.octets.specs.Words.{bytes_of}
use Rattle.aes_sbox.specs.Sbox.{inv_s_box}
use Rattle.aes_spec.specs.State.{aes}
use Rattle.aes_spec.specs.Model.{eq_rounds}
use Rattle.aes_rounds_inverse.proofs.Rounds.{rounds_none, rounds_next}
use Rattle.aes_rounds_inverse.proofs.loops.back.Goals as goal

pub loop-n-init : goal.loop-n-init
loop-n-init c = (search rules, refl)

pub loop-n-preserved : goal.loop-n-preserved
loop-n-preserved c = let w = c.args.schedule.now.words in
    let l = c.loop-n in (
      omega arith,
      ap (eq_rounds aes inv_s_box w (l.n - 1 - 1)) c.back_columns-u.ensures ∙ rounds_next w (bytes_of l.t) (l.n - 1) (omega arith) ∙ l.invariant.1,
    )

pub returns : goal.returns
returns c = let l = c.loop-n in
    let s = c.args.schedule.now in
    let e : 0 ≡ l.n - 1 = omega arith in
    sym (rounds_none s.words (bytes_of l.t)) ∙ ap (λ (i : ℕ). eq_rounds aes inv_s_box s.words i (bytes_of l.t)) e
    ∙ l.invariant.1 ∙ ap (eq_rounds aes inv_s_box s.words (s.rounds - 1)) c.add_round_key-t.ensures
