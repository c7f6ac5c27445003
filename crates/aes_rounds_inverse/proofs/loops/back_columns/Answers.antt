use Prim.Native.Nat.{◌*◌}
use mathlib.Core.Path.{◌≡◌, refl}
use native.Mathlib.Omega.{arith}
use borrow.Author.Rules.{rules}
use Rattle.octets.specs.Octets.{xor}
use Rattle.octets.proofs.Fill.{filled_none, filled_more, filled_all}
use Rattle.aes_mix.specs.Mixing.{inv_mix_column}
use Rattle.aes_state.proofs.Keyed.{keyed_is}
use Rattle.aes_rounds_inverse.specs.Model.{inv_sub_shifted}
use Rattle.aes_rounds_inverse.proofs.Rounds.{round_law}
use Rattle.aes_rounds_inverse.proofs.loops.back_columns.Goals as goal

pub loop-j-init : goal.loop-j-init
loop-j-init c = (search rules, filled_none 4 _ _ refl)

pub loop-j-preserved : goal.loop-j-preserved
unfolding xor
loop-j-preserved c = let a = c.args in
    let l = c.loop-j in
    let f = c.back_column in
    let i = c.first_word-first.result.0 in
    let e : i ≡ 4 * a.n = omega arith in
    (search rules, filled_more l.invariant.1 (search rules) _ (keyed_is a.schedule.now.words a.n (λ k. inv_mix_column (inv_sub_shifted a.t k)) i l.j f.result e f.ensures))

pub returns : goal.returns
returns c = let a = c.args in
    let l = c.loop-j in
    round_law a.schedule.now.words a.n a.t l.u (search rules) (filled_all l.invariant.1 (search rules))
