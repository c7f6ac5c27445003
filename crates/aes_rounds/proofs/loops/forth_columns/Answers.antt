use Prim.Native.Nat.{◌*◌}
use mathlib.Core.Path.{◌≡◌, refl}
use native.Mathlib.Omega.{arith}
use borrow.Author.Rules.{rules}
use Rattle.octets.specs.Octets.{xor}
use Rattle.aes_rounds.proofs.Filled.{round_none, round_more, round_all}
use Rattle.aes_mix.specs.Mixing.{mix_column}
use Rattle.aes_state.proofs.Keyed.{keyed_is}
use Rattle.aes_rounds.specs.Model.{sub_shifted}
use Rattle.aes_rounds.proofs.Rounds.{round_law}
use Rattle.aes_rounds.proofs.loops.forth_columns.Goals as goal

pub loop-m-init : goal.loop-m-init
loop-m-init c = (search rules, round_none _ _ refl)

pub loop-m-preserved : goal.loop-m-preserved
unfolding xor
loop-m-preserved c = let a = c.args in
    let l = c.loop-m in
    let f = c.forth_column in
    let i = c.first_word-first.result.0 in
    let e : i ≡ 4 * a.n = omega arith in
    (search rules, round_more l.invariant.1 (search rules) _ (keyed_is a.schedule.now.words a.n (λ k. mix_column (sub_shifted a.t k)) i _ f.result e f.ensures))

pub returns : goal.returns
returns c = let a = c.args in
    let l = c.loop-m in
    round_law a.schedule.now.words a.n a.t l.u (search rules) (round_all l.invariant.1 (search rules))
