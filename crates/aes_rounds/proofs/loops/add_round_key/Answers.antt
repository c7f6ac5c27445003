use mathlib.Core.Path.{◌≡◌}
use Prim.Native.Nat.{◌*◌}
use native.Mathlib.Omega.{arith}
use Rattle.octets.specs.Octets.{xor}
use Rattle.aes_state.proofs.ByColumns.{add_law}
use Rattle.aes_rounds.proofs.loops.add_round_key.Goals as goal

pub returns : goal.returns
unfolding xor
returns c = let a = c.args in
    let e : c.first_word-first.result.0 ≡ 4 * a.n.0 = omega arith in
    rw e (add_law a.schedule.now.words a.n.0 a.s.0 a.s.1 a.s.2 a.s.3)
