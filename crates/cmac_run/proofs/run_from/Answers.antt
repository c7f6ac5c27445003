use mathlib.Core.Path.{refl, ap, ◌∙◌}
use Prim.Native.Nat.{ℕ, ◌*◌, ◌/◌}
use lib.ListN.{length}
use native.Mathlib.Omega.{arith}
use Rattle.aes_spec.specs.Cipher.{standard}
use Rattle.cmac_spec.proofs.Filling.{to_end}
use Rattle.cmac_run.proofs.Laws.{taken_holding, chained_part}
use Rattle.cmac_run.proofs.run_from.Goals as goal

pub returns : goal.returns
returns c =
    let a = c.args in
    let b = c.saturating_sub in
    let n = b.result / 16 in
    let e = standard a.schedule.now.words a.schedule.now.rounds in
    taken_holding e a.chain a.part.now n _ _ _ (ap (λ (k : ℕ). k / 16) b.ensures)
    (c.chained.ensures ∙ chained_part e a.chain a.part.now n (n * 16) (omega (arith, b.ensures)) refl) (to_end a.part.now (n * 16)) c.piece_filled.ensures
