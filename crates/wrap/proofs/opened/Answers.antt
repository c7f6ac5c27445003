use Rattle.octets_slice.proofs.Laws.{copied_fits}
use lib.ListN.{length}
use mathlib.Core.Path.{◌∙◌, refl}
use Rattle.aes_spec.specs.Model.{one_way}
use Rattle.wrap.proofs.Building.{opened_by, opened_size}
use native.Mathlib.Omega.{arith}
use Rattle.wrap.proofs.opened.Goals as goal

pub returns : goal.returns
returns c =
    let u = c.unpasses in
    let cp = c.copy in
    let a = c.args in
    let k = one_way a.schedule.now.words a.schedule.now.rounds in record {
      registers = opened_by k a.given.now c.requires.0 c.requires.1 c.requires.2 (length a.given.now) refl _ _ _ (cp.ensures ∙ copied_fits a.given.now 0 _ (omega (arith, c.requires.1))) u.ensures u.auto.w refl;
      size = opened_size k a.given.now c.requires.0 c.requires.1 c.requires.2 (length a.given.now) refl _ _ _ (cp.ensures ∙ copied_fits a.given.now 0 _ (omega (arith, c.requires.1))) u.ensures u.auto.w refl;
    }
