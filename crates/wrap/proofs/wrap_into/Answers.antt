use Rattle.octets_slice.proofs.Laws.{copied_fits}
use lib.ListN.{length}
use Prim.Native.Nat.{◌+◌}
use mathlib.Core.Path.{◌∙◌, refl}
use Rattle.aes_spec.specs.Cipher.{standard}
use Rattle.wrap.proofs.Building.{wrapped_over}
use native.Mathlib.Omega.{arith}
use Rattle.wrap.proofs.wrap_into.Goals as goal

pub returns : goal.returns
returns c =
    let ps = c.passes in
    let c2 = c.put_data in
    let c1 = c.copy in
    let a = c.args in
    wrapped_over (standard a.schedule.now.words a.schedule.now.rounds) a.given.now a.output.now c.requires.0 c.requires.1 c.requires.2 (length a.given.now + 8) refl _ _ _ _ (c1.ensures ∙ copied_fits _ 0 a.output.now (omega (arith, c.requires.3))) c2.ensures ps.ensures ps.auto.w refl

pub put_data-requires : goal.put_data-requires
put_data-requires c = omega (arith, c.requires.3, c.copy.auto.w)
