use mathlib.Core.Path.{ap, ◌∙◌}
use mathlib.Core.Bool.{Bool, ◌&&◌}
use mathlib.Core.List.{[]}
use Rattle.cmac_subkeys.specs.declared.Subkeys.{Subkeys}
use Rattle.image_spec.specs.KeyPair.{usable, rounds_of}
use Rattle.image_spec.proofs.Agree.{checks_same}
use Rattle.image_receiver_block.proofs.checked.Goals as goal

pub returns : goal.returns
returns c =
    let k = c.args.keys.now in
    let e = c.new-subkeys.ensures in
    c.check_holds.ensures
    ∙ ap (λ (t : Bool). usable (rounds_of k) && t) (checks_same k.chk.words k.chk.rounds _ _ (ap (λ (x : Subkeys). x.key1) e) (ap (λ (x : Subkeys). x.key2) e) [] c.args.block.now)
