use mathlib.Core.Path.{◌≡◌}
use Prim.Native.Nat.{◌*◌, ◌≤◌}
use lib.ListN.{length}
use Rattle.aes_spec.specs.Cipher.{standard}
use Rattle.cmac_spec.specs.Cmac as cmac
use Rattle.ccm_stream.specs.Model.{pieces}
use Rattle.ccm_chain.proofs.through_opened.Given as goal

abbrev pub invariant-loop-i : goal.invariant-loop-i
invariant-loop-i l = let c = standard l.schedule.words l.schedule.rounds in
    (l.i ≤ l.i-end) × (length (pieces c l.ctr l.input l.i) ≡ l.i * 16) × (l.value ≡ cmac.chained c l.initial.value l.i (pieces c l.ctr l.input l.i))
