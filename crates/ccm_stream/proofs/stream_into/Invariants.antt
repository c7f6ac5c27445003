use mathlib.Core.Path.{◌≡◌}
use mathlib.Core.List.{◌++◌}
use Prim.Native.Nat.{◌*◌, ◌≤◌}
use lib.ListN.{length, take, drop}
use Rattle.aes_spec.specs.Cipher.{standard}
use Rattle.ccm_stream.specs.Model.{pieces}
use Rattle.ccm_stream.proofs.stream_into.Given as goal

abbrev pub invariant-loop-i : goal.invariant-loop-i
invariant-loop-i l = let c = standard l.schedule.words l.schedule.rounds in
    (l.i ≤ l.i-end) × (length l.output ≡ length l.input) × (length (pieces c l.ctr l.input l.i) ≡ l.i * 16)
    × (l.output ≡ take (length l.input) (pieces c l.ctr l.input l.i ++ drop (l.i * 16) l.initial.output))
