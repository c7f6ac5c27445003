use Prim.Native.Nat.{◌-◌, ◌<◌}
use mathlib.Core.Path.{◌≡◌}
use Rattle.octets.specs.Words.{bytes_of}
use Rattle.aes_sbox.specs.Sbox.{inv_s_box}
use Rattle.aes_spec.specs.State.{aes}
use Rattle.aes_spec.specs.Model.{eq_rounds}
use Rattle.aes_rounds_inverse.proofs.loops.back.Given as goal

-- of the rounds, those below n are left
abbrev pub invariant-loop-n : goal.invariant-loop-n
invariant-loop-n l =
    (0 < l.n) × (eq_rounds aes inv_s_box l.schedule.words (l.n - 1) (bytes_of l.t) ≡ eq_rounds aes inv_s_box l.schedule.words (l.schedule.rounds - 1) (bytes_of l.initial.t))
