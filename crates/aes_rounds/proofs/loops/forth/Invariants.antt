use Prim.Native.Nat.{◌-◌, ◌≤◌, ◌<◌}
use mathlib.Core.Path.{◌≡◌}
use Rattle.octets.specs.Words.{bytes_of}
use Rattle.aes_sbox.specs.Sbox.{s_box}
use Rattle.aes_spec.specs.State.{aes}
use Rattle.aes_spec.specs.Cipher.{rounds}
use Rattle.aes_rounds.proofs.loops.forth.Given as goal

abbrev pub invariant-loop-n : goal.invariant-loop-n
invariant-loop-n l = ((0 < l.n) × (l.n ≤ l.schedule.rounds)) × (bytes_of l.t ≡ rounds aes s_box l.schedule.words (l.n - 1) (bytes_of l.initial.t))
