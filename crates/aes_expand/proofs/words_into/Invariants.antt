use mathlib.Core.Path.{◌≡◌}
use Prim.Native.Nat.{◌+◌, ◌-◌, ◌/◌, ◌%◌, ◌≤◌, ◌<◌, min}
use lib.ListN.{length}
use Rattle.octets.specs.Octets.{over, entry}
use Rattle.field.specs.Field.{x_power}
use Rattle.aes_expand.specs.Expansion.{key_expansion}
use Rattle.aes_expand.proofs.Groups.{Grown}
use Rattle.aes_expand.proofs.words_into.Given as goal

abbrev pub invariant-loop-i : goal.invariant-loop-i
invariant-loop-i l = (length l.words ≡ length l.initial.words) × ((l.i ≤ min l.nk l.n) × (l.words ≡ over (key_expansion (entry l.sbox) l.key l.nk l.i) l.initial.words))

abbrev pub invariant-loop-m : goal.invariant-loop-m
invariant-loop-m l = (l.n ≤ length l.words) × ((length l.words ≡ length l.initial.words) × ((1 ≤ l.m) × ((l.m ≤ l.size) × Grown (entry l.sbox) l.key l.nk l.initial.words l.words (l.i + l.m) l.t)))

abbrev pub invariant-loop-i-2 : goal.invariant-loop-i-2
invariant-loop-i-2 l = (length l.words ≡ length l.initial.words) × ((l.nk ≤ l.i) × ((l.words ≡ over (key_expansion (entry l.sbox) l.key l.nk (min l.i l.n)) l.initial.words) × ((l.i < l.n) → (l.i % l.nk ≡ 0) × (l.constant ≡ x_power (l.i / l.nk - 1)))))

abbrev pub decreases-loop-i-2 : goal.decreases-loop-i-2
decreases-loop-i-2 l = l.n - l.i
