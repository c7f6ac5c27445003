use Prim.Native.Nat.{ℕ, ◌-◌}
use lib.ListN.{length}
use Rattle.replay.proofs.Replay.feed.Given as goal

-- a line that is whole ends in the part
abbrev pub decreases-loop-next : goal.decreases-loop-next
decreases-loop-next l = length l.part - l.at
