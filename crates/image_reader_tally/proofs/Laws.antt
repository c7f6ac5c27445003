-- The sums of a turn are plain ones. Assumes nothing.
use Rattle.std.proofs.Common.{◌≡◌, ℕ, ◌+◌, ◌*◌, ◌%◌, ◌<◌, ◌≤◌, List, arith}
use Rattle.image_layout.specs.declared.Head.{Head}
use Rattle.image_reasons.specs.declared.Verdict.TheVariants.{Accepted}
use Rattle.image_reader_tally.specs.Tally.{blocks_read_with}
use Rattle.image_reader_tally.specs.Model.{following, stepped}
use Rattle.image_reader_tally.specs.declared.BlocksRead.{BlocksRead}

-- in a turn of at most 128 blocks neither sum comes near 2^64
pub stepped_plain : (t : BlocksRead) (h : Head) (check : List ℕ) → t.accepted < 128 → t.bytes ≤ t.accepted * 65535 → h.len ≤ 65535
    → stepped Accepted t h check ≡ blocks_read_with (following t.progress h check) (t.accepted + 1) (t.bytes + h.len) t.stop
stepped_plain t h check most within fits =
    let e : (t.accepted + 1) % 18446744073709551616 ≡ t.accepted + 1 = omega arith in
    let f : (t.bytes + h.len) % 18446744073709551616 ≡ t.bytes + h.len = omega arith in
    rw (e, f)
