-- So many bytes are put as pairs of digits are passed. Assumes nothing.
use Rattle.std.proofs.Common.{◌≡◌, ◌*◌, ◌≤◌, length, drop}
use Rattle.std.proofs.Math.Seq.{paste}
use Rattle.std.specs.Slice.Iter.{chunks_exact_rest, chunks_exact_size}
use Rattle.text_hex.specs.Hex.{unhex}
use Rattle.text_hex.proofs.fill.Given as goal

abbrev pub invariant-loop-i : goal.invariant-loop-i
invariant-loop-i l =
    let n = l.i-iterator.count in
    let chunks = l.i-iterator.iter in
    record {
      put : l.out ≡ paste l.initial.out l.at (unhex l.s) n;
      rest : chunks_exact_rest chunks ≡ drop (2 * n) l.s;
      size : chunks_exact_size chunks ≡ 2;
      passed : 2 * n ≤ length l.s;
    }
