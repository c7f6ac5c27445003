use mathlib.Core.Path.{◌≡◌}
use native.Mathlib.Omega.{arith}
use borrow.Author.Rules.{rules}
use lib.ListN.{length}
use Rattle.ccm_stream.proofs.Blocks.{put_led}
use Rattle.ccm_stream.proofs.put_leading.Goals as goal

pub returns : goal.returns
returns c =
    let a = c.args in
    let n : length a.block ≡ 16 = search rules in
    put_led a.w.now a.at a.block _ c.min-n.result _ n c.requires c.min-n.ensures (omega arith) c.copy_from_slice.ensures.after
