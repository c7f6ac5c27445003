use mathlib.Core.Path.{◌≡◌, subst}
use Prim.Native.Nat.{ℕ, ◌*◌}
use borrow.Author.Tests.{lt-ltb, le-ltb}
use lib.ListN.{length, take}
use Rattle.octets.specs.Words.{bytes_of}
use Rattle.rijndael_spec.specs.Rijndael.{block_size}
use Rattle.rijndael.proofs.Blocks.{columns_few}
use Rattle.rijndael.proofs.Steps.{none_block}
use native.Mathlib.Omega.{arith}
use Rattle.rijndael.proofs.words.start_of.Goals as goal

pub overflow_mul-n : goal.overflow_mul-n
overflow_mul-n c = omega (arith, (columns_few c.args.width).1, c.columns-n.ensures)

pub returns-then-iv-n : goal.returns-then-iv-n
returns-then-iv-n c = let v = c.args.width in
    let iv = c.args.iv.now in
    rw (lt-ltb (length iv) (block_size v) (omega (arith, c.columns-n.ensures))) (none_block v)

pub load-requires : goal.load-requires
load-requires c = (omega (arith, (columns_few c.args.width).1, c.columns-n.ensures), omega arith)

pub returns : goal.returns
returns c = let a = c.args in
    let iv = a.iv.now in
    let n = c.columns-n.ensures in
    rw (le-ltb (length iv) (block_size a.width) (omega (arith, n)))
    (subst (λ (m : ℕ). bytes_of (take m c.load.result) ≡ take (4 * m) iv) n c.load.ensures)
