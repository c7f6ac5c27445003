use native.Mathlib.Nat.{zero-mul}
use mathlib.Core.Path.{◌≡◌, refl, sym, ap, ap₂, subst, ◌∙◌}
use Prim.Native.Nat.{ℕ, ◌*◌, ◌/◌, ◌<◌}
use lib.ListN.{length, take, drop}
use lib.Seq.{paste}
use Rattle.octets.specs.Words.{bytes_of}
use Rattle.modes_spec.specs.Modes.{machine}
use Rattle.modes_spec.specs.Pieces.{Machine, output_of, after, piece}
use Rattle.rijndael_spec.specs.Rijndael.{shape_of, block_size}
use Rattle.rijndael_spec.specs.Operations.{mode_of}
use Rattle.rijndael_model.specs.Model.{block_of}
use Rattle.rijndael.specs.Model.{wide_one_way}
use Rattle.rijndael.proofs.Blocks.{columns_few, front_bytes}
use Rattle.rijndael.proofs.Runs.{piece_room, write_more, more_length, more_after}
use Rattle.rijndael.proofs.Steps.{block_length}
use borrow.Author.Rules.{rules}
use native.Mathlib.Omega.{arith}
use Rattle.rijndael.proofs.pieces.pieces.Goals as goal

pub overflow_mul-size : goal.overflow_mul-size
overflow_mul-size c = omega (arith, (columns_few c.args.width).1, c.columns-n.ensures)

pub nonzero_div-count : goal.nonzero_div-count
nonzero_div-count c = omega (arith, (columns_few c.args.width).0, c.columns-n.ensures)

pub loop-i-init : goal.loop-i-init
unfolding output_of after
loop-i-init c = let a = c.args in
    let z = block_size a.width in
    (search rules, refl, sym (zero-mul z), refl, ap (λ (k : ℕ). drop k a.output.now) (sym (zero-mul z)))

pub overflow_mul-i : goal.overflow_mul-i
overflow_mul-i c = let a = c.args in
    let size = 4 * c.columns-n.result in
    let r = piece_room c.loop-i.i (length a.input.now) size (omega (arith, (columns_few a.width).0, c.columns-n.ensures)) (omega arith) in
    omega arith

pub load-piece-requires : goal.load-piece-requires
load-piece-requires c = let a = c.args in
    let size = 4 * c.columns-n.result in
    let r = piece_room c.loop-i.i (length a.input.now) size (omega (arith, (columns_few a.width).0, c.columns-n.ensures)) (omega arith) in
    (omega (arith, (columns_few a.width).1, c.columns-n.ensures), r)

pub step-s-requires : goal.step-s-requires
step-s-requires c = c.requires.0

pub overflow_mul-i-in-loop-i : goal.overflow_mul-i-in-loop-i
overflow_mul-i-in-loop-i c = let a = c.args in
    let n = c.columns-n in
    let size = 4 * n.result in
    let some : 0 < size = omega (arith, (columns_few a.width).0, n.ensures) in
    let r = piece_room c.loop-i.i (length a.input.now) size some (omega arith) in
    omega arith

pub store-requires : goal.store-requires
store-requires c = let a = c.args in
    let n = c.columns-n in
    let size = 4 * n.result in
    let some : 0 < size = omega (arith, (columns_few a.width).0, n.ensures) in
    let r = piece_room c.loop-i.i (length a.input.now) size some (omega arith) in
    (omega (arith, (columns_few a.width).1, n.ensures), omega arith)

pub loop-i-preserved : goal.loop-i-preserved
loop-i-preserved c = let l = c.loop-i in
    let a = c.args in
    let n = c.columns-n.ensures in
    let s = c.step-s in
    let ld = c.load-piece in
    let w = c.store in
    let v = a.width in
    let z = block_size v in
    let inp = a.input.now in
    let m : Machine = machine (wide_one_way v a.words.now a.rounds) (mode_of a.operation) in
    let st = block_of v a.iv in
    let p : block_of v ld.result ≡ piece z inp l.i =
    subst (λ (k : ℕ). bytes_of (take k ld.result) ≡ take (4 * k) (drop (l.i * (4 * k)) inp)) n ld.ensures in
    let ef : block_of v s.result.out ≡ m.out (after z m st l.i inp) (piece z inp l.i) = s.ensures.0 ∙ ap₂ m.out l.invariant.3 p in
    let en : block_of v s.result.next ≡ m.next (after z m st l.i inp) (piece z inp l.i) = s.ensures.1 ∙ ap₂ m.next l.invariant.3 p in
    let lo : length (m.out (after z m st l.i inp) (piece z inp l.i)) ≡ z = ap length (sym ef) ∙ block_length v s.result.out (search rules) in
    let put : w.new.s ≡ paste l.output (l.i * z) (bytes_of s.result.out) z =
    subst (λ (k : ℕ). w.new.s ≡ paste l.output (l.i * (4 * k)) (bytes_of s.result.out) (4 * k)) n w.ensures in (
      omega arith,
      search rules,
      more_length z m st inp a.output.now l.i l.invariant.2 lo,
      en ∙ sym (more_after z m st inp a.output.now l.i),
      put ∙ write_more z m st inp a.output.now l.i l.output (bytes_of s.result.out) l.invariant.2 (front_bytes (shape_of v).columns s.result.out ∙ ef) l.invariant.4,
    )

pub returns : goal.returns
returns c = let l = c.loop-i in
    let a = c.args in
    let n = c.columns-n.ensures in
    let v = a.width in
    let z = block_size v in
    let k = length a.input.now in
    let e : l.i ≡ k / z = subst (λ (j : ℕ). l.i ≡ k / (4 * j)) n (omega arith) in
    rw (← e, l.invariant.3, l.invariant.4)
