-- Each row is shown whole, and the rows make up the bytes.
use Rattle.std.proofs.Common.{◌≡◌, List, ◌++◌, ℕ, sym, ap, ◌∙◌, arith, rules, append_assoc, append-nil}
use Rattle.std.proofs.Output.{has_written_append, has_written_of_eq}
use Rattle.std.proofs.lemmas.List.{nil_from_length}
use Rattle.std.specs.Slice.Iter.{chunks_rest}
use Rattle.text_hex.specs.Written.{hex_of}
use Rattle.streams.proofs.Digits.{hex_of_append, row_put}
use Rattle.streams.proofs.hex.HexDisplay.fmt.Goals as goal

pub slice_bounds-text-end : goal.slice_bounds-text-end
slice_bounds-text-end g c =
    let steps = c.in-Some.ensures.steps.1 in
    (row_put (chunks_rest c.loop-row.row-iterator) c.in-Some.row.now c.loop-row.text c.put_hex-n.new.out _ c.put_hex-n.result
    c.loop-row.invariant.2 steps.2 steps.1 c.loop-row.invariant.3 c.put_hex-n.auto.out c.put_hex-n.ensures).0

pub slice_bounds-from_utf8-end : goal.slice_bounds-from_utf8-end
slice_bounds-from_utf8-end g c =
    let steps = c.in-Some.ensures.steps.1 in
    (row_put (chunks_rest c.loop-row.row-iterator) c.in-Some.row.now c.loop-row.text c.put_hex-n.new.out _ c.put_hex-n.result
    c.loop-row.invariant.2 steps.2 steps.1 c.loop-row.invariant.3 c.put_hex-n.auto.out c.put_hex-n.ensures).1

pub loop-row-preserved : goal.loop-row-preserved
loop-row-preserved g c =
    let steps = c.in-Some.ensures.steps.1 in
    let put = row_put (chunks_rest c.loop-row.row-iterator) c.in-Some.row.now c.loop-row.text c.put_hex-n.new.out _ c.put_hex-n.result
    c.loop-row.invariant.2 steps.2 steps.1 c.loop-row.invariant.3 c.put_hex-n.auto.out c.put_hex-n.ensures in
    let size = c.in-Some.ensures.steps.0 ∙ c.loop-row.invariant.2 in
    let shown : c.in-Ok.digits.now ≡ hex_of c.in-Some.row.now = c.in-Ok.ensures.cases.0 ∙ put.2 in (
      omega (arith, size),
      tt,
      size,
      c.put_hex-n.auto.out ∙ c.loop-row.invariant.3,
      λ plain.
          let so_far = c.loop-row.invariant.4 plain in (
            so_far.0 ++ c.in-Ok.digits.now,
            has_written_append _ _ _ _ _ _ so_far.1 (search rules),
            append_assoc so_far.0 _ _
                ∙ ap (λ (t : List ℕ). so_far.0 ++ t)
                (rw shown (sym (hex_of_append c.in-Some.row.now (chunks_rest c.next.new.self)) ∙ ap hex_of (sym steps.0)))
                ∙ so_far.2,
          ),
    )

pub returns-clause-writes : goal.returns-clause-writes
unfolding hex_of
returns-clause-writes g c = λ plain _.
    let so_far = c.loop-row.invariant.4 plain in
    let none = nil_from_length _ c.in-None.ensures.steps.1.0 in
    has_written_of_eq _ _ _ _ _ (rw (none, append-nil) at so_far.2) so_far.1
