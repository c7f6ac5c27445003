use Rattle.std.proofs.Common.{◌≡◌, ◌+◌, ◌*◌, ◌/◌, ◌∙◌, sym, ap₂, ap, arith, length}
use Rattle.std.proofs.lemmas.List.{length-drop}
use Rattle.text_hex.specs.Hex.{byte_of}
use Rattle.text_hex.proofs.HexLaws.{unhex_more, bytes_at, pair_taken}
use Rattle.text_hex.proofs.fill.Goals as goal

pub pair-requires : goal.pair-requires
pair-requires c =
    let s = c.args.s.now in
    let n = c.loop-i.i-iterator.count in
    let v = c.loop-i.invariant in
    let t = c.in-Some.ensures.steps in
    let p = pair_taken s _ _ n (sym v.rest ∙ t.0.1.0) (t.0.1.1 ∙ v.size) in
    (rw p.0 (bytes_at s (length s / 2) (2 * n) c.requires.1 (omega arith) (omega arith)), rw p.1 (bytes_at s (length s / 2) (2 * n + 1) c.requires.1 (omega arith) (omega arith)))

pub loop-i-preserved : goal.loop-i-preserved
loop-i-preserved c =
    let a = c.args in
    let s = a.s.now in
    let n = c.loop-i.i-iterator.count in
    let v = c.loop-i.invariant in
    let t = c.in-Some.ensures.steps in
    let p = pair_taken s _ _ n (sym v.rest ∙ t.0.1.0) (t.0.1.1 ∙ v.size) in
    record {
      put = rw (t.1, t.2, v.put) (unhex_more a.out.now s a.at (length s / 2) n _ (omega arith) (omega arith) (omega arith) (c.pair.ensures ∙ ap₂ byte_of p.0 p.1));
      rest = rw t.2 (sym p.2);
      size = t.0.0 ∙ v.size;
      passed = rw t.2 p.3;
    }

pub returns : goal.returns
returns c =
    let s = c.args.s.now in
    let n = c.loop-i.i-iterator.count in
    let v = c.loop-i.invariant in
    let t = c.in-None.ensures.steps in
    let d = ap length v.rest ∙ length-drop (2 * n) s in
    let e : n ≡ length s / 2 = omega (arith, d, t.0.1.0, v.size, v.passed) in
    rw (← e) v.put
