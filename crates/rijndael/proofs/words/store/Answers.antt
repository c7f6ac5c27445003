use mathlib.Core.Path.{◌≡◌, refl, ap, ◌∙◌}
use Prim.Native.Nat.{ℕ, ◌*◌}
use lib.ListN.{length, length-set}
use lib.Seq.{paste, paste-zero}
use Rattle.octets.specs.Words.{bytes_of}
use Rattle.rijndael.proofs.Blocks.{stored_more}
use borrow.Author.Rules.{rules}
use native.Mathlib.Omega.{arith}
use Rattle.rijndael.proofs.words.store.Goals as goal

pub loop-c-init : goal.loop-c-init
loop-c-init c = let a = c.args in
    (search rules, refl, paste-zero a.s.now a.at (bytes_of a.t))

pub bounds-s-i-in-loop-c : goal.bounds-s-i-in-loop-c
bounds-s-i-in-loop-c c = simp length-set (omega arith)

pub bounds-s-i-in-loop-c-2 : goal.bounds-s-i-in-loop-c-2
bounds-s-i-in-loop-c-2 c = simp length-set (omega arith)

pub bounds-s-i-in-loop-c-3 : goal.bounds-s-i-in-loop-c-3
bounds-s-i-in-loop-c-3 c = simp length-set (omega arith)

pub loop-c-preserved : goal.loop-c-preserved
loop-c-preserved c = let l = c.loop-c in
    let a = c.args in
    let size : length a.t ≡ 8 = search rules in (
      omega arith,
      simp length-set (omega arith),
      stored_more a.s.now a.at a.t l.c _ c.word_bytes-b.result (omega arith) (omega arith) refl c.word_bytes-b.ensures l.s l.invariant.2,
    )

pub returns : goal.returns
returns c = let l = c.loop-c in
    let a = c.args in
    let e : l.c ≡ a.n = omega arith in
    l.invariant.2 ∙ ap (λ (k : ℕ). paste a.s.now a.at (bytes_of a.t) (4 * k)) e
