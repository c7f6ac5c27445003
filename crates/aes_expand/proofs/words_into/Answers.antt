use mathlib.Core.Path.{◌≡◌, refl, sym, ◌∙◌}
use Prim.Native.Nat.{◌+◌, min}
use native.Mathlib.Omega.{arith}
use borrow.Author.Rules.{rules}
use lib.ListN.{length-set}
use Rattle.octets.specs.Octets.{xor, entry}
use Rattle.aes_expand.specs.Expansion.{key_expansion}
use Rattle.aes_expand.proofs.Laws.{next_key}
use Rattle.aes_expand.proofs.Groups.{after_group, first_group, grown_more, grown_over, over_self, grown_self, first_of_group, later_in_group}
use Rattle.aes_expand.proofs.words_into.Goals as goal

pub loop-i-init : goal.loop-i-init
unfolding key_expansion
loop-i-init c = search rules

pub loop-i-preserved : goal.loop-i-preserved
loop-i-preserved c = let a = c.args in
    let l = c.loop-i in
    let sub = entry a.sbox.now in (
      simp length-set l.invariant.0,
      (
        search rules,
        (grown_more sub a.key.now a.nk a.words.now l.words l.i c.key_word.result (omega arith) l.invariant.1.1
            (c.key_word.ensures ∙ sym (next_key sub a.key.now a.nk (key_expansion sub a.key.now a.nk l.i) l.i (omega arith)))).words,
      ),
    )

pub loop-i-2-init : goal.loop-i-2-init
loop-i-2-init c = let a = c.args in
    let l = c.loop-i in
    let sub = entry a.sbox.now in
    let e : l.i ≡ min a.nk a.n = omega arith in (
      refl,
      (
        search rules,
        (
          rw (← e) (over_self sub a.key.now a.nk a.words.now l.words l.i l.invariant.1.1),
          λ h. first_group a.nk (omega arith),
        ),
      ),
    )

pub loop-m-init : goal.loop-m-init
unfolding xor
loop-m-init c = let l = c.loop-i-2 in
    let k = c.loop-i in
    let a = c.args in
    let e : min l.i a.n ≡ l.i = omega arith in
    let q = l.invariant.1.1.1 (omega arith) in
    let g = first_of_group (entry a.sbox.now) a.key.now a.nk k.words l.words l.i l.constant c.first_temp.result
    (omega arith) (omega arith) (omega arith) q.0 q.1 (rw e at l.invariant.1.1.0) c.first_temp.ensures in (
      simp length-set (omega arith),
      (refl, (search rules, (omega arith, grown_self _ _ _ _ _ _ _ g))),
    )

pub loop-m-preserved : goal.loop-m-preserved
unfolding xor
loop-m-preserved c = let t = c.loop-m in
    let l = c.loop-i-2 in
    let a = c.args in
    let q = l.invariant.1.1.1 (omega arith) in
    let g = later_in_group (entry a.sbox.now) a.key.now a.nk _ t.words l.i t.m t.t c.later_temp.result
    (omega arith) (omega arith) q.0 (omega arith) (omega arith) t.invariant.1.1.1.1 c.later_temp.ensures in (
      simp length-set (omega arith),
      (length-set t.words _ _ ∙ t.invariant.1.0, (omega arith, (omega arith, g))),
    )

pub loop-i-2-preserved : goal.loop-i-2-preserved
unfolding xor
loop-i-2-preserved c = let t = c.loop-m in
    let l = c.loop-i-2 in
    let k = c.loop-i in
    let a = c.args in
    let sub = entry a.sbox.now in
    let size = c.min-size.result in
    let e : min l.i a.n ≡ l.i = omega arith in
    let f : l.i + t.m ≡ min (l.i + size) a.n = omega arith in
    let q = l.invariant.1.1.1 (omega arith) in
    let g = first_of_group sub a.key.now a.nk k.words l.words l.i l.constant c.first_temp.result
    (omega arith) (omega arith) (omega arith) q.0 q.1 (rw e at l.invariant.1.1.0) c.first_temp.ensures in (
      t.invariant.1.0 ∙ length-set l.words _ _ ∙ l.invariant.0,
      (
        omega arith,
        (
          rw (← f) (grown_over sub a.key.now a.nk k.words _ t.words (l.i + 1) (l.i + t.m) (omega arith) g.words t.invariant.1.1.1.1.words),
          λ h. after_group l.i a.nk size l.constant c.double-constant.result (omega arith) (omega arith) q.0 q.1 c.double-constant.ensures (omega arith),
        ),
      ),
    )

pub returns : goal.returns
returns c = let a = c.args in
    let l = c.loop-i-2 in
    let k = c.loop-i in
    let e : min l.i a.n ≡ a.n = omega arith in
    grown_over (entry a.sbox.now) a.key.now a.nk a.words.now k.words l.words k.i a.n (omega arith) k.invariant.1.1 (rw e at l.invariant.1.1.0)
