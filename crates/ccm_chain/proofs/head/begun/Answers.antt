use mathlib.Core.Path.{◌≡◌, sym, ap, ◌∙◌}
use borrow.Author.Tests.{eqb-true, eqb-false}
use mathlib.Core.List.{List}
use Prim.Native.Nat.{ℕ, ◌/◌}
use lib.ListN.{length, take}
use Rattle.aes_spec.specs.Cipher.{standard}
use Rattle.cmac_spec.specs.Cmac as cmac
use Rattle.ccm_spec.specs.Ccm.{flagged, first}
use Rattle.ccm_chain.proofs.Chains.{begun_none, begun_some, data_whole}
use native.Mathlib.Omega.{arith}
use borrow.Author.Rules.{rules}
use Rattle.ccm_chain.proofs.head.begun.Goals as goal

pub returns-then-is_empty : goal.returns-then-is_empty
returns-then-is_empty c = let a = c.args in
    let b : c.flagged-first.result ≡ first a.nonce a.ad.now a.len = c.flagged-first.ensures ∙ ap (λ (x : ℕ). flagged x a.nonce a.len) c.first_flags.ensures in
    let n : length c.flagged-first.result ≡ 16 = search rules in
    c.chained-start.ensures ∙ begun_none (standard a.schedule.now.words a.schedule.now.rounds) a.nonce a.ad.now a.len c.flagged-first.result b n (eqb-true (length a.ad.now) 0 (sym c.is_empty.ensures ∙ c.if-is_empty.true))

pub returns-else-is_empty : goal.returns-else-is_empty
returns-else-is_empty c = let d = c.encoded-data in
    let a = c.args in
    let e = standard a.schedule.now.words a.schedule.now.rounds in
    let ad = a.ad.now in
    let m = c.next_multiple_of-end.result in
    let b : c.flagged-first.result ≡ first a.nonce ad a.len = c.flagged-first.ensures ∙ ap (λ (x : ℕ). flagged x a.nonce a.len) c.first_flags.ensures in
    let n : length c.flagged-first.result ≡ 16 = search rules in
    c.chained.ensures ∙ ap (λ (x : List ℕ). cmac.chained e x (length (take m d.result) / 16) (take m d.result)) c.chained-start.ensures
    ∙ begun_some e a.nonce ad a.len c.flagged-first.result (take m d.result) b n (eqb-false (length ad) 0 (sym c.is_empty.ensures ∙ c.if-is_empty.false)) (data_whole ad c.requires d.result m d.ensures (omega (arith, c.next_multiple_of-end.ensures.value)))
