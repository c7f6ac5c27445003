use mathlib.Core.Path.{◌≡◌, ap, ◌∙◌}
use mathlib.Core.List.{List}
use Prim.Native.Nat.{ℕ, ◌*◌, ◌/◌}
use lib.ListN.{length, take, drop, length-drop}
use Rattle.octets.specs.Octets.{pad_to}
use Rattle.aes_spec.specs.Cipher.{standard}
use Rattle.cmac_spec.specs.Cmac as cmac
use Rattle.cmac_spec.proofs.Filling.{to_end, piece_short}
use Rattle.ccm_chain.proofs.Chains.{through_whole, through_rest}
use native.Mathlib.Omega.{arith}
use borrow.Author.Rules.{rules}
use Rattle.ccm_chain.proofs.through.Goals as goal

pub returns-then-at-message : goal.returns-then-at-message
returns-then-at-message c = let a = c.args in
    c.chained-value.ensures ∙ through_whole (standard a.schedule.now.words a.schedule.now.rounds) a.chain a.message.now c.if-at-message.true

pub returns-else-at-message : goal.returns-else-at-message
returns-else-at-message c = let f = c.piece_filled-rest in
    let a = c.args in
    let e = standard a.schedule.now.words a.schedule.now.rounds in
    let m = a.message.now in
    let at = length m / 16 * 16 in
    let lr : length f.result ≡ 16 = search rules in
    let er : f.result ≡ pad_to 16 (drop at m) =
    f.ensures ∙ ap (λ (x : List ℕ). pad_to 16 (take 16 x)) (to_end m at) ∙ piece_short (drop at m) (omega (arith, length-drop at m)) in
    c.chained.ensures ∙ ap (λ (x : List ℕ). cmac.chained e x (length f.result / 16) f.result) c.chained-value.ensures
    ∙ through_rest e a.chain m f.result lr er c.if-at-message.false
