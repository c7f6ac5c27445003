use mathlib.Core.Path.{refl, sym, ap, ◌∙◌}
use mathlib.Core.List.{List}
use Prim.Native.Nat.{ℕ}
use Rattle.octets.specs.Blocks.{◌⊕◌}
use Rattle.aes_sbox.specs.Sbox.{s_box, inv_s_box}
use Rattle.image_spec.specs.Model.{lent_cipher}
use Rattle.image_spec.proofs.Sizes.{encrypt_sized, decrypt_sized}
use Rattle.image_spec.proofs.Opening.{fill_start, fill_not, fill_on, fill_end}
use native.Mathlib.Omega.{arith}
use borrow.Author.Rules.{rules}
use Rattle.image_block_fill.proofs.zero_after.Goals as goal

pub chain_before-chain-requires : goal.chain_before-chain-requires
chain_before-chain-requires c = (c.requires.0, omega arith)

pub loop-i-init : goal.loop-i-init
loop-i-init c = let a = c.args in (
  omega arith,
  fill_start a.block.now c.requires.0 (lent_cipher a.enc.now a.dec.now)
      (encrypt_sized s_box a.enc.now.words a.enc.now.rounds) (decrypt_sized inv_s_box a.dec.now.words a.dec.now.rounds) a.len c.requires.1 _ c.chain_before-chain.ensures,
)

pub returns-then-not-zero_from : goal.returns-then-not-zero_from
returns-then-not-zero_from c = let a = c.args in
    fill_not a.block.now c.requires.0 (lent_cipher a.enc.now a.dec.now) c.loop-i.i c.loop-i.from _ _ _ _ c.loop-i-test.true c.loop-i.invariant.0
    c.load-ciphertext.ensures (c.xor-plain.ensures ∙ ap (λ (y : List ℕ). y ⊕ c.loop-i.chain) c.decrypt_block.ensures) (search (rules, c.xor-plain.type_inv)) refl (sym c.zero_from.ensures ∙ c.if-not-zero_from.true)
    ∙ c.loop-i.invariant.1

pub loop-i-preserved : goal.loop-i-preserved
loop-i-preserved c = let a = c.args in (
  omega arith,
  fill_on a.block.now c.requires.0 (lent_cipher a.enc.now a.dec.now) c.loop-i.i c.loop-i.from _ _ _ _ c.loop-i-test.true c.loop-i.invariant.0
      c.load-ciphertext.ensures (c.xor-plain.ensures ∙ ap (λ (y : List ℕ). y ⊕ c.loop-i.chain) c.decrypt_block.ensures) (search (rules, c.xor-plain.type_inv)) refl (sym c.zero_from.ensures ∙ c.if-not-zero_from.false)
      ∙ c.loop-i.invariant.1,
)

pub returns : goal.returns
returns c = let a = c.args in
    fill_end (lent_cipher a.enc.now a.dec.now) a.block.now c.loop-i.i c.loop-i.from c.loop-i.chain c.loop-i-test.false ∙ c.loop-i.invariant.1
