-- the table is the one for the way
use mathlib.Core.Path.{◌≡◌, refl, ap, ◌∙◌}
use mathlib.Core.List.{List}
use Prim.Native.Nat.{ℕ, ◌<◌}
use Rattle.octets.specs.Octets.{entry, tabulate}
use Rattle.octets.specs.Blocks.{◌⊕◌}
use Rattle.aes_sbox.proofs.Laws.{entry_table}
use Rattle.rijndael_spec.specs.Rijndael.{wide_encrypt}
use Rattle.rijndael_spec.specs.declared.WideOperation.{WideOperation}
use Rattle.rijndael_model.specs.Model.{entry_of, block_of}
use Rattle.rijndael_model.specs.declared.Way.{Way}
use Rattle.rijndael_model.specs.declared.Way.TheVariants.{Forth, Back}
use Rattle.rijndael.specs.Model.{way_of}
use Rattle.rijndael.proofs.Blocks.{block_sum}
use Rattle.rijndael.proofs.Steps.{forth_block, back_block}
use Rattle.rijndael.proofs.pieces.step.Goals as goal

right : (t : List ℕ) (o : WideOperation) (y : Way) → t ≡ tabulate 256 (entry_of (way_of o)) → way_of o ≡ y → (k : ℕ) → k < 256 → entry t k ≡ entry_of y k
right t o y e f k h = ap (λ (x : List ℕ). entry x k) (e ∙ ap (λ (x : Way). tabulate 256 (entry_of x)) f) ∙ entry_table (entry_of y) k h

pub returns-in-EncryptEcb : goal.returns-in-EncryptEcb
returns-in-EncryptEcb c = let a = c.args in
    let told = c.in-EncryptEcb.is in
    rw told (forth_block a.width (entry a.table.now) a.words.now a.rounds a.piece _ c.through-out.ensures (right a.table.now a.operation Forth c.requires (ap way_of told)), refl)

pub returns-in-DecryptEcb : goal.returns-in-DecryptEcb
returns-in-DecryptEcb c = let a = c.args in
    let told = c.in-DecryptEcb.is in
    rw told (back_block a.width (entry a.table.now) a.words.now a.rounds a.piece _ c.through-out-in-DecryptEcb.ensures (right a.table.now a.operation Back c.requires (ap way_of told)), refl)

pub returns-in-EncryptCbc : goal.returns-in-EncryptCbc
returns-in-EncryptCbc c = let a = c.args in
    let told = c.in-EncryptCbc.is in
    let e = forth_block a.width (entry a.table.now) a.words.now a.rounds c.sum.result _ c.through-block.ensures (right a.table.now a.operation Forth c.requires (ap way_of told))
    ∙ ap (wide_encrypt a.width a.words.now a.rounds) (ap (block_of a.width) c.sum.ensures ∙ block_sum a.width a.piece a.chain) in
    rw told (e, e)

pub returns-in-DecryptCbc : goal.returns-in-DecryptCbc
returns-in-DecryptCbc c = let a = c.args in
    let told = c.in-DecryptCbc.is in
    let e = back_block a.width (entry a.table.now) a.words.now a.rounds a.piece _ c.through-block-in-DecryptCbc.ensures (right a.table.now a.operation Back c.requires (ap way_of told)) in
    rw told (ap (block_of a.width) c.sum-out.ensures ∙ block_sum a.width c.through-block-in-DecryptCbc.result a.chain ∙ ap (λ (x : List ℕ). x ⊕ block_of a.width a.chain) e, refl)
