use Rattle.image_spec.proofs.Sealing.{seal_by, middle_size}
use Rattle.aes_spec.specs.Cipher.{standard}
use Rattle.aes_spec.specs.Model.{one_way}
use Rattle.image_spec.specs.Model.{lent_mac_of}
use Rattle.modes_run.proofs.Agree.{through_whole}
use Rattle.modes_spec.specs.declared.Operation.TheVariants.{CbcEncrypt}
use lib.ListN.{length, take, drop}
use Prim.Native.Nat.{ℕ}
use mathlib.Core.List.{List}
use Rattle.octets_slice.specs.Slices.{copied}
use Rattle.octets_slice.proofs.Laws.{copied_zeros}
use Rattle.octets.specs.Octets.{pad_to}
use Rattle.octets.proofs.Fill.{length_pad_to}
use mathlib.Core.Path.{◌≡◌, refl, sym, ap, ◌∙◌}
use native.Mathlib.Omega.{arith}
use Rattle.image_block_seal.proofs.seal_into.Goals as goal

pub returns : goal.returns
returns c =
    let a = c.args in
    let plain = c.copy.new.w in
    let filled : plain ≡ pad_to 480 a.payload.now = c.copy.ensures ∙ copied_zeros 480 a.payload.now c.requires.0 in
    let o1 = c.store.new.s in
    let first = c.head_bytes-first.ensures in
    let size : length plain ≡ 480 = ap length filled ∙ length_pad_to 480 a.payload.now c.requires.0 in
    let room : length (take 480 (drop 16 o1)) ≡ 480 = middle_size a.head a.output.now o1 c.requires.1 (c.store.ensures ∙ ap (λ (x : List ℕ). copied x 0 a.output.now) first) in
    let w = through_whole (one_way a.keys.now.enc.words a.keys.now.enc.rounds) CbcEncrypt _ plain (take 480 (drop 16 o1)) (omega arith) (size ∙ sym room) in
    seal_by (standard a.keys.now.enc.words a.keys.now.enc.rounds) (lent_mac_of a.keys.now.chk a.subkeys.now) a.tail.now a.head a.payload.now a.output.now c.requires.0 c.requires.1
    _ _ _ _ _ _ _ _ first c.encrypt_block-iv.ensures filled c.store.ensures (ap (λ (t : List ℕ × List ℕ). t.1) (c.run.ensures ∙ w)) (c.run.auto.output ∙ room) refl
    c.check_of-made.ensures c.check_of-made.type_inv.1.0.1 c.store-2.ensures
