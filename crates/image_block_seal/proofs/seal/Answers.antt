use Rattle.aes_spec.specs.Cipher.{standard}
use Rattle.image_spec.specs.Model.{lent_mac_of}
use Rattle.image_spec.proofs.Sealing.{seal_long, seal_short, seal_fits}
use Rattle.image_block_seal.proofs.seal.Goals as goal
use Rattle.image_block_seal.proofs.seal.Goals.{else-payload-le480-via-else-payload-le480, else-payload-le480-via-then-payload-le480+else-output-ge512}

pub returns-else-payload-le480 : goal.returns-else-payload-le480
returns-else-payload-le480 c =
    let a = c.args in
    let ek = standard a.keys.now.enc.words a.keys.now.enc.rounds in
    let mac = lent_mac_of a.keys.now.chk a.subkeys.now in
    elim c.else-payload-le480.branch [
      | else-payload-le480-via-then-payload-le480+else-output-ge512 w ↦ seal_short ek mac a.tail.now a.head a.payload.now a.output.now w.if-payload-le480.true w.if-output-ge512.false
      | else-payload-le480-via-else-payload-le480 w ↦ seal_long ek mac a.tail.now a.head a.payload.now a.output.now w.if-payload-le480.false
    ]

pub returns-then-output-ge512 : goal.returns-then-output-ge512
returns-then-output-ge512 c =
    let a = c.args in
    seal_fits (standard a.keys.now.enc.words a.keys.now.enc.rounds) (lent_mac_of a.keys.now.chk a.subkeys.now) a.tail.now a.head a.payload.now a.output.now c.if-payload-le480.true
    c.if-output-ge512.true _ c.seal_into.ensures
