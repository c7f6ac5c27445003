use Rattle.aes.proofs.Calls.{encrypt-under}
use Rattle.aes.proofs.encrypt.Goals as goal

pub returns : goal.returns
returns c =
    let a = c.args in
    let e = c.expand-answer in
    encrypt-under a.key.now a.block e.result _ _ e.ensures.0 e.ensures.1 c.encrypt_block-ciphertext.ensures
