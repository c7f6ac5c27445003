use Rattle.image_receiver.proofs.Calls.{received}
use Rattle.image_receiver.proofs.receive.Goals as goal

pub returns : goal.returns
returns c = let a = c.args in
    received a.receiver a.block.now a.store.now a.map.now _ _ _ c.receive_block-done.ensures
