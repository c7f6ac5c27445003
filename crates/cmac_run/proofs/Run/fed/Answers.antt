use mathlib.Core.Path.{◌≡◌, ◌∙◌}
use Prim.Native.Nat.{◌-◌}
use lib.ListN.{length}
use Rattle.aes_spec.specs.Cipher.{standard}
use Rattle.cmac_spec.proofs.Filling.{to_end}
use Rattle.cmac_run.proofs.Laws.{fed_room, fed_over}
use borrow.Author.Rules.{rules}
use Rattle.cmac_run.proofs.Run.fed.Goals as goal

pub returns-then-part-room : goal.returns-then-part-room
returns-then-part-room c =
    let x = c.args.self in
    let size : length x.held ≡ 16 = search rules in
    rw (c.piece_filled-piece.ensures, c.saturating_sub-room.ensures)
    (fed_room x.held size (standard c.args.schedule.now.words c.args.schedule.now.rounds) x.chain x.count c.args.part.now (search rules))

pub returns-else-part-room : goal.returns-else-part-room
returns-else-part-room c =
    let x = c.args.self in
    let size : length x.held ≡ 16 = search rules in
    c.run_from.ensures ∙ rw (c.encrypt_block-next.ensures, c.xor.ensures, c.piece_filled-piece.ensures, c.saturating_sub-room.ensures, to_end c.args.part.now (16 - x.count))
    (fed_over x.held size (standard c.args.schedule.now.words c.args.schedule.now.rounds) x.chain x.count c.args.part.now (search rules))
