use Rattle.std.proofs.Common.{arith}
use Rattle.std.proofs.lemmas.Grind.{common_steps}
use Rattle.octets_slice.specs.Slices.{copied}
use Rattle.text_put.specs.Places.{fits}
use Rattle.text_hex.specs.Hex.{decode_answer}
use Rattle.text_hex.proofs.HexLaws.{read}
use Rattle.text_hex.proofs.decode.Goals as goal
use Rattle.text_hex.proofs.decode.Goals.{then-not-is_bytes-via-then-not-is_bytes, then-not-is_bytes-via-else-not-is_bytes+then-not-has_room}

pub returns-then-not-is_bytes : goal.returns-then-not-is_bytes
unfolding copied fits decode_answer
returns-then-not-is_bytes c =
    elim c.then-not-is_bytes.branch [
      | then-not-is_bytes-via-then-not-is_bytes w ↦ grind (arith, common_steps, read)
      | then-not-is_bytes-via-else-not-is_bytes+then-not-has_room w ↦ grind (arith, common_steps, read)
    ]
