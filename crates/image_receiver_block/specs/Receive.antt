-- One block received: its tests in their order, and what it leaves (docs/IMAGE.md, docs/REFUSALS.md). Assumes nothing: these are definitions.
use Rattle.std.specs.Prelude.{ℕ, ◌+◌, ◌*◌, min, Bool, ◌&&◌, not, cond, List, [], ◌∷◌, ◌++◌, length}
use Rattle.std.proofs.Math.Seq.{paste}
use Rattle.octets.specs.Blocks.{BlockCipher}
use Rattle.image_layout.specs.Layout.{body_size, head_of_lem}
use Rattle.image_reasons.specs.declared.Reason.TheVariants.{CheckWrong, FillNotZero}
use Rattle.image_spec.specs.Sealed.{opened, checks, fill_zero}
use Rattle.image_spec.specs.Judge.{Keys}
use Rattle.image_spec.specs.Sealed.{is_block}
use Rattle.image_receiver_map.specs.Map.{bit_at, bit_put}
use Rattle.image_receiver_answer.specs.Answers.{room_for, first_told, header_tests, accepted}
use Rattle.image_receiver_answer.specs.declared.Receipt.{Receipt}
use Rattle.image_receiver_answer.specs.declared.ReceiveAnswer.{ReceiveAnswer}
use Rattle.image_receiver_answer.specs.declared.ReceiveAnswer.TheVariants.{NotABlock, NoRoom, Because, AlreadyHeld}
use Rattle.image_receiver_block.specs.declared.BlockReceived.{BlockReceived}

-- ---- the tests

-- 15, then 21
abbrev pub last_tests : BlockCipher → (b map : List ℕ) → List (Bool × ReceiveAnswer)
last_tests ek b map = (not (fill_zero ek b), Because FillNotZero) ∷ (bit_at map (head_of_lem b).number, AlreadyHeld) ∷ []

-- 6, 4, 14, then 7, 9, 10, 20, 12, 13 of the header, then 15 and 21, in that order; the check covers only bytes 0 to 495
abbrev pub receive_tests : Keys → Receipt → (b store map : List ℕ) → List (Bool × ReceiveAnswer)
receive_tests k r b store map =
    (not (is_block b), NotABlock)
    ∷ (not (room_for r.count (length store) (length map)), NoRoom)
    ∷ (not (k.usable && checks k.mac [] b), Because CheckWrong)
    ∷ (header_tests r (head_of_lem b) ++ last_tests k.enc b map)

unfoldable pub receive_answer : Keys → Receipt → (b store map : List ℕ) → ReceiveAnswer
receive_answer k r b store map = first_told (receive_tests k r b store map)

-- what is told of a block that passed all tests before 15
unfoldable pub last_answer : BlockCipher → (b map : List ℕ) → ReceiveAnswer
last_answer ek b map = first_told (last_tests ek b map)

-- ---- what a block leaves

-- a sum of 32 bits: past 4,294,967,295 it stays there
abbrev pub capped : ℕ → ℕ → ℕ
capped a b = min (a + b) 4294967295

-- one block more is held, and its payload is counted
abbrev pub counted_with : Receipt → (len : ℕ) → Receipt
counted_with r len = record { count = r.count; release = r.release; held = capped r.held 1; bytes = capped r.bytes len }

-- the decrypted bytes of a block in its place
unfoldable pub stored : BlockCipher → (b store : List ℕ) → List ℕ
stored ek b store = paste store (body_size * (head_of_lem b).number) (opened ek b) body_size

abbrev pub answered_with : ReceiveAnswer → Receipt → BlockReceived
answered_with a r = record { answer = a; receipt = r }

-- what a block with this answer leaves: accepted, it is counted, stored and marked; refused, it changes nothing
abbrev pub leaves : ReceiveAnswer → BlockCipher → Receipt → (b store map : List ℕ) → BlockReceived × List ℕ × List ℕ
leaves a ek r b store map =
    cond (accepted a)
    (answered_with a (counted_with r (head_of_lem b).len), stored ek b store, bit_put map (head_of_lem b).number)
    (answered_with a r, store, map)

unfoldable pub received_under : Keys → Receipt → (b store map : List ℕ) → BlockReceived × List ℕ × List ℕ
received_under k r b store map = leaves (receive_answer k r b store map) k.enc r b store map
