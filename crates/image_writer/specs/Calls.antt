-- The call: writing a block. Assumes nothing: these are definitions.
use Rattle.std.specs.Prelude.{ℕ, List, length}
use Rattle.octets.specs.Octets.{over}
use Rattle.aes_sbox.specs.Sbox.{s_box}
use Rattle.aes_schedule.specs.Schedule.{schedule_of}
use Rattle.aes_spec.specs.Cipher.{aes_of}
use Rattle.image_spec.specs.Edition.{edition}
use Rattle.image_spec.specs.Sealed.{block_for}
use Rattle.image_spec.specs.KeyPair.{both_taken}
use Rattle.image_writer_answer.specs.Answers.{write_ruled, last_for}
use Rattle.image_writer_answer.specs.declared.WriteAnswer.{WriteAnswer}
use Rattle.image_writer_answer.specs.declared.WriteAnswer.TheVariants.{Written, WriteKey, WriteCount, WriteNumber, WriteLength, WriteEdition, WriteRoom}
use Rattle.image_writer_answer.specs.declared.Numbers.{Numbers}

unfoldable pub write_answer : (ekey ckey : List ℕ) → Numbers → (payload out : List ℕ) → WriteAnswer
write_answer ekey ckey n payload out =
    write_ruled (both_taken (schedule_of s_box ekey) (schedule_of s_box ckey)) n (length payload) (length out)

-- the block with these numbers and this payload, on the check of the block before
abbrev pub block_of : (ekey ckey : List ℕ) → Numbers → (previous payload : List ℕ) → List ℕ
block_of ekey ckey n previous payload =
    block_for (edition n.edition) (aes_of ekey) (aes_of ckey) (last_for n.number previous) n.number n.count n.release payload

-- the output afterwards: the block, and the rest as it was; after a refusal, as it was
abbrev pub write_output : WriteAnswer → (ekey ckey : List ℕ) → Numbers → (previous payload out : List ℕ) → List ℕ
write_output Written ekey ckey n previous payload out = over (block_of ekey ckey n previous payload) out
write_output WriteKey ekey ckey n previous payload out = out
write_output WriteCount ekey ckey n previous payload out = out
write_output WriteNumber ekey ckey n previous payload out = out
write_output WriteLength ekey ckey n previous payload out = out
write_output WriteEdition ekey ckey n previous payload out = out
write_output WriteRoom ekey ckey n previous payload out = out
