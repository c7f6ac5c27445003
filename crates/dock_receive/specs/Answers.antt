-- What a receiver answers, as C has it: numbers in place of enums. Assumes nothing: these are definitions.
use Rattle.std.specs.Prelude.{ℕ, List, Option, None, Some}
use Rattle.image_reasons.specs.Reasons.{value_of}
use Rattle.image_receiver_answer.specs.Answers.{receive_number, receive_value, begin_number, begin_value}
use Rattle.image_receiver.specs.declared.ReceiveStarted.{ReceiveStarted}
use Rattle.image_receiver.specs.declared.ReceiveDone.{ReceiveDone}
use Rattle.dock_receive.specs.declared.ReceiverAnswer.{ReceiverAnswer}

-- the value that a refusal holds, 0 where it holds none
abbrev pub value_in : Option ℕ → ℕ
value_in (Some n) = n
value_in None = 0

abbrev pub start_told : ReceiveStarted → ReceiverAnswer
start_told s = record { number = begin_number s.answer; value = value_in (value_of (begin_value s.answer)); receiver = s.receiver }

abbrev pub done_told : ReceiveDone → ReceiverAnswer
done_told d = record { number = receive_number d.answer; value = value_in (value_of (receive_value d.answer)); receiver = d.receiver }

-- with the store and the map that are left
abbrev pub done_telling : ReceiveDone × List ℕ × List ℕ → ReceiverAnswer × List ℕ × List ℕ
done_telling x = (done_told x.0, x.1, x.2)
