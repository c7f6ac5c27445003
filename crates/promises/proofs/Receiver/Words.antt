-- The words in which the promises about the receiver are said. Assumes nothing: these are definitions.
use mathlib.Core.Path.{◌≡◌}
use mathlib.Core.Bool.{Bool, true, false, ◌&&◌, cond}
use mathlib.Core.Logic.{◌⊎◌}
use mathlib.Core.List.{List, [], ◌∷◌}
use Prim.Native.Nat.{ℕ, zero, suc, ◌+◌, ◌*◌, ◌≤◌, ◌<◌}
use lib.Dec.{eqb}
use lib.ListN.{length, get_or, take, drop}
use Rattle.octets.specs.Octets.{pad_to, Bytes, Octets}
use Rattle.octets.specs.Blocks.{BlockCipher}
use Rattle.aes_spec.specs.Cipher.{aes_of}
use Rattle.image_layout.specs.Layout.{head_of_lem}
use Rattle.image_layout.specs.declared.Head.{Head}
use Rattle.image_limits.specs.Fits.{length_fits}
use Rattle.image_reasons.specs.declared.Reason.TheVariants.{AfterLast, CheckWrong, Count, Number, OtherCount, OtherRelease, Length, Reserved, FillNotZero}
use Rattle.image_spec.specs.Edition.{one}
use Rattle.image_spec.specs.Sealed.{opened, checks, fill_zero}
use Rattle.image_spec.specs.Judge.{Keys}
use Rattle.image_receiver_map.specs.Map.{map_size, bit}
use Rattle.image_receiver_answer.specs.Answers.{receive_number, begin_number}
use Rattle.image_receiver_answer.specs.declared.Receipt.{Receipt}
use Rattle.image_receiver_answer.specs.declared.ReceiveAnswer.{ReceiveAnswer}
use Rattle.image_receiver_answer.specs.declared.ReceiveAnswer.TheVariants.{Received, NotABlock, NoRoom, Because, NotBelow, AlreadyHeld}
use Rattle.image_receiver_answer.specs.declared.BeginAnswer.{BeginAnswer}
use Rattle.image_receiver_answer.specs.declared.BeginAnswer.TheVariants.{Begun, BeginKey, BeginCount, BeginRoom}
use Rattle.image_progress.specs.declared.Completion.{Completion}
use Rattle.image_progress.specs.declared.Completion.TheVariants.{Complete, NotComplete}
use Rattle.image_receiver.specs.Calls.{begin_of, receive_of}
use Rattle.image_receiver.specs.declared.Receiver.{Receiver}
use Rattle.image_receiver.specs.declared.ReceiveDone.{ReceiveDone}
use Rattle.promises.proofs.Aes.Keys.{KeyTaken}
use Rattle.promises.proofs.Image.Exactly.{ImageOf}

-- ---- one block

-- a block meets every test but those of room and map
pub record Receivable (k : Keys) (count release : ℕ) (b : List ℕ) : Type 0 where
  pub size : length b ≡ 512
  pub usable_keys : k.usable ≡ true
  pub check_right : checks k.mac [] b ≡ true
  pub count_low : 0 < count
  pub count_high : count ≤ 65535
  pub same_count : (head_of_lem b).count ≡ count
  pub same_release : (head_of_lem b).release ≡ release
  pub below : (head_of_lem b).number < count
  pub len_fits : length_fits (head_of_lem b).number (head_of_lem b).count (head_of_lem b).len ≡ true
  pub marked : (head_of_lem b).reserved ≡ 0
  pub fill-zero : fill_zero k.enc b ≡ true

-- 480 bytes of store and one bit of map for each block
pub record Roomy (count store map : ℕ) : Type 0 where
  pub store_room : 480 * count ≤ store
  pub map_room : map_size count ≤ map

-- the table's row for each refusal of a block: when it is given, and that the value held is the one found
abbrev pub ReceiveRow : Keys → Receipt → (b store map : List ℕ) → ReceiveAnswer → Type 0
ReceiveRow k r b store map Received = ⊥
ReceiveRow k r b store map NotABlock = length b ≡ 512 → ⊥
ReceiveRow k r b store map NoRoom = Roomy r.count (length store) (length map) → ⊥
ReceiveRow k r b store map (Because CheckWrong) = (k.usable && checks k.mac [] b) ≡ false
ReceiveRow k r b store map (Because (Count v)) = (v ≡ (head_of_lem b).count) × (0 < v → v ≤ 65535 → ⊥)
ReceiveRow k r b store map (Because (OtherCount v)) = (v ≡ (head_of_lem b).count) × (v ≡ r.count → ⊥)
ReceiveRow k r b store map (Because (OtherRelease v)) = (v ≡ (head_of_lem b).release) × (v ≡ r.release → ⊥)
ReceiveRow k r b store map NotBelow = r.count ≤ (head_of_lem b).number
ReceiveRow k r b store map (Because (Length v)) = (v ≡ (head_of_lem b).len) × (length_fits (head_of_lem b).number (head_of_lem b).count v ≡ false)
ReceiveRow k r b store map (Because (Reserved v)) = (v ≡ (head_of_lem b).reserved) × (v ≡ 0 → ⊥)
ReceiveRow k r b store map (Because FillNotZero) = fill_zero k.enc b ≡ false
ReceiveRow k r b store map AlreadyHeld = bit map (head_of_lem b).number ≡ 1
ReceiveRow k r b store map (Because (Number v)) = ⊥
ReceiveRow k r b store map (Because AfterLast) = ⊥

-- the order in which the rows are asked: 6, 4, 14, 7, 9, 10, 20, 12, 13, 15, 21
abbrev pub receive_rank : ReceiveAnswer → ℕ
receive_rank NotABlock = 0
receive_rank NoRoom = 1
receive_rank (Because CheckWrong) = 2
receive_rank (Because (Count v)) = 3
receive_rank (Because (OtherCount v)) = 4
receive_rank (Because (OtherRelease v)) = 5
receive_rank NotBelow = 6
receive_rank (Because (Length v)) = 7
receive_rank (Because (Reserved v)) = 8
receive_rank (Because FillNotZero) = 9
receive_rank AlreadyHeld = 10
receive_rank Received = 11
receive_rank (Because (Number v)) = 11
receive_rank (Because AfterLast) = 11

-- the rows of a header alone
abbrev pub HeaderRow : Receipt → Head → ReceiveAnswer → Type 0
HeaderRow r h (Because (Count v)) = (v ≡ h.count) × (0 < v → v ≤ 65535 → ⊥)
HeaderRow r h (Because (OtherCount v)) = (v ≡ h.count) × (v ≡ r.count → ⊥)
HeaderRow r h (Because (OtherRelease v)) = (v ≡ h.release) × (v ≡ r.release → ⊥)
HeaderRow r h NotBelow = r.count ≤ h.number
HeaderRow r h (Because (Length v)) = (v ≡ h.len) × (length_fits h.number h.count v ≡ false)
HeaderRow r h (Because (Reserved v)) = (v ≡ h.reserved) × (v ≡ 0 → ⊥)
HeaderRow r h Received = ⊥
HeaderRow r h NotABlock = ⊥
HeaderRow r h NoRoom = ⊥
HeaderRow r h AlreadyHeld = ⊥
HeaderRow r h (Because CheckWrong) = ⊥
HeaderRow r h (Because FillNotZero) = ⊥
HeaderRow r h (Because (Number v)) = ⊥
HeaderRow r h (Because AfterLast) = ⊥

-- a header is refused where its row holds and none asked before it, and passes where none holds
pub record HeaderSays (r : Receipt) (h : Head) (a : ReceiveAnswer) : Type 0 where
  pub refused_by : (receive_number a ≡ 0 → ⊥) → HeaderRow r h a × ((q : ReceiveAnswer) → receive_rank q < receive_rank a → HeaderRow r h q → ⊥)
  pub passed : ((q : ReceiveAnswer) → HeaderRow r h q → ⊥) → receive_number a ≡ 0

-- a block is taken: it meets every test
pub record Taken (k : Keys) (r : Receipt) (b store map : List ℕ) : Type 0 where
  pub receivable : Receivable k r.count r.release b
  pub roomy : Roomy r.count (length store) (length map)
  pub not_held : bit map (head_of_lem b).number ≡ 0

-- the row for an answer holds, and no row asked before it
abbrev pub FirstRow : Keys → Receipt → (b store map : List ℕ) → ReceiveAnswer → Type 0
FirstRow k r b store map a = ReceiveRow k r b store map a × ((q : ReceiveAnswer) → receive_rank q < receive_rank a → ReceiveRow k r b store map q → ⊥)

-- what each answer says of a block
abbrev pub ReceiveSays : Keys → Receipt → (b store map : List ℕ) → ReceiveAnswer → Type 0
ReceiveSays k r b store map Received = Taken k r b store map
ReceiveSays k r b store map NotABlock = FirstRow k r b store map NotABlock
ReceiveSays k r b store map NoRoom = FirstRow k r b store map NoRoom
ReceiveSays k r b store map (Because reason) = FirstRow k r b store map (Because reason)
ReceiveSays k r b store map NotBelow = FirstRow k r b store map NotBelow
ReceiveSays k r b store map AlreadyHeld = FirstRow k r b store map AlreadyHeld

-- ---- the start

-- what a start asks
pub record Beginning (ekey ckey : List ℕ) (count store map : ℕ) : Type 0 where
  pub ekey_taken : KeyTaken ekey
  pub ckey_taken : KeyTaken ckey
  pub count_low : 0 < count
  pub count_high : count ≤ 65535
  pub roomy : Roomy count store map

-- what each of its answers says: the first test that fails is the one told
abbrev pub BeginSays : (ekey ckey : List ℕ) (count store map : ℕ) → BeginAnswer → Type 0
BeginSays ekey ckey count store map Begun = Beginning ekey ckey count store map
BeginSays ekey ckey count store map BeginKey = KeyTaken ekey → KeyTaken ckey → ⊥
BeginSays ekey ckey count store map (BeginCount v) = KeyTaken ekey × KeyTaken ckey × (v ≡ count) × (0 < count → count ≤ 65535 → ⊥)
BeginSays ekey ckey count store map BeginRoom = KeyTaken ekey × KeyTaken ckey × (0 < count) × (count ≤ 65535) × (Roomy count store map → ⊥)

-- what each answer about completion says
abbrev pub CompleteSays : Receipt → Completion → Type 0
CompleteSays r Complete = (0 < r.count) × (r.held ≡ r.count)
CompleteSays r NotComplete = 0 < r.count → r.held ≡ r.count → ⊥

-- ---- block after block, while store and map come back as left

-- what a caller has between two blocks: the receiver, and the store and the map that it lends
pub record Holding : Type 0 where
  pub receiver : Receiver
  pub store : List ℕ
  pub map : List ℕ

abbrev pub answer_to : Holding → List ℕ → ReceiveAnswer
answer_to x b = (receive_of x.receiver b x.store x.map).0.answer

abbrev pub after : Holding → List ℕ → Holding
after x b =
    record { receiver = (receive_of x.receiver b x.store x.map).0.receiver; store = (receive_of x.receiver b x.store x.map).1; map = (receive_of x.receiver b x.store x.map).2 }

abbrev pub after_all : Holding → List (List ℕ) → Holding
after_all x [] = x
after_all x (b ∷ bs) = after_all (after x b) bs

-- what a start leaves
abbrev pub at_start : (ekey ckey : List ℕ) (count release : ℕ) (store map : List ℕ) → Holding
at_start ekey ckey count release store map =
    record { receiver = (begin_of ekey ckey count release store map).0.receiver; store = store; map = (begin_of ekey ckey count release store map).1 }

-- what a start and blocks in any order leave, with the blocks that were accepted on the way, the last one first
pub data Ran (ekey ckey : List ℕ) (count release : ℕ) : Holding → List (List ℕ) → Type 0 where
  begun : (store map : List ℕ) → Bytes map → begin_number (begin_of ekey ckey count release store map).0.answer ≡ 0 → Ran ekey ckey count release (at_start ekey ckey count release store map) []
  refused : {x : Holding} {taken : List (List ℕ)} → Ran ekey ckey count release x taken → (b : List ℕ) → (receive_number (answer_to x b) ≡ 0 → ⊥) → Ran ekey ckey count release (after x b) taken
  accepted : {x : Holding} {taken : List (List ℕ)} → Ran ekey ckey count release x taken → (b : List ℕ) → Bytes b → receive_number (answer_to x b) ≡ 0 → Ran ekey ckey count release (after x b) (b ∷ taken)

-- the first of some blocks with a number, and nothing where there is none
abbrev pub numbered : ℕ → List (List ℕ) → List ℕ
numbered n [] = []
numbered n (b ∷ bs) = cond (eqb (head_of_lem b).number n) b (numbered n bs)

-- blocks put in the order of their numbers: j of them, from number m on
abbrev pub in_order_of : (j m : ℕ) → List (List ℕ) → List (List ℕ)
in_order_of zero m bs = []
in_order_of (suc j) m bs = numbered m bs ∷ in_order_of j (suc m) bs

abbrev pub All : (List ℕ → Type 0) → List (List ℕ) → Type 0
All P [] = Unit {0}
All P (b ∷ bs) = P b × All P bs

-- a block is among these
abbrev pub In : List ℕ → List (List ℕ) → Type 0
In b [] = ⊥
In b (c ∷ cs) = (b ≡ c) ⊎ In b cs

-- blocks are a rearrangement of those that their numbers put in order: there are just as many, and each is in the place of its number
pub record Rearranged (count : ℕ) (bs : List (List ℕ)) : Type 0 where
  pub as_many : length bs ≡ count
  pub in_place : All (λ b. ((head_of_lem b).number < count) × (numbered (head_of_lem b).number bs ≡ b)) bs

-- blocks are the image of a payload in edition 1, of this count and release, and a store begins with that payload and zeros; it is the only
-- payload of these blocks
pub record HeldImage (ekey ckey : List ℕ) (count release : ℕ) (bs : List (List ℕ)) (store : List ℕ) : Type 0 where
  pub of : ImageOf one (aes_of ekey) (aes_of ckey) bs
  pub of_count : length bs ≡ count
  pub of_release : of.release ≡ release
  pub in_store : take (480 * count) store ≡ pad_to (480 * count) of.payload
  pub only : (other : ImageOf one (aes_of ekey) (aes_of ckey) bs) → other.payload ≡ of.payload

-- every block offered is one of these, or is refused where it comes
abbrev pub TheseOrRefused : List (List ℕ) → Holding → List (List ℕ) → Type 0
TheseOrRefused bs x [] = Unit {0}
TheseOrRefused bs x (o ∷ os) = (In o bs ⊎ (receive_number (answer_to x o) ≡ 0 → ⊥)) × TheseOrRefused bs (after x o) os

-- ---- blocks in another order

-- a block that the receiver would take next
abbrev pub Acceptable : Holding → List ℕ → Type 0
Acceptable x b = receive_number (answer_to x b) ≡ 0

abbrev pub OtherNumber : List ℕ → List ℕ → Type 0
OtherNumber a b = (head_of_lem a).number ≡ (head_of_lem b).number → ⊥

-- no two have the same number
abbrev pub Distinct : List (List ℕ) → Type 0
Distinct [] = Unit {0}
Distinct (b ∷ bs) = All (OtherNumber b) bs × Distinct bs
