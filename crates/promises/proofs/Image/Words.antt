-- The words in which the promises about images are said. Assumes nothing: these are definitions.
use mathlib.Core.Path.{◌≡◌}
use mathlib.Core.Bool.{true, false, ◌&&◌, cond}
use mathlib.Core.List.{List, [], ◌∷◌, ◌++◌}
use Prim.Native.Nat.{ℕ, zero, suc, ◌+◌, ◌*◌, ◌/◌, ◌%◌, ◌≤◌, ◌<◌, max}
use lib.ListN.{length, get_or, take, drop}
use Rattle.octets.specs.Octets.{Bytes, Octets, joined}
use Rattle.octets.specs.Blocks.{BlockCipher}
use Rattle.aes_schedule.specs.declared.KeyAnswer.{KeyAnswer}
use Rattle.aes_schedule.specs.declared.KeyAnswer.TheVariants.{Taken, KeyLength}
use Rattle.image_layout.specs.Layout.{head_of_lem}
use Rattle.image_limits.specs.Fits.{length_fits}
use Rattle.image_limits.specs.Marks.{is_edition}
use Rattle.image_progress.specs.Progress.{closed}
use Rattle.image_layout.specs.declared.Head.{Head}
use Rattle.image_progress.specs.declared.Progress.{Progress}
use Rattle.image_reasons.specs.declared.Reason.{Reason}
use Rattle.image_reasons.specs.declared.Reason.TheVariants.{AfterLast, CheckWrong, Count, Number, OtherCount, OtherRelease, Length, Reserved, FillNotZero}
use Rattle.image_reasons.specs.declared.Verdict.{Verdict}
use Rattle.image_reasons.specs.declared.Verdict.TheVariants.{Accepted, Refused}
use Rattle.image_spec.specs.Edition.{Edition, no_check, tail_of}
use Rattle.image_spec.specs.Sealed.{filled, block_for, opened, checks, fill_zero}
use Rattle.image_spec.specs.Judge.{Keys, Rule, either, taken}
use Rattle.image_reader_turn.specs.Turn.{Reading, cut, handled, reading_by}
use Rattle.image_writer_answer.specs.Answers.{last_for}
use Rattle.image_writer.specs.Calls.{write_answer, write_output}
use Rattle.image_reader.specs.Calls.{start_of, keys_of, turn_of}
use Rattle.image_writer_answer.specs.declared.WriteAnswer.{WriteAnswer}
use Rattle.image_writer_answer.specs.declared.WriteAnswer.TheVariants.{Written, WriteKey, WriteCount, WriteNumber, WriteLength, WriteEdition, WriteRoom}
use Rattle.image_writer_answer.specs.declared.Numbers.{Numbers}
use Rattle.image_reader.specs.declared.Reader.{Reader}
use Rattle.image_reader_tally.specs.declared.Stop.{Stop}
use Rattle.image_reader_tally.specs.declared.Stop.TheVariants.{End, Asked, Lent, Room, At}
use Rattle.image_reader.specs.declared.Turn.{Turn}
use Rattle.image_progress.specs.declared.Completion.{Completion}
use Rattle.image_progress.specs.declared.Completion.TheVariants.{Complete, NotComplete}
pub use Rattle.promises.proofs.Aes.Keys.{KeyTaken}

-- ---- editions

-- an edition whose mark fits its place, and whose tail is bytes where the check before is
pub record Proper (ed : Edition) : Type 0 where
  pub mark_wide : ed.mark < 65536
  pub tail_bytes : (x : List ℕ) → Octets 16 x → Bytes (ed.tail x)

-- ---- the verdict on a block

-- what the tests ask of a header in an edition with this mark, and of the reader that none of its blocks was the last
pub record Right (mark : ℕ) (s : Progress) (h : Head) : Type 0 where
  pub still_open : 0 < s.next → s.next < s.count
  pub count_low : 0 < h.count
  pub count_high : h.count ≤ 65535
  pub expected : h.number ≡ s.next
  pub same_count : 0 < s.next → h.count ≡ s.count
  pub same_release : 0 < s.next → h.release ≡ s.release
  pub len_fits : length_fits h.number h.count h.len ≡ true
  pub marked : h.reserved ≡ mark

-- a block meets every test
pub record Met (k : Keys) (ed : Edition) (s : Progress) (b : List ℕ) : Type 0 where
  pub usable_keys : k.usable ≡ true
  pub check_right : checks k.mac (ed.tail s.last) b ≡ true
  pub head_right : Right ed.mark s (head_of_lem b)
  pub fill-zero : fill_zero k.enc b ≡ true

-- the table's row for a reason that a header alone gives, where an edition's mark is asked for
abbrev pub HeadRow : (mark : ℕ) → Progress → Head → Reason → Type 0
HeadRow mark s h (Count v) = (v ≡ h.count) × (0 < v → v ≤ 65535 → ⊥)
HeadRow mark s h (Number v) = (v ≡ h.number) × (v ≡ s.next → ⊥)
HeadRow mark s h (OtherCount v) = (v ≡ h.count) × (0 < s.next) × (v ≡ s.count → ⊥)
HeadRow mark s h (OtherRelease v) = (v ≡ h.release) × (0 < s.next) × (v ≡ s.release → ⊥)
HeadRow mark s h (Length v) = (v ≡ h.len) × (length_fits h.number h.count v ≡ false)
HeadRow mark s h (Reserved v) = (v ≡ h.reserved) × (v ≡ mark → ⊥)
HeadRow mark s h AfterLast = ⊥
HeadRow mark s h CheckWrong = ⊥
HeadRow mark s h FillNotZero = ⊥

-- the table's row for a reason: when it is given, and that the value held is the one found
abbrev pub Row : Keys → Edition → Progress → List ℕ → Reason → Type 0
Row k ed s b AfterLast = (0 < s.next) × (s.count ≤ s.next)
Row k ed s b CheckWrong = (k.usable && checks k.mac (ed.tail s.last) b) ≡ false
Row k ed s b (Count v) = HeadRow ed.mark s (head_of_lem b) (Count v)
Row k ed s b (Number v) = HeadRow ed.mark s (head_of_lem b) (Number v)
Row k ed s b (OtherCount v) = HeadRow ed.mark s (head_of_lem b) (OtherCount v)
Row k ed s b (OtherRelease v) = HeadRow ed.mark s (head_of_lem b) (OtherRelease v)
Row k ed s b (Length v) = HeadRow ed.mark s (head_of_lem b) (Length v)
Row k ed s b (Reserved v) = HeadRow ed.mark s (head_of_lem b) (Reserved v)
Row k ed s b FillNotZero = fill_zero k.enc b ≡ false

-- the order in which the rows are asked: 16, 14, 7, 8, 9, 10, 12, 13, 15
abbrev pub rank : Reason → ℕ
rank AfterLast = 0
rank CheckWrong = 1
rank (Count v) = 2
rank (Number v) = 3
rank (OtherCount v) = 4
rank (OtherRelease v) = 5
rank (Length v) = 6
rank (Reserved v) = 7
rank FillNotZero = 8

-- what each verdict says of a block: accepted, that it meets every test; refused, that the row for the reason holds, and no row asked before it
abbrev pub Says : Keys → Edition → Progress → List ℕ → Verdict → Type 0
Says k ed s b Accepted = Met k ed s b
Says k ed s b (Refused r) = Row k ed s b r × ((q : Reason) → rank q < rank r → Row k ed s b q → ⊥)

-- the same of a header alone
abbrev pub HeadSays : (mark : ℕ) → Progress → Head → Verdict → Type 0
HeadSays mark s h Accepted = (q : Reason) → HeadRow mark s h q → ⊥
HeadSays mark s h (Refused r) = HeadRow mark s h r × ((q : Reason) → rank q < rank r → HeadRow mark s h q → ⊥)

-- refused by 16 where no block may follow, else by 14
abbrev pub unchecked : Progress → Verdict
unchecked s = cond (closed s) (Refused AfterLast) (Refused CheckWrong)

-- the first n blocks meet every test, each where the reader stands after those before it, of the edition that its rule holds it to
abbrev pub AllMet : Keys → Rule → Progress → ℕ → List (List ℕ) → Type 0
AllMet k rule s zero bs = Unit {0}
AllMet k rule s (suc n) [] = ⊥
AllMet k rule s (suc n) (b ∷ bs) = Met k (rule s (head_of_lem b).reserved) s b × AllMet k rule (taken s b) n bs

-- ---- blocks and what they hold

-- every one is 512 bytes
abbrev pub Blocks : List (List ℕ) → Type 0
Blocks [] = Unit {0}
Blocks (b ∷ bs) = Octets 512 b × Blocks bs

-- the payload of a block: its header says how long it is
abbrev pub payload : BlockCipher → List ℕ → List ℕ
payload ek b = take (head_of_lem b).len (opened ek b)

-- what blocks open to, joined, and their payloads, joined
abbrev pub plains : BlockCipher → List (List ℕ) → List ℕ
plains ek [] = []
plains ek (b ∷ bs) = opened ek b ++ plains ek bs

abbrev pub parts : BlockCipher → List (List ℕ) → List ℕ
parts ek [] = []
parts ek (b ∷ bs) = payload ek b ++ parts ek bs

-- the sum of the lengths that their headers say
abbrev pub lengths : List (List ℕ) → ℕ
lengths [] = 0
lengths (b ∷ bs) = (head_of_lem b).len + lengths bs

-- what each block opens to is its payload, as long as its header says, and zero fill
abbrev pub AllFilled : BlockCipher → List (List ℕ) → Type 0
AllFilled ek [] = Unit {0}
AllFilled ek (b ∷ bs) = (opened ek b ≡ filled (payload ek b)) × (length (payload ek b) ≡ (head_of_lem b).len) × AllFilled ek bs

-- the payloads that an output holds, each at the start of its 480 bytes, their lengths told by the blocks' headers
abbrev pub parts_in : List (List ℕ) → (out : List ℕ) → List ℕ
parts_in [] out = []
parts_in (b ∷ bs) out = take (head_of_lem b).len out ++ parts_in bs (drop 480 out)

-- ---- the writer

-- what the writer asks
pub record Fit (ekey ckey : List ℕ) (n : Numbers) (len room : ℕ) : Type 0 where
  pub ekey_taken : KeyTaken ekey
  pub ckey_taken : KeyTaken ckey
  pub count_low : 0 < n.count
  pub count_high : n.count ≤ 65535
  pub below : n.number < n.count
  pub len_fits : length_fits n.number n.count len ≡ true
  pub known : is_edition n.edition ≡ true
  pub roomy : 512 ≤ room

-- what each of its answers says: the first test that fails is the one told
abbrev pub WriteSays : (ekey ckey : List ℕ) → Numbers → (len room : ℕ) → WriteAnswer → Type 0
WriteSays ekey ckey n len room Written = Fit ekey ckey n len room
WriteSays ekey ckey n len room WriteKey = KeyTaken ekey → KeyTaken ckey → ⊥
WriteSays ekey ckey n len room WriteCount = KeyTaken ekey × KeyTaken ckey × (0 < n.count → n.count ≤ 65535 → ⊥)
WriteSays ekey ckey n len room WriteNumber = KeyTaken ekey × KeyTaken ckey × (0 < n.count) × (n.count ≤ 65535) × (n.count ≤ n.number)
WriteSays ekey ckey n len room WriteLength = KeyTaken ekey × KeyTaken ckey × (n.count ≤ 65535) × (n.number < n.count) × (length_fits n.number n.count len ≡ false)
WriteSays ekey ckey n len room WriteEdition =
    KeyTaken ekey × KeyTaken ckey × (n.count ≤ 65535) × (n.number < n.count) × (length_fits n.number n.count len ≡ true) × (n.edition ≡ 1 → ⊥) × (n.edition ≡ 2 → ⊥)
WriteSays ekey ckey n len room WriteRoom =
    KeyTaken ekey × KeyTaken ckey × (n.count ≤ 65535) × (n.number < n.count) × (length_fits n.number n.count len ≡ true) × (is_edition n.edition ≡ true) × (room < 512)

-- the output after the writer's call
abbrev pub after_write : (ekey ckey : List ℕ) → Numbers → (previous payload out : List ℕ) → List ℕ
after_write ekey ckey n previous payload out =
    write_output (write_answer ekey ckey n payload out) ekey ckey n previous payload out

-- b is a block that the writer wrote of these arguments, under both keys, into some output
pub record Wrote (ekey ckey : List ℕ) (n : Numbers) (previous payload b : List ℕ) : Type 0 where
  pub out : List ℕ
  pub answer : write_answer ekey ckey n payload out ≡ Written
  pub block : b ≡ take 512 (after_write ekey ckey n previous payload out)
  pub previous_octets : Octets 16 previous
  pub payload_bytes : Bytes payload
  pub release_fits : n.release < 4294967296

-- the last check of a reader is the one that a block with these numbers was sealed on, as far as its edition asks for it
abbrev pub SealedOn : Numbers → (previous last : List ℕ) → Type 0
SealedOn n previous last = tail_of n.edition last ≡ tail_of n.edition (last_for n.number previous)

-- how many blocks a payload takes: one for every 480 bytes fresh, and one where there are none
abbrev pub blocks : List ℕ → ℕ
blocks p = max 1 ((length p + 479) / 480)

-- n blocks of the writer, from a number on, of what is left of the payload, each sealed on the check of the block before
unfoldable pub written : Edition → (ek ck : BlockCipher) (count release : ℕ) (last : List ℕ) (number n : ℕ) → List ℕ → List (List ℕ)
written ed ek ck count release last number zero p = []
written ed ek ck count release last number (suc n) p =
    let b = block_for ed ek ck last number count release (take 480 p) in
    b ∷ written ed ek ck count release (drop 496 b) (number + 1) n (drop 480 p)

-- the image of a payload in an edition
abbrev pub image : Edition → (ek ck : BlockCipher) (release : ℕ) → List ℕ → List (List ℕ)
image ed ek ck release p = written ed ek ck (blocks p) release no_check 0 (blocks p) p

-- ---- the reader

-- a reader in a given state, and the one that two keys start
abbrev pub in_state : Reader → Progress → Reader
in_state r s = record { keys = r.keys; progress = s }

abbrev pub reader_of : (ekey ckey : List ℕ) → Progress → Reader
reader_of ekey ckey s = in_state (start_of ekey ckey).reader s

-- a state that waits for this block: the number is the one expected, its last check is the one that the block was sealed on, and count,
-- release and edition are the fixed ones, if a block has been accepted
pub record Waits (s : Progress) (n : Numbers) (previous : List ℕ) : Type 0 where
  pub next_number : n.number ≡ s.next
  pub same_count : 0 < s.next → n.count ≡ s.count
  pub same_release : 0 < s.next → n.release ≡ s.release
  pub same_edition : 0 < s.next → n.edition ≡ s.edition
  pub sealed_on : SealedOn n previous s.last

-- where a reader stands after these blocks were accepted
abbrev pub moved : Progress → List (List ℕ) → Progress
moved s [] = s
moved s (b ∷ bs) = moved (taken s b) bs

-- the readers that a start and turns make
pub data FromStart (ekey ckey : List ℕ) : Reader → Type 0 where
  started : FromStart ekey ckey (start_of ekey ckey).reader
  turn : {r : Reader} → FromStart ekey ckey r → (lent : List ℕ) (asked : ℕ) (out : List ℕ) → FromStart ekey ckey (turn_of r lent asked out).0.reader

-- once a block has been accepted, the number expected is never past the count
pub record Sound (s : Progress) : Type 0 where
  pub within : 0 < s.next → (s.next ≤ s.count) × (s.count ≤ 65535)

-- ---- turns

-- what a turn that is not refused as a whole reads
abbrev pub reading_of : Reader → (lent : List ℕ) (asked : ℕ) → Reading
reading_of r lent asked = reading_by (keys_of r) r.progress lent asked

-- the blocks that a turn handles
abbrev pub given : (lent : List ℕ) (asked : ℕ) → List (List ℕ)
given lent asked = cut (handled lent asked) lent

-- the turn is not refused as a whole: asked is 1 to 128, whole blocks are lent, and the output has room
pub record Fair (lent : List ℕ) (asked : ℕ) (out : List ℕ) : Type 0 where
  pub some_asked : 0 < asked
  pub few_asked : asked ≤ 128
  pub blocks_lent : length lent % 512 ≡ 0
  pub room : 480 * handled lent asked ≤ length out

-- what each way to stop says of what was lent to a reader: 5, 6 and 4 in that order, then the first block that is refused, and why
abbrev pub StopSays : Reader → (lent : List ℕ) (asked : ℕ) (out : List ℕ) → Stop → Type 0
StopSays r lent asked out Asked = 0 < asked → asked ≤ 128 → ⊥
StopSays r lent asked out Lent = (0 < asked) × (asked ≤ 128) × (length lent % 512 ≡ 0 → ⊥)
StopSays r lent asked out Room = (0 < asked) × (asked ≤ 128) × (length lent % 512 ≡ 0) × (length out < 480 * handled lent asked)
StopSays r lent asked out End = Fair lent asked out × AllMet (keys_of r) either r.progress (handled lent asked) (given lent asked)
StopSays r lent asked out (At place reason) =
    Fair lent asked out × (place < handled lent asked) × AllMet (keys_of r) either r.progress place (given lent asked)
    × Says (keys_of r) (either (moved r.progress (take place (given lent asked))) (head_of_lem (get_or (given lent asked) place [])).reserved) (moved r.progress (take place (given lent asked))) (get_or (given lent asked) place [])
    (Refused reason)

-- refused as a whole
abbrev pub Whole : Stop → Type 0
Whole Asked = Unit {0}
Whole Lent = Unit {0}
Whole Room = Unit {0}
Whole End = ⊥
Whole (At place reason) = ⊥

-- what each answer of a start says
abbrev pub StartSays : (ekey ckey : List ℕ) → KeyAnswer → Type 0
StartSays ekey ckey Taken = KeyTaken ekey × KeyTaken ckey
StartSays ekey ckey KeyLength = KeyTaken ekey → KeyTaken ckey → ⊥

-- what each answer about completion says
abbrev pub CompletionSays : Progress → Completion → Type 0
CompletionSays s Complete = (0 < s.next) × (s.next ≡ s.count)
CompletionSays s NotComplete = 0 < s.next → s.next ≡ s.count → ⊥

-- what a caller lends in one turn
pub record Lending : Type 0 where
  pub lent : List ℕ
  pub asked : ℕ
  pub out : List ℕ

abbrev pub turn_by : Reader → Lending → Turn × List ℕ
turn_by r l = turn_of r l.lent l.asked l.out

-- no turn is refused as a whole
abbrev pub AllFair : List Lending → Type 0
AllFair [] = Unit {0}
AllFair (l ∷ ls) = Fair l.lent l.asked l.out × AllFair ls

-- the blocks that the turns handle, joined
abbrev pub offered : List Lending → List (List ℕ)
offered [] = []
offered (l ∷ ls) = given l.lent l.asked ++ offered ls

-- a cutting of blocks into turns, and what a caller lends for it: in each turn its blocks, one after another, and the same output
abbrev pub concat : List (List (List ℕ)) → List (List ℕ)
concat [] = []
concat (bs ∷ turns) = bs ++ concat turns

abbrev pub lend_each : (out : List ℕ) → List (List (List ℕ)) → List Lending
lend_each out [] = []
lend_each out (bs ∷ turns) = record { lent = joined bs; asked = 128; out = out } ∷ lend_each out turns

-- no turn has more than 128 blocks
abbrev pub AllFew : List (List (List ℕ)) → Type 0
AllFew [] = Unit {0}
AllFew (bs ∷ turns) = (length bs ≤ 128) × AllFew turns

-- the reader after the turns
abbrev pub reader_after : Reader → List Lending → Reader
reader_after r [] = r
reader_after r (l ∷ ls) = reader_after (turn_by r l).0.reader ls

-- every turn ends without a refusal, and accepts all that it handles
abbrev pub AllAccepted : Reader → List Lending → Type 0
AllAccepted r [] = Unit {0}
AllAccepted r (l ∷ ls) = ((turn_by r l).0.stop ≡ End) × ((turn_by r l).0.accepted ≡ handled l.lent l.asked) × AllAccepted (turn_by r l).0.reader ls

-- the payloads in the outputs, joined, and the sum of the lengths that the turns gave for them
abbrev pub handed_out : Reader → List Lending → List ℕ
handed_out r [] = []
handed_out r (l ∷ ls) = parts_in (given l.lent l.asked) (turn_by r l).1 ++ handed_out (turn_by r l).0.reader ls

abbrev pub counted : Reader → List Lending → ℕ
counted r [] = 0
counted r (l ∷ ls) = (turn_by r l).0.bytes + counted (turn_by r l).0.reader ls

-- one run over blocks, and then another from where it ended
abbrev pub later_by : ℕ → Stop → Stop
later_by n (At place reason) = At (n + place) reason
later_by n End = End
later_by n Asked = Asked
later_by n Lent = Lent
later_by n Room = Room

abbrev pub and_then : Reading → Reading → Reading
and_then a b = record {
  progress = b.progress;
  accepted = a.accepted + b.accepted;
  bytes = a.bytes + b.bytes;
  stop = later_by a.accepted b.stop;
  out = a.out ++ b.out;
}
