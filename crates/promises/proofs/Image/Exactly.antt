-- One image for one release: what a fresh reader accepts whole is what the writer makes of one payload and one release number, and nothing
-- else. Over any edition and any two lawful ciphers, then for AES under two keys, then of the calls. Assumes nothing.
use mathlib.Core.Path.{◌≡◌, refl, sym, ap, ap₂, subst, ◌∙◌}
use mathlib.Core.Bool.{Bool, true, false, cond}
use mathlib.Core.List.{List, [], ◌∷◌, ◌++◌, append-nil}
use Prim.Native.Nat.{ℕ, zero, suc, ◌+◌, ◌*◌, ◌≤◌, ◌<◌}
use native.Mathlib.Nat.{zero-add}
use native.Mathlib.Omega.{arith}
use borrow.Author.Tests.{ne_eqb}
use lib.ListN.{length, take, drop, length-drop}
use lib.Seq.{drop-drop}
use lib.Dec.{eqb}
use Rattle.octets.specs.Octets.{Bytes, Octets, over, joined}
use Rattle.octets.specs.Blocks.{BlockCipher, Lawful}
use Rattle.octets.proofs.Blocks.{append_bytes, take_bytes, drop_bytes}
use Rattle.aes_spec.specs.Cipher.{aes_of}
use Rattle.aes_spec.proofs.Aes.{key_lawful}
use Rattle.modes_spec.specs.Pieces.{piece}
use Rattle.cmac_spec.specs.Cmac.{cmac}
use Rattle.image_limits.specs.Marks.{is_edition}
use Rattle.image_progress.specs.Progress.{done}
use Rattle.image_progress.specs.declared.Progress.{Progress}
use Rattle.image_spec.specs.Edition.{Edition, no_check, edition}
use Rattle.image_spec.specs.Sealed.{block_for}
use Rattle.image_spec.specs.Judge.{Keys, fresh, BlockReader, always, either, of_edition, of_both}
use Rattle.image_reader_tally.specs.Tally.{stop_number}
use Rattle.image_reader_turn.specs.Turn.{read_blocks, handled}
use Rattle.image_reader_tally.specs.declared.Stop.TheVariants.{End}
use Rattle.image_writer_answer.specs.Answers.{write_number, last_for}
use Rattle.image_writer.specs.Calls.{write_answer, write_output, block_of}
use Rattle.image_reader.specs.Calls.{start_of, completion_of, keys_of}
use Rattle.image_writer_answer.specs.declared.WriteAnswer.{WriteAnswer}
use Rattle.image_writer_answer.specs.declared.WriteAnswer.TheVariants.{Written, WriteKey, WriteCount, WriteNumber, WriteLength, WriteEdition, WriteRoom}
use Rattle.image_reader.specs.declared.Turn.{Turn}
use Rattle.image_reader.proofs.read_turn.Reads as read_turn
use Rattle.image_writer.proofs.write.Reads as write
use Rattle.image_reader.specs.declared.Reader.{Reader}
use Rattle.image_progress.specs.declared.Completion.TheVariants.{Complete, NotComplete}
use Rattle.promises.proofs.Image.Words.{Proper, Blocks, plains, parts, lengths, parts_in, AllFilled, after_write, Wrote, blocks, written, image, given, Lending, turn_by, AllFair, offered, concat, lend_each, AllFew, reader_after, AllAccepted, handed_out, counted}
use Rattle.promises.proofs.Aes.Keys.{KeyTaken}
use Rattle.promises.proofs.Lemmas.ImageWhole.{Passes, passes_front, no_check_octets, image_blocks, image_parts, image_passes}
use Rattle.promises.proofs.Lemmas.ImageJudge.{accepted_met}
use Rattle.promises.proofs.Lemmas.ImageBoth.{edition_of, met_mark, passes_one, passes_both}
use Rattle.promises.proofs.Lemmas.ImageOne.{release_of, front_passes, passes_image, image_release, turns_passed}
use Rattle.promises.proofs.Lemmas.ImageCalls.{keys_under, start_fresh, given_blocks}
use Rattle.promises.proofs.Lemmas.ImageTurn.{end_all, met_filled, ran_met, ran_out, ran_bytes, parts-in, parts_length}
use Rattle.promises.proofs.Lemmas.ImageRead.{is_sealed, size, bytes, blocks_split, take_whole}
use Rattle.promises.proofs.Image.Statements.{write-output, numbers_at, block_written, image_is_read, image_length, given_joined, any_cutting, edition_proper, turn_takes_all}

-- ---- the words

-- a fresh reader of blocks accepts all of these, and is complete at the end
pub record AcceptedWhole (d : BlockReader) (bs : List (List ℕ)) : Type 0 where
  pub no_refusal : (read_blocks d fresh bs).stop ≡ End
  pub complete : done (read_blocks d fresh bs).progress ≡ true

-- blocks are the writer's, all in order, for a payload and a release number
pub record ImageOf (ed : Edition) (ek ck : BlockCipher) (bs : List (List ℕ)) : Type 0 where
  pub payload : List ℕ
  pub release : ℕ
  pub payload_bytes : Bytes payload
  pub payload_fits : length payload ≤ 31456800
  pub release_fits : release < 4294967296
  pub is_image : bs ≡ image ed ek ck release payload

-- the reader of an edition over two ciphers, and under two keys that were given to a start
abbrev pub keys_by : (ek ck : BlockCipher) → Keys
keys_by ek ck = record { enc = ek; mac = cmac ck; usable = true }

abbrev pub reader_by : Edition → (ek ck : BlockCipher) → BlockReader
reader_by ed ek ck = of_edition (keys_by ek ck) ed

abbrev pub first_reader : (ekey ckey : List ℕ) → Reader
first_reader ekey ckey = (start_of ekey ckey).reader

abbrev pub started_reader : Edition → (ekey ckey : List ℕ) → BlockReader
started_reader ed ekey ckey = of_edition (keys_of (first_reader ekey ckey)) ed

-- ---- over any edition and any two lawful ciphers

module _ (ed : Edition) (pe : Proper ed) (ek ck : BlockCipher) (le : Lawful 16 ek) (lc : Lawful 16 ck) (bs : List (List ℕ)) where
  whole_passes : AcceptedWhole (reader_by ed ek ck) bs → Passes (keys_by ek ck) (always ed) fresh bs
  whole_passes a = subst (Passes (keys_by ek ck) (always ed) fresh) (append-nil bs) (front_passes (keys_by ek ck) (always ed) fresh bs [] a.no_refusal a.complete)

  -- a list of blocks is accepted whole exactly if it is an image
  pub accepted_whole_is_an_image : Blocks bs → AcceptedWhole (reader_by ed ek ck) bs → ImageOf ed ek ck bs
  accepted_whole_is_an_image w a =
      let t = passes_image ed ek ck le bs w (whole_passes a) in
      record { payload = parts ek bs; release = release_of bs; payload_bytes = t.2; payload_fits = t.1; release_fits = t.0; is_image = t.3 }

  pub an_image_is_blocks : ImageOf ed ek ck bs → Blocks bs
  an_image_is_blocks x = subst Blocks (sym x.is_image) (image_blocks ed pe ek ck le lc x.release x.payload x.release_fits x.payload_fits x.payload_bytes)

  pub an_image_is_accepted_whole : ImageOf ed ek ck bs → AcceptedWhole (reader_by ed ek ck) bs
  an_image_is_accepted_whole x =
      let p : Passes (keys_by ek ck) (always ed) fresh (bs ++ []) = rw (append-nil bs, x.is_image) (image_passes ed pe ek ck le lc x.release x.payload x.release_fits x.payload_fits x.payload_bytes) in
      let t = passes_front (keys_by ek ck) (always ed) fresh bs [] p in
      record { no_refusal = t.0; complete = t.2 }

  pub accepted_exactly_images : Blocks bs → (AcceptedWhole (reader_by ed ek ck) bs → ImageOf ed ek ck bs) × (ImageOf ed ek ck bs → AcceptedWhole (reader_by ed ek ck) bs)
  accepted_exactly_images w = (accepted_whole_is_an_image w, an_image_is_accepted_whole)

  -- the payloads that its blocks hold join to its payload, and its first block says its number
  pub an_image_holds : (x : ImageOf ed ek ck bs) → (parts ek bs ≡ x.payload) × (release_of bs ≡ x.release)
  an_image_holds x = (
    ap (parts ek) x.is_image ∙ image_parts ed pe ek ck le lc x.release x.payload x.release_fits x.payload_fits x.payload_bytes,
    ap release_of x.is_image ∙ image_release ed ek ck pe le lc x.release x.payload x.release_fits x.payload_fits x.payload_bytes,
  )

  -- so it is the image of no other payload, and of no other number
  pub an_image_of_one : (x y : ImageOf ed ek ck bs) → (x.payload ≡ y.payload) × (x.release ≡ y.release)
  an_image_of_one x y =
      let a = an_image_holds x in
      let b = an_image_holds y in
      (sym a.0 ∙ b.0, sym a.1 ∙ b.1)

  -- and its payload is handed out: the parts of what the reader opens join to it, whatever the output held before, and their lengths
  -- add up to its length
  pub an_image_is_handed_out : (x : ImageOf ed ek ck bs) (out : List ℕ)
      → (parts_in bs (over (read_blocks (reader_by ed ek ck) fresh bs).out out) ≡ x.payload) × ((read_blocks (reader_by ed ek ck) fresh bs).bytes ≡ length x.payload)
  an_image_is_handed_out x out =
      let d = reader_by ed ek ck in
      let w = an_image_is_blocks x in
      let n : (read_blocks d fresh bs).accepted ≡ length bs = end_all d fresh bs (an_image_is_accepted_whole x).no_refusal in
      let all : take (read_blocks d fresh bs).accepted bs ≡ bs = ap (λ (m : ℕ). take m bs) n ∙ take_whole bs in
      let full : AllFilled ek bs = subst (AllFilled ek) all (met_filled (keys_by ek ck) (always ed) le fresh (read_blocks d fresh bs).accepted bs w (ran_met (keys_by ek ck) (always ed) fresh bs)) in
      let o : (read_blocks d fresh bs).out ≡ plains ek bs = ran_out (keys_by ek ck) (always ed) fresh bs ∙ ap (plains ek) all in (
        ap (λ (y : List ℕ). parts_in bs (over y out)) o ∙ parts-in ek le bs (drop (length (plains ek bs)) out) w full ∙ (an_image_holds x).0,
        ran_bytes d fresh bs ∙ ap lengths all ∙ sym (parts_length ek bs full) ∙ ap length (an_image_holds x).0,
      )

-- two lists of blocks that are images of one payload and one number are the same to the byte
pub one_image_for_one_release : (ed : Edition) (ek ck : BlockCipher) (bs cs : List (List ℕ)) (x : ImageOf ed ek ck bs) (y : ImageOf ed ek ck cs) → x.payload ≡ y.payload → x.release ≡ y.release → bs ≡ cs
one_image_for_one_release ed ek ck bs cs x y p r = x.is_image ∙ ap₂ (image ed ek ck) r p ∙ sym y.is_image

-- ---- for AES under two keys that are taken

module _ (ekey ckey : List ℕ) (te : KeyTaken ekey) (tc : KeyTaken ckey) (ed : Edition) (pe : Proper ed) (bs : List (List ℕ)) where
  pub keys_accept_exactly_images : Blocks bs
      → (AcceptedWhole (started_reader ed ekey ckey) bs → ImageOf ed (aes_of ekey) (aes_of ckey) bs) × (ImageOf ed (aes_of ekey) (aes_of ckey) bs → AcceptedWhole (started_reader ed ekey ckey) bs)
  keys_accept_exactly_images w =
      subst (λ (k : Keys). (AcceptedWhole (of_edition k ed) bs → ImageOf ed (aes_of ekey) (aes_of ckey) bs) × (ImageOf ed (aes_of ekey) (aes_of ckey) bs → AcceptedWhole (of_edition k ed) bs))
      (sym (start_fresh ekey ckey te tc).1) (accepted_exactly_images ed pe (aes_of ekey) (aes_of ckey) (key_lawful ekey te) (key_lawful ckey tc) bs w)

  pub keys_image_of_one : (x y : ImageOf ed (aes_of ekey) (aes_of ckey) bs) → (x.payload ≡ y.payload) × (x.release ≡ y.release)
  keys_image_of_one x y = an_image_of_one ed pe (aes_of ekey) (aes_of ckey) (key_lawful ekey te) (key_lawful ckey tc) bs x y

  pub keys_hand_out : (x : ImageOf ed (aes_of ekey) (aes_of ckey) bs) (out : List ℕ)
      → (parts_in bs (over (read_blocks (started_reader ed ekey ckey) fresh bs).out out) ≡ x.payload) × ((read_blocks (started_reader ed ekey ckey) fresh bs).bytes ≡ length x.payload)
  keys_hand_out x out =
      subst (λ (k : Keys). (parts_in bs (over (read_blocks (of_edition k ed) fresh bs).out out) ≡ x.payload) × ((read_blocks (of_edition k ed) fresh bs).bytes ≡ length x.payload))
      (sym (start_fresh ekey ckey te tc).1) (an_image_is_handed_out ed pe (aes_of ekey) (aes_of ckey) (key_lawful ekey te) (key_lawful ckey tc) bs x out)

-- ---- both editions

-- blocks are an image in edition 1 or in edition 2
pub record SomeImage (ek ck : BlockCipher) (bs : List (List ℕ)) : Type 0 where
  pub number : ℕ
  pub known : is_edition number ≡ true
  pub of : ImageOf (edition number) ek ck bs

module _ (ek ck : BlockCipher) (le : Lawful 16 ek) (lc : Lawful 16 ck) (bs : List (List ℕ)) where
  both_passes : Blocks bs → Passes (keys_by ek ck) either fresh bs → SomeImage ek ck bs
  unfolding done
  both_passes w p = go bs w p
    where
      go : (bs : List (List ℕ)) → Blocks bs → Passes (keys_by ek ck) either fresh bs → SomeImage ek ck bs
      go [] w p = let z : ◌≡◌ {A = ℕ} 0 1 = cc in absurd (omega arith)
      go (b ∷ bs) w p =
          let q = passes_one (keys_by ek ck) b bs w p in
          let t = passes_image (edition (edition_of (b ∷ bs))) ek ck le (b ∷ bs) w q.1 in
          record {
            number = edition_of (b ∷ bs);
            known = q.0;
            of = record { payload = parts ek (b ∷ bs); release = release_of (b ∷ bs); payload_bytes = t.2; payload_fits = t.1; release_fits = t.0; is_image = t.3 };
          }

  passes_of : (x : SomeImage ek ck bs) → Passes (keys_by ek ck) (always (edition x.number)) fresh bs
  passes_of x =
      rw x.of.is_image (image_passes (edition x.number) (edition_proper x.number x.known) ek ck le lc x.of.release x.of.payload x.of.release_fits x.of.payload_fits x.of.payload_bytes)

  some_image_is_blocks : SomeImage ek ck bs → Blocks bs
  some_image_is_blocks x = an_image_is_blocks (edition x.number) (edition_proper x.number x.known) ek ck le lc bs x.of

  -- the reader of both accepts whole exactly the images of either edition
  pub both_accept_exactly_images : Blocks bs → (AcceptedWhole (of_both (keys_by ek ck)) bs → SomeImage ek ck bs) × (SomeImage ek ck bs → AcceptedWhole (of_both (keys_by ek ck)) bs)
  both_accept_exactly_images w = (
    λ a. both_passes w (subst (Passes (keys_by ek ck) either fresh) (append-nil bs) (front_passes (keys_by ek ck) either fresh bs [] a.no_refusal a.complete)),
    λ x.
        let p : Passes (keys_by ek ck) either fresh (bs ++ []) = rw (append-nil bs) (passes_both (keys_by ek ck) x.number fresh bs w (λ l. absurd (omega arith)) (passes_of x)) in
        let t = passes_front (keys_by ek ck) either fresh bs [] p in
        record { no_refusal = t.0; complete = t.2 },
  )

  -- the edition is the one that the first block selects, so it is the only one, and so are payload and release
  pub edition_is_the_first_blocks : (x : SomeImage ek ck bs) → x.number ≡ edition_of bs
  unfolding done
  edition_is_the_first_blocks x = go bs (some_image_is_blocks x) (passes_of x)
    where
      go : (bs : List (List ℕ)) → Blocks bs → Passes (keys_by ek ck) (always (edition x.number)) fresh bs → x.number ≡ edition_of bs
      go [] w p = let z : ◌≡◌ {A = ℕ} 0 1 = cc in absurd (omega arith)
      go (b ∷ bs) w p = sym (met_mark (keys_by ek ck) fresh b w.0.bytes x.number (accepted_met (keys_by ek ck) (edition x.number) fresh b p.0))

  pub some_image_of_one : (x y : SomeImage ek ck bs) → (x.number ≡ y.number) × (x.of.payload ≡ y.of.payload) × (x.of.release ≡ y.of.release)
  some_image_of_one x y =
      let a = an_image_holds (edition x.number) (edition_proper x.number x.known) ek ck le lc bs x.of in
      let b = an_image_holds (edition y.number) (edition_proper y.number y.known) ek ck le lc bs y.of in
      (edition_is_the_first_blocks x ∙ sym (edition_is_the_first_blocks y), sym a.0 ∙ b.0, sym a.1 ∙ b.1)

-- ---- the calls: turns of a reader, each lending what it will, into an output that held anything

-- what is lent is bytes, in every turn
abbrev pub AllBytes : List Lending → Type 0
AllBytes [] = Unit {0}
AllBytes (l ∷ ls) = Bytes l.lent × AllBytes ls

pub offered_blocks : (ls : List Lending) → AllBytes ls → Blocks (offered ls)
offered_blocks [] w = tt
offered_blocks (l ∷ ls) w = blocks_join (given l.lent l.asked) (offered ls) (given_blocks l.lent l.asked w.0) (offered_blocks ls w.1)
  where
    blocks_join : (bs cs : List (List ℕ)) → Blocks bs → Blocks cs → Blocks (bs ++ cs)
    blocks_join [] cs v u = u
    blocks_join (b ∷ bs) cs v u = (v.0, blocks_join bs cs v.1 u)

-- from a start on, every turn accepts all that it handles, and the reader is complete
pub record ReadWhole (ekey ckey : List ℕ) (ls : List Lending) : Type 0 where
  pub accepted : AllAccepted (first_reader ekey ckey) ls
  pub complete : completion_of (reader_after (first_reader ekey ckey) ls) ≡ Complete

complete_done : (r : Reader) → completion_of r ≡ Complete → done r.progress ≡ true
unfolding completion_of
complete_done r = go (done r.progress)
  where
    go : (t : Bool) → cond t Complete NotComplete ≡ Complete → t ≡ true
    go true e = refl
    go false e = let z : ◌≡◌ {A = ℕ} 0 1 = cc in absurd (omega arith)

module _ (ekey ckey : List ℕ) (te : KeyTaken ekey) (tc : KeyTaken ckey) (ls : List Lending) where
  -- blocks are read whole, in whatever turns, exactly if no turn is refused as a whole and the blocks that the turns handle are an image
  pub read_whole_is_an_image : AllBytes ls → ReadWhole ekey ckey ls → AllFair ls × SomeImage (aes_of ekey) (aes_of ckey) (offered ls)
  read_whole_is_an_image w a =
      let s = start_fresh ekey ckey te tc in
      let p = turns_passed (keys_under ekey ckey) (first_reader ekey ckey) s.1 ls a.accepted (complete_done (reader_after (first_reader ekey ckey) ls) a.complete) in
      let q : Passes (keys_under ekey ckey) either fresh (offered ls) = subst (λ (x : Progress). Passes (keys_under ekey ckey) either x (offered ls)) s.2 p.1 in
      (p.0, both_passes (aes_of ekey) (aes_of ckey) (key_lawful ekey te) (key_lawful ckey tc) (offered ls) (offered_blocks ls w) q)

  pub an_image_is_read_whole : AllFair ls → SomeImage (aes_of ekey) (aes_of ckey) (offered ls) → ReadWhole ekey ckey ls
  an_image_is_read_whole f x =
      let t = image_is_read x.number x.known ekey ckey x.of.release x.of.payload te tc x.of.release_fits x.of.payload_fits x.of.payload_bytes ls f x.of.is_image in
      record { accepted = t.0; complete = t.1 }

  pub read_exactly_images : AllBytes ls → AllFair ls
      → (ReadWhole ekey ckey ls → SomeImage (aes_of ekey) (aes_of ckey) (offered ls)) × (SomeImage (aes_of ekey) (aes_of ckey) (offered ls) → ReadWhole ekey ckey ls)
  read_exactly_images w f = (λ a. (read_whole_is_an_image w a).1, an_image_is_read_whole f)

  -- the parts that the turns hand out join to its payload, and the lengths that they give add up to its length
  pub turns_hand_out : AllFair ls → (x : SomeImage (aes_of ekey) (aes_of ckey) (offered ls)) → (handed_out (first_reader ekey ckey) ls ≡ x.of.payload) × (counted (first_reader ekey ckey) ls ≡ length x.of.payload)
  turns_hand_out f x =
      let t = image_is_read x.number x.known ekey ckey x.of.release x.of.payload te tc x.of.release_fits x.of.payload_fits x.of.payload_bytes ls f x.of.is_image in
      (t.2, t.3)

-- so for blocks cut into turns of at most 128 at any places, lent with one output, whatever it holds: no cutting says another thing
module _ (ekey ckey : List ℕ) (te : KeyTaken ekey) (tc : KeyTaken ckey) (out : List ℕ) (room : 61440 ≤ length out) where
  pub any_cutting_reads_exactly_images : (turns : List (List (List ℕ))) → AllFew turns → Blocks (concat turns)
      → (ReadWhole ekey ckey (lend_each out turns) → SomeImage (aes_of ekey) (aes_of ckey) (concat turns))
      × (SomeImage (aes_of ekey) (aes_of ckey) (concat turns) → ReadWhole ekey ckey (lend_each out turns))
  any_cutting_reads_exactly_images turns few w =
      let c = any_cutting out room turns few w in
      subst (λ (bs : List (List ℕ)). (ReadWhole ekey ckey (lend_each out turns) → SomeImage (aes_of ekey) (aes_of ckey) bs) × (SomeImage (aes_of ekey) (aes_of ckey) bs → ReadWhole ekey ckey (lend_each out turns)))
      c.1 (read_exactly_images ekey ckey te tc (lend_each out turns) (lent_bytes turns w) c.0)
    where
      whole : (bs : List (List ℕ)) → Blocks bs → Bytes (joined bs)
      whole [] v = λ k. omega arith
      whole (b ∷ bs) v = append_bytes b (joined bs) v.0.bytes (whole bs v.1)

      lent_bytes : (turns : List (List (List ℕ))) → Blocks (concat turns) → AllBytes (lend_each out turns)
      lent_bytes [] v = tt
      lent_bytes (bs ∷ turns) v = let u = blocks_split bs (concat turns) v in (whole bs u.0, lent_bytes turns u.1)

-- ---- the calls: what they answered

-- a call of `read_turn`: what was lent, its answer, and what the output holds after it
pub record TurnCall : Type 0 where
  pub lending : Lending
  pub answer : Turn
  pub output : List ℕ

-- calls one after another, each as its contract says, with the reader that the one before gave
abbrev pub Called : Reader → List TurnCall → Type 0
Called r [] = Unit {0}
Called r (c ∷ cs) = (◌≡◌ {A = Turn × List ℕ} (c.answer, c.output) (turn_by r c.lending)) × Called c.answer.reader cs

abbrev pub lendings : List TurnCall → List Lending
lendings [] = []
lendings (c ∷ cs) = c.lending ∷ lendings cs

-- the reader that the last of them gave
abbrev pub last_reader : Reader → List TurnCall → Reader
last_reader r [] = r
last_reader r (c ∷ cs) = last_reader c.answer.reader cs

-- none of them was refused, neither as a whole nor at a block
abbrev pub NoRefusal : List TurnCall → Type 0
NoRefusal [] = Unit {0}
NoRefusal (c ∷ cs) = (c.answer.stop ≡ End) × NoRefusal cs

-- the payloads in their outputs, each at the start of its 480 bytes, joined
abbrev pub parts_of : List TurnCall → List ℕ
parts_of [] = []
parts_of (c ∷ cs) = parts_in (given c.lending.lent c.lending.asked) c.output ++ parts_of cs

-- a call of `read_turn` by its contract is such a call
pub read_turn_is_called : (κs : _) (a : _) (r : _) (s : _) → read_turn.Post κs a r s
    → Called a.0 (record { lending = record { lent = a.1.0.now; asked = a.1.1.0; out = a.1.1.1.0.now }; answer = r; output = s.1.1.1.0.now } ∷ [])
read_turn_is_called κs a r s p = (p, tt)

called_says : (r : Reader) (cs : List TurnCall) → Called r cs
    → (reader_after r (lendings cs) ≡ last_reader r cs) × (handed_out r (lendings cs) ≡ parts_of cs) × (NoRefusal cs → AllAccepted r (lendings cs)) × (AllAccepted r (lendings cs) → NoRefusal cs)
called_says r [] w = (refl, refl, λ n. tt, λ n. tt)
called_says r (c ∷ cs) w =
    let l = c.lending in
    let ih = called_says c.answer.reader cs w.1 in
    let all : c.answer.stop ≡ End → c.answer.accepted ≡ handled l.lent l.asked =
    subst (λ (x : Turn × List ℕ). x.0.stop ≡ End → x.0.accepted ≡ handled l.lent l.asked) (sym w.0) (λ e. turn_takes_all r l.lent l.asked l.out (ap stop_number e)) in
    subst
    (λ (x : Turn × List ℕ).
    (reader_after x.0.reader (lendings cs) ≡ last_reader c.answer.reader cs)
    × (parts_in (given l.lent l.asked) x.1 ++ handed_out x.0.reader (lendings cs) ≡ parts_of (c ∷ cs))
    × (NoRefusal (c ∷ cs) → (x.0.stop ≡ End) × (x.0.accepted ≡ handled l.lent l.asked) × AllAccepted x.0.reader (lendings cs))
    × ((x.0.stop ≡ End) × (x.0.accepted ≡ handled l.lent l.asked) × AllAccepted x.0.reader (lendings cs) → NoRefusal (c ∷ cs)))
    w.0 (
      ih.0,
      ap (λ (y : List ℕ). parts_in (given l.lent l.asked) c.output ++ y) ih.1,
      λ n. (n.0, all n.0, ih.2 n.1),
      λ n. (n.0, ih.3 n.2),
    )

-- from a start on, calls in whatever turns are answered without a refusal and end complete exactly if the blocks that they handle are an
-- image; and the payloads in their outputs join to its payload
module _ (ekey ckey : List ℕ) (te : KeyTaken ekey) (tc : KeyTaken ckey) (cs : List TurnCall) (w : Called (first_reader ekey ckey) cs) where
  pub calls_read_exactly_images : AllBytes (lendings cs) → AllFair (lendings cs)
      → (NoRefusal cs × (completion_of (last_reader (first_reader ekey ckey) cs) ≡ Complete) → SomeImage (aes_of ekey) (aes_of ckey) (offered (lendings cs)))
      × (SomeImage (aes_of ekey) (aes_of ckey) (offered (lendings cs)) → NoRefusal cs × (completion_of (last_reader (first_reader ekey ckey) cs) ≡ Complete))
  calls_read_exactly_images b f =
      let s = called_says (first_reader ekey ckey) cs w in
      let t = read_exactly_images ekey ckey te tc (lendings cs) b f in (
        λ n. t.0 (record { accepted = s.2 n.0; complete = ap completion_of s.0 ∙ n.1 }),
        λ x. (s.3 (t.1 x).accepted, ap completion_of (sym s.0) ∙ (t.1 x).complete),
      )

  pub calls_hand_out : AllFair (lendings cs) → (x : SomeImage (aes_of ekey) (aes_of ckey) (offered (lendings cs))) → parts_of cs ≡ x.of.payload
  calls_hand_out f x = sym (called_says (first_reader ekey ckey) cs w).1 ∙ (turns_hand_out ekey ckey te tc (lendings cs) f x).0

-- ---- the calls: two writers

-- what calls of the writer leave in the first 512 bytes of their outputs, which held anything before: n blocks of a payload from a number on,
-- each on the check of the one before
abbrev pub written_into : (edition : ℕ) (outs : ℕ → List ℕ) (ekey ckey : List ℕ) (release : ℕ) (payload previous : List ℕ) (number n : ℕ) → List (List ℕ)
written_into edition outs ekey ckey release payload previous number zero = []
written_into edition outs ekey ckey release payload previous number (suc n) =
    let b = take 512 (after_write ekey ckey (numbers_at edition payload release number) previous (piece 480 payload number) (outs number)) in
    b ∷ written_into edition outs ekey ckey release payload (drop 496 b) (number + 1) n

-- the file: the blocks of the whole payload, one after another
abbrev pub file_into : (edition : ℕ) (outs : ℕ → List ℕ) (ekey ckey : List ℕ) (release : ℕ) (payload : List ℕ) → List ℕ
file_into edition outs ekey ckey release payload = joined (written_into edition outs ekey ckey release payload no_check 0 (blocks payload))

module _ (e : ℕ) (known : is_edition e ≡ true) (ekey ckey : List ℕ) (release : ℕ) (payload : List ℕ) (te : KeyTaken ekey) (tc : KeyTaken ckey) (hr : release < 4294967296) (lp : length payload ≤ 31456800) (bp : Bytes payload) where
  -- the writer's blocks are the image
  pub the_writer_makes_the_image : (outs : ℕ → List ℕ) → ((i : ℕ) → i < blocks payload → 512 ≤ length (outs i))
      → written_into e outs ekey ckey release payload no_check 0 (blocks payload) ≡ image (edition e) (aes_of ekey) (aes_of ckey) release payload
  unfolding written last_for
  the_writer_makes_the_image outs room = from (blocks payload) 0 no_check (zero-add (blocks payload)) no_check_octets (λ h. refl)
    where
      from : (n number : ℕ) (previous : List ℕ) → number + n ≡ blocks payload → Octets 16 previous → (number ≡ 0 → previous ≡ no_check)
          → written_into e outs ekey ckey release payload previous number n ≡ written (edition e) (aes_of ekey) (aes_of ckey) (blocks payload) release previous number n (drop (number * 480) payload)
      from zero number previous h o f = refl
      from (suc n) number previous h o f =
          let below : number < blocks payload = omega arith in
          let q = piece 480 payload number in
          let bq : Bytes q = take_bytes 480 (drop (number * 480) payload) (drop_bytes (number * 480) payload bp) in
          let m = numbers_at e payload release number in
          let a : write_answer ekey ckey m q (outs number) ≡ Written = block_written e known ekey ckey release payload te tc hr lp bp number below (outs number) (room number below) in
          let b = take 512 (after_write ekey ckey m previous q (outs number)) in
          let w : Wrote ekey ckey m previous q b = record { out = outs number; answer = a; block = refl; previous_octets = o; payload_bytes = bq; release_fits = hr } in
          let eb : b ≡ block_for (edition e) (aes_of ekey) (aes_of ckey) previous number (blocks payload) release q =
          is_sealed ekey ckey m previous q b w ∙ ap (λ (x : List ℕ). block_for (edition e) (aes_of ekey) (aes_of ckey) x number (blocks payload) release q) (on number f) in
          let c : (number + 1) * 480 ≡ number * 480 + 480 = omega arith in
          let d : drop ((number + 1) * 480) payload ≡ drop 480 (drop (number * 480) payload) = ap (λ (k : ℕ). drop k payload) c ∙ sym (drop-drop 480 (number * 480) payload) in
          let ih = from n (number + 1) (drop 496 b) (omega arith) (record { size = omega (arith, length-drop 496 b, size ekey ckey m previous q b w); bytes = drop_bytes 496 b (bytes ekey ckey m previous q b w) }) (λ z. absurd (omega arith)) in
          ap (b ∷◌) ih
          ∙ ap (λ (x : List ℕ). b ∷ written (edition e) (aes_of ekey) (aes_of ckey) (blocks payload) release (drop 496 b) (number + 1) n x) d
          ∙ ap (λ (x : List ℕ). x ∷ written (edition e) (aes_of ekey) (aes_of ckey) (blocks payload) release (drop 496 x) (number + 1) n (drop 480 (drop (number * 480) payload))) eb
        where
          on : (number : ℕ) → (number ≡ 0 → previous ≡ no_check) → cond (eqb number 0) no_check previous ≡ previous
          on zero f = sym (f refl)
          on (suc i) f = rw (ne_eqb (suc i) 0 (λ q. omega arith)) refl

  -- so two writers of one payload and one number give one file to the byte, whatever their outputs held before
  pub two_writers_give_one_file : (outs outs' : ℕ → List ℕ) → ((i : ℕ) → i < blocks payload → 512 ≤ length (outs i)) → ((i : ℕ) → i < blocks payload → 512 ≤ length (outs' i))
      → file_into e outs ekey ckey release payload ≡ file_into e outs' ekey ckey release payload
  two_writers_give_one_file outs outs' room room' = ap joined (the_writer_makes_the_image outs room ∙ sym (the_writer_makes_the_image outs' room'))

-- the same of the calls by their contracts: `write`, answered by 0, leaves the block in the first 512 bytes of the output
written_number : (x : WriteAnswer) → write_number x ≡ 0 → x ≡ Written
written_number Written e = refl
written_number WriteKey e = absurd (omega arith)
written_number WriteCount e = absurd (omega arith)
written_number WriteNumber e = absurd (omega arith)
written_number WriteLength e = absurd (omega arith)
written_number WriteEdition e = absurd (omega arith)
written_number WriteRoom e = absurd (omega arith)

pub write_leaves_the_block : (κs : _) (a : _) (r : _) (s : _) → write.Post κs a r s → Bytes a.1.1.1.0 → Bytes a.1.1.1.1.0.now → write_number r ≡ 0
    → take 512 s.1.1.1.1.1.0.now ≡ block_of a.0.now a.1.0.now a.1.1.0 a.1.1.1.0 a.1.1.1.1.0.now
write_leaves_the_block κs a r s p before bytes e =
    ap (take 512) (p.1 ∙ ap (λ (x : WriteAnswer). write_output x a.0.now a.1.0.now a.1.1.0 a.1.1.1.0 a.1.1.1.1.0.now a.1.1.1.1.1.0.now) p.0)
    ∙ (write-output a.0.now a.1.0.now a.1.1.0 a.1.1.1.0 a.1.1.1.1.0.now a.1.1.1.1.1.0.now before bytes (sym p.0 ∙ written_number r e)).0

-- so two of them, of the same keys, numbers, check before and payload, leave the same 512 bytes in any two outputs
module _ (κs : _) (a : _) (r : _) (s : _) (p : write.Post κs a r s) (κs' : _) (a' : _) (r' : _) (s' : _) (p' : write.Post κs' a' r' s') where
  pub two_writes_leave_one_block : a.0.now ≡ a'.0.now → a.1.0.now ≡ a'.1.0.now → a.1.1.0 ≡ a'.1.1.0 → a.1.1.1.0 ≡ a'.1.1.1.0
      → a.1.1.1.1.0.now ≡ a'.1.1.1.1.0.now → Bytes a.1.1.1.0 → Bytes a.1.1.1.1.0.now → write_number r ≡ 0 → write_number r' ≡ 0
      → take 512 s.1.1.1.1.1.0.now ≡ take 512 s'.1.1.1.1.1.0.now
  two_writes_leave_one_block ekey ckey numbers previous payload before bytes e e' =
      write_leaves_the_block κs a r s p before bytes e
      ∙ rw (ekey, ckey, numbers, previous, payload) (sym (write_leaves_the_block κs' a' r' s' p' (subst Bytes previous before) (subst Bytes payload bytes) e'))

-- ---- one instance: the image of the empty payload, under any two keys that are taken and any release number

abbrev pub empty_image : Edition → (ekey ckey : List ℕ) (release : ℕ) → List (List ℕ)
empty_image ed ekey ckey release = image ed (aes_of ekey) (aes_of ckey) release []

module _ (ekey ckey : List ℕ) (te : KeyTaken ekey) (tc : KeyTaken ckey) (release : ℕ) (hr : release < 4294967296) (ed : Edition) (pe : Proper ed) where
  empty-image : ImageOf ed (aes_of ekey) (aes_of ckey) (empty_image ed ekey ckey release)
  empty-image = record { payload = []; release = release; payload_bytes = λ k. omega arith; payload_fits = omega arith; release_fits = hr; is_image = refl }

  -- it is one block, which a fresh reader accepts whole: and what the theorem then finds is the empty payload and that number
  pub empty_image_is_one_block : (length (empty_image ed ekey ckey release) ≡ 1) × Blocks (empty_image ed ekey ckey release)
  empty_image_is_one_block = (
    image_length ed (aes_of ekey) (aes_of ckey) release [],
    an_image_is_blocks ed pe (aes_of ekey) (aes_of ckey) (key_lawful ekey te) (key_lawful ckey tc) (empty_image ed ekey ckey release) empty-image,
  )

  pub empty_image_is_accepted : AcceptedWhole (started_reader ed ekey ckey) (empty_image ed ekey ckey release)
  empty_image_is_accepted = (keys_accept_exactly_images ekey ckey te tc ed pe (empty_image ed ekey ckey release) empty_image_is_one_block.1).1 empty-image

  pub empty-image-is-found :
      let x = (keys_accept_exactly_images ekey ckey te tc ed pe (empty_image ed ekey ckey release) empty_image_is_one_block.1).0 empty_image_is_accepted in
      (x.payload ≡ []) × (x.release ≡ release)
  unfolding empty-image
  empty-image-is-found =
      keys_image_of_one ekey ckey te tc ed pe (empty_image ed ekey ckey release) ((keys_accept_exactly_images ekey ckey te tc ed pe (empty_image ed ekey ckey release) empty_image_is_one_block.1).0 empty_image_is_accepted) empty-image

-- and of the calls: one turn over it, into any output with room for 480 bytes, reads it whole, in either edition
pub empty_image_is_read : (n : ℕ) → is_edition n ≡ true → (ekey ckey : List ℕ) → KeyTaken ekey → KeyTaken ckey → (release : ℕ) → release < 4294967296 → (out : List ℕ) → 480 ≤ length out
    → ReadWhole ekey ckey (record { lent = joined (empty_image (edition n) ekey ckey release); asked = 1; out = out } ∷ [])
empty_image_is_read n known ekey ckey te tc release hr out room =
    let bs = empty_image (edition n) ekey ckey release in
    let e = empty_image_is_one_block ekey ckey te tc release hr (edition n) (edition_proper n known) in
    let g = given_joined bs 1 e.1 (omega (arith, e.0)) in
    an_image_is_read_whole ekey ckey te tc (record { lent = joined bs; asked = 1; out = out } ∷ [])
    (record { some_asked = omega arith; few_asked = omega arith; blocks_lent = omega (arith, g.0); room = omega (arith, g.1, e.0) }, tt)
    (record {
      number = n;
      known = known;
      of = record { payload = []; release = release; payload_bytes = λ k. omega arith; payload_fits = omega arith; release_fits = hr; is_image = append-nil (given (joined bs) 1) ∙ g.2 };
    })
