-- What the writer wrote, as the reader takes it, in one turn or in many. Assumes nothing.
use mathlib.Core.Path.{◌≡◌, refl, sym, ap, ap₂, subst, ◌∙◌}
use mathlib.Core.Bool.{Bool, true, false, cond}
use mathlib.Core.List.{List, [], ◌∷◌, ◌++◌, append_assoc}
use Prim.Native.Nat.{ℕ, ◌+◌, ◌≤◌, ◌<◌}
use native.Mathlib.Omega.{arith}
use lib.ListN.{length, take, drop, length-append}
use Rattle.octets.specs.Octets.{Bytes, Octets, over}
use Rattle.octets.specs.Blocks.{BlockCipher, Lawful}
use Rattle.aes_spec.specs.Cipher.{aes_of}
use Rattle.aes_spec.proofs.Aes.{key_lawful}
use Rattle.cmac_spec.specs.Cmac.{cmac, SameOutside}
use Rattle.image_layout.specs.Layout.{head_of_lem}
use Rattle.image_limits.specs.Marks.{selected}
use Rattle.image_progress.specs.Progress.{done, closed}
use Rattle.image_reasons.specs.declared.Reason.TheVariants.{AfterLast, CheckWrong}
use Rattle.image_layout.specs.declared.Head.{Head}
use Rattle.image_progress.specs.declared.Progress.{Progress}
use Rattle.image_reasons.specs.declared.Verdict.TheVariants.{Accepted, Refused}
use Rattle.image_layout.proofs.Laws.{Wide}
use Rattle.image_spec.specs.Edition.{tail_of, edition}
use Rattle.image_spec.specs.Sealed.{filled, head_for, sealed, opened, checks}
use Rattle.image_spec.specs.Judge.{Keys, judge, either, of_both}
use Rattle.image_reader_turn.specs.Turn.{Reading, read_blocks, handled, blocks_read}
use Rattle.image_writer_answer.specs.Answers.{last_for}
use Rattle.image_writer.specs.Calls.{block_of}
use Rattle.image_reader.specs.Calls.{keys_of, turn_after}
use Rattle.image_writer_answer.specs.declared.Numbers.{Numbers}
use Rattle.image_reader.specs.declared.Reader.{Reader}
use Rattle.image_reader_tally.specs.declared.Stop.TheVariants.{End}
use Rattle.image_reader.specs.declared.Turn.{Turn}
use Rattle.promises.proofs.Image.Words.{Met, SealedOn, reading_of, unchecked, Blocks, payload, plains, parts, lengths, AllFilled, parts_in, Fit, Wrote, reader_of, Waits, FromStart, Sound, given, Lending, AllFair, offered, reader_after, AllAccepted, handed_out, counted, started, turn}
use Rattle.promises.proofs.Lemmas.ImageSealed.{sealed_size, sealed_bytes, sealed_opened, sealed_head}
use Rattle.promises.proofs.Lemmas.ImageJudge.{accepted_met, met_accepted, wrong_check, damaged_check, sealed_accepted}
use Rattle.promises.proofs.Lemmas.ImageBoth.{reserved_wide, mark_selects, mark_fixed, one_met, on_one_check}
use Rattle.promises.proofs.Lemmas.ImageTurn.{ran_met, ran_out, met_filled, parts-in, ran_bytes, parts_length}
use Rattle.promises.proofs.Lemmas.ImageSound.{fresh_sound, ran_sound}
use Rattle.promises.proofs.Lemmas.ImageWhole.{Passes, passes_front}
use Rattle.promises.proofs.Lemmas.ImageCalls.{keys_under, start_fresh, fresh_start, written_fit, last_octets, small, tail_is, output_block, block_wide, cut_length, fair_turn, by_turn}

refused_accepted : (t : Progress) → unchecked t ≡ Accepted → ⊥
refused_accepted t = go (closed t)
  where
    go : (u : Bool) → cond u (Refused AfterLast) (Refused CheckWrong) ≡ Accepted → ⊥
    go true e = let z : ◌≡◌ {A = ℕ} 0 1 = cc in omega arith
    go false e = let z : ◌≡◌ {A = ℕ} 0 1 = cc in omega arith

-- ---- one block that was written

module _ (ekey ckey : List ℕ) (n : Numbers) (previous payload b : List ℕ) (w : Wrote ekey ckey n previous payload b) where
  abbrev head : Head
  head = head_for (edition n.edition) n.number n.count n.release (length payload)

  abbrev last : List ℕ
  last = last_for n.number previous

  pub fit : Fit ekey ckey n (length payload) (length w.out)
  fit = written_fit ekey ckey n payload w.out w.answer

  lawful_enc : Lawful 16 (aes_of ekey)
  lawful_enc = key_lawful ekey fit.ekey_taken

  lawful_chk : Lawful 16 (aes_of ckey)
  lawful_chk = key_lawful ckey fit.ckey_taken

  few : length payload ≤ 480
  few = small ekey ckey n previous payload w.out w.previous_octets.bytes w.payload_bytes w.answer

  wide : Wide head
  wide = block_wide ekey ckey n previous payload w.out w.previous_octets.bytes w.payload_bytes w.answer w.release_fits

  tail : Bytes (tail_of n.edition last)
  tail = tail_is ekey ckey n previous payload w.out w.previous_octets.bytes w.payload_bytes w.answer

  pub is_sealed : b ≡ block_of ekey ckey n previous payload
  is_sealed = w.block ∙ rw w.answer (output_block ekey ckey n previous payload w.out w.previous_octets.bytes w.payload_bytes w.answer)

  pub size : length b ≡ 512
  size = rw is_sealed (sealed_size (aes_of ekey) (aes_of ckey) lawful_enc lawful_chk head payload few w.payload_bytes (tail_of n.edition last) tail)

  pub head_is : head_of_lem b ≡ head
  head_is = rw is_sealed (sealed_head (aes_of ekey) (aes_of ckey) lawful_enc lawful_chk head payload few w.payload_bytes (tail_of n.edition last) tail wide)

  pub opens : opened (aes_of ekey) b ≡ filled payload
  opens = rw is_sealed (sealed_opened (aes_of ekey) (aes_of ckey) lawful_enc lawful_chk head payload few w.payload_bytes (tail_of n.edition last) tail)

  -- it selects its own edition
  pub selects : selected (head_of_lem b).reserved ≡ n.edition
  selects = ap (λ (h : Head). selected h.reserved) head_is ∙ mark_selects n.edition fit.known

  pub keys_are : (s : Progress) → keys_of (reader_of ekey ckey s) ≡ keys_under ekey ckey
  keys_are s = (start_fresh ekey ckey fit.ekey_taken fit.ckey_taken).1

  pub bytes : Bytes b
  bytes = rw is_sealed (sealed_bytes (aes_of ekey) (aes_of ckey) lawful_enc lawful_chk head payload few w.payload_bytes (tail_of n.edition last) tail)

  -- sealed on what a reader has for its last check, as far as the edition asks for it
  sealed_for : (t : Progress) → SealedOn n previous t.last → b ≡ sealed (aes_of ekey) (cmac (aes_of ckey)) ((edition n.edition).tail t.last) head payload
  sealed_for t on = is_sealed ∙ ap (λ (x : List ℕ). sealed (aes_of ekey) (cmac (aes_of ckey)) x head payload) (sym on)

  tail_for : (t : Progress) → SealedOn n previous t.last → Bytes ((edition n.edition).tail t.last)
  tail_for t on = subst Bytes (sym on) tail

  pub accepts : (s : Progress) → Waits s n previous → (of_both (keys_of (reader_of ekey ckey s))).verdict s b ≡ Accepted
  accepts s a =
      let on = a.sealed_on in
      let m : Met (keys_under ekey ckey) (edition n.edition) s b =
      accepted_met (keys_under ekey ckey) (edition n.edition) s b
      (ap (judge (keys_under ekey ckey) (edition n.edition) s) (sealed_for s on)
      ∙ sealed_accepted (aes_of ekey) (aes_of ckey) lawful_enc lawful_chk (edition n.edition) s head payload (tail_for s on) w.payload_bytes refl wide
      (record {
        still_open = λ l. omega (arith, a.next_number, a.same_count l, fit.below);
        count_low = fit.count_low;
        count_high = fit.count_high;
        expected = a.next_number;
        same_count = a.same_count;
        same_release = a.same_release;
        len_fits = fit.len_fits;
        marked = refl;
      })) in
      ap (λ (k : Keys). (of_both k).verdict s b) (keys_are s)
      ∙ met_accepted (keys_under ekey ckey) (either s (head_of_lem b).reserved) s b (one_met (keys_under ekey ckey) s b bytes n.edition (λ f. sym (a.same_edition f)) m)

  -- damaged inside one piece: refused by 16 or 14 where the cover that it was sealed with is still selected, on the check it was sealed on
  module _ (i : ℕ) (d : List ℕ) (o : Octets 512 d) (q : SameOutside i d b) (differs : d ≡ b → ⊥) (s t : Progress) (on : SealedOn n previous t.last) where
    pub refuses : selected (head_of_lem d).reserved ≡ n.edition → (of_both (keys_of (reader_of ekey ckey s))).verdict t d ≡ unchecked t
    refuses e =
        ap (λ (k : Keys). (of_both k).verdict t d) (keys_are s)
        ∙ wrong_check (keys_under ekey ckey) (either t (head_of_lem d).reserved) t d
        (ap (λ (x : ℕ). checks (cmac (aes_of ckey)) (tail_of x t.last) d) e
        ∙ damaged_check (aes_of ekey) (aes_of ckey) lawful_enc lawful_chk (tail_of n.edition t.last) head payload (tail_for t on) few w.payload_bytes i d o.size o.bytes
        (subst (λ (x : List ℕ). SameOutside i d x) (sealed_for t on) q) (λ z. differs (z ∙ sym (sealed_for t on))))

    -- and never accepted where the edition that it was sealed in is fixed
    pub never : 0 < t.next → t.edition ≡ n.edition → (of_both (keys_of (reader_of ekey ckey s))).verdict t d ≡ Accepted → ⊥
    never f e a =
        let m = accepted_met (keys_of (reader_of ekey ckey s)) (either t (head_of_lem d).reserved) t d a in
        refused_accepted t (sym (refuses (mark_fixed t (head_of_lem d).reserved (reserved_wide d o.bytes) f m.head_right.marked ∙ e)) ∙ a)

  -- sealed in edition 2 on another check than a reader's last one, it is refused by 16 or 14, wherever that reader stands
  pub other_build : n.edition ≡ 2 → (s t : Progress) → Octets 16 t.last → (t.last ≡ last → ⊥) → (of_both (keys_of (reader_of ekey ckey s))).verdict t b ≡ unchecked t
  unfolding tail_of
  other_build e s t ot differs =
      ap (λ (k : Keys). (of_both k).verdict t b) (keys_are s)
      ∙ wrong_check (keys_under ekey ckey) (either t (head_of_lem b).reserved) t b
      (ap (λ (x : ℕ). checks (cmac (aes_of ckey)) (tail_of x t.last) b) (selects ∙ e) ∙ go (checks (cmac (aes_of ckey)) t.last b) refl)
    where
      on_last : b ≡ sealed (aes_of ekey) (cmac (aes_of ckey)) last head payload
      on_last = is_sealed ∙ ap (λ (x : ℕ). sealed (aes_of ekey) (cmac (aes_of ckey)) (tail_of x last) head payload) e

      go : (u : Bool) → checks (cmac (aes_of ckey)) t.last b ≡ u → checks (cmac (aes_of ckey)) t.last b ≡ false
      go true q =
          absurd (differs (on_one_check (aes_of ekey) (aes_of ckey) lawful_enc lawful_chk head payload few w.payload_bytes last t.last (last_octets n.number previous w.previous_octets) ot
          (ap (checks (cmac (aes_of ckey)) t.last) (sym on_last) ∙ q)))
      go false q = q

-- ---- many turns

pub blocks_split : (bs cs : List (List ℕ)) → Blocks (bs ++ cs) → Blocks bs × Blocks cs
blocks_split [] cs w = (tt, w)
blocks_split (b ∷ bs) cs w = let ih = blocks_split bs cs w.1 in ((w.0, ih.0), ih.1)

pub take_whole : (bs : List (List ℕ)) → take (length bs) bs ≡ bs
take_whole [] = refl
take_whole (b ∷ bs) = ap (b ∷◌) (take_whole bs)

parts_join : (ek : BlockCipher) (bs cs : List (List ℕ)) → parts ek (bs ++ cs) ≡ parts ek bs ++ parts ek cs
parts_join ek [] cs = refl
parts_join ek (b ∷ bs) cs = ap (payload ek b ++◌) (parts_join ek bs cs) ∙ sym (append_assoc (payload ek b) (parts ek bs) (parts ek cs))

pub turns_read : (k : Keys) → Lawful 16 k.enc → (r : Reader) → keys_of r ≡ k → (ls : List Lending) → AllFair ls → Blocks (offered ls) → Passes k either r.progress (offered ls)
    → AllAccepted r ls × (done (reader_after r ls).progress ≡ true) × (handed_out r ls ≡ parts k.enc (offered ls)) × (counted r ls ≡ length (parts k.enc (offered ls)))
turns_read k lk r e [] f w p = (tt, p, refl, refl)
turns_read k lk r e (l ∷ ls) f w p =
    let bs = given l.lent l.asked in
    let d = of_both k in
    let s = r.progress in
    let R = reading_of r l.lent l.asked in
    let t = fair_turn r l.lent l.asked l.out f.0 in
    let wb = blocks_split bs (offered ls) w in
    let er : R ≡ read_blocks d s bs = ap (λ (x : Keys). read_blocks (of_both x) s bs) e in
    let pf = passes_front k either s bs (offered ls) p in
    let all : take (read_blocks d s bs).accepted bs ≡ bs = ap (λ (n : ℕ). take n bs) pf.1 ∙ take_whole bs in
    let full : AllFilled k.enc bs = subst (AllFilled k.enc) all (met_filled k either lk s (read_blocks d s bs).accepted bs wb.0 (ran_met k either s bs)) in
    let o : R.out ≡ plains k.enc bs = ap (λ (x : Reading). x.out) er ∙ ran_out k either s bs ∙ ap (plains k.enc) all in
    let n : R.bytes ≡ length (parts k.enc bs) = ap (λ (x : Reading). x.bytes) er ∙ ran_bytes d s bs ∙ ap lengths all ∙ sym (parts_length k.enc bs full) in
    let ih = turns_read k lk (turn_after r (blocks_read R)).reader e ls f.1 wb.1
    (subst (λ (x : Reading). Passes k either x.progress (offered ls)) (sym er) pf.2) in
    let h : parts_in bs (over R.out l.out) ≡ parts k.enc bs =
    ap (λ (x : List ℕ). parts_in bs (over x l.out)) o ∙ parts-in k.enc lk bs (drop (length (plains k.enc bs)) l.out) wb.0 full in
    subst
    (λ (x : Turn × List ℕ).
    ((x.0.stop ≡ End) × (x.0.accepted ≡ handled l.lent l.asked) × AllAccepted x.0.reader ls)
    × (done (reader_after x.0.reader ls).progress ≡ true) × (parts_in bs x.1 ++ handed_out x.0.reader ls ≡ parts k.enc (bs ++ offered ls))
    × (x.0.bytes + counted x.0.reader ls ≡ length (parts k.enc (bs ++ offered ls))))
    (sym t) (
      (ap (λ (x : Reading). x.stop) er ∙ pf.0, ap (λ (x : Reading). x.accepted) er ∙ pf.1 ∙ cut_length (handled l.lent l.asked) l.lent, ih.0),
      ih.1,
      ap₂ ◌++◌ h ih.2 ∙ sym (parts_join k.enc bs (offered ls)),
      ap₂ ◌+◌ n ih.3 ∙ sym (length-append (parts k.enc bs) (parts k.enc (offered ls))) ∙ ap length (sym (parts_join k.enc bs (offered ls))),
    )

-- ---- the states that a start and turns make

pub from_sound : (ekey ckey : List ℕ) (r : Reader) → FromStart ekey ckey r → Sound r.progress
from_sound ekey ckey r started = subst Sound (sym (fresh_start ekey ckey)) fresh_sound
from_sound ekey ckey r (turn {r = q} f lent asked out) =
    let ih = from_sound ekey ckey q f in
    by_turn q lent asked out (λ (t : Turn × List ℕ). Sound t.0.reader.progress)
    ih ih ih (λ g. ran_sound (keys_of q) either q.progress (given lent asked) ih)
