-- Demands 1, 2 and 3 for the check, whole and running. Assumes nothing.
use mathlib.Core.Path.{◌≡◌, refl, sym, ap, ap₂, fun_ext, ◌∙◌}
use mathlib.Core.Bool.{false}
use mathlib.Core.List.{List, [], ◌∷◌, ◌++◌}
use Prim.Native.Nat.{ℕ}
use lib.ListN.{length, replicate}
use Rattle.octets.specs.Octets.{joined, Bytes, pad_to}
use Rattle.octets.specs.Blocks.{BlockCipher}
use Rattle.aes_sbox.specs.Sbox.{s_box, inv_s_box}
use Rattle.aes_schedule.specs.Schedule.{taken, refused, schedule_of, key_number, round_count}
use Rattle.aes_schedule.specs.declared.Expanded.{Expanded}
use Rattle.aes_spec.specs.State.{aes}
use Rattle.aes_spec.specs.Cipher.{cipher, inv_cipher, encrypt_block, decrypt_block, aes_of, standard}
use Rattle.aes_spec.proofs.Padding.{cipher_padded, inv_cipher_padded}
use Rattle.aes_spec.proofs.Aes.{key_lawful}
use Rattle.cmac_spec.specs.Cmac.{doubled, key1, key2, cmac, cmac_by, SameOutside}
use Rattle.cmac_subkeys.specs.declared.Subkeys.{Subkeys}
use Rattle.cmac_run.specs.Running.{begun}
use Rattle.cmac.specs.Calls.{checked_by, check_of, started_by, start_of, fed_with, close_of, fed_parts}
use Rattle.cmac.specs.declared.Record.{Record}
use Rattle.cmac.specs.declared.Checked.{Checked}
use Rattle.cmac.specs.declared.Started.{Started}
use Rattle.cmac_spec.proofs.OnePiece.{one_piece}
use Rattle.cmac_spec.proofs.Same.{cmac-by}
use Rattle.cmac.proofs.Parts.{running_whole, close_zeros, cmac_zeros}
use Rattle.promises.proofs.Aes.Keys.{KeySays, IsKeySize, told, taken_then}
use Rattle.promises.proofs.Aes.Cipher.{KeySize, NoKeySize, sized, unsized, known_rounds, expanded}
use Rattle.cmac_subkeys.proofs.piece_filled.Reads as piece_filled
use Rattle.cmac_subkeys.proofs.Subkeys.new.Reads as subkeys_new
use Rattle.cmac_subkeys.proofs.Subkeys.last.Reads as last
use Rattle.cmac.proofs.check.Reads as check
use Rattle.cmac.proofs.start.Reads as start
use Rattle.cmac.proofs.fed_with.Reads as fed-with
use Rattle.cmac.proofs.close.Reads as close
use Rattle.cmac.proofs.check_with.Reads as check_with
use Rattle.cmac_run.proofs.Run.new.Reads as run_new
use Rattle.cmac_run.proofs.Run.fed.Reads as run_fed
use Rattle.cmac_run.proofs.Run.closed.Reads as run_closed

-- ---- demand 1: every call asks nothing of its caller, and any two outcomes that its contract allows agree

pub check_asks_nothing : (κs : _) (a : _) → check.Asked κs a
check_asks_nothing κs a = tt

pub check_determined : (κs : _) (a : _) (r r' : _) (s s' : _) → check.Post κs a r s → check.Post κs a r' s' → r ≡ r'
check_determined κs a r r' s s' p q = p ∙ sym q

pub start_asks_nothing : (κs : _) (a : _) → start.Asked κs a
start_asks_nothing κs a = tt

pub start_determined : (κs : _) (a : _) (r r' : _) (s s' : _) → start.Post κs a r s → start.Post κs a r' s' → r ≡ r'
start_determined κs a r r' s s' p q = p ∙ sym q

pub fed_with_asks_nothing : (κs : _) (a : _) → fed-with.Asked κs a
fed_with_asks_nothing κs a = tt

pub fed_with_determined : (κs : _) (a : _) (r r' : _) (s s' : _) → fed-with.Post κs a r s → fed-with.Post κs a r' s' → r ≡ r'
fed_with_determined κs a r r' s s' p q = p ∙ sym q

pub close_asks_nothing : (κs : _) (a : _) → close.Asked κs a
close_asks_nothing κs a = tt

pub close_determined : (κs : _) (a : _) (r r' : _) (s s' : _) → close.Post κs a r s → close.Post κs a r' s' → r ≡ r'
close_determined κs a r r' s s' p q = p ∙ sym q

pub check_with_asks_nothing : (κs : _) (a : _) → check_with.Asked κs a
check_with_asks_nothing κs a = tt

pub check_with_determined : (κs : _) (a : _) (r r' : _) (s s' : _) → check_with.Post κs a r s → check_with.Post κs a r' s' → r ≡ r'
check_with_determined κs a r r' s s' p q = p ∙ sym q

pub run_new_asks_nothing : (κs : _) (a : _) → run_new.Asked κs a
run_new_asks_nothing κs a = tt

pub run_new_determined : (κs : _) (a : _) (r r' : _) (s s' : _) → run_new.Post κs a r s → run_new.Post κs a r' s' → r ≡ r'
run_new_determined κs a r r' s s' p q = p ∙ sym q

pub run_fed_asks_nothing : (κs : _) (a : _) → run_fed.Asked κs a
run_fed_asks_nothing κs a = tt

pub run_fed_determined : (κs : _) (a : _) (r r' : _) (s s' : _) → run_fed.Post κs a r s → run_fed.Post κs a r' s' → r ≡ r'
run_fed_determined κs a r r' s s' p q = p ∙ sym q

pub run_closed_asks_nothing : (κs : _) (a : _) → run_closed.Asked κs a
run_closed_asks_nothing κs a = tt

pub run_closed_determined : (κs : _) (a : _) (r r' : _) (s s' : _) → run_closed.Post κs a r s → run_closed.Post κs a r' s' → r ≡ r'
run_closed_determined κs a r r' s s' p q = p ∙ sym q

pub piece_filled_asks_nothing : (κs : _) (a : _) → piece_filled.Asked κs a
piece_filled_asks_nothing κs a = tt

pub piece_filled_determined : (κs : _) (a : _) (r r' : _) (s s' : _) → piece_filled.Post κs a r s → piece_filled.Post κs a r' s' → r ≡ r'
piece_filled_determined κs a r r' s s' p q = p ∙ sym q

pub subkeys_new_asks_nothing : (κs : _) (a : _) → subkeys_new.Asked κs a
subkeys_new_asks_nothing κs a = tt

pub subkeys_new_determined : (κs : _) (a : _) (r r' : _) (s s' : _) → subkeys_new.Post κs a r s → subkeys_new.Post κs a r' s' → r ≡ r'
subkeys_new_determined κs a r r' s s' p q = p ∙ sym q

-- the first subkey is the cipher's, and the second is the first doubled
pub subkeys_new_makes : (κs : _) (a : _) (r : _) (s : _) → subkeys_new.Post κs a r s
    → (r.key1 ≡ key1 (standard a.0.now.words a.0.now.rounds)) × (r.key2 ≡ doubled r.key1)
unfolding key2
subkeys_new_makes κs a r s p =
    let k = ap (λ (x : Subkeys). x.key1) p in
    (k, ap (λ (x : Subkeys). x.key2) p ∙ ap doubled (sym k))

-- two such subkeys are those of the standard, and a check that is closed with them is CMAC
pub subkeys_are_the_standards : (c : BlockCipher) (k1 k2 : List ℕ) → k1 ≡ key1 c → k2 ≡ doubled k1 → (m : List ℕ) → cmac_by c k1 k2 m ≡ cmac c m
unfolding key2
subkeys_are_the_standards c k1 k2 p q m = ap₂ (λ (x y : List ℕ). cmac_by c x y m) p (q ∙ ap doubled p) ∙ cmac-by c m

pub last_asks_nothing : (κs : _) (a : _) → last.Asked κs a
last_asks_nothing κs a = tt

pub last_determined : (κs : _) (a : _) (r r' : _) (s s' : _) → last.Post κs a r s → last.Post κs a r' s' → r ≡ r'
last_determined κs a r r' s s' p q = p ∙ sym q

-- ---- demand 2: the check is CMAC of SP 800-38B under AES of the key

-- AES of FIPS 197 under a key of Nk words, for Nr rounds
abbrev pub aes_by : List ℕ → ℕ → ℕ → BlockCipher
aes_by key nk nr = record { enc = cipher aes s_box (expanded key nk nr) nr; dec = inv_cipher aes inv_s_box (expanded key nk nr) nr }

module _ (key : List ℕ) {n nk nr : ℕ} (size : KeySize n nk nr) (e : length key ≡ n) where
  under_key : aes_of key ≡ aes_by key nk nr
  unfolding encrypt_block decrypt_block taken
  under_key =
      rw (sized key size e)
      (ap₂ (λ (f g : List ℕ → List ℕ). record { enc = f; dec = g })
      (fun_ext (λ b. rw (known_rounds size) (cipher_padded aes s_box 60 (expanded key nk nr) nr b)))
      (fun_ext (λ b. rw (known_rounds size) (inv_cipher_padded aes inv_s_box 60 (expanded key nk nr) nr b))))

  size_taken : key_number (schedule_of s_box key).answer ≡ 0
  unfolding taken
  size_taken = rw (sized key size e)

-- a message of any length under a key of each size
pub check_is_cmac : (κs : _) (a : _) (r : _) (s : _) → check.Post κs a r s
    → {n nk nr : ℕ} → KeySize n nk nr → length a.0.now ≡ n
    → (key_number r.answer ≡ 0) × (r.check ≡ cmac (aes_by a.0.now nk nr) a.1.0.now)
unfolding check_of
check_is_cmac κs a r s p size e = (
  ap (λ (x : Checked). key_number x.answer) p ∙ size_taken a.0.now size e,
  ap (λ (x : Checked). x.check) p ∙ ap (λ (c : BlockCipher). cmac c a.1.0.now) (under_key a.0.now size e),
)

-- a key of any other length is refused by 1, with zeros in the answer
pub check_refuses : (κs : _) (a : _) (r : _) (s : _) → check.Post κs a r s → NoKeySize (length a.0.now)
    → (key_number r.answer ≡ 1) × (r.check ≡ replicate 16 0)
unfolding check_of refused
check_refuses κs a r s p h =
    let t = p ∙ ap (λ (e : Expanded). checked_by e a.1.0.now) (unsized a.0.now h) in
    (ap (λ (x : Checked). key_number x.answer) t, ap (λ (x : Checked). x.check) t ∙ cmac_zeros (replicate 60 0) 0 a.1.0.now refl)

pub start_takes : (κs : _) (a : _) (r : _) (s : _) → start.Post κs a r s → {n nk nr : ℕ} → KeySize n nk nr → length a.0.now ≡ n → key_number r.answer ≡ 0
unfolding start_of
start_takes κs a r s p size e = ap (λ (x : Started). key_number x.answer) p ∙ size_taken a.0.now size e

abbrev pub zero_record : Record
zero_record = record {
  schedule = record { words = replicate 60 0; rounds = 0 };
  run = record { chain = replicate 16 0; held = replicate 16 0; count = 0 };
}

pub start_refuses : (κs : _) (a : _) (r : _) (s : _) → start.Post κs a r s → NoKeySize (length a.0.now)
    → (key_number r.answer ≡ 1) × (r.«record» ≡ zero_record)
unfolding start_of begun refused pad_to
start_refuses κs a r s p h =
    let t = p ∙ ap started_by (unsized a.0.now h) in
    (ap (λ (x : Started). key_number x.answer) t, ap (λ (x : Started). x.«record») t)

-- a record whose number of rounds no key gives is closed to zeros, whatever it was fed
pub close_of_no_key : (κs : _) (a : _) (r : _) (s : _) → close.Post κs a r s → round_count a.0.schedule.rounds ≡ false → r ≡ replicate 16 0
close_of_no_key κs a r s p e = p ∙ close_zeros a.0 e

-- and so is a check made under such a schedule
pub check_with_of_no_key : (κs : _) (a : _) (r : _) (s : _) → check_with.Post κs a r s → round_count a.0.now.rounds ≡ false → r ≡ replicate 16 0
check_with_of_no_key κs a r s p e = p ∙ cmac_zeros a.0.now.words a.0.now.rounds a.1.0.now e

-- and under a schedule that a key gives it is CMAC under AES of that schedule
pub check_with_is_cmac : (κs : _) (a : _) (r : _) (s : _) → check_with.Post κs a r s → r ≡ cmac (standard a.0.now.words a.0.now.rounds) a.1.0.now
check_with_is_cmac κs a r s p = p

-- the running check is the whole one, for any parts that the message is cut into, none and empty ones too
pub running_is_whole : (key : List ℕ) (parts : List (List ℕ)) → close_of (fed_parts (start_of key).«record» parts) ≡ (check_of key (joined parts)).check
running_is_whole key parts = running_whole key parts

-- hence CMAC of all that was fed
pub running_is_cmac : (key : List ℕ) (parts : List (List ℕ)) {n nk nr : ℕ} → KeySize n nk nr → length key ≡ n
    → close_of (fed_parts (start_of key).«record» parts) ≡ cmac (aes_by key nk nr) (joined parts)
unfolding check_of
running_is_cmac key parts size e = running_whole key parts ∙ ap (λ (c : BlockCipher). cmac c (joined parts)) (under_key key size e)

-- a record that is closed twice gives the same check, and closing leaves it fit to be fed on: what is fed after is added to what was
pub closing_twice : (κs : _) (a : _) (r : _) (s : _) → close.Post κs a r s → (κs' : _) (a' : _) (r' : _) (s' : _) → close.Post κs' a' r' s' → a.0 ≡ a'.0 → r ≡ r'
closing_twice κs a r s p κs' a' r' s' q e = p ∙ ap close_of e ∙ sym q

pub closing_keeps : (key : List ℕ) (before after : List (List ℕ)) → close_of (fed_parts (fed_parts (start_of key).«record» before) after) ≡ (check_of key (joined (before ++ after))).check
closing_keeps key before after = ap close_of (more (start_of key).«record» before) ∙ running_whole key (before ++ after)
  where
    more : (r : Record) (parts : List (List ℕ)) → fed_parts (fed_parts r parts) after ≡ fed_parts r (parts ++ after)
    more r [] = refl
    more r (part ∷ parts) = more (fed_with r part) parts

-- ---- demand 3: two messages of one length that differ only inside one piece of 16 bytes never have the same check under one key

pub one_piece_tells : (κs : _) (a : _) (r : _) (s : _) → check.Post κs a r s
    → (κs' : _) (a' : _) (r' : _) (s' : _) → check.Post κs' a' r' s'
    → {n nk nr : ℕ} → KeySize n nk nr → length a.0.now ≡ n → a.0.now ≡ a'.0.now
    → Bytes a.1.0.now → Bytes a'.1.0.now → length a.1.0.now ≡ length a'.1.0.now
    → (i : ℕ) → SameOutside i a.1.0.now a'.1.0.now → (a.1.0.now ≡ a'.1.0.now → ⊥) → r.check ≡ r'.check → ⊥
unfolding check_of
one_piece_tells κs a r s p κs' a' r' s' q size e k b b' l i same differ h =
    let m = a.1.0.now in
    let m' = a'.1.0.now in
    let c = aes_of a.0.now in
    let u : r.check ≡ cmac c m = ap (λ (x : Checked). x.check) p in
    let v : r'.check ≡ cmac c m' = ap (λ (x : Checked). x.check) q ∙ ap (λ (x : List ℕ). cmac (aes_of x) m') (sym k) in
    differ (one_piece c (key_lawful a.0.now (size_taken a.0.now size e)) i m m' b b' l same (sym u ∙ h ∙ v))

-- ---- each answer for a key says what holds of it

check-answer : (key m : List ℕ) → (check_of key m).answer ≡ (schedule_of s_box key).answer
unfolding check_of
check-answer key m = refl

start_answer : (key : List ℕ) → (start_of key).answer ≡ (schedule_of s_box key).answer
unfolding start_of
start_answer key = refl

pub check_as_told : (κs : _) (a : _) (r : _) (s : _) → check.Post κs a r s → KeySays (length a.0.now) r.answer
check_as_told κs a r s p = told a.0.now r.answer (ap (λ (x : Checked). x.answer) p ∙ check-answer a.0.now a.1.0.now)

pub check_done : (κs : _) (a : _) (r : _) (s : _) → check.Post κs a r s → IsKeySize (length a.0.now) → key_number r.answer ≡ 0
check_done κs a r s p = taken_then a.0.now r.answer (ap (λ (x : Checked). x.answer) p ∙ check-answer a.0.now a.1.0.now)

pub start_as_told : (κs : _) (a : _) (r : _) (s : _) → start.Post κs a r s → KeySays (length a.0.now) r.answer
start_as_told κs a r s p = told a.0.now r.answer (ap (λ (x : Started). x.answer) p ∙ start_answer a.0.now)

pub start_done : (κs : _) (a : _) (r : _) (s : _) → start.Post κs a r s → IsKeySize (length a.0.now) → key_number r.answer ≡ 0
start_done κs a r s p = taken_then a.0.now r.answer (ap (λ (x : Started). x.answer) p ∙ start_answer a.0.now)
