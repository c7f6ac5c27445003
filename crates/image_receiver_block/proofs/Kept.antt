-- What the code leaves of a block's place in the store, over the schedule that it makes for the way back, is what AES opens. Assumes nothing.
use mathlib.Core.Path.{◌≡◌, sym, ap, ◌∙◌}
use mathlib.Core.Bool.{Bool, true}
use mathlib.Core.List.{List, ◌++◌, append_assoc}
use Prim.Native.Nat.{ℕ, ◌+◌, ◌-◌, ◌*◌, ◌≤◌}
use native.Mathlib.Omega.{arith}
use borrow.Author.Tests.{leb-true, eq-eqb}
use lib.Dec.{leb}
use lib.ListN.{length, take, drop}
use lib.Seq.{take_all, drop-drop}
use Rattle.octets.specs.Octets.{Octets}
use Rattle.octets.proofs.Both.{and_true}
use Rattle.aes_sbox.specs.Sbox.{s_box, inv_s_box}
use Rattle.aes_schedule.specs.Schedule.{round_count}
use Rattle.aes_spec.specs.Cipher.{standard}
use Rattle.aes_spec.specs.Model.{inverse_schedule}
use Rattle.aes_schedule.specs.declared.KeySchedule.{KeySchedule}
use Rattle.octets.specs.Blocks.{BlockCipher}
use Rattle.aes_spec.proofs.Aes.{aes_lawful}
use Rattle.aes_spec.proofs.Equivalent.{Agree}
use Rattle.image_layout.specs.Layout.{head_of_lem}
use Rattle.image_spec.specs.Sealed.{opened, zero_after, fill_zero}
use Rattle.image_spec.specs.Model.{lent_cipher, filled_out, opened_over}
use Rattle.image_spec.proofs.Sizes.{encrypt_sized, decrypt_sized, opened_size}
use Rattle.image_spec.proofs.Schedules.{both_ways}
use Rattle.image_spec.proofs.Opening.{open_part}
use Rattle.image_spec.proofs.Agree.{opened_same}
use Rattle.image_receiver_map.specs.Map.{map_size}
use Rattle.image_receiver_answer.specs.Answers.{room_for}
use Rattle.image_receiver_block.specs.Receive.{stored}

-- the room in words
pub room_parts : (count store map : ℕ) → room_for count store map ≡ true → (480 * count ≤ store) × (map_size count ≤ map)
unfolding room_for
room_parts count store map e =
    let a = and_true (leb (480 * count) store) (leb (map_size count) map) e in
    (leb-true (480 * count) store a.0, leb-true (map_size count) map a.1)

module _ (enc dec : KeySchedule) (pd : dec ≡ inverse_schedule enc) (known : round_count enc.rounds ≡ true) (b : List ℕ) (o : Octets 512 b) where
  abbrev lent : BlockCipher
  lent = lent_cipher enc dec

  abbrev aes : BlockCipher
  aes = standard enc.words enc.rounds

  agree : Agree lent aes
  agree = rw pd (both_ways enc.words enc.rounds)

  pub opens_alike : opened lent b ≡ opened aes b
  opens_alike = opened_same lent aes agree (aes_lawful enc.words enc.rounds known) b o

  pub fills_alike : (len : ℕ) → len ≡ (head_of_lem b).len → (r : Bool) → r ≡ filled_out lent len b → r ≡ fill_zero aes b
  unfolding filled_out zero_after
  fills_alike len el r er = er ∙ rw (eq-eqb (length b) 512 o.size, el, opens_alike)

  -- the part of the store that was lent to the opening
  pub stored_by : (store : List ℕ) (at : ℕ) → at ≡ 480 * (head_of_lem b).number → at + 480 ≤ length store
      → (part new all : List ℕ) → length part ≡ 480 → new ≡ opened_over lent b part → all ≡ take at store ++ (new ++ drop (at + 480 - at) (drop at store))
      → all ≡ stored aes b store
  unfolding stored
  stored_by store at ea room part new all size en eo =
      let es = encrypt_sized s_box enc.words enc.rounds in
      let ds = decrypt_sized inv_s_box dec.words dec.rounds in
      let p : new ≡ opened aes b = open_part lent b part o.size size es ds new en ∙ opens_alike in
      let l : length (opened aes b) ≡ 480 = sym (ap length opens_alike) ∙ opened_size b o.size lent es ds in
      let m : at + 480 - at ≡ 480 = omega arith in
      let w : take 480 (opened aes b) ≡ opened aes b = take_all 480 (opened aes b) (omega arith) in
      eo ∙ rw (p, m, drop-drop 480 at store, ← ea, w) (sym (append_assoc (take at store) (opened aes b) (drop (at + 480) store)))
