-- The turns over the schedule that the code makes are those over AES. Assumes nothing.
use mathlib.Core.Path.{◌≡◌, refl, ap, ◌∙◌}
use mathlib.Core.Bool.{Bool, true, false}
use mathlib.Core.List.{List}
use Prim.Native.Nat.{ℕ, zero, suc, ◌-◌}
use native.Mathlib.Omega.{arith}
use lib.ListN.{length, take, drop, replicate}
use Rattle.octets.specs.Octets.{Octets}
use Rattle.octets.proofs.Blocks.{⊕-octets, zeros_bytes}
use Rattle.aes_sbox.specs.Sbox.{s_box, inv_s_box}
use Rattle.aes_sbox.proofs.Laws.{inv_s_box_lt}
use Rattle.aes_schedule.specs.declared.KeySchedule.{KeySchedule}
use Rattle.aes_schedule.specs.Schedule.{schedule_of, round_count}
use Rattle.aes_schedule.proofs.Laws.{schedule_length}
use Rattle.aes_spec.specs.Cipher.{decrypt_block, standard}
use Rattle.aes_spec.specs.Model.{inverse_words, one_way}
use Rattle.aes_spec.proofs.Aes.{aes_lawful}
use Rattle.aes_spec.proofs.Equivalent.{eq_decrypt}
use Rattle.modes_spec.specs.Modes.{machine}
use Rattle.modes_spec.specs.declared.Operation.{Operation}
use Rattle.aesavs_line.specs.declared.Way.{Way}
use Rattle.aesavs_line.specs.declared.Way.TheVariants.{Encrypting, Decrypting}
use Rattle.aesavs_monte.specs.Chain.{operation_of, decryption, turn_of, begun, iterate, turns, next_link, ended, ran_of}
use Rattle.aesavs_monte.specs.Model.{schedule_for}
use Rattle.aesavs_monte.specs.declared.Turn.{Turn}
use Rattle.aesavs_monte.specs.declared.Link.{Link}
use Rattle.aesavs_monte.specs.declared.Ran.{Ran}

-- four blocks
record Blocks (t : Turn) : Type 0 where
  chained : Octets 16 t.chain
  earlier : Octets 16 t.before
  latest : Octets 16 t.last
  coming : Octets 16 t.text

module _ (w : List ℕ) (nr : ℕ) where
  -- a block decrypts to a block, under any number of rounds
  zeros : (x : List ℕ) → round_count nr ≡ false → decrypt_block inv_s_box w nr x ≡ replicate 16 0
  unfolding decrypt_block
  zeros x e = rw e

  decrypts : (x : List ℕ) → Octets 16 x → Octets 16 (decrypt_block inv_s_box w nr x)
  decrypts x o = go (round_count nr) refl
    where
      go : (k : Bool) → round_count nr ≡ k → Octets 16 (decrypt_block inv_s_box w nr x)
      go true e = (aes_lawful w nr e).dec_block x o
      go false e = rw (zeros x e) (record { size = refl; bytes = zeros_bytes 16 })

  keeps : (ch : Bool) (t : Turn) → Blocks t → Blocks (turn_of (machine (standard w nr) (decryption ch)) ch t)
  keeps true t b = record { chained = b.coming; earlier = b.latest; latest = ⊕-octets (decrypts t.text b.coming) b.chained; coming = b.latest }
  keeps false t b = record { chained = b.chained; earlier = b.latest; latest = decrypts t.text b.coming; coming = decrypts t.text b.coming }

  module _ (e : length w ≡ 60) where
    same_turn : (ch : Bool) (t : Turn) → Blocks t
        → turn_of (machine (one_way (inverse_words w nr) nr) (decryption ch)) ch t ≡ turn_of (machine (standard w nr) (decryption ch)) ch t
    same_turn true t b = rw (eq_decrypt inv_s_box inv_s_box_lt w e nr b.coming)
    same_turn false t b = rw (eq_decrypt inv_s_box inv_s_box_lt w e nr b.coming)

    same_turns : (ch : Bool) (t : Turn) → Blocks t → (n : ℕ)
        → (iterate n (turn_of (machine (one_way (inverse_words w nr) nr) (decryption ch)) ch) t ≡ iterate n (turn_of (machine (standard w nr) (decryption ch)) ch) t)
        × Blocks (iterate n (turn_of (machine (standard w nr) (decryption ch)) ch) t)
    unfolding iterate
    same_turns ch t b zero = (refl, b)
    same_turns ch t b (suc n) =
        let h = same_turns ch t b n in
        let f = turn_of (machine (one_way (inverse_words w nr) nr) (decryption ch)) ch in
        let u = iterate n (turn_of (machine (standard w nr) (decryption ch)) ch) t in
        (ap f h.0 ∙ same_turn ch u h.1, keeps ch u h.1)

pub turns_agree : (way : Way) (ch : Bool) (key iv text : List ℕ) (n : ℕ) → Octets 16 iv → Octets 16 text
    → iterate n (turn_of (machine (one_way (schedule_for way key).words (schedule_for way key).rounds) (operation_of way ch)) ch) (begun iv text) ≡ turns way ch key iv text n
unfolding turns
turns_agree Encrypting true key iv text n i o = refl
turns_agree Encrypting false key iv text n i o = refl
turns_agree Decrypting ch key iv text n i o =
    (same_turns (schedule_of s_box key).schedule.words (schedule_of s_box key).schedule.rounds (schedule_length s_box key) ch (begun iv text)
    (record { chained = i; earlier = i; latest = i; coming = o }) n).0

-- what the code computes of a record: s, o, t are what the calls give, one after the other
pub steps_agree : (way : Way) (ch : Bool) (key iv text : List ℕ) (s : KeySchedule) (o : Operation) (t : Turn) → Octets 16 iv → Octets 16 text
    → s ≡ schedule_for way key → o ≡ operation_of way ch
    → t ≡ iterate 1000 (turn_of (machine (one_way s.words s.rounds) o) ch) (begun iv text) → t ≡ turns way ch key iv text 1000
steps_agree way ch key iv text s o t oi ot ps po pt = pt ∙ rw (ps, po) (turns_agree way ch key iv text 1000 oi ot)

pub ran_agrees : (way : Way) (ch : Bool) (l : Link) (k : List ℕ) (t : Turn) (x : Link)
    → k ≡ take (l.size - 0) (drop 0 l.key) → t ≡ turns way ch k l.iv l.text 1000 → x ≡ next_link ch l t
    → ◌≡◌ {A = Ran} (record { output = t.last; next = x }) (ran_of way ch l)
unfolding ran_of ended
ran_agrees way ch l k t x pk pt px =
    let e : l.size - 0 ≡ l.size = omega arith in
    let q : k ≡ take l.size l.key = pk ∙ rw e in
    rw (px, pt, q)
