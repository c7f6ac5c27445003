-- Over the schedules and subkeys of two keys, what the code opens, judges and seals is what AES opens, judges and seals. Assumes nothing.
use mathlib.Core.Path.{◌≡◌, refl, sym, ap, ap₂, ◌∙◌}
use mathlib.Core.Bool.{Bool, true, false, cond}
use mathlib.Core.List.{List, ◌++◌}
use Prim.Native.Nat.{ℕ}
use native.Mathlib.Nat.{zero-lt-suc}
use native.Mathlib.Omega.{arith}
use borrow.Author.Tests.{not-false}
use lib.ListN.{take, drop, length-drop}
use Rattle.octets.proofs.Both.{and_true}
use Rattle.octets.specs.Octets.{same, Octets}
use Rattle.octets.specs.Blocks.{BlockCipher, Lawful}
use Rattle.octets.proofs.Blocks.{drop_bytes, take_octets}
use Rattle.aes_schedule.specs.Schedule.{round_count}
use Rattle.aes_spec.proofs.Aes.{aes_lawful}
use Rattle.aes_spec.specs.Cipher.{standard}
use Rattle.aes_spec.specs.Model.{inverse_words, inverse_schedule}
use Rattle.aes_schedule.specs.declared.KeySchedule.{KeySchedule}
use Rattle.aes_spec.proofs.Equivalent.{Agree}
use Rattle.modes_spec.specs.Modes.{moded}
use Rattle.modes_spec.specs.declared.Operation.TheVariants.{CbcDecrypt}
use Rattle.modes_spec.proofs.Same.{moded_same}
use Rattle.cmac_spec.specs.Cmac.{key1, key2, cmac, cmac_by}
use Rattle.cmac_spec.proofs.Same.{cmac-by}
use Rattle.image_reasons.specs.Reasons.{first_of}
use Rattle.image_progress.specs.Progress.{closed}
use Rattle.image_layout.specs.declared.Head.{Head}
use Rattle.image_progress.specs.declared.Progress.{Progress}
use Rattle.image_reasons.specs.declared.Reason.TheVariants.{AfterLast, CheckWrong}
use Rattle.image_reasons.specs.declared.Verdict.TheVariants.{Accepted, Refused}
use Rattle.image_reasons.proofs.Order.{all_false}
use Rattle.image_spec.specs.Edition.{Edition}
use Rattle.image_spec.specs.Sealed.{front, sealed, opened, checks, zero_after}
use Rattle.image_spec.specs.Judge.{Keys, tests, judge}
use Rattle.image_spec.specs.KeyPair.{usable, rounds_of, pair_keys}
use Rattle.image_spec.specs.Model.{lent_mac, lent_keys, lent_of}
use Rattle.image_spec.specs.declared.KeyPair.{KeyPair}
use Rattle.cmac_subkeys.specs.declared.Subkeys.{Subkeys}
use Rattle.image_spec.proofs.Schedules.{both_ways}

-- ---- one block, over ciphers that agree

module _ (c d : BlockCipher) (a : Agree c d) (l : Lawful 16 d) where
  pub opened_same : (b : List ℕ) → Octets 512 b → opened c b ≡ opened d b
  unfolding opened
  opened_same b o =
      let n = o.size in
      let h = take_octets 16 b (omega arith) o.bytes in
      let body = take_octets 480 (drop 16 b) (omega (arith, length-drop 16 b)) (drop_bytes 16 b o.bytes) in
      ap (λ (x : List ℕ). moded 16 c CbcDecrypt x (take 480 (drop 16 b))) (a.enc_same (take 16 b) h)
      ∙ moded_same 16 c d a.enc_same a.dec_same l CbcDecrypt 30 (d.enc (take 16 b)) (take 480 (drop 16 b)) (zero-lt-suc 15) (l.enc_block (take 16 b) h) body.bytes body.size

-- ---- the check and the subkeys

module _ (w : List ℕ) (nr : ℕ) (k1 k2 : List ℕ) (p1 : k1 ≡ key1 (standard w nr)) (p2 : k2 ≡ key2 (standard w nr)) where
  mac_same : (m : List ℕ) → lent_mac w nr k1 k2 m ≡ cmac (standard w nr) m
  mac_same m = ap₂ (λ (x y : List ℕ). cmac_by (standard w nr) x y m) p1 p2 ∙ cmac-by (standard w nr) m

  pub checks_same : (tail b : List ℕ) → checks (lent_mac w nr k1 k2) tail b ≡ checks (cmac (standard w nr)) tail b
  unfolding checks
  checks_same tail b = ap (λ (x : List ℕ). same x (drop 496 b)) (mac_same (take 496 b ++ tail))

  -- the block that the writer seals
  pub sealed_same : (c : BlockCipher) (tail : List ℕ) (h : Head) (p : List ℕ) → sealed c (lent_mac w nr k1 k2) tail h p ≡ sealed c (cmac (standard w nr)) tail h p
  unfolding sealed
  sealed_same c tail h p = ap (front c h p ++◌) (mac_same (front c h p ++ tail))

-- ---- a reader's keys

-- with the inverse schedule of the pair's own, the two ways are those over its words
pub lent_words : (p : KeyPair) (subkeys : Subkeys)
    → lent_of p (inverse_schedule p.enc) subkeys ≡ lent_keys p.enc.words (inverse_words p.enc.words p.enc.rounds) p.chk.words subkeys.key1 subkeys.key2 (rounds_of p)
lent_words p subkeys = refl

module _ (p : KeyPair) (dec : KeySchedule) (subkeys : Subkeys) (pd : dec ≡ inverse_schedule p.enc)
    (p1 : subkeys.key1 ≡ key1 (standard p.chk.words p.chk.rounds)) (p2 : subkeys.key2 ≡ key2 (standard p.chk.words p.chk.rounds)) (ed : Edition) (s : Progress) (b : List ℕ) (o : Octets 512 b) where
  abbrev keys : Keys
  keys = lent_of p dec subkeys

  abbrev standard_keys : Keys
  standard_keys = pair_keys p

  abbrev known_rounds : Bool
  known_rounds = usable (rounds_of p)

  known : known_rounds ≡ true → (round_count p.enc.rounds ≡ true) × (round_count p.chk.rounds ≡ true)
  known = and_true (round_count p.enc.rounds) (round_count p.chk.rounds)

  both_agree : Agree keys.enc standard_keys.enc
  both_agree = rw pd (both_ways p.enc.words p.enc.rounds)

  -- both refuse every block where no keys gave the schedules
  refused : (k : Keys) → k.usable ≡ false → judge k ed s b ≡ cond (closed s) (Refused AfterLast) (Refused CheckWrong)
  unfolding judge first_of
  refused k e = rw e

  open_same : known_rounds ≡ true → opened keys.enc b ≡ opened standard_keys.enc b
  open_same e = opened_same keys.enc standard_keys.enc both_agree (aes_lawful p.enc.words p.enc.rounds (known e).0) b o

  pub verdict_same : judge keys ed s b ≡ judge standard_keys ed s b
  unfolding judge zero_after
  verdict_same = go known_rounds refl
    where
      go : (u : Bool) → known_rounds ≡ u → judge keys ed s b ≡ judge standard_keys ed s b
      go true e = rw (checks_same p.chk.words p.chk.rounds subkeys.key1 subkeys.key2 p1 p2 (ed.tail s.last) b, open_same e)
      go false e = refused keys e ∙ sym (refused standard_keys e)

  pub plain_same : judge standard_keys ed s b ≡ Accepted → opened keys.enc b ≡ opened standard_keys.enc b
  unfolding judge
  plain_same e = open_same (and_true known_rounds (checks standard_keys.mac (ed.tail s.last) b) (not-false _ (all_false (tests standard_keys ed s b) e).1.0)).0
