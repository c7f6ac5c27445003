-- A turn over a schedule for the way back and lent subkeys is a turn over AES. Assumes nothing.
use mathlib.Core.Path.{◌≡◌, refl, ap₂}
use mathlib.Core.List.{List}
use Prim.Native.Nat.{ℕ, zero, suc, ◌*◌, ◌≤◌}
use native.Mathlib.Omega.{arith}
use lib.ListN.{length, take, drop, length-drop}
use Rattle.octets.specs.Octets.{Bytes, Octets}
use Rattle.octets.proofs.Blocks.{drop_bytes, take_octets}
use Rattle.aes_spec.specs.Cipher.{standard}
use Rattle.aes_spec.specs.Model.{inverse_schedule}
use Rattle.aes_schedule.specs.declared.KeySchedule.{KeySchedule}
use Rattle.cmac_spec.specs.Cmac.{key1, key2}
use Rattle.cmac_subkeys.specs.declared.Subkeys.{Subkeys}
use Rattle.image_layout.specs.Layout.{head_of_lem}
use Rattle.image_progress.specs.declared.Progress.{Progress}
use Rattle.image_reasons.specs.declared.Verdict.{Verdict}
use Rattle.image_reasons.specs.declared.Verdict.TheVariants.{Accepted, Refused}
use Rattle.image_spec.specs.Judge.{BlockReader, either, of_both, taken}
use Rattle.image_spec.specs.KeyPair.{pair_keys}
use Rattle.image_spec.specs.Model.{lent_of}
use Rattle.image_spec.specs.declared.KeyPair.{KeyPair}
use Rattle.image_spec.proofs.Agree.{verdict_same, plain_same}
use Rattle.image_reader_turn.specs.Turn.{Reading, onward, read_blocks, cut}

-- two readers that give every block the same verdict, and open alike what they accept
module _ (d e : BlockReader) (verdicts : (s : Progress) (b : List ℕ) → Octets 512 b → d.verdict s b ≡ e.verdict s b)
    (plains : (s : Progress) (b : List ℕ) → Octets 512 b → e.verdict s b ≡ Accepted → d.plain b ≡ e.plain b) where
  read_same : (k : ℕ) (s : Progress) (bl : List ℕ) → k * 512 ≤ length bl → Bytes bl → read_blocks d s (cut k bl) ≡ read_blocks e s (cut k bl)
  unfolding read_blocks cut
  read_same zero s bl h bytes = refl
  read_same (suc k) s bl h bytes =
      let ih = read_same k (taken s b) (drop 512 bl) (omega (arith, length-drop 512 bl)) (drop_bytes 512 bl bytes) in
      rw (verdicts s b o) (go (e.verdict s b) refl ih)
    where
      b : List ℕ
      b = take 512 bl

      o : Octets 512 b
      o = take_octets 512 bl (omega arith) bytes

      go : (v : Verdict) → e.verdict s b ≡ v → read_blocks d (taken s b) (cut k (drop 512 bl)) ≡ read_blocks e (taken s b) (cut k (drop 512 bl))
          → onward v s (head_of_lem b).len (d.plain b) (read_blocks d (taken s b) (cut k (drop 512 bl))) ≡ onward v s (head_of_lem b).len (e.plain b) (read_blocks e (taken s b) (cut k (drop 512 bl)))
      go Accepted q ih = ap₂ (λ (x : List ℕ) (t : Reading). onward Accepted s (head_of_lem b).len x t) (plains s b o q) ih
      go (Refused reason) q ih = refl

-- over the schedule for the way back and the subkeys that the call makes
pub reading_is : (p : KeyPair) (dec : KeySchedule) (subkeys : Subkeys) → dec ≡ inverse_schedule p.enc
    → subkeys.key1 ≡ key1 (standard p.chk.words p.chk.rounds) → subkeys.key2 ≡ key2 (standard p.chk.words p.chk.rounds)
    → (k : ℕ) (s : Progress) (bl : List ℕ) → k * 512 ≤ length bl → Bytes bl
    → read_blocks (of_both (lent_of p dec subkeys)) s (cut k bl) ≡ read_blocks (of_both (pair_keys p)) s (cut k bl)
reading_is p dec subkeys pd p1 p2 =
    read_same (of_both (lent_of p dec subkeys)) (of_both (pair_keys p))
    (λ s b. verdict_same p dec subkeys pd p1 p2 (either s (head_of_lem b).reserved) s b)
    (λ s b. plain_same p dec subkeys pd p1 p2 (either s (head_of_lem b).reserved) s b)
