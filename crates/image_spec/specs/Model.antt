-- One block as the code has it: over lent schedules, whatever these hold, and on slices of any length.
-- Assumes nothing: these are definitions.
use Rattle.std.specs.Prelude.{ℕ, Bool, ◌&&◌, cond, List, leb, length}
use Rattle.octets.specs.Octets.{over}
use Rattle.octets.specs.Blocks.{BlockCipher}
use Rattle.octets_block.specs.Blocks.{block_at}
use Rattle.aes_sbox.specs.Sbox.{s_box, inv_s_box}
use Rattle.aes_schedule.specs.declared.KeySchedule.{KeySchedule}
use Rattle.aes_spec.specs.Cipher.{encrypt_block, standard}
use Rattle.aes_spec.specs.Model.{equivalent_cipher, eq_decrypt_block}
use Rattle.cmac_spec.specs.Cmac.{cmac_by}
use Rattle.cmac_subkeys.specs.declared.Subkeys.{Subkeys}
use Rattle.image_layout.specs.Layout.{body_size, block_size, head_of_lem}
use Rattle.image_layout.specs.declared.Head.{Head}
use Rattle.image_progress.specs.declared.Progress.{Progress}
use Rattle.image_spec.specs.Sealed.{Mac, sealed, opened, zero_after, is_block}
use Rattle.image_spec.specs.Judge.{Keys, of_both}
use Rattle.image_spec.specs.declared.KeyPair.{KeyPair}
use Rattle.image_spec.specs.declared.Judged.{Judged}
use Rattle.image_spec.specs.KeyPair.{Rounds, usable, rounds_of}

-- the check over a lent schedule and subkeys
abbrev pub lent_mac : (cwords : List ℕ) → (rounds : ℕ) → (key1 key2 : List ℕ) → Mac
lent_mac cwords n key1 key2 = cmac_by (standard cwords n) key1 key2

abbrev pub lent_keys : (ewords dwords cwords key1 key2 : List ℕ) → Rounds → Keys
lent_keys ewords dwords cwords key1 key2 n = record {
  enc = equivalent_cipher ewords dwords n.enc;
  mac = lent_mac cwords n.chk key1 key2;
  usable = usable n;
}

-- the two ways of a block cipher, each over the schedule that is lent for it
abbrev pub lent_cipher : (enc dec : KeySchedule) → BlockCipher
lent_cipher enc dec = record { enc = encrypt_block s_box enc.words enc.rounds; dec = eq_decrypt_block inv_s_box dec.words dec.rounds }

abbrev pub lent_mac_of : (chk : KeySchedule) → Subkeys → Mac
lent_mac_of chk subkeys = lent_mac chk.words chk.rounds subkeys.key1 subkeys.key2

-- for the inverse schedule of the pair's own, and the subkeys of its check key, these are its keys (proofs/Agree.antt)
abbrev pub lent_of : KeyPair → (dec : KeySchedule) → Subkeys → Keys
lent_of p dec subkeys = record {
  enc = lent_cipher p.enc dec;
  mac = lent_mac_of p.chk subkeys;
  usable = usable (rounds_of p);
}

-- the test of the fill: no for what is not a block
unfoldable pub filled_out : BlockCipher → (len : ℕ) → List ℕ → Bool
filled_out c len b = is_block b && zero_after c len b

-- what opening leaves of an output: nothing changes if there is no block, or no room for its bytes
unfoldable pub opened_over : BlockCipher → (b out : List ℕ) → List ℕ
opened_over c b out = cond (is_block b && leb body_size (length out)) (over (opened c b) out) out

-- what sealing leaves of an output: nothing changes if the payload is too long, or there is no room for a block
unfoldable pub sealed_over : BlockCipher → Mac → (tail : List ℕ) → Head → (payload out : List ℕ) → List ℕ
sealed_over ek mac tail h p out = cond (leb (length p) body_size && leb block_size (length out)) (over (sealed ek mac tail h p) out) out

-- the header that the code reads: zeros if there are no 16 bytes
abbrev pub head_read_of : List ℕ → Head
head_read_of b = head_of_lem (block_at b 0)

-- the verdict of the reader of both editions, with the header
unfoldable pub judged : Keys → Progress → List ℕ → Judged
judged k s b = record { verdict = (of_both k).verdict s b; head = head_read_of b }
