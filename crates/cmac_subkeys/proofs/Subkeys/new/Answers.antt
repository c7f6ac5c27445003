use mathlib.Core.Path.{◌≡◌}
use mathlib.Core.List.{List}
use Prim.Native.Nat.{ℕ}
use lib.ListN.{replicate}
use Rattle.octets.specs.Blocks.{BlockCipher}
use Rattle.aes_spec.specs.Cipher.{standard}
use Rattle.cmac_spec.specs.Cmac.{doubled, key1, key2}
use Rattle.cmac_subkeys.specs.Keys.{subkeys_of}
use Rattle.cmac_subkeys.specs.declared.Subkeys.{Subkeys}
use Rattle.cmac_subkeys.proofs.Subkeys.new.Goals as goal

made : (c : BlockCipher) (l k1 k2 : List ℕ) → l ≡ c.enc (replicate 16 0) → k1 ≡ doubled l → k2 ≡ doubled k1
    → ◌≡◌ {A = Subkeys} (record { key1 = k1; key2 = k2 }) (subkeys_of c)
unfolding key1 key2
made c l k1 k2 p q r = rw (r, q, p)

pub returns : goal.returns
returns c =
    let s = c.args.schedule.now in
    made (standard s.words s.rounds) _ _ _ c.encrypt_block.ensures c.doubled-key1.ensures c.doubled.ensures
