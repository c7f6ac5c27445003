-- The two subkeys of a cipher beside each other. Assumes nothing: these are definitions.
use Rattle.octets.specs.Blocks.{BlockCipher}
use Rattle.cmac_spec.specs.Cmac.{key1, key2}
use Rattle.cmac_subkeys.specs.declared.Subkeys.{Subkeys}

abbrev pub subkeys_of : BlockCipher → Subkeys
subkeys_of c = record { key1 = key1 c; key2 = key2 c }
