-- What the writer seals as the code has it. Assumes nothing: these are definitions.
use Rattle.std.specs.Prelude.{ℕ, List}
use Rattle.aes_spec.specs.Cipher.{standard}
use Rattle.cmac_spec.specs.Cmac.{key1, key2}
use Rattle.image_spec.specs.Model.{lent_mac, sealed_over}
use Rattle.image_spec.specs.declared.KeyPair.{KeyPair}
use Rattle.image_layout.specs.declared.Head.{Head}

-- what sealing under two schedules leaves of an output
abbrev pub sealed_under : KeyPair → (tail : List ℕ) → Head → (payload out : List ℕ) → List ℕ
sealed_under p tail h payload out =
    sealed_over (standard p.enc.words p.enc.rounds)
    (lent_mac p.chk.words p.chk.rounds (key1 (standard p.chk.words p.chk.rounds)) (key2 (standard p.chk.words p.chk.rounds))) tail h payload out
