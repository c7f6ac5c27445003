-- The encryption key and the check key of an image, by their schedules (docs/IMAGE.md). Assumes nothing: these are definitions.
use Rattle.std.specs.Prelude.{ℕ, Bool, ◌&&◌, cond, List, eqb}
use Rattle.aes_schedule.specs.Schedule.{round_count, key_number, no_schedule}
use Rattle.aes_schedule.specs.declared.Expanded.{Expanded}
use Rattle.aes_schedule.specs.declared.KeyAnswer.{KeyAnswer}
use Rattle.aes_schedule.specs.declared.KeyAnswer.TheVariants.{Taken, KeyLength}
use Rattle.aes_spec.specs.Cipher.{standard}
use Rattle.cmac_spec.specs.Cmac.{cmac}
use Rattle.image_spec.specs.Judge.{Keys}
use Rattle.image_spec.specs.declared.KeyPair.{KeyPair}

-- the rounds of the schedules of the encryption key and of the check key
pub record Rounds : Type 0 where
  pub enc : ℕ
  pub chk : ℕ

-- keys can have given both schedules
abbrev pub usable : Rounds → Bool
usable n = round_count n.enc && round_count n.chk

-- both keys are taken, or the call is refused with 1
abbrev pub both_taken : (ekey ckey : Expanded) → Bool
both_taken ekey ckey = eqb (key_number ekey.answer) 0 && eqb (key_number ckey.answer) 0

-- AES under the two schedules; they are usable if keys can have given them
abbrev pub keys_under : (ewords cwords : List ℕ) → Rounds → Keys
keys_under ewords cwords n = record { enc = standard ewords n.enc; mac = cmac (standard cwords n.chk); usable = usable n }

-- ---- as one value

abbrev pub rounds_of : KeyPair → Rounds
rounds_of p = record { enc = p.enc.rounds; chk = p.chk.rounds }

abbrev pub pair_keys : KeyPair → Keys
pair_keys p = keys_under p.enc.words p.chk.words (rounds_of p)

abbrev pub pair_of : (ekey ckey : Expanded) → KeyPair
pair_of ekey ckey = record { enc = ekey.schedule; chk = ckey.schedule }

abbrev pub pair_answer : (ekey ckey : Expanded) → KeyAnswer
pair_answer ekey ckey = cond (both_taken ekey ckey) Taken KeyLength

-- the schedules of no keys
abbrev pub no_keys : KeyPair
no_keys = record { enc = no_schedule; chk = no_schedule }
