-- What the code goes by. Nobody has to trust these: laws say what they amount to. Assumes nothing: these are definitions.
use Rattle.std.specs.Prelude.{ℕ, ◌+◌, ◌-◌, cond, List, leb, get_or}
use Rattle.octets.specs.Octets.{xor}
use Rattle.aes_sbox.specs.Sbox.{s_box}
use Rattle.aes_schedule.specs.Schedule.{schedule_of}
use Rattle.aes_schedule.specs.declared.KeySchedule.{KeySchedule}
use Rattle.aes_spec.specs.Model.{inverse_schedule}
use Rattle.aesavs_line.specs.declared.Way.{Way}
use Rattle.aesavs_line.specs.declared.Way.TheVariants.{Encrypting, Decrypting}

-- the schedule of a key for the way that is asked for
abbrev pub schedule_for : Way → List ℕ → KeySchedule
schedule_for Encrypting key = (schedule_of s_box key).schedule
schedule_for Decrypting key = inverse_schedule (schedule_of s_box key).schedule

-- byte i of the next key, where the key has n bytes
abbrev pub key_byte : (key : List ℕ) (n : ℕ) (both : List ℕ) (i : ℕ) → ℕ
key_byte key n both i = cond (leb n i) (get_or key i 0) (xor (get_or key i 0) (get_or both (32 - n + i) 0))
