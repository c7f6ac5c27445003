-- The calls under a key and over a record, by the functions that they call. Assumes nothing.
use mathlib.Core.Path.{◌≡◌}
use mathlib.Core.List.{List}
use Prim.Native.Nat.{ℕ}
use Rattle.aes_sbox.specs.Sbox.{s_box}
use Rattle.aes_schedule.specs.Schedule.{schedule_of}
use Rattle.aes_schedule.specs.declared.Expanded.{Expanded}
use Rattle.aes_spec.specs.Cipher.{standard}
use Rattle.cmac_spec.specs.Cmac.{cmac}
use Rattle.cmac_run.specs.Running.{fed, closed}
use Rattle.cmac_run.specs.declared.Run.{Run}
use Rattle.cmac.specs.Calls.{check_of, record_of, fed_with, close_of}
use Rattle.cmac.specs.declared.Record.{Record}
use Rattle.cmac.specs.declared.Checked.{Checked}

pub check_under : (key m : List ℕ) (e : Expanded) (r : List ℕ) → e ≡ schedule_of s_box key
    → r ≡ cmac (standard e.schedule.words e.schedule.rounds) m → ◌≡◌ {A = Checked} (record { answer = e.answer; check = r }) (check_of key m)
unfolding check_of
check_under key m e r pe pr = rw (pr, pe)

module _ (x : Record) where
  pub fed_under : (part : List ℕ) (n : Run) → n ≡ fed (standard x.schedule.words x.schedule.rounds) x.run part → record_of x.schedule n ≡ fed_with x part
  unfolding fed_with
  fed_under part n pn = rw pn

  pub close_under : (r : List ℕ) → r ≡ closed (standard x.schedule.words x.schedule.rounds) x.run → r ≡ close_of x
  unfolding close_of
  close_under r pr = pr
