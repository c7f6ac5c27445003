-- 22 comes exactly where no such line may come. Assumes nothing.
use mathlib.Core.Path.{◌≡◌, refl, ap}
use mathlib.Core.Bool.{Bool, true, false, not, cond}
use Prim.Native.Nat.{ℕ}
use Rattle.std.specs.Prelude.{Result, Ok, Err}
use Rattle.aesavs_line.specs.declared.Line.{Line}
use Rattle.aesavs_line.specs.declared.Line.TheVariants.{Skipped, Opens, Marks, Counts, Value, Outside}
use Rattle.aesavs_record.specs.Records.{role_of, begins, between, passed, next_line, refused, marked, took, open_step, mark_step, count_at, takes, value_step, line_step, step_of, end_of, Stepped}
use Rattle.aesavs_record.specs.declared.Role.{Role}
use Rattle.aesavs_record.specs.declared.Role.TheVariants.{KeyOf, IvOf, FirstText, SecondText}
use Rattle.aesavs_record.specs.declared.Stage.{Stage}
use Rattle.aesavs_record.specs.declared.Stage.TheVariants.{AtStart, AtMark, AtRecord, AtKey, AtIv, AtFirst, AtSecond}
use Rattle.aesavs_record.specs.declared.Refused.{Refused}
use Rattle.aesavs_record.specs.declared.Standing.{Standing}

abbrev pub refusing : {T : Type 0} → Result T Refused → Bool
refusing (Ok x) = false
refusing (Err e) = true

-- a COUNT may come behind a mark or a record
abbrev pub counting : Stage → Bool
counting AtStart = false
counting AtMark = false
counting AtRecord = true
counting AtKey = false
counting AtIv = false
counting AtFirst = false
counting AtSecond = false

-- whether a line may come
abbrev pub expected : Standing → Line → ℕ → Bool
expected s Skipped n = not (begins s.stage)
expected s (Opens r) n = begins s.stage
expected s (Marks w) n = between s.stage
expected s (Counts c) n = counting s.stage
expected s (Value f) n = takes s (role_of s.section.way f) n
expected s Outside n = false

taken_goes : (s : Standing) (f : Role) (n : ℕ) → refusing (took s f n).deed ≡ false
taken_goes s KeyOf n = refl
taken_goes s IvOf n = refl
taken_goes s FirstText n = refl
taken_goes s SecondText n = refl

by : (s : Standing) (f : Role) (n : ℕ) (b : Bool) → refusing (cond b (took s f n) (refused s)).deed ≡ not b
by s f n true = taken_goes s f n
by s f n false = refl

module _ (s : Standing) (n : ℕ) where
  value_told : (f : _) → refusing (value_step (passed s) f n).deed ≡ not (takes s (role_of s.section.way f) n)
  unfolding value_step takes
  value_told f = by (passed s) (role_of s.section.way f) n (takes s (role_of s.section.way f) n)

  mark_told : (w : _) → refusing (mark_step (passed s) w).deed ≡ not (between s.stage)
  unfolding mark_step
  mark_told w = go (between s.stage)
    where
      go : (b : Bool) → refusing (cond b (marked (passed s) w) (refused (passed s))).deed ≡ not b
      go true = refl
      go false = refl

  count_told : (c : ℕ) (g : Stage) → refusing (count_at g (passed s) c).deed ≡ not (counting g)
  count_told c AtStart = refl
  count_told c AtMark = refl
  count_told c AtRecord = refl
  count_told c AtKey = refl
  count_told c AtIv = refl
  count_told c AtFirst = refl
  count_told c AtSecond = refl

  -- line 1
  first_told : s.stage ≡ AtStart → (l : Line) → refusing (step_of s l n).deed ≡ not (expected s l n)
  unfolding step_of takes
  first_told e Skipped = rw e
  first_told e (Opens r) = rw e
  first_told e (Marks w) = rw e
  first_told e (Counts c) = rw e
  first_told e (Value f) = rw e
  first_told e Outside = rw e

  -- any other
  later_told : begins s.stage ≡ false → (l : Line) → refusing (step_of s l n).deed ≡ not (expected s l n)
  unfolding step_of
  later_told e Skipped = rw e
  later_told e (Opens r) = rw e
  later_told e (Marks w) = rw e (mark_told w)
  later_told e (Counts c) = rw e (count_told c s.stage)
  later_told e (Value f) = rw e (value_told f)
  later_told e Outside = rw e

  pub refused_exactly : (l : Line) → refusing (step_of s l n).deed ≡ not (expected s l n)
  refused_exactly l = go s.stage refl
    where
      go : (g : Stage) → s.stage ≡ g → refusing (step_of s l n).deed ≡ not (expected s l n)
      go AtStart e = first_told e l
      go AtMark e = later_told (ap begins e) l
      go AtRecord e = later_told (ap begins e) l
      go AtKey e = later_told (ap begins e) l
      go AtIv e = later_told (ap begins e) l
      go AtFirst e = later_told (ap begins e) l
      go AtSecond e = later_told (ap begins e) l

-- the end is refused exactly where line 1 is missing or a record is open
pub end_refused_exactly : (s : Standing) → refusing (end_of s) ≡ not (between s.stage)
unfolding end_of
end_refused_exactly s = go (between s.stage)
  where
    go : (b : Bool) → refusing (cond b (Ok (tt {0})) (Err (record { line = next_line s.lines }))) ≡ not b
    go true = refl
    go false = refl

-- ---- every line is counted, and a refusal has its number

abbrev pub Numbered : {T : Type 0} → ℕ → Result T Refused → Type 0
Numbered m (Ok x) = Unit {0}
Numbered m (Err e) = e.line ≡ m

abbrev pub Counted : ℕ → Stepped → Type 0
Counted m x = (x.standing.lines ≡ m) × Numbered m x.deed

took_lines : (s : Standing) (f : Role) (n : ℕ) → Counted s.lines (took s f n)
took_lines s KeyOf n = (refl, tt)
took_lines s IvOf n = (refl, tt)
took_lines s FirstText n = (refl, tt)
took_lines s SecondText n = (refl, tt)

open_lines : (s : Standing) (l : Line) → Counted s.lines (open_step s l)
open_lines s Skipped = (refl, refl)
open_lines s (Opens r) = (refl, tt)
open_lines s (Marks w) = (refl, refl)
open_lines s (Counts c) = (refl, refl)
open_lines s (Value f) = (refl, refl)
open_lines s Outside = (refl, refl)

count_lines : (g : Stage) (s : Standing) (c : ℕ) → Counted s.lines (count_at g s c)
count_lines AtStart s c = (refl, refl)
count_lines AtMark s c = (refl, refl)
count_lines AtRecord s c = (refl, tt)
count_lines AtKey s c = (refl, refl)
count_lines AtIv s c = (refl, refl)
count_lines AtFirst s c = (refl, refl)
count_lines AtSecond s c = (refl, refl)

either : (b : Bool) (x y : Stepped) (m : ℕ) → Counted m x → Counted m y → Counted m (cond b x y)
either true x y m p q = p
either false x y m p q = q

line_lines : (s : Standing) (l : Line) (n : ℕ) → Counted s.lines (line_step s l n)
unfolding mark_step value_step
line_lines s Skipped n = (refl, tt)
line_lines s (Opens r) n = (refl, refl)
line_lines s (Marks w) n = either (between s.stage) (marked s w) (refused s) s.lines (refl, tt) (refl, refl)
line_lines s (Counts c) n = count_lines s.stage s c
line_lines s (Value f) n = either (takes s (role_of s.section.way f) n) (took s (role_of s.section.way f) n) (refused s) s.lines (took_lines s (role_of s.section.way f) n) (refl, refl)
line_lines s Outside n = (refl, refl)

pub lines_are_counted : (s : Standing) (l : Line) (n : ℕ) → Counted (next_line s.lines) (step_of s l n)
unfolding step_of
lines_are_counted s l n = either (begins s.stage) (open_step (passed s) l) (line_step (passed s) l n) (next_line s.lines) (open_lines (passed s) l) (line_lines (passed s) l n)

pub end_is_numbered : (s : Standing) → Numbered (next_line s.lines) (end_of s)
unfolding end_of
end_is_numbered s = go (between s.stage)
  where
    go : (b : Bool) → Numbered (next_line s.lines) (cond b (Ok (tt {0})) (Err (record { line = next_line s.lines })))
    go true = tt
    go false = refl
