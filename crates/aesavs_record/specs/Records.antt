-- How lines make records (docs/REPLAY.md): which line may come next, and what it changes. Assumes nothing: these are definitions.
use Rattle.std.specs.Prelude.{ℕ, ◌+◌, ◌%◌, Bool, true, false, not, cond, ◌&&◌, ◌||◌, Option, Some, None, Result, Ok, Err, eqb, ltb}
use Rattle.aesavs_line.specs.declared.Run.{Run}
use Rattle.aesavs_line.specs.declared.Run.TheVariants.{Known, Monte}
use Rattle.aesavs_line.specs.declared.Way.{Way}
use Rattle.aesavs_line.specs.declared.Way.TheVariants.{Encrypting, Decrypting}
use Rattle.aesavs_line.specs.declared.Field.{Field}
use Rattle.aesavs_line.specs.declared.Field.TheVariants.{Key, Iv, Plaintext, Ciphertext}
use Rattle.aesavs_line.specs.declared.Line.{Line}
use Rattle.aesavs_line.specs.declared.Line.TheVariants.{Skipped, Opens, Marks, Counts, Value, Outside}
use Rattle.aesavs_record.specs.declared.Role.{Role}
use Rattle.aesavs_record.specs.declared.Role.TheVariants.{KeyOf, IvOf, FirstText, SecondText}
use Rattle.aesavs_record.specs.declared.Stage.{Stage}
use Rattle.aesavs_record.specs.declared.Stage.TheVariants.{AtStart, AtMark, AtRecord, AtKey, AtIv, AtFirst, AtSecond}
use Rattle.aesavs_record.specs.declared.Kind.{Kind}
use Rattle.aesavs_record.specs.declared.Kind.TheVariants.{Ecb, Cbc}
use Rattle.aesavs_record.specs.declared.Record.{Record}
use Rattle.aesavs_record.specs.declared.Standing.{Standing}
use Rattle.aesavs_record.specs.declared.Refused.{Refused}

-- encrypting, the plaintext comes first and the ciphertext second; decrypting, the other way round
abbrev pub role_of : Way → Field → Role
role_of w Key = KeyOf
role_of w Iv = IvOf
role_of Encrypting Plaintext = FirstText
role_of Encrypting Ciphertext = SecondText
role_of Decrypting Plaintext = SecondText
role_of Decrypting Ciphertext = FirstText

-- ---- which line may come

-- line 1
abbrev pub begins : Stage → Bool
begins AtStart = true
begins AtMark = false
begins AtRecord = false
begins AtKey = false
begins AtIv = false
begins AtFirst = false
begins AtSecond = false

-- no record is open: a mark may come, or the end
abbrev pub between : Stage → Bool
between AtStart = false
between AtMark = true
between AtRecord = true
between AtKey = false
between AtIv = false
between AtFirst = false
between AtSecond = false

abbrev pub is_key : Role → Bool
is_key KeyOf = true
is_key IvOf = false
is_key FirstText = false
is_key SecondText = false

abbrev pub is_iv_or_first : Role → Bool
is_iv_or_first KeyOf = false
is_iv_or_first IvOf = true
is_iv_or_first FirstText = true
is_iv_or_first SecondText = false

abbrev pub is_first : Role → Bool
is_first KeyOf = false
is_first IvOf = false
is_first FirstText = true
is_first SecondText = false

abbrev pub is_second : Role → Bool
is_second KeyOf = false
is_second IvOf = false
is_second FirstText = false
is_second SecondText = true

-- KEY, then IV if there is one, then the two texts
abbrev pub follows : Stage → Role → Bool
follows AtStart f = false
follows AtMark f = false
follows AtRecord f = false
follows AtKey f = is_key f
follows AtIv f = is_iv_or_first f
follows AtFirst f = is_first f
follows AtSecond f = is_second f

-- ---- the sizes of values, in bytes

abbrev pub key_fits : ℕ → Bool
key_fits n = eqb n 16 || (eqb n 24 || eqb n 32)

-- not empty, and a multiple of 16
abbrev pub whole_pieces : ℕ → Bool
whole_pieces n = not (eqb n 0) && eqb (n % 16) 0

abbrev pub text_fits : Run → ℕ → Bool
text_fits Known n = whole_pieces n
text_fits Monte n = eqb n 16

-- `text` is the size of the first text
abbrev pub size_fits_of : Run → Role → (size text : ℕ) → Bool
size_fits_of r KeyOf n text = key_fits n
size_fits_of r IvOf n text = eqb n 16
size_fits_of r FirstText n text = text_fits r n
size_fits_of r SecondText n text = eqb n text

-- whether a record has an IV or none as its section's first has
abbrev pub same_kind : Option Kind → Bool → Bool
same_kind None chained = true
same_kind (Some Ecb) chained = not chained
same_kind (Some Cbc) chained = chained

-- asked only in a Monte Carlo run, and only at the first text
abbrev pub monte_fits : Role → Option Kind → Bool → Bool
monte_fits KeyOf k chained = true
monte_fits IvOf k chained = true
monte_fits FirstText k chained = same_kind k chained
monte_fits SecondText k chained = true

abbrev pub kind_fits : Run → Role → Option Kind → Bool → Bool
kind_fits Known f k chained = true
kind_fits Monte f k chained = monte_fits f k chained

-- ---- what a line changes

-- before the first line
abbrev pub start_of : Standing
start_of = record {
  lines = 0;
  run = Known;
  stage = AtStart;
  section = record { way = Encrypting; kind = None };
  held = record { count = 0; key = 0; text = 0; chained = false };
}

-- lines are counted from 1, up to what fits 64 bits
abbrev pub next_line : ℕ → ℕ
next_line n = cond (ltb n 18446744073709551615) (n + 1) n

abbrev pub passed : Standing → Standing
passed s = record { lines = next_line s.lines; run = s.run; stage = s.stage; section = s.section; held = s.held }

-- what a line leaves, and its answer: the record that it completes, if it does, or a refusal
pub record Stepped : Type 0 where
  pub standing : Standing
  pub deed : Result (Option Record) Refused

-- a line outside the form: 22 with the number of lines read
abbrev pub refused : Standing → Stepped
refused s = record { standing = s; deed = Err (record { line = s.lines }) }

abbrev pub goes : Standing → Stepped
goes s = record { standing = s; deed = Ok None }

-- the run is told
abbrev pub opened : Standing → Run → Stepped
opened s r = goes (record { lines = s.lines; run = r; stage = AtMark; section = s.section; held = s.held })

-- a new section, of which no record is known
abbrev pub marked : Standing → Way → Stepped
marked s w = goes (record { lines = s.lines; run = s.run; stage = AtRecord; section = record { way = w; kind = None }; held = s.held })

-- the record as it now is, and what may come after it
abbrev pub moved : Standing → Stage → Record → Stepped
moved s g h = goes (record { lines = s.lines; run = s.run; stage = g; section = s.section; held = h })

-- a new record, without IV so far
abbrev pub counted : Standing → ℕ → Stepped
counted s n = moved s AtKey (record { count = n; key = 0; text = 0; chained = false })

-- a record says whether its section is ECB or CBC
abbrev pub kind_of : Bool → Kind
kind_of true = Cbc
kind_of false = Ecb

-- the second text completes the record
abbrev pub answered : Standing → Stepped
answered s = record {
  standing = record { lines = s.lines; run = s.run; stage = AtRecord; section = record { way = s.section.way; kind = Some (kind_of s.held.chained) }; held = s.held };
  deed = Ok (Some s.held);
}

-- a field that was taken
abbrev pub took : Standing → Role → ℕ → Stepped
took s KeyOf n = moved s AtIv (record { count = s.held.count; key = n; text = s.held.text; chained = s.held.chained })
took s IvOf n = moved s AtFirst (record { count = s.held.count; key = s.held.key; text = s.held.text; chained = true })
took s FirstText n = moved s AtSecond (record { count = s.held.count; key = s.held.key; text = n; chained = s.held.chained })
took s SecondText n = answered s

-- ---- a line, which is counted before it is looked at

-- line 1 is `kat` or `mct`
abbrev pub open_step : Standing → Line → Stepped
open_step s Skipped = refused s
open_step s (Opens r) = opened s r
open_step s (Marks w) = refused s
open_step s (Counts n) = refused s
open_step s (Value f) = refused s
open_step s Outside = refused s

unfoldable pub mark_step : Standing → Way → Stepped
mark_step s w = cond (between s.stage) (marked s w) (refused s)

-- a COUNT outside a record, after a mark
abbrev pub count_at : Stage → Standing → ℕ → Stepped
count_at AtStart s n = refused s
count_at AtMark s n = refused s
count_at AtRecord s n = counted s n
count_at AtKey s n = refused s
count_at AtIv s n = refused s
count_at AtFirst s n = refused s
count_at AtSecond s n = refused s

abbrev pub count_step : Standing → ℕ → Stepped
count_step s n = count_at s.stage s n

-- a field in its place, of a size that it may have, and in a section of its kind
unfoldable pub takes : Standing → Role → ℕ → Bool
takes s f n = follows s.stage f && (size_fits_of s.run f n s.held.text && kind_fits s.run f s.section.kind s.held.chained)

unfoldable pub value_step : Standing → Field → ℕ → Stepped
value_step s f n = cond (takes s (role_of s.section.way f) n) (took s (role_of s.section.way f) n) (refused s)

abbrev pub line_step : Standing → Line → ℕ → Stepped
line_step s Skipped n = goes s
line_step s (Opens r) n = refused s
line_step s (Marks w) n = mark_step s w
line_step s (Counts c) n = count_step s c
line_step s (Value f) n = value_step s f n
line_step s Outside n = refused s

-- n is how many bytes the value of a field has, 0 if it is not hex
unfoldable pub step_of : Standing → Line → ℕ → Stepped
step_of s l n = cond (begins s.stage) (open_step (passed s) l) (line_step (passed s) l n)

-- the end of the input: inside a record, or before line 1, the line that is missing is refused
unfoldable pub end_of : Standing → Result Unit Refused
end_of s = cond (between s.stage) (Ok tt) (Err (record { line = (passed s).lines }))
