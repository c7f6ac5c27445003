-- Demand 1 for the calls that replay a response file, and what each of their answers says. Assumes nothing.
use mathlib.Core.Path.{◌≡◌, sym, ap, ◌∙◌}
use mathlib.Core.Bool.{true, false, not}
use Prim.Native.Nat.{ℕ, ◌+◌, ◌≤◌}
use lib.Dec.{leb}
use lib.ListN.{length}
use Rattle.octets_slice.specs.Slices.{copied}
use Rattle.modes_answer.specs.Answers.{mode_number}
use Rattle.modes.specs.Calls.{mode_answer}
use Rattle.modes.proofs.Calls.{kept}
use Rattle.std.specs.Prelude.{Option, Result, Ok, Err}
use Rattle.text_lines.specs.Gathering.{line_in, len_of, gathered}
use Rattle.text_lines.specs.declared.Gathered.{Gathered}
use Rattle.text_lines.specs.declared.TooLong.{TooLong}
use Rattle.text_lines.proofs.Laws.{too_long_keeps, no_longer_keeps, full_keeps}
use Rattle.aesavs_record.specs.Records.{between, next_line}
use Rattle.aesavs_record.specs.declared.Record.{Record}
use Rattle.aesavs_record.specs.declared.Refused.{Refused}
use Rattle.aesavs_record.specs.declared.Standing.{Standing}
use Rattle.aesavs_record.proofs.Told.{refusing, expected, refused_exactly, end_refused_exactly, lines_are_counted}
use Rattle.aesavs_monte.specs.Chain.{operation_of}
use Rattle.aesavs.specs.Replay.{computed}
use Rattle.text_lines.proofs.no_line.Reads as no_line
use Rattle.text_lines.proofs.has_begun.Reads as has_begun
use Rattle.text_lines.proofs.gather.Reads as gather
use Rattle.aesavs_line.proofs.read_line.Reads as read_line
use Rattle.aesavs_line.proofs.value.Reads as value
use Rattle.aesavs_line.proofs.strip.Reads as strip
use Rattle.aesavs_record.proofs.Standing.start.Reads as record_start
use Rattle.aesavs_record.proofs.Standing.step.Reads as record_step
use Rattle.aesavs_record.proofs.Standing.finish.Reads as record_end
use Rattle.aesavs_record.proofs.role_of.Reads as role_of
use Rattle.aesavs_monte.proofs.operation_of.Reads as operation-of
use Rattle.aesavs_monte.proofs.link_of.Reads as link_of
use Rattle.aesavs_monte.proofs.run.Reads as monte_run
use Rattle.aesavs.proofs.known_answer.Reads as known_answer
use Rattle.aesavs.proofs.monte_carlo.Reads as monte_carlo

-- ---- demand 1

pub no_line_asks_nothing : (κs : _) (a : _) → no_line.Asked κs a
no_line_asks_nothing κs a = tt

pub no_line_determined : (κs : _) (a : _) (r r' : _) (s s' : _) → no_line.Post κs a r s → no_line.Post κs a r' s' → r ≡ r'
no_line_determined κs a r r' s s' p q = p ∙ sym q

pub has_begun_asks_nothing : (κs : _) (a : _) → has_begun.Asked κs a
has_begun_asks_nothing κs a = tt

pub has_begun_determined : (κs : _) (a : _) (r r' : _) (s s' : _) → has_begun.Post κs a r s → has_begun.Post κs a r' s' → r ≡ r'
has_begun_determined κs a r r' s s' p q = p ∙ sym q

pub gather_asks_nothing : (κs : _) (a : _) → gather.Asked κs a
gather_asks_nothing κs a = tt

pub gather_determined : (κs : _) (a : _) (r r' : _) (s s' : _) → gather.Post κs a r s → gather.Post κs a r' s' → (r ≡ r') × (s.1.1.1.0.now ≡ s'.1.1.1.0.now)
gather_determined κs a r r' s s' p q = (p.0 ∙ sym q.0, p.1 ∙ sym q.1)

-- a part that has no room behind the line so far, marked or not, leaves the memory as it was
pub gather_refused_keeps : (κs : _) (a : _) (r : _) (s : _) → gather.Post κs a r s
    → leb (len_of a.0 + length (line_in a.1.0.now a.1.1.0)) (length a.1.1.1.0.now) ≡ false → s.1.1.1.0.now ≡ a.1.1.1.0.now
unfolding copied
gather_refused_keeps κs a r s p e = p.1 ∙ rw e

-- so does what makes a line too long, and what leaves a line as long as it was
pub gather_too_long_keeps : (κs : _) (a : _) (r : _) (s : _) (n : ℕ) (e : TooLong) → gather.Post κs a r s → a.0 ≡ Ok n → r.line ≡ Err e → s.1.1.1.0.now ≡ a.1.1.1.0.now
gather_too_long_keeps κs a r s n e p o h =
    let q : (gathered (Ok n) a.1.0.now a.1.1.0 a.1.1.1.0.now).line ≡ Err e = ap (λ (l : Result ℕ TooLong). (gathered l a.1.0.now a.1.1.0 a.1.1.1.0.now).line) (sym o) ∙ ap (λ (g : Gathered). g.line) (sym p.0) ∙ h in
    p.1 ∙ ap (λ (l : Result ℕ TooLong). copied (line_in a.1.0.now a.1.1.0) (len_of l) a.1.1.1.0.now) o ∙ too_long_keeps n e a.1.0.now a.1.1.0 a.1.1.1.0.now q

pub gather_no_longer_keeps : (κs : _) (a : _) (r : _) (s : _) → gather.Post κs a r s → len_of r.line ≡ len_of a.0 → s.1.1.1.0.now ≡ a.1.1.1.0.now
gather_no_longer_keeps κs a r s p e = p.1 ∙ no_longer_keeps a.0 a.1.0.now a.1.1.0 a.1.1.1.0.now (ap (λ (g : Gathered). len_of g.line) (sym p.0) ∙ e)

-- and so does each part that comes to a line which is marked at the end of the memory
pub gather_full_keeps : (κs : _) (a : _) (r : _) (s : _) → gather.Post κs a r s → length a.1.1.1.0.now ≤ len_of a.0 → s.1.1.1.0.now ≡ a.1.1.1.0.now
gather_full_keeps κs a r s p h = p.1 ∙ full_keeps a.0 a.1.0.now a.1.1.0 a.1.1.1.0.now h

pub read_line_asks_nothing : (κs : _) (a : _) → read_line.Asked κs a
read_line_asks_nothing κs a = tt

pub read_line_determined : (κs : _) (a : _) (r r' : _) (s s' : _) → read_line.Post κs a r s → read_line.Post κs a r' s' → r ≡ r'
read_line_determined κs a r r' s s' p q = p ∙ sym q

pub value_asks_nothing : (κs : _) (a : _) → value.Asked κs a
value_asks_nothing κs a = tt

pub value_determined : (κs : _) (a : _) (r r' : _) (s s' : _) → value.Post κs a r s → value.Post κs a r' s' → r.now ≡ r'.now
value_determined κs a r r' s s' p q = p ∙ sym q

pub strip_asks_nothing : (κs : _) (a : _) → strip.Asked κs a
strip_asks_nothing κs a = tt

pub strip_determined : (κs : _) (a : _) (r r' : _) (s s' : _) → strip.Post κs a r s → strip.Post κs a r' s' → r.now ≡ r'.now
strip_determined κs a r r' s s' p q = p ∙ sym q

pub record_start_asks_nothing : (κs : _) (a : _) → record_start.Asked κs a
record_start_asks_nothing κs a = tt

pub record_start_determined : (κs : _) (a : _) (r r' : _) (s s' : _) → record_start.Post κs a r s → record_start.Post κs a r' s' → r ≡ r'
record_start_determined κs a r r' s s' p q = p ∙ sym q

pub record_step_asks_nothing : (κs : _) (a : _) → record_step.Asked κs a
record_step_asks_nothing κs a = tt

pub record_step_determined : (κs : _) (a : _) (r r' : _) (s s' : _) → record_step.Post κs a r s → record_step.Post κs a r' s' → (r ≡ r') × (s.0.now ≡ s'.0.now)
record_step_determined κs a r r' s s' p q = (p.1 ∙ sym q.1, p.0 ∙ sym q.0)

pub record_end_asks_nothing : (κs : _) (a : _) → record_end.Asked κs a
record_end_asks_nothing κs a = tt

pub record_end_determined : (κs : _) (a : _) (r r' : _) (s s' : _) → record_end.Post κs a r s → record_end.Post κs a r' s' → r ≡ r'
record_end_determined κs a r r' s s' p q = p ∙ sym q

pub role_of_asks_nothing : (κs : _) (a : _) → role_of.Asked κs a
role_of_asks_nothing κs a = tt

pub role_of_determined : (κs : _) (a : _) (r r' : _) (s s' : _) → role_of.Post κs a r s → role_of.Post κs a r' s' → r ≡ r'
role_of_determined κs a r r' s s' p q = p ∙ sym q

pub operation_of_asks_nothing : (κs : _) (a : _) → operation-of.Asked κs a
operation_of_asks_nothing κs a = tt

pub operation_of_determined : (κs : _) (a : _) (r r' : _) (s s' : _) → operation-of.Post κs a r s → operation-of.Post κs a r' s' → r ≡ r'
operation_of_determined κs a r r' s s' p q = p ∙ sym q

pub link_of_asks_nothing : (κs : _) (a : _) → link_of.Asked κs a
link_of_asks_nothing κs a = tt

pub link_of_determined : (κs : _) (a : _) (r r' : _) (s s' : _) → link_of.Post κs a r s → link_of.Post κs a r' s' → r ≡ r'
link_of_determined κs a r r' s s' p q = p ∙ sym q

pub monte_run_asks_nothing : (κs : _) (a : _) → monte_run.Asked κs a
monte_run_asks_nothing κs a = tt

pub monte_run_determined : (κs : _) (a : _) (r r' : _) (s s' : _) → monte_run.Post κs a r s → monte_run.Post κs a r' s' → r ≡ r'
monte_run_determined κs a r r' s s' p q = p ∙ sym q

pub known_answer_asks_nothing : (κs : _) (a : _) → known_answer.Asked κs a
known_answer_asks_nothing κs a = tt

pub known_answer_determined : (κs : _) (a : _) (r r' : _) (s s' : _) → known_answer.Post κs a r s → known_answer.Post κs a r' s'
    → (r ≡ r') × (s.1.1.1.1.1.1.0.now ≡ s'.1.1.1.1.1.1.0.now)
known_answer_determined κs a r r' s s' p q = (p.0 ∙ sym q.0, p.1 ∙ sym q.1)

-- where the mode refuses, the output stays
pub known_answer_refused_keeps : (κs : _) (a : _) (r : _) (s : _) → known_answer.Post κs a r s
    → (mode_number (mode_answer (operation_of a.0 a.1.0) a.1.1.0.now a.1.1.1.0.now a.1.1.1.1.0.now a.1.1.1.1.1.1.0.now) ≡ 0 → ⊥)
    → s.1.1.1.1.1.1.0.now ≡ a.1.1.1.1.1.1.0.now
unfolding computed
known_answer_refused_keeps κs a r s p h =
    let o = operation_of a.0 a.1.0 in
    let key = a.1.1.0.now in
    let iv = a.1.1.1.0.now in
    let first = a.1.1.1.1.0.now in
    let out = a.1.1.1.1.1.1.0.now in
    p.1 ∙ kept (mode_answer o key iv first out) o key iv first out h

pub monte_carlo_asks_nothing : (κs : _) (a : _) → monte_carlo.Asked κs a
monte_carlo_asks_nothing κs a = tt

pub monte_carlo_determined : (κs : _) (a : _) (r r' : _) (s s' : _) → monte_carlo.Post κs a r s → monte_carlo.Post κs a r' s' → r ≡ r'
monte_carlo_determined κs a r r' s s' p q = p ∙ sym q

-- ---- 22 comes exactly where no such line may come, with the number of the line

pub record_step_as_told : (κs : _) (a : _) (r : _) (s : _) → record_step.Post κs a r s → refusing r ≡ not (expected a.0.now a.1.0 a.1.1.0)
record_step_as_told κs a r s p = ap (λ (x : Result (Option Record) Refused). refusing x) p.1 ∙ refused_exactly a.0.now a.1.1.0 a.1.0

pub record_step_done : (κs : _) (a : _) (r : _) (s : _) → record_step.Post κs a r s → expected a.0.now a.1.0 a.1.1.0 ≡ true → refusing r ≡ false
record_step_done κs a r s p e = record_step_as_told κs a r s p ∙ ap not e

pub record_step_counts : (κs : _) (a : _) (r : _) (s : _) → record_step.Post κs a r s → s.0.now.lines ≡ next_line a.0.now.lines
record_step_counts κs a r s p = ap (λ (x : Standing). x.lines) p.0 ∙ (lines_are_counted a.0.now a.1.0 a.1.1.0).0

pub record_end_as_told : (κs : _) (a : _) (r : _) (s : _) → record_end.Post κs a r s → refusing r ≡ not (between a.0.stage)
record_end_as_told κs a r s p = ap (λ (x : Result Unit Refused). refusing x) p ∙ end_refused_exactly a.0
