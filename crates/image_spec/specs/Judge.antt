-- What a reader says of one block (docs/REFUSALS.md). Assumes nothing: these are definitions.
use Rattle.std.specs.Prelude.{ℕ, ◌+◌, Bool, ◌&&◌, not, List, [], ◌∷◌, ◌++◌, drop}
use Rattle.octets.specs.Blocks.{BlockCipher}
use Rattle.image_layout.specs.Layout.{check_at, head_of_lem}
use Rattle.image_limits.specs.Marks.{selected}
use Rattle.image_reasons.specs.Reasons.{first_of}
use Rattle.image_progress.specs.Progress.{closed, mark_for}
use Rattle.image_rules.specs.Rules.{head_tests}
use Rattle.image_layout.specs.declared.Head.{Head}
use Rattle.image_progress.specs.declared.Progress.{Progress}
use Rattle.image_reasons.specs.declared.Reason.{Reason}
use Rattle.image_reasons.specs.declared.Reason.TheVariants.{AfterLast, CheckWrong, FillNotZero}
use Rattle.image_reasons.specs.declared.Verdict.{Verdict}
use Rattle.image_spec.specs.Edition.{Edition, no_check, tail_of}
use Rattle.image_spec.specs.Sealed.{Mac, opened, checks, fill_zero}

-- the cipher of a reader's encryption key, what makes a check under its check key, and whether keys gave them: a reader whose start was refused
-- has no usable keys
pub record Keys : Type 0 where
  pub enc : BlockCipher
  pub mac : Mac
  pub usable : Bool

-- before the first block
abbrev pub fresh : Progress
fresh = record { next = 0; count = 0; release = 0; edition = 0; last = no_check }

-- after a block with this header and this check was accepted
abbrev pub advanced : Progress → Head → (check : List ℕ) → Progress
advanced s h check = record { next = s.next + 1; count = h.count; release = h.release; edition = selected h.reserved; last = check }

abbrev pub taken : Progress → List ℕ → Progress
taken s b = advanced s (head_of_lem b) (drop check_at b)

-- 16, 14, then 7, 8, 9, 10, 12, 13 of the header, then 15, in that order
abbrev pub tests : Keys → Edition → Progress → List ℕ → List (Bool × Reason)
tests k ed s b =
    (closed s, AfterLast)
    ∷ (not (k.usable && checks k.mac (ed.tail s.last) b), CheckWrong)
    ∷ (head_tests ed.mark s (head_of_lem b) ++ ((not (fill_zero k.enc b), FillNotZero) ∷ []))

unfoldable pub judge : Keys → Edition → Progress → List ℕ → Verdict
judge k ed s b = first_of (tests k ed s b)

-- ---- readers

-- a reader of blocks: its verdict on the next block, and the bytes that it hands out of a block that it accepts
pub record BlockReader : Type 0 where
  pub verdict : Progress → List ℕ → Verdict
  pub plain : List ℕ → List ℕ

-- what a reader holds a block to: an edition, by how far it has come and what the block has in bytes 14 and 15
abbrev pub Rule : Type 0
Rule = Progress → ℕ → Edition

abbrev pub by_rule : Keys → Rule → BlockReader
by_rule k rule = record { verdict = λ s b. judge k (rule s (head_of_lem b).reserved) s b; plain = opened k.enc }

-- only one edition
abbrev pub always : Edition → Rule
always ed s v = ed

-- both editions: the check covers what it does in the edition that the block selects, and the mark is that of the edition fixed
abbrev pub either : Rule
either s v = record { mark = mark_for s v; tail = tail_of (selected v) }

-- the reader of one edition
abbrev pub of_edition : Keys → Edition → BlockReader
of_edition k ed = by_rule k (always ed)

-- the reader of both
abbrev pub of_both : Keys → BlockReader
of_both k = by_rule k either
