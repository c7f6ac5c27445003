use mathlib.Core.Path.{◌∙◌}
use Prim.Native.Nat.{◌+◌}
use native.Mathlib.Omega.{arith}
use Rattle.aes_schedule.specs.Schedule.{key_number}
use Rattle.wrap_answer.specs.declared.WrapAnswer.TheVariants.{WrapDone}
use Rattle.wrap_answer.specs.Answers.{size_fits_of}
use Rattle.wrap_answer.proofs.Sizes.{size_parts, ruled_alike}
use Rattle.wrap_answer.proofs.judge_wrap.Goals as goal

pub returns : goal.returns
returns c =
    let a = c.args in
    c.judge.ensures
    ∙ rw c.size_fits.ensures (ruled_alike (key_number a.key) (size_fits_of a.len) c.saturating_add.result (a.len + 8) a.room WrapDone (λ e. omega (arith, size_parts a.len e, c.saturating_add.ensures)))
