use mathlib.Core.Path.{◌∙◌}
use Prim.Native.Nat.{◌+◌}
use native.Mathlib.Omega.{arith}
use Rattle.aes_schedule.specs.Schedule.{key_number}
use Rattle.ccm_answer.specs.declared.CcmAnswer.TheVariants.{CcmDone}
use Rattle.ccm_answer.specs.Answers.{in_profile}
use Rattle.ccm_answer.proofs.Sizes.{profile_parts, ruled_alike}
use Rattle.ccm_answer.proofs.judge_seal.Goals as goal

pub returns : goal.returns
returns c =
    let a = c.args in
    c.judge.ensures
    ∙ rw c.in_profile.ensures
    (ruled_alike (key_number a.key) (in_profile a.nonce a.ad a.len) c.saturating_add.result (a.len + 8) a.room CcmDone (λ e. omega (arith, profile_parts a.nonce a.ad a.len e, c.saturating_add.ensures)))
