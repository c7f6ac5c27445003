use Rattle.aes_sbox.specs.Sbox.{s_box}
use Rattle.aes_schedule.specs.Schedule.{schedule_of}
use Rattle.aes_schedule.proofs.Laws.{expanded}
use Rattle.wrap.proofs.Calls.{wrap_answered, wrap_kept, wrap_fits, wrapped_by}
use Rattle.wrap.proofs.wrap.Goals as goal

pub wrap_into-requires : goal.wrap_into-requires
wrap_into-requires c =
    let a = c.args in
    wrap_fits a.key.now _ (expanded {x = schedule_of s_box a.key.now} c.expand.ensures) a.«data».now a.output.now _ c.judge_wrap-answer.ensures c.in-WrapDone.is

pub returns-in-WrapDone : goal.returns-in-WrapDone
returns-in-WrapDone c =
    let a = c.args in
    let x = expanded {x = schedule_of s_box a.key.now} c.expand.ensures in record {
      answer = wrap_answered a.key.now _ x a.«data».now a.output.now _ c.judge_wrap-answer.ensures;
      written = wrapped_by a.key.now _ x a.«data».now a.output.now _ c.judge_wrap-answer.ensures c.in-WrapDone.is _ c.wrap_into.ensures;
    }

pub returns-in_default : goal.returns-in_default
returns-in_default c =
    let j = c.judge_wrap-answer in
    let a = c.args in record {
      answer = wrap_answered a.key.now _ (expanded {x = schedule_of s_box a.key.now} c.expand.ensures) a.«data».now a.output.now _ j.ensures;
      written = wrap_kept j.result a.key.now a.«data».now a.output.now c.in_default.not-WrapDone;
    }
