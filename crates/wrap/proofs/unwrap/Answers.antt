use Rattle.octets.specs.Octets.{Bytes}
use Rattle.aes_sbox.specs.Sbox.{s_box}
use Rattle.aes_schedule.specs.Schedule.{schedule_of}
use Rattle.aes_schedule.proofs.Laws.{expanded}
use Rattle.wrap.proofs.Calls.{unwrap_refused, unwrap_kept, unwrap_fits, unwrap_answered, unwrapped_by}
use native.Mathlib.Omega.{arith}
use Rattle.wrap.proofs.unwrap.Goals as goal

pub unwrap_into-requires : goal.unwrap_into-requires
unwrap_into-requires c =
    let a = c.args in
    unwrap_fits a.key.now _ (expanded {x = schedule_of s_box a.key.now} c.expand.ensures) a.«data».now a.output.now _ c.judge_unwrap.ensures c.in-WrapDone.is

pub returns-in-WrapDone : goal.returns-in-WrapDone
returns-in-WrapDone c =
    let a = c.args in
    let b : Bytes a.«data».now = λ k. omega (arith, c.type_inv.data k) in
    let x = expanded {x = schedule_of s_box a.key.now} c.expand.ensures in record {
      answer = unwrap_answered a.key.now _ x a.«data».now a.output.now _ c.judge_unwrap.ensures c.in-WrapDone.is _ c.invert.ensures b _ c.unwrap_into.ensures.answer;
      written = unwrapped_by a.key.now _ x a.«data».now a.output.now _ c.judge_unwrap.ensures c.in-WrapDone.is _ c.invert.ensures b _ c.unwrap_into.ensures.answer _ c.unwrap_into.ensures.written;
    }

pub returns-in_default : goal.returns-in_default
returns-in_default c =
    let j = c.judge_unwrap in
    let a = c.args in record {
      answer = unwrap_refused a.key.now _ (expanded {x = schedule_of s_box a.key.now} c.expand.ensures) a.«data».now a.output.now _ j.ensures c.in_default.not-WrapDone;
      written = unwrap_kept j.result a.key.now a.«data».now a.output.now c.in_default.not-WrapDone;
    }
