use Rattle.octets.specs.Octets.{Bytes}
use Rattle.aes_sbox.specs.Sbox.{s_box}
use Rattle.aes_schedule.specs.Schedule.{schedule_of}
use Rattle.aes_schedule.proofs.Laws.{expanded}
use Rattle.ccm.proofs.Calls.{open_refused, open_kept, open_fits, open_answered, opened_by}
use native.Mathlib.Omega.{arith}
use Rattle.ccm.proofs.open.Goals as goal

pub open_into-requires : goal.open_into-requires
open_into-requires c =
    let a = c.args in
    let b : Bytes a.nonce.now = λ k. omega (arith, c.type_inv.nonce k) in
    open_fits a.key.now _ (expanded {x = schedule_of s_box a.key.now} c.expand-taken.ensures) a.nonce.now a.ad.now b a.sealed.now a.output.now _ c.judge_open.ensures c.in-CcmDone.is

pub returns-in-CcmDone : goal.returns-in-CcmDone
returns-in-CcmDone c =
    let a = c.args in
    let b : Bytes a.nonce.now = λ k. omega (arith, c.type_inv.nonce k) in
    let x = expanded {x = schedule_of s_box a.key.now} c.expand-taken.ensures in record {
      answer = open_answered a.key.now _ x a.nonce.now a.ad.now b a.sealed.now a.output.now _ c.judge_open.ensures c.in-CcmDone.is _ c.open_into.ensures.answer;
      written = opened_by a.key.now _ x a.nonce.now a.ad.now b a.sealed.now a.output.now _ c.judge_open.ensures c.in-CcmDone.is _ c.open_into.ensures.answer _ c.open_into.ensures.written;
    }

pub returns-in_default : goal.returns-in_default
returns-in_default c =
    let j = c.judge_open in
    let a = c.args in
    let b : Bytes a.nonce.now = λ k. omega (arith, c.type_inv.nonce k) in record {
      answer = open_refused a.key.now _ (expanded {x = schedule_of s_box a.key.now} c.expand-taken.ensures) a.nonce.now a.ad.now b a.sealed.now a.output.now _ j.ensures c.in_default.not-CcmDone;
      written = open_kept j.result a.key.now a.nonce.now a.ad.now a.sealed.now a.output.now c.in_default.not-CcmDone;
    }
