use Rattle.octets.specs.Octets.{Bytes}
use Rattle.aes_sbox.specs.Sbox.{s_box}
use Rattle.aes_schedule.specs.Schedule.{schedule_of}
use Rattle.aes_schedule.proofs.Laws.{expanded}
use Rattle.ccm.proofs.Calls.{seal_answered, seal_kept, seal_fits, sealed_by}
use native.Mathlib.Omega.{arith}
use Rattle.ccm.proofs.seal.Goals as goal

pub seal_into-requires : goal.seal_into-requires
seal_into-requires c =
    let a = c.args in
    let b : Bytes a.nonce.now = λ k. omega (arith, c.type_inv.nonce k) in
    seal_fits a.key.now _ (expanded {x = schedule_of s_box a.key.now} c.expand-taken.ensures) a.nonce.now a.ad.now b a.message.now a.output.now _ c.judge_seal-answer.ensures c.in-CcmDone.is

pub returns-in-CcmDone : goal.returns-in-CcmDone
returns-in-CcmDone c =
    let a = c.args in
    let b : Bytes a.nonce.now = λ k. omega (arith, c.type_inv.nonce k) in
    let x = expanded {x = schedule_of s_box a.key.now} c.expand-taken.ensures in record {
      answer = seal_answered a.key.now _ x a.nonce.now a.ad.now b a.message.now a.output.now _ c.judge_seal-answer.ensures;
      written = sealed_by a.key.now _ x a.nonce.now a.ad.now b a.message.now a.output.now _ c.judge_seal-answer.ensures c.in-CcmDone.is _ c.seal_into.ensures;
    }

pub returns-in_default : goal.returns-in_default
returns-in_default c =
    let j = c.judge_seal-answer in
    let a = c.args in
    let b : Bytes a.nonce.now = λ k. omega (arith, c.type_inv.nonce k) in record {
      answer = seal_answered a.key.now _ (expanded {x = schedule_of s_box a.key.now} c.expand-taken.ensures) a.nonce.now a.ad.now b a.message.now a.output.now _ j.ensures;
      written = seal_kept j.result a.key.now a.nonce.now a.ad.now a.message.now a.output.now c.in_default.not-CcmDone;
    }
