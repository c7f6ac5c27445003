use mathlib.Core.Path.{◌≡◌}
use Rattle.aes_sbox.specs.Sbox.{s_box}
use Rattle.aes_schedule.specs.Schedule.{schedule_of}
use Rattle.image_spec.specs.KeyPair.{both_taken}
use Rattle.image_writer.proofs.Calls.{flag_taken, flag_refused, write_answered, write_fits, written_by, write_kept}
use Rattle.image_writer.proofs.write.Goals as goal
use Rattle.image_writer.proofs.write.Goals.{in-Taken, in_default}

pub returns-in_default-answer : goal.returns-in_default-answer
returns-in_default-answer c =
    let a = c.args in
    let taken : c.match-matches.matches ≡ both_taken (schedule_of s_box a.ekey.now) (schedule_of s_box a.ckey.now) =
    elim c.match-matches.branch [
      | in-Taken w ↦ flag_taken a.ekey.now a.ckey.now _ c.expand.ensures.answer _ w.in-Taken.is w.matches-is
      | in_default w ↦ flag_refused a.ekey.now a.ckey.now _ c.expand.ensures.answer _ w.in_default.not-Taken w.matches-is
    ] in
    record {
      answer = write_answered a.ekey.now a.ckey.now _ taken a.numbers a.payload.now a.output.now _ c.judge_write-answer.ensures;
      written = write_kept c.judge_write-answer.result a.ekey.now a.ckey.now a.numbers a.previous a.payload.now a.output.now c.in_default-answer.not-Written;
    }

pub seal_under-requires : goal.seal_under-requires
seal_under-requires c =
    let a = c.args in
    let taken : c.match-matches.matches ≡ both_taken (schedule_of s_box a.ekey.now) (schedule_of s_box a.ckey.now) =
    elim c.match-matches.branch [
      | in-Taken w ↦ flag_taken a.ekey.now a.ckey.now _ c.expand.ensures.answer _ w.in-Taken.is w.matches-is
      | in_default w ↦ flag_refused a.ekey.now a.ckey.now _ c.expand.ensures.answer _ w.in_default.not-Taken w.matches-is
    ] in
    write_fits a.ekey.now a.ckey.now _ taken a.numbers a.payload.now a.output.now _ c.judge_write-answer.ensures c.in-Written.is

pub returns-in-Written-clause-answer : goal.returns-in-Written-clause-answer
returns-in-Written-clause-answer c =
    let a = c.args in
    let taken : c.match-matches.matches ≡ both_taken (schedule_of s_box a.ekey.now) (schedule_of s_box a.ckey.now) =
    elim c.match-matches.branch [
      | in-Taken w ↦ flag_taken a.ekey.now a.ckey.now _ c.expand.ensures.answer _ w.in-Taken.is w.matches-is
      | in_default w ↦ flag_refused a.ekey.now a.ckey.now _ c.expand.ensures.answer _ w.in_default.not-Taken w.matches-is
    ] in
    write_answered a.ekey.now a.ckey.now _ taken a.numbers a.payload.now a.output.now _ c.judge_write-answer.ensures

pub returns-in-Written-clause-written : goal.returns-in-Written-clause-written
returns-in-Written-clause-written c =
    let a = c.args in
    let taken : c.match-matches.matches ≡ both_taken (schedule_of s_box a.ekey.now) (schedule_of s_box a.ckey.now) =
    elim c.match-matches.branch [
      | in-Taken w ↦ flag_taken a.ekey.now a.ckey.now _ c.expand.ensures.answer _ w.in-Taken.is w.matches-is
      | in_default w ↦ flag_refused a.ekey.now a.ckey.now _ c.expand.ensures.answer _ w.in_default.not-Taken w.matches-is
    ] in
    written_by a.ekey.now a.ckey.now _ taken a.numbers a.payload.now a.output.now _ c.judge_write-answer.ensures _ c.expand.ensures.keys a.previous _ c.in-Written.is c.seal_under.ensures
