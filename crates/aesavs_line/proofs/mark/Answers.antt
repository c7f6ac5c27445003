use Rattle.std.proofs.Common.{◌≡◌, rules, arith}
use Rattle.std.proofs.lemmas.Slice.Eq.{text_from_reads}
use Rattle.aesavs_line.specs.Lines.{mark_line, encrypt_mark, decrypt_mark}
use Rattle.aesavs_line.proofs.mark.Goals as goal

pub returns-in-91 : goal.returns-in-91
unfolding mark_line
returns-in-91 c =
    let e : c.args.line.now ≡ encrypt_mark = text_from_reads c.args.line.now encrypt_mark (omega arith) (search rules) in
    rw e

pub returns-in-91-2 : goal.returns-in-91-2
unfolding mark_line
returns-in-91-2 c =
    let e : c.args.line.now ≡ decrypt_mark = text_from_reads c.args.line.now decrypt_mark (omega arith) (search rules) in
    rw e
