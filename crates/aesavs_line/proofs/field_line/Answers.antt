use Rattle.std.proofs.Common.{Some, None}
use Rattle.aesavs_line.proofs.Laws.{field_found}
use Rattle.aesavs_line.proofs.field_line.Goals as goal

pub returns-in-Some : goal.returns-in-Some
returns-in-Some c = field_found c.args.line.now (Some c.in-Some.field) c.in-Some.ensures

pub returns-in-None : goal.returns-in-None
returns-in-None c = field_found c.args.line.now None c.in-None.ensures
