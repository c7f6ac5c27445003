use Rattle.aesavs_monte.proofs.KeyBytes.{joined_left, joined_right}
use borrow.Author.Rules.{rules}
use Rattle.aesavs_monte.proofs.keys.joined_at.Goals as goal

pub returns-then-i-lt16 : goal.returns-then-i-lt16
returns-then-i-lt16 c = let a = c.args in
    joined_left a.before a.last (search rules) a.i c.if-i-lt16.true

pub returns : goal.returns
returns c = let a = c.args in
    joined_right a.before a.last (search rules) a.i c.if-i-lt16.false
