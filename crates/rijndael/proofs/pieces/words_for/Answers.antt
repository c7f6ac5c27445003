use Rattle.rijndael.proofs.pieces.words_for.Goals as goal

pub returns-in-Back : goal.returns-in-Back
returns-in-Back c = rw c.in-Back.is c.invert.ensures

pub returns-in_default : goal.returns-in_default
returns-in_default c = rw c.in_default.is
