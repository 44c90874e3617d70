use Rattle.c_lexer.proofs.Readings.{one}
use Rattle.c_lexer.proofs.Total.{readable}
use Rattle.c_lexer.proofs.lexing.one_reading.Goals as goal

pub returns-clause-at_least : goal.returns-clause-at_least
returns-clause-at_least c source = readable source

pub returns-clause-at_most : goal.returns-clause-at_most
returns-clause-at_most c fresh at bs ts us d e x y = one x y
