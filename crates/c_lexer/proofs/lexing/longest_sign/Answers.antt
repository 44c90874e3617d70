use Rattle.c_lexer.proofs.Longest.{longest}
use Rattle.c_lexer.proofs.lexing.longest_sign.Goals as goal

pub returns : goal.returns
returns c bytes sign h = longest bytes sign h
