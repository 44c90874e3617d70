use Rattle.c_lexer_laws.proofs.Spelled.{reading_spells}
use Rattle.c_lexer_laws.proofs.laws.strings_are_spelled.Goals as goal

pub returns : goal.returns
returns c = λ source ts h. reading_spells h
