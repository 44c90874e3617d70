use Rattle.c_types_program.proofs.Kept.{statement_kept, is_statement_kept}
use Rattle.c_types_program.proofs.laws.statements_keep_their_meaning.Goals as goal

pub returns-clause-meaning : goal.returns-clause-meaning
returns-clause-meaning c t u s k h = statement_kept t u k s h

pub returns-clause-inside : goal.returns-clause-inside
returns-clause-inside c t u s k h = is_statement_kept t u k s h
