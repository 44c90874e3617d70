use Rattle.c_code.proofs.Typed.{wants, answers}
use Rattle.c_code.proofs.laws.typed_code_forgets.Goals as goal

pub returns-clause-wants : goal.returns-clause-wants
returns-clause-wants c = wants

pub returns-clause-answers : goal.returns-clause-answers
returns-clause-answers c = answers
