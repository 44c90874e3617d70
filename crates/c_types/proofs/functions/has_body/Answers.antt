use Rattle.std.proofs.Common.{sym, ◌∙◌}
use borrow.Author.Tests.{ltb-true, ltb-false}
use Rattle.c_types.proofs.FunctionSteps.{body_there, no_body_there}
use Rattle.c_types.proofs.functions.has_body.Goals as goal

pub returns-in-Some : goal.returns-in-Some
returns-in-Some c = λ t. c.is_some.ensures ∙ body_there t c.args.functions.now c.args.place c.in-Some.function.now _ (ltb-true _ _ (sym c.in-Some.ensures.lookup.0)) c.in-Some.ensures.lookup.1

pub returns-in-None : goal.returns-in-None
returns-in-None c = λ t. no_body_there t c.args.functions.now c.args.place (ltb-false _ _ (sym c.in-None.ensures.lookup.0))
