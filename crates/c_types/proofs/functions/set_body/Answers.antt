use Rattle.c_types.proofs.FunctionSteps.{body_set, no_body_set}
use Rattle.c_types.proofs.functions.set_body.Goals as goal

pub returns-then-place-functions-clause-given : goal.returns-then-place-functions-clause-given
returns-then-place-functions-clause-given c = λ t. body_set t c.args.functions.now c.args.place c.index-functions-place.result c.args.body c.if-place-functions.true

pub returns-else-place-functions-clause-given : goal.returns-else-place-functions-clause-given
returns-else-place-functions-clause-given c = λ t. no_body_set t c.args.functions.now c.args.place c.args.body c.if-place-functions.false
