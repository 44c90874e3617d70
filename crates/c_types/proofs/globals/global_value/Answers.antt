use Rattle.c_types.proofs.Parts.{value_of_rest}
use Rattle.c_types.proofs.globals.global_value.Goals as goal

pub initial-requires-clause-value : goal.initial-requires-clause-value
initial-requires-clause-value c = value_of_rest c.args.tree.now c.args.rest.now c.in-Value.value c.requires.rest c.in-Value.is
