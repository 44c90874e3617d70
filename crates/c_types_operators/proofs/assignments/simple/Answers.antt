use Rattle.c_types_nodes.proofs.Growing.{through}
use Rattle.c_types_operators.proofs.assignments.simple.Goals as goal

pub returns-clause-kept : goal.returns-clause-kept
returns-clause-kept c = through c.args.table.now c.assigned.new.table c.add.new.self c.assigned.ensures.kept c.add.ensures.kept
