use Rattle.c_types_table.proofs.TypeLists.{got}
use Rattle.c_types_table.proofs.table.Types.get.Goals as goal

pub returns-clause-meaning : goal.returns-clause-meaning
returns-clause-meaning c = (got c.self.inside.nodes.keys c.args.self.now c.args.id c.index.result.now c.self.view_is c.self.invariant.0 c.index.ensures).0

pub returns-clause-parts : goal.returns-clause-parts
returns-clause-parts c = (got c.self.inside.nodes.keys c.args.self.now c.args.id c.index.result.now c.self.view_is c.self.invariant.0 c.index.ensures).1
