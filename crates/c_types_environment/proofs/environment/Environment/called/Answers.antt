use Rattle.c_types_nodes.proofs.Lists.{are_nodes_kept}
use Rattle.c_types_environment.proofs.Kept.{sound_kept, table_grown}
use Rattle.c_types_environment.proofs.environment.Environment.called.Goals as goal

pub invariant_of-self : goal.invariant_of-self
invariant_of-self c = (sound_kept c.self.inside.table.types c.called.new.table.types c.self.inside.structs c.self.inside.scopes c.called.ensures.kept.types c.self.invariant.0, are_nodes_kept c.self.inside.table c.called.new.table c.called.ensures.kept c.self.inside.unevaluated.items c.self.invariant.1)

pub returns-clause-kept : goal.returns-clause-kept
returns-clause-kept c = table_grown c.self.inside.table c.called.new.table c.self.inside.tags c.self.inside.structs c.self.inside.scopes c.self.inside.found_large c.self.inside.unevaluated.items c.args.self.now c.self.view_is c.self.invariant.0 c.self.invariant.1 c.called.ensures.kept
