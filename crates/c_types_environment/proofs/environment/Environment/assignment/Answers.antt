use Rattle.c_types_nodes.proofs.Lists.{are_nodes_kept}
use Rattle.c_types_rules.specs.Operators.{assignment}
use Rattle.c_types_nodes.specs.Tables.{node_at, value_at}
use Rattle.c_types_operators.specs.Answers.{IsAt}
use Rattle.c_types_environment.proofs.Agreed.{agreed_by_sizes}
use Rattle.c_types_environment.proofs.Capped.{assignment_capped}
use Rattle.c_types_environment.proofs.Kept.{sound_kept, table_grown}
use Rattle.c_types_environment.proofs.environment.Environment.assignment.Goals as goal

pub invariant_of-self : goal.invariant_of-self
invariant_of-self c = (sound_kept c.self.inside.table.types c.assignment.new.table.types c.self.inside.structs c.self.inside.scopes c.assignment.ensures.kept.types c.self.invariant.0, are_nodes_kept c.self.inside.table c.assignment.new.table c.assignment.ensures.kept c.self.inside.unevaluated.items c.self.invariant.1)

pub returns-clause-agrees : goal.returns-clause-agrees
returns-clause-agrees c =
    agreed_by_sizes (IsAt c.assignment.new.table) c.assignment.result c.self.inside.table c.self.inside.tags c.self.inside.structs c.self.inside.scopes c.self.inside.found_large c.self.inside.unevaluated.items c.args.self.now (λ es u. assignment es c.args.from c.args.sign (node_at u c.args.left) (value_at u c.args.value)) (λ es u. assignment_capped es c.args.from c.args.sign (node_at u c.args.left) (value_at u c.args.value)) c.extents.result.now c.extents.ensures c.self.view_is c.self.invariant.0 c.assignment.ensures.agrees

pub returns-clause-kept : goal.returns-clause-kept
returns-clause-kept c = table_grown c.self.inside.table c.assignment.new.table c.self.inside.tags c.self.inside.structs c.self.inside.scopes c.self.inside.found_large c.self.inside.unevaluated.items c.args.self.now c.self.view_is c.self.invariant.0 c.self.invariant.1 c.assignment.ensures.kept
