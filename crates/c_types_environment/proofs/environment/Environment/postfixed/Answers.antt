use Rattle.c_types_nodes.proofs.Lists.{are_nodes_kept}
use Rattle.c_types_rules.specs.Expressions.{postfixed}
use Rattle.c_types_nodes.specs.Tables.{node_at}
use Rattle.c_types_operators.specs.Answers.{StandsAt}
use Rattle.c_types_environment.proofs.Agreed.{agreed_by_sizes}
use Rattle.c_types_environment.proofs.Capped.{postfixed_capped}
use Rattle.c_types_environment.proofs.Kept.{sound_kept, table_grown}
use Rattle.c_types_environment.proofs.environment.Environment.postfixed.Goals as goal

pub invariant_of-self : goal.invariant_of-self
invariant_of-self c = (sound_kept c.self.inside.table.types c.postfixed.new.table.types c.self.inside.structs c.self.inside.scopes c.postfixed.ensures.kept.types c.self.invariant.0, are_nodes_kept c.self.inside.table c.postfixed.new.table c.postfixed.ensures.kept c.self.inside.unevaluated.items c.self.invariant.1)

pub returns-clause-agrees : goal.returns-clause-agrees
returns-clause-agrees c =
    agreed_by_sizes (StandsAt c.postfixed.new.table) c.postfixed.result c.self.inside.table c.self.inside.tags c.self.inside.structs c.self.inside.scopes c.self.inside.found_large c.self.inside.unevaluated.items c.args.self.now (λ es u. postfixed es c.args.from c.args.sign (node_at u c.args.operand)) (λ es u. postfixed_capped es c.args.from c.args.sign (node_at u c.args.operand)) c.extents.result.now c.extents.ensures c.self.view_is c.self.invariant.0 c.postfixed.ensures.agrees

pub returns-clause-kept : goal.returns-clause-kept
returns-clause-kept c = table_grown c.self.inside.table c.postfixed.new.table c.self.inside.tags c.self.inside.structs c.self.inside.scopes c.self.inside.found_large c.self.inside.unevaluated.items c.args.self.now c.self.view_is c.self.invariant.0 c.self.invariant.1 c.postfixed.ensures.kept
