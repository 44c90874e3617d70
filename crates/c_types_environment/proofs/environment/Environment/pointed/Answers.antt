use Rattle.c_types_nodes.proofs.Lists.{are_nodes_kept}
use Rattle.c_types_rules.specs.Expressions.{pointed}
use Rattle.c_types_nodes.specs.Tables.{value_at}
use Rattle.c_types_operators.specs.Answers.{StandsAt}
use Rattle.c_types_environment.proofs.Agreed.{agreed_by_sizes}
use Rattle.c_types_environment.proofs.Capped.{pointed_capped}
use Rattle.c_types_environment.proofs.Kept.{sound_kept, table_grown}
use Rattle.c_types_environment.proofs.environment.Environment.pointed.Goals as goal

pub invariant_of-self : goal.invariant_of-self
invariant_of-self c = (sound_kept c.self.inside.table.types c.pointed.new.table.types c.self.inside.structs c.self.inside.scopes c.pointed.ensures.kept.types c.self.invariant.0, are_nodes_kept c.self.inside.table c.pointed.new.table c.pointed.ensures.kept c.self.inside.unevaluated.items c.self.invariant.1)

pub returns-clause-agrees : goal.returns-clause-agrees
returns-clause-agrees c =
    agreed_by_sizes (StandsAt c.pointed.new.table) c.pointed.result c.self.inside.table c.self.inside.tags c.self.inside.structs c.self.inside.scopes c.self.inside.found_large c.self.inside.unevaluated.items c.args.self.now (λ es u. pointed es c.args.from (value_at u c.args.value)) (λ es u. pointed_capped es c.args.from (value_at u c.args.value)) c.extents.result.now c.extents.ensures c.self.view_is c.self.invariant.0 c.pointed.ensures.agrees

pub returns-clause-kept : goal.returns-clause-kept
returns-clause-kept c = table_grown c.self.inside.table c.pointed.new.table c.self.inside.tags c.self.inside.structs c.self.inside.scopes c.self.inside.found_large c.self.inside.unevaluated.items c.args.self.now c.self.view_is c.self.invariant.0 c.self.invariant.1 c.pointed.ensures.kept
