use Rattle.c_types_table.specs.Tables.{type_at}
use Rattle.c_types_rules.specs.Expressions.{complete}
use Rattle.c_types_operators.specs.Answers.{IsNothing}
use Rattle.c_types_environment.proofs.Agreed.{agreed_by_sizes}
use Rattle.c_types_environment.proofs.Capped.{whole_capped}
use Rattle.c_types_environment.proofs.environment.Environment.complete.Goals as goal

pub returns-clause-agrees : goal.returns-clause-agrees
returns-clause-agrees c =
    agreed_by_sizes IsNothing c.complete.result c.self.inside.table c.self.inside.tags c.self.inside.structs c.self.inside.scopes c.self.inside.found_large c.self.inside.unevaluated.items c.args.self.now (λ es u. complete es c.args.from (type_at u.types c.args.ty)) (λ es u. whole_capped es c.args.from (type_at u.types c.args.ty)) c.extents.result.now c.extents.ensures c.self.view_is c.self.invariant.0 c.complete.ensures.agrees
