use Rattle.std.proofs.Common.{◌≡◌, List, sym, ap, ◌∙◌, subst}
use Rattle.c_types_model.specs.declared.extent.Extent.{Extent}
use Rattle.c_types_table.specs.Tables.{type_at}
use Rattle.c_types_rules.specs.Environment.{extents}
use Rattle.c_types_operators.specs.Answers.{IsSizeOf}
use Rattle.c_types_environment.specs.States.{State, state_by}
use Rattle.c_types_environment.proofs.Capped.{sized}
use Rattle.c_types_environment.proofs.environment.Environment.size_of.Goals as goal

pub returns : goal.returns
returns c =
    let inside : State = state_by c.self.inside.table c.self.inside.tags c.self.inside.structs c.self.inside.scopes c.self.inside.found_large c.self.inside.unevaluated.items in
    let ty = type_at c.self.inside.table.types c.args.ty in
    let there : State → Type 0 = λ s. IsSizeOf (extents s.env) (type_at s.table.types c.args.ty) c.size_of.result in
    let by : List Extent → Type 0 = λ es. IsSizeOf es ty c.size_of.result in
    subst there c.self.view_is (sized (extents inside.env) ty c.size_of.result (subst by (c.extents.ensures ∙ c.self.invariant.0.extents) c.size_of.ensures))
