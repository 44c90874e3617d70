use Rattle.std.proofs.Common.{◌≡◌, List, map, sym, ap, ◌∙◌, subst}
use Rattle.std.specs.Prelude.{slice_index_or}
use Rattle.std.specs.Option.{option_map}
use Rattle.c_types_model.specs.Layouts.{capped_extent, extent_of, scalar}
use Rattle.c_types_model.specs.declared.extent.Extent.{Extent}
use Rattle.c_types_table.specs.declared.ty.Ty.{Ty}
use Rattle.c_types_table.specs.Tables.{type_at, types_of}
use Rattle.c_types_rules.specs.Environment.{extents}
use Rattle.c_types_rules.specs.Sources.{extents_of}
use Rattle.c_types_environment.specs.Reading.{members_by}
use Rattle.c_types_environment.specs.States.{State, state_by}
use Rattle.c_types_environment.proofs.Defined.{member_sized, no_member_sized}
use Rattle.c_types_environment.proofs.environment.Environment.member_extent.Goals as goal

pub returns-in_default : goal.returns-in_default
returns-in_default c = no_member_sized (extents c.args.self.now.env) (types_of c.args.self.now.table.types) c.args.members.now c.args.place (sym c.in_default.is ∙ c.type_at.ensures)

pub returns : goal.returns
returns c =
    let inside : State = state_by c.self.inside.table c.self.inside.tags c.self.inside.structs c.self.inside.scopes c.self.inside.found_large c.self.inside.unevaluated.items in
    let ms = c.args.members.now in
    let there : State → Type 0 = λ s. c.unwrap_or.result ≡ capped_extent (slice_index_or (extents_of (extents s.env) (members_by (types_of s.table.types) ms)) c.args.place (scalar 1)) in
    let sized =
    c.extent-extent.ensures
    ∙ (ap (λ es. option_map capped_extent (extent_of es (type_at c.types.result.now c.in-Some.ty))) (c.extents.ensures ∙ c.self.invariant.0.extents)
    ∙ ap (λ types. option_map capped_extent (extent_of (map capped_extent (extents inside.env)) (type_at types c.in-Some.ty))) c.types.ensures) in
    subst there c.self.view_is
    (c.unwrap_or.ensures ∙ member_sized (extents inside.env) (types_of inside.table.types) ms c.args.place c.in-Some.ty c.extent-extent.result (sym c.in-Some.is ∙ c.type_at.ensures) sized)
