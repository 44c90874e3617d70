use Rattle.std.proofs.Common.{◌≡◌, [], length, IfSome, Option, sym, ap, ◌∙◌, subst}
use Rattle.std.specs.Prelude.{slice_get}
use Rattle.std.specs.Option.{option_map}
use Rattle.c_types_table.specs.declared.ids.TypeId.{TypeId}
use Rattle.c_types_table.specs.Tables.{IsBelow, at, type_at, types_of}
use Rattle.c_types_rules.specs.Initials.{types_in}
use Rattle.c_types_structs.specs.Members.{members_at}
use Rattle.c_types_environment.specs.States.{State}
use Rattle.c_types_environment.proofs.Found.{members_below, type_below, type_by}
use Rattle.c_types_environment.proofs.environment.Environment.member_type.Goals as goal

pub returns-clause-ty : goal.returns-clause-ty
returns-clause-ty c =
    let ts = types_of c.self.inside.table.types in
    let there : State → Type 0 = λ s. option_map (type_at s.table.types) c.member_type.result ≡ slice_get (types_in s.env.structs c.args.number.0) c.args.place in
    subst there c.self.view_is (ap (option_map (at ts)) c.member_type.ensures ∙ type_by ts [] c.self.inside.structs.members c.args.number.0 c.args.place)

pub returns-clause-inside : goal.returns-clause-inside
returns-clause-inside c =
    let few = length c.self.inside.table.types in
    let mss = c.self.inside.structs.members in
    let number = c.args.number.0 in
    let there : State → Type 0 = λ s. IfSome c.member_type.result (IsBelow (length s.table.types)) in
    let by : Option TypeId → Type 0 = λ o. IfSome o (IsBelow few) in
    subst there c.self.view_is
    (subst by (sym c.member_type.ensures) (type_below few (members_at mss number) c.args.place (members_below few mss number c.self.invariant.0.members)))
