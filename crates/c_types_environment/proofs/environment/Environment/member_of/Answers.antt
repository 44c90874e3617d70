use Rattle.std.proofs.Common.{◌≡◌, ◌<◌, [], None, Option, Some, Ok, length, sym, ap, ◌∙◌, subst, IfSome}
use Rattle.c_types_table.specs.declared.ids.TypeId.{TypeId}
use Rattle.c_types_table.specs.Tables.{IsBelow, at, type_at, types_of}
use Rattle.c_types_rules.specs.Checked.{Checked, Fine, Broken}
use Rattle.c_types_rules.specs.Expressions.{member_in}
use Rattle.c_types_rules.specs.TypedTree.{AnObject, MemberOf}
use Rattle.c_types_nodes.specs.Tables.{object_at}
use Rattle.c_types_operators.specs.Answers.{StandsAt}
use Rattle.c_types_structs.specs.Members.{members_at, read_found}
use Rattle.c_types_environment.specs.States.{State}
use Rattle.c_types_environment.proofs.Found.{member_by, members_below, type_below}
use Rattle.c_types_environment.proofs.Reached.{broken, member_missing, member_there, passed}
use Rattle.c_types_environment.proofs.environment.Environment.member_of.Goals as goal

pub returns-in_default-clause-agrees : goal.returns-in_default-clause-agrees
returns-in_default-clause-agrees c =
    let now = c.args.self.now in
    let ts = types_of c.self.inside.table.types in
    let mss = c.self.inside.structs.members in
    let there : State → Type 0 = λ s. member_in s.env.structs c.args.number.0 c.args.name.now ≡ None in
    let none = ap (read_found (at ts)) (sym c.in_default.is) ∙ (c.member.ensures.found (at ts) ∙ member_by ts [] mss c.args.number.0 c.args.name.now) in
    broken (StandsAt now.table) _ c.args.from 13 (member_missing now.env c.args.from (object_at now.table c.args.object) c.args.number.0 c.args.name.now (subst there c.self.view_is (sym none)))

pub add-requires : goal.add-requires
add-requires c =
    let few = length c.self.inside.table.types in
    let mss = c.self.inside.structs.members in
    let number = c.args.number.0 in
    let there : State → Type 0 = λ s. c.in-Some.ty.0 < length s.table.types in
    let by : Option TypeId → Type 0 = λ o. IfSome o (IsBelow few) in
    let below : IfSome (Some c.in-Some.ty) (IsBelow few) = subst by c.in-Some.ensures.stands (type_below few (members_at mss number) c.in-Some.place (members_below few mss number c.self.invariant.0.members)) in
    record { parts = (c.requires.object, subst there c.self.view_is below) }

pub returns-clause-agrees : goal.returns-clause-agrees
returns-clause-agrees c =
    let now = c.args.self.now in
    let o = object_at now.table c.args.object in
    let t = type_at now.table.types c.in-Some.ty in
    let ts = types_of c.self.inside.table.types in
    let mss = c.self.inside.structs.members in
    let there : State → Type 0 = λ s. member_in s.env.structs c.args.number.0 c.args.name.now ≡ Some (c.in-Some.place, type_at s.table.types c.in-Some.ty) in
    let some = c.in-Some.ensures.found (at ts) ∙ member_by ts [] mss c.args.number.0 c.args.name.now in
    passed (StandsAt c.add.new.self.table) _ (Fine (AnObject (MemberOf o c.in-Some.place t))) (Ok c.in_ok-add.field-0) (member_there now.env c.args.from o c.args.number.0 c.args.name.now c.in-Some.place t (subst there c.self.view_is (sym some))) c.in_ok-add.ensures.added
