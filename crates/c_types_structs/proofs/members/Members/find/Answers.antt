use Rattle.std.proofs.Common.{◌≡◌, Some, sym, ap, ◌∙◌}
use Rattle.c_types_rules.specs.Expressions.{member_from}
use Rattle.c_types_structs.specs.Members.{read_found, read_members, type_of_member}
use Rattle.c_types_structs.proofs.Entries.{member_none, member_some, type_stands}
use Rattle.c_types_structs.proofs.members.Members.find.Goals as goal

pub returns-in_err-place-clause-found : goal.returns-in_err-place-clause-found
returns-in_err-place-clause-found c = λ read.
    let name = c.args.name.now in
    ap (read_found read) c.from_residual.ensures
    ∙ (member_none read name c.self.inside.types.entries (sym c.in_err-place.ensures.index) ∙ ap (λ ms. member_from 0 name (read_members read ms)) c.self.view_is)

pub returns-clause-found : goal.returns-clause-found
returns-clause-found c = λ read.
    let name = c.args.name.now in
    member_some read name c.self.inside.types.entries c.in_ok-place.place c.in_ok-place.ty.now (sym c.in_ok-place.ensures.index) (sym c.in_ok-place.ensures.value)
    ∙ ap (λ ms. member_from 0 name (read_members read ms)) c.self.view_is

pub returns-clause-stands : goal.returns-clause-stands
returns-clause-stands c =
    sym (ap (λ ms. type_of_member ms c.in_ok-place.place) c.self.view_is)
    ∙ type_stands c.self.inside.types.entries c.in_ok-place.place (c.in_ok-place.field-0-1.now, c.in_ok-place.ty.now) c.in_ok-place.ensures.entry
