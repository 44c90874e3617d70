use Rattle.std.proofs.Common.{◌≡◌, length, sym, ap, ◌∙◌, subst}
use Rattle.std.specs.List.{All}
use Rattle.c_types_model.specs.Layouts.{capped_extent}
use Rattle.c_types_table.specs.Tables.{types_of}
use Rattle.c_types_rules.specs.Environment.{extents}
use Rattle.c_types_environment.specs.Reading.{IsMemberBelow, members_by, struct_with}
use Rattle.c_types_environment.specs.States.{State}
use Rattle.c_types_environment.proofs.Defined.{defined_sound, defined_state}
use Rattle.c_types_environment.proofs.environment.Environment.define_struct.Goals as goal

pub invariant_of-self-2 : goal.invariant_of-self-2
invariant_of-self-2 c =
    let ms = c.args.members in
    let below : State → Type 0 = λ s. All (IsMemberBelow (length s.table.types)) ms in
    let sized : State → Type 0 = λ s. c.in_ok-extent.extent ≡ capped_extent (struct_with (extents s.env) (members_by (types_of s.table.types) ms)).extent in
    (defined_sound c.self.inside.table.types c.self.inside.structs c.define.new.self c.self.inside.scopes ms c.in_ok-extent.extent c.self.invariant.0 (subst below (sym c.self.view_is) c.requires.types) (subst sized (sym c.self.view_is) c.in_ok-extent.ensures) c.in_ok-define.ensures.members c.in_ok-define.ensures.extents, c.self.invariant.1)

pub returns-clause-defined : goal.returns-clause-defined
returns-clause-defined c =
    defined_state c.self.inside.table c.self.inside.tags c.self.inside.structs c.define.new.self c.self.inside.scopes c.self.inside.found_large c.self.inside.unevaluated.items c.args.self.now c.args.members c.self.view_is c.in_ok-define.ensures.members
