use Rattle.std.proofs.Common.{Ok, Err, refl, sym, ◌∙◌}
use Rattle.c_types_rules.specs.Checked.{Broken, Fine}
use Rattle.c_types_operators.specs.Answers.{Agrees}
use Rattle.c_types_operators.specs.declared.error.TypeError.TheVariants.{Rule}
use Rattle.c_types_table.specs.Tables.{at, type_at, types_of}
use Rattle.c_types.specs.Members.{members_in}
use Rattle.c_types.proofs.Gathered.{MemberIs, agrees_as, members_added, new_member, still_named, taken_member}
use Rattle.c_types.proofs.members.add.Goals as goal

pub returns-then-contains-clause-agrees : goal.returns-then-contains-clause-agrees
returns-then-contains-clause-agrees c = λ t.
    let ms = c.args.members.now in
    let broken : Agrees (MemberIs (members_in t ms) (members_in t ms)) (Broken c.args.from 1) (Err (Rule c.args.from 1)) = (refl, refl) in
    let taken = still_named (at (types_of t.types)) c.args.name.now ms ∙ (sym c.contains.ensures ∙ c.if-contains.true) in
    agrees_as (MemberIs (members_in t ms) (members_in t ms)) _ (Broken c.args.from 1) (Err (Rule c.args.from 1)) (taken_member c.args.from (members_in t ms) c.args.name.now (type_at t.types c.args.ty) (sym c.is_reserved.ensures ∙ c.if-is_reserved.false) taken) broken

pub returns-clause-agrees : goal.returns-clause-agrees
returns-clause-agrees c = λ t.
    let ms = c.args.members.now in
    let free = still_named (at (types_of t.types)) c.args.name.now ms ∙ (sym c.contains.ensures ∙ c.if-contains.false) in
    agrees_as (MemberIs (members_in t ms) (members_in t c.add.new.self)) _ (Fine (c.args.name.now, type_at t.types c.args.ty)) (Ok tt) (new_member c.args.from (members_in t ms) c.args.name.now (type_at t.types c.args.ty) (sym c.is_reserved.ensures ∙ c.if-is_reserved.false) free)
    (members_added t ms c.add.new.self c.args.name.now c.args.ty c.in_ok-add.ensures.added)
