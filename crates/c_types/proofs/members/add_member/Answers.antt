use Rattle.std.proofs.Common.{◌≡◌, Err, ap, ◌∙◌, subst}
use Rattle.c_types_environment.specs.States.{notes_of}
use Rattle.std.proofs.lemmas.Result.{err_from_is_err_and}
use Rattle.c_types_table.specs.Tables.{type_at}
use Rattle.c_types_operators.specs.Answers.{Agrees}
use Rattle.c_types.specs.Members.{members_in}
use Rattle.c_types.specs.Pieces.{named_member}
use Rattle.c_types.proofs.Gathered.{MemberIs, member_incomplete, member_named, members_in_kept}
use Rattle.c_types.proofs.Parts.{decl_inside}
use Rattle.c_types.proofs.Stepping.{found_failed}
use Rattle.c_types.proofs.members.add_member.Goals as goal

pub decl-decl-requires : goal.decl-decl-requires
decl-decl-requires c = record { inside = decl_inside c.args.tree.now c.args.id c.requires.id }

pub returns-in_err-complete-clause-agrees : goal.returns-in_err-complete-clause-agrees
returns-in_err-complete-clause-agrees c =
    let q = err_from_is_err_and c.from_residual-in_err-complete.result c.from_residual-in_err-complete.ensures.1 in
    let a = c.args.env.now in
    let b = c.declared_type_after.new.env in
    let ms = c.args.members.now in
    let is = MemberIs (members_in a.table ms) (members_in b.table ms) in
    λ y z. found_failed (notes_of a) (notes_of b) is _ c.from_residual-in_err-complete.result c.in_err-complete.field-0.0 (q.1 ∙ ap Err q.2)
    (member_incomplete c.args.tree.now c.args.id c.decl-decl.result.now c.decl-decl.ensures.node a b (members_in a.table ms) c.in_ok-ty.ty c.in_ok-ty.ensures.agrees c.in_ok-ty.ensures.kept is c.in_err-complete.field-0.0 c.in_err-complete.ensures.agrees y z)

pub returns-clause-agrees : goal.returns-clause-agrees
returns-clause-agrees c =
    let a = c.args.env.now in
    let b = c.declared_type_after.new.env in
    let e = c.decl-decl.result.now in
    let ms = c.args.members.now in
    let now = members_in b.table c.add.new.members in
    let t = type_at b.table.types c.in_ok-ty.ty in
    let same : members_in b.table ms ≡ members_in a.table ms = members_in_kept a.table b.table ms c.in_ok-ty.ensures.kept.numbers c.requires.below in
    member_named c.args.tree.now c.args.id e c.decl-decl.ensures.node a b (members_in a.table ms) c.in_ok-ty.ty c.in_ok-ty.ensures.agrees c.in_ok-ty.ensures.kept (MemberIs (members_in a.table ms) now) c.add.result c.in_ok-complete.ensures.agrees
    (λ name n. subst (λ before. Agrees (MemberIs before now) (named_member e.from before name t) c.add.result) same
    (subst (λ v. Agrees (MemberIs (members_in b.table ms) now) (named_member e.from (members_in b.table ms) v t) c.add.result) (c.name_of.ensures ∙ n) (c.add.ensures.agrees b.table)))
