use Rattle.std.proofs.Common.{refl, subst}
use Rattle.c_types_expressions.specs.Specified.{IsSpecified}
use Rattle.c_types_expressions.proofs.Constructs.{decl_inside}
use Rattle.c_types_expressions.proofs.Kept.{same_table}
use Rattle.c_types_expressions.proofs.Specifying.{specified_alike, specified_found}
use Rattle.c_types_expressions.proofs.known.specified_type.Goals as goal

pub share_specifiers-requires : goal.share_specifiers-requires
share_specifiers-requires c =
    let N = c.args.tree.now in
    record { one = (subst (IsSpecified c.args.env.now N) c.in-Some.is c.requires.known).0; other = decl_inside N c.args.id c.requires.id }

pub returns-then-share_specifiers-clause-ty : goal.returns-then-share_specifiers-clause-ty
returns-then-share_specifiers-clause-ty c =
    let N = c.args.tree.now in
    specified_alike c.args.env.now N c.in-Some.known c.args.id (subst (IsSpecified c.args.env.now N) c.in-Some.is c.requires.known) (c.share_specifiers.ensures c.if-share_specifiers.true)

pub returns-then-share_specifiers-clause-kept : goal.returns-then-share_specifiers-clause-kept
returns-then-share_specifiers-clause-kept c = record { numbers = same_table c.args.env.now.table; env = refl; notes = refl }

pub decl-requires : goal.decl-requires
decl-requires c = record { inside = decl_inside c.args.tree.now c.args.id c.requires.id }

pub returns-clause-ty : goal.returns-clause-ty
returns-clause-ty c = specified_found c.args.env.now c.base_type.new.self c.args.tree.now c.args.id c.decl.result.now c.base_type.result c.decl.ensures.node c.base_type.ensures.kept.env c.base_type.ensures.names
