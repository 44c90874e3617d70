use Rattle.std.proofs.Common.{sym, subst}
use Rattle.c_syntax.specs.Stands.{StandAnnots}
use Rattle.c_types_expressions.specs.Walks.{AreAnnots}
use Rattle.c_types_expressions.proofs.Kept.{stay}
use Rattle.c_types.specs.Known.{IsKnown}
use Rattle.c_types.proofs.Knowing.{read_alike, read_found, read_then}
use Rattle.c_types.proofs.Parts.{annots_of, decl_inside}
use Rattle.c_types.proofs.declarations.annotations.Goals as goal

pub share_specifiers-requires : goal.share_specifiers-requires
share_specifiers-requires c =
    let N = c.args.tree.now in
    record { one = (subst (IsKnown N c.args.env.now) c.in-Some.is c.requires.known).0.0; other = decl_inside N c.args.id c.requires.id }

pub returns-then-share_specifiers-clause-agrees : goal.returns-then-share_specifiers-clause-agrees
returns-then-share_specifiers-clause-agrees c =
    let N = c.args.tree.now in
    read_alike N c.args.env.now c.in-Some.known.decl c.args.id (c.share_specifiers.ensures c.if-share_specifiers.true) (subst (IsKnown N c.args.env.now) c.in-Some.is c.requires.known).1

pub returns-then-share_specifiers-clause-read : goal.returns-then-share_specifiers-clause-read
returns-then-share_specifiers-clause-read c =
    let N = c.args.tree.now in
    read_alike N c.args.env.now c.in-Some.known.decl c.args.id (c.share_specifiers.ensures c.if-share_specifiers.true) (subst (IsKnown N c.args.env.now) c.in-Some.is c.requires.known).1

pub returns-then-share_specifiers-clause-kept : goal.returns-then-share_specifiers-clause-kept
returns-then-share_specifiers-clause-kept c = stay c.args.env.now

pub decl-requires : goal.decl-requires
decl-requires c = record { inside = decl_inside c.args.tree.now c.args.id c.requires.id }

pub annotation_types-requires : goal.annotation_types-requires
annotation_types-requires c = subst (AreAnnots c.args.tree.now) (sym c.as_slice.ensures.items) (annots_of c.args.tree.now c.args.id c.decl.result.now c.requires.id c.decl.ensures.node)

pub returns-clause-agrees : goal.returns-clause-agrees
returns-clause-agrees c =
    let N = c.args.tree.now in
    read_found N c.args.id c.decl.result.now c.args.env.now c.annotation_types.new.env c.annotation_types.result c.decl.ensures.node
    (λ xs s. c.annotation_types.ensures.agrees xs (subst (λ v. StandAnnots N v xs) (sym c.as_slice.ensures.items) s))

pub returns-clause-read : goal.returns-clause-read
returns-clause-read c =
    let N = c.args.tree.now in
    read_then N c.args.id c.args.env.now c.annotation_types.new.env c.annotation_types.result c.annotation_types.ensures.kept.env
    (read_found N c.args.id c.decl.result.now c.args.env.now c.annotation_types.new.env c.annotation_types.result c.decl.ensures.node
    (λ xs s. c.annotation_types.ensures.agrees xs (subst (λ v. StandAnnots N v xs) (sym c.as_slice.ensures.items) s)))
