use Rattle.c_types_expressions.proofs.Constructs.{decl_inside}
use Rattle.c_types_expressions.proofs.Kept.{declared_around}
use Rattle.c_types_expressions.proofs.parameters.declare.Goals as goal

pub decl-decl-requires : goal.decl-decl-requires
decl-decl-requires c = record { inside = decl_inside c.args.tree.now c.args.id c.requires.id }

pub returns-clause-kept : goal.returns-clause-kept
returns-clause-kept c = declared_around _ _ _ _ _ _ c.declare.ensures.agrees c.declare.ensures.err
