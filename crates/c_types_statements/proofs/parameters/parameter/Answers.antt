use Rattle.std.proofs.Common.{Some, sym, ap, ◌∙◌}
use Rattle.c_types_table.specs.Tables.{type_at, types_of}
use Rattle.c_types_rules.specs.Environment.{LocalNamed, declarable}
use Rattle.c_types_environment.specs.Reading.{meaning_by}
use Rattle.c_types_environment.specs.declared.meaning.Meaning.TheVariants.{Local}
use Rattle.c_types_expressions.proofs.Kept.{declared_around}
use Rattle.c_types_expressions.proofs.Sequences.{passed}
use Rattle.c_types_statements.proofs.Declaring.{nameless, naming_is, offset_is, parameter_is, scope_made, unnamed_is}
use Rattle.c_types_statements.proofs.OfParameters.{IsEnv}
use Rattle.c_types_expressions.proofs.Constructs.{decl_inside}
use Rattle.c_types_statements.proofs.parameters.parameter.Goals as goal

pub decl-decl-requires : goal.decl-decl-requires
decl-decl-requires c = record { inside = decl_inside c.args.tree.now c.args.id c.requires.id }

pub returns-in_default-clause-agrees : goal.returns-in_default-clause-agrees
returns-in_default-clause-agrees c =
    let node = c.decl-decl.result.now in
    let at = c.decl-decl.ensures.node in
    λ d h. nameless c.args.env.now d node.from c.args.place (type_at c.args.env.now.table.types c.args.ty) (offset_is c.args.tree.now c.args.id node at d h) (sym (naming_is c.args.tree.now c.args.id node at d h) ∙ unnamed_is node.name c.in_default.not-Some)

pub returns-clause-agrees : goal.returns-clause-agrees
returns-clause-agrees c =
    let node = c.decl-decl.result.now in
    let at = c.decl-decl.ensures.node in
    let name = c.as_slice.result.now in
    let t = type_at c.args.env.now.table.types c.args.ty in
    λ d h. passed _ _ (IsEnv c.declare.new.self) _ _ c.declare.result
    (parameter_is c.args.env.now.env d node.from c.args.place name t (offset_is c.args.tree.now c.args.id node at d h) (sym (naming_is c.args.tree.now c.args.id node at d h) ∙ (c.in-Some.is ∙ ap Some (sym c.as_slice.ensures.bytes))))
    (scope_made c.args.env.now c.declare.new.self node.from c.args.place name t (Local c.in_ok-place.place c.args.ty) (ap (λ p. LocalNamed p t) c.in_ok-place.ensures) c.declare.result c.declare.ensures.agrees c.declare.ensures.err)

pub returns-clause-kept : goal.returns-clause-kept
returns-clause-kept c = declared_around c.args.env.now c.declare.new.self c.as_slice.result.now (meaning_by (types_of c.args.env.now.table.types) (Local c.in_ok-place.place c.args.ty)) (declarable c.args.env.now.env c.decl-decl.result.now.from c.as_slice.result.now) c.declare.result c.declare.ensures.agrees c.declare.ensures.err
