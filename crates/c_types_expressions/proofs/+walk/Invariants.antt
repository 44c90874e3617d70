use Rattle.std.proofs.Common.{◌+◌, ◌*◌, ◌<◌, length, [], ◌∷◌, map, drop}
use Rattle.c_types_environment.specs.States.{notes_of}
use Rattle.c_syntax.specs.Stands.{StandAnnots, StandItems, StandParts, StandDecls, StandExprs}
use Rattle.c_syntax.specs.Syntax.{Annots, Items, Parts, Decls, Exprs}
use Rattle.c_builtins.specs.Table.{params_of}
use Rattle.c_types_table.specs.Tables.{type_at}
use Rattle.c_types_operators.specs.Calls.{types_after}
use Rattle.c_syntax_laws.specs.Heights.{greatest}
use Rattle.c_syntax_laws.specs.declared.node.Node.TheVariants.{Expr as AnExpr, Decl as ADecl}
use Rattle.c_syntax_laws.specs.Named.{height_in, by_annots, by_items, by_item, by_atom, by_parts, by_kind}
use Rattle.c_types_expressions.specs.Found.{Stays, StaysAround}
use Rattle.c_types_expressions.proofs.Rests.{RestOfAnnots, RestOfItems, RestOfParts, RestOfParameters, RestOfArguments}
use Rattle.c_types_expressions.proofs.+walk.Given as goal

-- a call goes to lower nodes; calls at one height go from the greatest to the least

abbrev pub decreases-expressions::expression : goal.decreases-expressions::expression
decreases-expressions::expression l = 16 * height_in l.tree.now (AnExpr l.id)

abbrev pub decreases-expressions::operands : goal.decreases-expressions::operands
decreases-expressions::operands l = 16 * greatest (height_in l.tree.now) (AnExpr l.left ∷ AnExpr l.right ∷ []) + 1

abbrev pub decreases-calls::call : goal.decreases-calls::call
decreases-calls::call l = 16 * greatest (height_in l.tree.now) (AnExpr l.callee ∷ map AnExpr l.ids.now) + 3

abbrev pub decreases-calls::call_target : goal.decreases-calls::call_target
decreases-calls::call_target l = 16 * height_in l.tree.now (AnExpr l.id) + 1

abbrev pub decreases-calls::arguments : goal.decreases-calls::arguments
decreases-calls::arguments l = 16 * greatest (height_in l.tree.now) (map AnExpr l.ids.now) + 2

abbrev pub decreases-calls::argument : goal.decreases-calls::argument
decreases-calls::argument l = 16 * height_in l.tree.now (AnExpr l.id) + 1

abbrev pub decreases-declarators::declared_type : goal.decreases-declarators::declared_type
decreases-declarators::declared_type l = 16 * height_in l.tree.now (ADecl l.id)

abbrev pub decreases-declarators::declarator : goal.decreases-declarators::declarator
decreases-declarators::declarator l = 16 * greatest (height_in l.tree.now) (by_parts l.parts.now) + 6

abbrev pub decreases-declarators::part_type : goal.decreases-declarators::part_type
decreases-declarators::part_type l = 16 * greatest (height_in l.tree.now) (by_kind l.part.now.kind) + 5

abbrev pub decreases-declarators::array : goal.decreases-declarators::array
decreases-declarators::array l = 16 * height_in l.tree.now (AnExpr l.size) + 1

abbrev pub decreases-declarators::function : goal.decreases-declarators::function
decreases-declarators::function l = 16 * greatest (height_in l.tree.now) (map ADecl l.params.now) + 4

abbrev pub decreases-parameters::parameter_types : goal.decreases-parameters::parameter_types
decreases-parameters::parameter_types l = 16 * greatest (height_in l.tree.now) (map ADecl l.ids.now) + 3

abbrev pub decreases-parameters::types_here : goal.decreases-parameters::types_here
decreases-parameters::types_here l = 16 * greatest (height_in l.tree.now) (map ADecl l.ids.now) + 2

abbrev pub decreases-parameters::parameter_type : goal.decreases-parameters::parameter_type
decreases-parameters::parameter_type l = 16 * height_in l.tree.now (ADecl l.id)

abbrev pub decreases-annotations::annotation_types : goal.decreases-annotations::annotation_types
decreases-annotations::annotation_types l = 16 * greatest (height_in l.tree.now) (by_annots l.annots.now) + 4

abbrev pub decreases-annotations::item_types : goal.decreases-annotations::item_types
decreases-annotations::item_types l = 16 * greatest (height_in l.tree.now) (by_items l.items.now) + 3

abbrev pub decreases-annotations::item_type : goal.decreases-annotations::item_type
decreases-annotations::item_type l = 16 * greatest (height_in l.tree.now) (by_item l.item.now) + 2

abbrev pub decreases-annotations::atom_type : goal.decreases-annotations::atom_type
decreases-annotations::atom_type l = 16 * greatest (height_in l.tree.now) (by_atom l.atom.now) + 1

abbrev pub invariant-annotations::annotation_types-loop-annot : goal.invariant-annotations::annotation_types-loop-annot
invariant-annotations::annotation_types-loop-annot l = record {
  kept : Stays l.fn.env l.env;
  rest : (xs : Annots) → StandAnnots l.tree l.annots xs → RestOfAnnots l.tree l.fn.env.env (notes_of l.fn.env) (notes_of l.env) (drop l.annot-index l.annots) xs;
}

abbrev pub invariant-annotations::item_types-loop-item : goal.invariant-annotations::item_types-loop-item
invariant-annotations::item_types-loop-item l = record {
  kept : Stays l.fn.env l.env;
  rest : (xs : Items) → StandItems l.tree l.items xs → RestOfItems l.tree l.fn.env.env (notes_of l.fn.env) (notes_of l.env) (drop l.item-index l.items) xs;
}

abbrev pub invariant-declarators::declarator-loop-part : goal.invariant-declarators::declarator-loop-part
invariant-declarators::declarator-loop-part l = record {
  kept : Stays l.fn.env l.env;
  inside : l.made.0 < length l.env.table.types;
  rest : (ps : Parts) → StandParts l.tree l.parts ps → RestOfParts l.tree l.fn.env.env (notes_of l.fn.env) (notes_of l.env) (drop l.part-index l.parts) ps (type_at l.fn.env.table.types l.fn.ty) (type_at l.env.table.types l.made);
}

abbrev pub invariant-parameters::types_here-loop-place : goal.invariant-parameters::types_here-loop-place
invariant-parameters::types_here-loop-place l = record {
  kept : StaysAround l.fn.env l.env;
  rest : (ds : Decls) → StandDecls l.tree l.ids ds → RestOfParameters l.tree l.fn.env.env l.env.env (notes_of l.fn.env) (notes_of l.env) l.env.table l.types.items l.place (drop l.place l.ids) ds;
}

abbrev pub invariant-calls::arguments-loop-number : goal.invariant-calls::arguments-loop-number
invariant-calls::arguments-loop-number l =
    let ts = params_of (type_at l.fn.env.table.types l.function) in
    record {
      kept : Stays l.fn.env l.env;
      rest : (xs : Exprs) → StandExprs l.tree l.ids xs → RestOfArguments l.tree l.fn.env.env l.from (notes_of l.fn.env) (notes_of l.env) l.env.table l.values.items (drop l.number l.ids) xs ts (types_after l.number ts);
    }
