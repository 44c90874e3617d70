use Rattle.std.proofs.Common.{◌+◌, ◌*◌, [], ◌∷◌, length}
use Rattle.std.specs.List.{All}
use Rattle.c_syntax.specs.Syntax.{Entries}
use Rattle.c_syntax.specs.Stands.{StandEntries}
use Rattle.c_types_table.specs.Tables.{IsBelow}
use Rattle.c_syntax_laws.specs.Heights.{greatest}
use Rattle.c_syntax_laws.specs.declared.node.Node.TheVariants.{Stmt as AStmt}
use Rattle.c_syntax_laws.specs.Named.{height_in, by_entries}
use Rattle.c_types_expressions.specs.Found.{StaysAround}
use Rattle.c_types_statements.specs.Typed.{declared_in, place_in}
use Rattle.c_types_statements.proofs.Entries.{EntriesRead}
use Rattle.c_types_statements.proofs.+walk.Given as goal

-- a call goes to lower statements; calls at one height go from the greatest to the least

abbrev pub decreases-statements::statement : goal.decreases-statements::statement
decreases-statements::statement l = 4 * height_in l.tree.now (AStmt l.id)

abbrev pub decreases-statements::block : goal.decreases-statements::block
decreases-statements::block l = 4 * greatest (height_in l.tree.now) (by_entries l.items.now) + 3

abbrev pub decreases-statements::entries : goal.decreases-statements::entries
decreases-statements::entries l = 4 * greatest (height_in l.tree.now) (by_entries l.items.now) + 2

abbrev pub decreases-statements::entry : goal.decreases-statements::entry
decreases-statements::entry l = 4 * greatest (height_in l.tree.now) (by_entries (l.item.now ∷ [])) + 1

abbrev pub decreases-choices::choice : goal.decreases-choices::choice
decreases-choices::choice l = 4 * height_in l.tree.now (AStmt l.then) + 1

abbrev pub decreases-choices::choice_of_two : goal.decreases-choices::choice_of_two
decreases-choices::choice_of_two l = 4 * greatest (height_in l.tree.now) (AStmt l.then ∷ AStmt l.otherwise ∷ []) + 1

abbrev pub decreases-loops::while_loop : goal.decreases-loops::while_loop
decreases-loops::while_loop l = 4 * height_in l.tree.now (AStmt l.body) + 1

abbrev pub decreases-loops::do_loop : goal.decreases-loops::do_loop
decreases-loops::do_loop l = 4 * height_in l.tree.now (AStmt l.body) + 1

abbrev pub decreases-loops::for_loop : goal.decreases-loops::for_loop
decreases-loops::for_loop l = 4 * height_in l.tree.now (AStmt l.body) + 2

abbrev pub decreases-loops::for_here : goal.decreases-loops::for_here
decreases-loops::for_here l = 4 * height_in l.tree.now (AStmt l.body) + 1

abbrev pub invariant-statements::entries-loop-item : goal.invariant-statements::entries-loop-item
invariant-statements::entries-loop-item l = record {
  kept : StaysAround l.fn.env l.env;
  below : All (IsBelow (length l.env.table.types)) l.locals.items;
  read : (es : Entries) → StandEntries l.tree l.items es → EntriesRead l.tree l.items l.item-index es (place_in l.fn.env l.place) (declared_in l.fn.env l.fn.locals.items) l.fn.env l.env l.locals.items l.statements.items;
}
