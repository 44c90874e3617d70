use Rattle.std.proofs.Common.{length}
use Rattle.std.specs.List.{All}
use Rattle.c_syntax.specs.Syntax.{Decls}
use Rattle.c_syntax.specs.Stands.{StandDecls}
use Rattle.c_types_table.specs.Tables.{IsBelow}
use Rattle.c_types_expressions.specs.Found.{StaysAround}
use Rattle.c_types_expressions.specs.Specified.{IsSpecified}
use Rattle.c_types_statements.specs.Typed.{declared_in}
use Rattle.c_types_statements.proofs.OfLocals.{LocalsRead}
use Rattle.c_types_statements.proofs.locals.declare_locals.Given as goal

abbrev pub invariant-loop-id : goal.invariant-loop-id
invariant-loop-id l = record {
  kept : StaysAround l.fn.env l.env;
  below : All (IsBelow (length l.env.table.types)) l.locals.items;
  known : IsSpecified l.env l.tree l.known;
  read : (ds : Decls) → StandDecls l.tree l.ids ds → LocalsRead l.tree l.ids l.id-index ds (declared_in l.fn.env l.fn.locals.items) l.fn.env l.env l.locals.items l.fn.statements.items l.statements.items;
}
