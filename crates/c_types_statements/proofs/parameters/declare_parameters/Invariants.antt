use Rattle.c_syntax.specs.Syntax.{Decls}
use Rattle.c_syntax.specs.Stands.{StandDecls}
use Rattle.c_types_expressions.specs.Found.{StaysAround}
use Rattle.c_types_statements.proofs.OfParameters.{ParametersRead}
use Rattle.c_types_statements.proofs.parameters.declare_parameters.Given as goal

abbrev pub invariant-loop-place : goal.invariant-loop-place
invariant-loop-place l = record {
  kept : StaysAround l.fn.env l.env;
  read : (ds : Decls) → StandDecls l.tree l.ids ds → ParametersRead l.tree l.ids l.types l.place ds l.fn.env l.env;
}
