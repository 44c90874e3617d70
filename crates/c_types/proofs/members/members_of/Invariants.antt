use Rattle.std.proofs.Common.{drop}
use Rattle.c_types_environment.specs.States.{notes_of}
use Rattle.c_syntax.specs.Syntax.{Decls}
use Rattle.c_syntax.specs.Stands.{StandDecls}
use Rattle.c_types_expressions.specs.Found.{Stays}
use Rattle.c_types_expressions.specs.Specified.{IsSpecified}
use Rattle.c_types.specs.Members.{AreBelow, members_in}
use Rattle.c_types.proofs.Gathered.{RestOfMembers}
use Rattle.c_types.proofs.members.members_of.Given as goal

abbrev pub invariant-loop-id : goal.invariant-loop-id
invariant-loop-id l = record {
  kept : Stays l.fn.env l.env;
  below : AreBelow l.env.table l.members;
  known : IsSpecified l.env l.tree l.known;
  rest : (ds : Decls) → StandDecls l.tree l.ids ds → RestOfMembers l.tree l.fn.env.env (notes_of l.fn.env) (notes_of l.env) (drop l.id-index l.ids) ds (members_in l.env.table l.members);
}
