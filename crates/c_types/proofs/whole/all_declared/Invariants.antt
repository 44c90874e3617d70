use Rattle.std.proofs.Common.{drop}
use Rattle.c_syntax.specs.Syntax.{Decls}
use Rattle.c_syntax.specs.Stands.{Holds}
use Rattle.c_types.specs.Known.{IsKnown}
use Rattle.c_types.specs.States.{GoesOn}
use Rattle.c_types.proofs.Ended.{RestOfAll}
use Rattle.c_types.proofs.whole.all_declared.Given as goal

abbrev pub invariant-loop-id : goal.invariant-loop-id
invariant-loop-id l = record {
  goes : GoesOn l.fn.declared l.declared;
  known : IsKnown l.tree l.declared.env l.known;
  rest : (ds : Decls) → Holds l.tree ds → RestOfAll l.tree l.fn.declared l.declared (drop l.id-index l.id-items) ds;
}
