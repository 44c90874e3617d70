use Rattle.std.proofs.Common.{take}
use Rattle.c_types_nodes.specs.Tables.{Keeps}
use Rattle.c_types_operators.specs.Calls.{AreNamed}
use Rattle.c_types_operators.proofs.prototypes.add_parameters.Given as goal

abbrev pub invariant-loop-ty : goal.invariant-loop-ty
invariant-loop-ty l = record {
  kept : Keeps l.fn.table l.table;
  named : AreNamed l.table.types l.params.items (take l.ty-index l.types);
}
