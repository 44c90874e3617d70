use Rattle.std.proofs.Common.{◌≡◌, ◌++◌, drop, length}
use Rattle.c_lower.specs.Lowered.{codes_of, infos_from}
use Rattle.c_lower.proofs.lowering.code.Given as goal

abbrev pub invariant-loop-function : goal.invariant-loop-function
invariant-loop-function l = record {
  infos : l.sources.items ++ infos_from l.program (length l.instrs.items) (drop l.function-index l.program.functions) ≡ infos_from l.program 0 l.program.functions;
  instrs : l.instrs.items ++ codes_of l.program (drop l.function-index l.program.functions) ≡ codes_of l.program l.program.functions;
}
