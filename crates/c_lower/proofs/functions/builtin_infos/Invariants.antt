use Rattle.std.proofs.Common.{◌≡◌, ◌++◌, map, drop}
use Rattle.c_builtins.specs.declared.lookup.TheConstants.{BUILTINS}
use Rattle.c_types_program.specs.Declarations.{Declared}
use Rattle.c_lower.specs.Lowered.{builtin_info}
use Rattle.c_lower.proofs.functions.builtin_infos.Given as goal

abbrev pub invariant-loop-builtin : goal.invariant-loop-builtin
invariant-loop-builtin l = (p : Declared) → l.infos.items ++ map (builtin_info p) (drop l.builtin-index BUILTINS) ≡ map (builtin_info p) BUILTINS
