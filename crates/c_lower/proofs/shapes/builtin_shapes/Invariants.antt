use Rattle.std.proofs.Common.{◌≡◌, ◌++◌, drop}
use Rattle.c_builtins.specs.Table.{ctypes_of}
use Rattle.c_semantics.specs.Context.{shapes_of}
use Rattle.c_lower.proofs.shapes.builtin_shapes.Given as goal

abbrev pub invariant-loop-ty : goal.invariant-loop-ty
invariant-loop-ty l = l.shapes.items ++ shapes_of (ctypes_of (drop l.ty-index l.types)) ≡ shapes_of (ctypes_of l.types)
