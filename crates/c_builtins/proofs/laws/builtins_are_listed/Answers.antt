use Rattle.std.proofs.Common.{refl}
use Rattle.c_builtins.specs.declared.builtin.Builtin.{Builtin}
use Rattle.c_builtins.specs.declared.builtin.Builtin.TheVariants.{Malloc, Free, Spawn, Join, Lock, Unlock, Print}
use Rattle.c_builtins.specs.Table.{IsReserved, name_of}
use Rattle.c_builtins.proofs.laws.builtins_are_listed.Goals as goal

each : (b : Builtin) → IsReserved (name_of b)
each Malloc = (_, refl)
each Free = (_, refl)
each Spawn = (_, refl)
each Join = (_, refl)
each Lock = (_, refl)
each Unlock = (_, refl)
each Print = (_, refl)

pub returns-clause-reserved : goal.returns-clause-reserved
returns-clause-reserved c = each
