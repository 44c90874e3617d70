use Rattle.c_types_environment.proofs.Builtins.{builtin_is}
use Rattle.c_types_environment.proofs.names.builtin_of.Goals as goal

pub returns : goal.returns
returns c = builtin_is c.args.name.now c.of_name.result c.of_name.ensures
