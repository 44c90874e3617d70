use Rattle.c_builtins.proofs.Names.{named_exactly}
use Rattle.c_builtins.proofs.builtin.Builtin.of_name.Goals as goal

pub returns : goal.returns
returns c = named_exactly c.args.name.now c.first_named.result c.first_named.ensures
