use Rattle.space_memory_laws.proofs.laws.arguments_are_bytes.Goals as goal
use Rattle.space_memory_laws.proofs.Args.{arguments}

pub returns : goal.returns
returns c = arguments
