use Rattle.space_memory_laws.proofs.laws.parts_grow.Goals as goal
use Rattle.space_memory_laws.proofs.KeyChecks.{grow}

pub returns : goal.returns
returns c ins outs prepared = grow ins outs prepared
