use Rattle.space_memory_laws.proofs.laws.stores_are_marks.Goals as goal
use Rattle.space_memory_laws.proofs.Access.{stores}

pub returns : goal.returns
returns c = stores
