use Rattle.space_memory_laws.proofs.laws.rights_are_handed_down.Goals as goal
use Rattle.space_memory_laws.proofs.Rights.{rights}

pub returns : goal.returns
returns c s past memory t write x h lt = rights s past memory t write x h lt
