use Rattle.space_memory_laws.proofs.laws.returns_are_marks.Goals as goal
use Rattle.space_memory_laws.proofs.Returns as proof

pub returns : goal.returns
returns c = proof.returns
