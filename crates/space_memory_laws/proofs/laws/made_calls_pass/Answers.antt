use Rattle.space_memory_laws.proofs.laws.made_calls_pass.Goals as goal
use Rattle.space_memory_laws.proofs.CallChecks.{made_passes}

pub returns : goal.returns
returns c i s past base memory t indirect func args ins outs prepared w h u v = made_passes i s past base memory t indirect func args ins outs prepared w h u v
