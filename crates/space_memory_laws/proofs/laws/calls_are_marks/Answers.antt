use Rattle.space_memory_laws.proofs.laws.calls_are_marks.Goals as goal
use Rattle.space_memory_laws.proofs.CallRules.{call_made}

pub returns : goal.returns
returns c s past base new m e func args ins outs prepared h is kind shown keyed = call_made s past base new m e func args ins outs prepared h is kind shown keyed
