use Rattle.space_memory_laws.proofs.laws.races_of_reads_are_found.Goals as goal
use Rattle.space_memory_laws.proofs.CallChecks.{raced_read}

pub returns : goal.returns
returns c i s past base memory t indirect func args before after outs prepared r given f w k u p = raced_read i s past base memory t indirect func args before after outs prepared r given f w k u p
