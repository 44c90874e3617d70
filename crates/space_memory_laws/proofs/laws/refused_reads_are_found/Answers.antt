use Rattle.space_memory_laws.proofs.laws.refused_reads_are_found.Goals as goal
use Rattle.space_memory_laws.proofs.CallChecks.{refused_read}

pub returns : goal.returns
returns c i s past base memory t indirect func args before after outs prepared r given f w k u p = refused_read i s past base memory t indirect func args before after outs prepared r given f w k u p
