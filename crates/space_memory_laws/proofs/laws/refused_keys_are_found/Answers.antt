use Rattle.space_memory_laws.proofs.laws.refused_keys_are_found.Goals as goal
use Rattle.space_memory_laws.proofs.KeyChecks.{refused_key}

pub returns : goal.returns
returns c i s past base tested memory t indirect func args ins outs before after p given f w k u = refused_key i s past base tested memory t indirect func args ins outs before after p given w k f u
