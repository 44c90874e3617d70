use Rattle.space_memory_laws.proofs.laws.refused_holds_are_found.Goals as goal
use Rattle.space_memory_laws.proofs.CallChecks.{refused_hold}

pub returns : goal.returns
returns c i s past base memory t indirect func args ins outs before after prepared r given f w all k u p = refused_hold i s past base memory t indirect func args ins outs before after prepared r given f w all k u p
