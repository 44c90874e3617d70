use Rattle.space_memory_laws.proofs.laws.races_of_holds_are_found.Goals as goal
use Rattle.space_memory_laws.proofs.CallChecks.{raced_hold}

pub returns : goal.returns
returns c i s past base memory t indirect func args ins outs before after prepared r given f w all k u p = raced_hold i s past base memory t indirect func args ins outs before after prepared r given f w all k u p
