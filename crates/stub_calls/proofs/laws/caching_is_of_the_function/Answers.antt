use Rattle.stub_calls.proofs.Same.{cached}
use Rattle.stub_calls.proofs.laws.caching_is_of_the_function.Goals as goal

pub returns : goal.returns
returns c = cached
