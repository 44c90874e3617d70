use Rattle.stub_calls.proofs.Same.{keys}
use Rattle.stub_calls.proofs.laws.keys_are_of_arguments.Goals as goal

pub returns : goal.returns
returns c = keys
